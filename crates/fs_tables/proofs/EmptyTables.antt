-- Tables without files over an unused device are sound.
use Rattle.std.proofs.Common.{◌≡◌, ℕ, ◌+◌, ◌%◌, ◌<◌, ◌≤◌, ◌==◌, Bool, List, [], ◌∷◌, map, replicate, IsTrue, refl, sym, ◌∙◌, ap, subst, arith}
use Rattle.std.specs.List.{All, enumerate_from}
use Rattle.std.proofs.lemmas.List.{length-map}
use Rattle.std.proofs.lemmas.List.Elements.{All-nil, All-cons}
use Rattle.zone_image.specs.declared.Geometry.{Geometry}
use Rattle.zone_image.specs.declared.ZoneInfo.{ZoneInfo}
use Rattle.zone_image.specs.Image.{is_valid}
use Rattle.zone_image.specs.Infos.{no_info, IsPossible}
use Rattle.zone_image.proofs.InfoLaws.{infos-blank, valid_blank}
use Rattle.record_model.specs.Encoding.{payload_of}
use Rattle.record_model.specs.Numbers.{varint}
use Rattle.log_model.specs.declared.selection.Chosen.{Chosen}
use Rattle.fs_model.specs.declared.zones.Owner.TheVariants.{Idle}
use Rattle.fs_model.specs.FsState.{FsState, TableRow, ZoneDescriptor, state_of, zone_states}
use Rattle.extent_map.specs.Records.{snapshot_len}
use Rattle.extent_map.specs.TableState.{TableState}
use Rattle.zone_alloc.specs.Descriptors.{descriptor_of, state_of_tables}
use Rattle.zone_alloc.specs.ZoneTableState.{ZoneTableState, IsInDataZone, unused_state}
use Rattle.fs_tables.specs.MountedTables.{AreSound, AreMounted}

-- without files nothing is live, numbered from the first zone
none_live : (g : Geometry) (zones : List ZoneDescriptor) (greatest : ℕ) (log : Chosen) (i : ℕ) (infos : List ZoneInfo)
    → map (state_of (record { geometry = g; zones = zones; rows = []; greatest = greatest; writers = []; log = log })) (enumerate_from i (map descriptor_of (map unused_state infos))) ≡ map unused_state infos
none_live g zones greatest log i [] = refl
none_live g zones greatest log i (info ∷ infos) = ap (λ l. unused_state info ∷ l) (none_live g zones greatest log (i + 1) infos)

all_idle : (infos : List ZoneInfo) → All (λ z. z.owner ≡ Idle) (map descriptor_of (map unused_state infos))
all_idle [] = All-nil (λ z. z.owner ≡ Idle)
all_idle (info ∷ infos) = All-cons (λ z. z.owner ≡ Idle) (descriptor_of (unused_state info)) (map descriptor_of (map unused_state infos)) refl (all_idle infos)

-- the log of a file system without files
pub record IsFirstLog (log : Chosen) (collect : Bool) : Type 0 where
  pub zone : log.zone < 3
  pub flags : log.superblock.flags ≤ 1
  pub same_collect : collect ≡ (log.superblock.flags % 2 == 1)

-- the snapshot of no files
no_files_len : snapshot_len [] ≡ 5
unfolding payload_of varint
no_files_len = refl

empty_sound : (g : Geometry) (infos : List ZoneInfo) (greatest : ℕ) (log : Chosen) (collect : Bool) → IsPossible g infos → IsFirstLog log collect
    → AreSound (state_of_tables g (map unused_state infos) [] greatest log)
empty_sound g infos greatest log collect is first = record {
  valid = is.valid;
  count = length-map (map unused_state infos) descriptor_of ∙ length-map infos unused_state ∙ is.count;
  settled = refl;
  writable = tt;
  lie = All-nil (IsInDataZone g);
  idle = all_idle infos;
  log_zone = first.zone;
  flags = first.flags;
  short = omega (arith, no_files_len);
}

pub empty_mounted : (g : Geometry) (infos : List ZoneInfo) (collect : Bool) (log : Chosen) (files : TableState) (t : ZoneTableState) → IsPossible g infos → IsFirstLog log collect
    → files.rows ≡ [] → t ≡ record { geometry = g; collect = collect; zones = map unused_state infos } → AreMounted g log files t
empty_mounted g infos collect log files t is first none made =
    let Sound : List TableRow → ZoneTableState → Type 0 = λ rows u. AreSound (state_of_tables g u.zones rows files.greatest log) in
    let state : List TableRow → FsState = λ rows. state_of_tables g t.zones rows files.greatest log in
    record {
      sound = subst (λ rows. Sound rows t) (sym none) (subst (Sound []) (sym made) (empty_sound g infos files.greatest log collect is first));
      counted =
          ap (λ (u : ZoneTableState). u.zones) made
          ∙ sym (none_live g (map descriptor_of (map unused_state infos)) files.greatest log 0 infos)
          ∙ sym (ap (λ (u : ZoneTableState). zone_states (state_of_tables g u.zones [] files.greatest log)) made)
          ∙ sym (ap (λ rows. zone_states (state rows)) none);
      same_geometry = ap (λ (u : ZoneTableState). u.geometry) made;
      same_collect = ap (λ (u : ZoneTableState). u.collect) made ∙ first.same_collect;
    }

-- the zones of a new device
pub blank_possible : (g : Geometry) (infos : List ZoneInfo) → IsTrue (is_valid g) → infos ≡ replicate g.zones no_info → IsPossible g infos
blank_possible g infos valid blank = subst (IsPossible g) (infos-blank g ∙ sym blank) (valid_blank g valid).possible
