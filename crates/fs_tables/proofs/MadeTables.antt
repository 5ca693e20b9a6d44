-- Tables that have the files of a state and its zones with their live counts are those of the state.
use Rattle.std.proofs.Common.{◌≡◌, ℕ, ◌+◌, List, [], ◌∷◌, map, refl, sym, ◌∙◌, ap, subst}
use Rattle.std.specs.List.{enumerate_from}
use Rattle.zone_image.specs.declared.Geometry.{Geometry}
use Rattle.log_model.specs.declared.selection.Chosen.{Chosen}
use Rattle.fs_model.specs.FsState.{FsState, ZoneDescriptor, state_of, zone_states, collects}
use Rattle.extent_map.specs.TableState.{TableState}
use Rattle.zone_alloc.specs.Descriptors.{descriptor_of, state_of_tables}
use Rattle.zone_alloc.specs.ZoneTableState.{ZoneTableState}
use Rattle.fs_tables.specs.MountedTables.{AreSound, AreMounted, state_from}

-- zones without their live counts, numbered from the first one
described_from : (s : FsState) (i : ℕ) (zs : List ZoneDescriptor) → map descriptor_of (map (state_of s) (enumerate_from i zs)) ≡ zs
described_from s i [] = refl
described_from s i (z ∷ zs) = ap (λ l. z ∷ l) (described_from s (i + 1) zs)

-- tables of this state, into which nobody writes
pub record AreTablesOf (s : FsState) (g : Geometry) (log : Chosen) (files : TableState) (t : ZoneTableState) : Type 0 where
  pub same_geometry : g ≡ s.geometry
  pub same_zones : t.zones ≡ zone_states s
  pub same_rows : files.rows ≡ s.rows
  pub same_greatest : files.greatest ≡ s.greatest
  pub nobody : s.writers ≡ []
  pub same_log : log ≡ s.log

-- the tables stand for it
pub made_state : (s : FsState) (g : Geometry) (log : Chosen) (files : TableState) (t : ZoneTableState) → AreTablesOf s g log files t → state_from g log files t ≡ s
made_state s g log files t of =
    ap (λ (h : Geometry). state_of_tables h t.zones files.rows files.greatest log) of.same_geometry
    ∙ ap (λ zs. state_of_tables s.geometry zs files.rows files.greatest log) of.same_zones
    ∙ ap (λ rows. state_of_tables s.geometry (zone_states s) rows files.greatest log) of.same_rows
    ∙ ap (λ n. state_of_tables s.geometry (zone_states s) s.rows n log) of.same_greatest
    ∙ ap (state_of_tables s.geometry (zone_states s) s.rows s.greatest) of.same_log
    ∙ ap (λ zs. record s { zones = zs; writers = [] }) (described_from s 0 s.zones)
    ∙ sym (ap (λ ids. record s { writers = ids }) of.nobody)

-- and are sound where it is
pub made_mounted : (s : FsState) (g : Geometry) (log : Chosen) (files : TableState) (t : ZoneTableState) → AreTablesOf s g log files t → AreSound s
    → t.geometry ≡ s.geometry → t.collect ≡ collects s → AreMounted g log files t
made_mounted s g log files t of sound same_geometry same_collect =
    let made = made_state s g log files t of in
    record {
      sound = subst AreSound (sym made) sound;
      counted = of.same_zones ∙ sym (ap zone_states made);
      same_geometry = same_geometry ∙ sym of.same_geometry;
      same_collect = same_collect ∙ sym (ap collects made);
    }
