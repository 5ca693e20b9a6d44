-- A mount begins to write: a new log, and then resets.
use Rattle.std.proofs.Common.{◌≡◌, ℕ, Bool, false, not, List, [], ◌∷◌, ◌++◌, map, Ok, Err, refl, sym, ◌∙◌, ap, subst}
use Rattle.std.specs.Prelude.{◌==◌}
use Rattle.std.specs.List.{list_any}
use Rattle.zone_image.specs.declared.ZoneInfo.{ZoneInfo}
use Rattle.zone_image.specs.Image.{Image, zone_of}
use Rattle.log_model.specs.Mounted.{all_extents}
use Rattle.fs_model.specs.declared.error.FsError.TheVariants.{DevFault}
use Rattle.fs_model.specs.FsState.{FsState, TableRow, recorded}
use Rattle.fs_model.specs.LogSteps.{resettable_zones}
use Rattle.fs_model.specs.Trace.{Refines}
use Rattle.fs_model.specs.TreeSteps.{cleared, mount_write}
use Rattle.zoned_device.specs.OtherData.{KeepsOtherData}
use Rattle.change_records.specs.Recorded.{entries}
use Rattle.change_steps.specs.Resetting.{IsResetting}
use Rattle.change_steps.specs.WriteMount.{settled_state}
use Rattle.change_steps.proofs.MountLaws.{mount_ends}
use Rattle.change_steps.proofs.ResetLaws.{resets_keep_files}
use Rattle.change_cover.specs.MountRoom.{MayMount}
use Rattle.fs_core.specs.Beginning.{KeepsWritten}
use Rattle.fs_core.specs.DeadZones.{is_free}

-- nothing was done yet
pub mount_fault_before : (s t : FsState) → MayMount s → t ≡ s → Refines mount_write s (Err DevFault) t
mount_fault_before s t may same = subst (λ u. Refines mount_write s (Err DevFault) u) (sym same) (mount_ends s may.sequence may.room).fault_before

-- the new log counts, and some zones are reset
pub mount_fault_behind : (s t u : FsState) → MayMount s → t ≡ settled_state s → IsResetting t u → Refines mount_write s (Err DevFault) u
mount_fault_behind s t u may is way = (mount_ends s may.sequence may.room).fault_behind u (subst (λ v. IsResetting v u) is way)

-- all of it
pub mount_done : (s t u : FsState) → MayMount s → t ≡ settled_state s → IsResetting t u → resettable_zones u ≡ [] → Refines mount_write s (Ok tt) u
mount_done s t u may is way none = (mount_ends s may.sequence may.room).complete u (subst (λ v. IsResetting v u) is way) none

-- rows without recovery points have the same extents
cleared_extents : (rows : List TableRow) → all_extents (entries (map cleared rows)) ≡ all_extents (entries rows)
cleared_extents [] = refl
cleared_extents (q ∷ qs) = ap (λ xs. q.entry.extents ++ xs) (cleared_extents qs)

-- so have those of a mount that begins
pub begun_extents : (s t u : FsState) → t.rows ≡ map cleared s.rows → IsResetting t u → all_extents (recorded u) ≡ all_extents (recorded s)
begun_extents s t u rows way = ap (λ rs. all_extents (entries rs)) ((resets_keep_files t u way).0.rows ∙ rows) ∙ cleared_extents s.rows

-- the geometry stays
pub begun_shape : (s t u : FsState) → t.geometry ≡ s.geometry → IsResetting t u → u.geometry ≡ s.geometry
begun_shape s t u shape way = (resets_keep_files t u way).0.geometry ∙ shape

-- a zone in which something is recorded is none of those that are reset
pub held_still : (s t : FsState) → t.rows ≡ map cleared s.rows → t.geometry ≡ s.geometry → (n : ℕ) → is_free s.geometry (recorded s) n ≡ false → is_free t.geometry (recorded t) n ≡ false
held_still s t rows shape n held =
    ap (λ g. not (list_any (λ x. zone_of g x.start == n) (all_extents (recorded t)))) shape
    ∙ (ap (λ xs. not (list_any (λ x. zone_of s.geometry x.start == n) xs)) (ap (λ rs. all_extents (entries rs)) rows ∙ cleared_extents s.rows) ∙ held)

-- what both parts keep
pub kept_by_both : {D : Type 0} {infos : D → List ZoneInfo} {tells : Type 0} {image : D → Image} {a b c : D} (changed held : ℕ → Bool) → KeepsWritten infos tells image (λ _. false) a b
    → KeepsOtherData infos tells image changed b c → ((n : ℕ) → held n ≡ false → changed n ≡ false) → KeepsWritten infos tells image held a c
kept_by_both changed held first second fewer = record {
  written = λ n data_zone is. ap (λ (i : ZoneInfo). i.written) (second.numbers n data_zone (fewer n is)) ∙ first.written n data_zone refl;
  blocks = λ told n data_zone is. second.blocks told n data_zone (fewer n is) ∙ first.blocks told n data_zone refl;
}
