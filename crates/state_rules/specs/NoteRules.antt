-- An extent that is noted keeps the rules.
use Rattle.std.specs.Prelude.{◌≡◌, ◌+◌, ◌^◌, ◌<◌, true, [], ◌∷◌, ◌++◌, Some}
use Rattle.zone_image.specs.Image.{zone_of}
use Rattle.record_model.specs.Grammar.{IsExtent}
use Rattle.record_model.specs.declared.types.Extent.{Extent}
use Rattle.log_model.specs.FileTable.{size_of}
use Rattle.fs_model.specs.declared.zones.Owner.TheVariants.{Writer}
use Rattle.fs_model.specs.FsState.{FsState, TableRow, working, row_of}
use Rattle.fs_model.specs.LogSteps.{set_row}
use Rattle.fs_model.specs.FileSteps.{extents_with, note}
use Rattle.state_rules.specs.Rules.{finds_again, LiesInZone, owner_in, EndBefore, KeepsRules}

-- an extent that a file's writer may note: in its zone, behind all that lies there, and of a sparse file apart from the last frame
pub record MayNote (s : FsState) (r : TableRow) (x : Extent) : Type 0 where
  pub spelled : IsExtent x
  pub lies : LiesInZone s.geometry x
  pub owner : owner_in s.zones (zone_of s.geometry x.start) ≡ Writer r.entry.id
  pub behind : EndBefore s.geometry x.start (working s)
  pub fits : r.entry.size + (size_of r.unrecorded + x.len) < 2 ^ 64
  pub frame : finds_again r ≡ true → extents_with r.unrecorded x ≡ r.unrecorded ++ x ∷ []

-- an extent that is noted
abbrev pub NoteKeepsRules : Type 0
NoteKeepsRules = (s : FsState) (r : TableRow) (x : Extent) → KeepsRules s → row_of r.entry.id s.rows ≡ Some r → MayNote s r x
    → KeepsRules (set_row r.entry.id (note x) s).last
