-- A change of names whose record is added to the log of an image at rest.
use Rattle.std.specs.Prelude.{◌≡◌, ℕ, ◌^◌, ◌<◌, false, List, [], ◌∷◌, length}
use Rattle.std.specs.List.{AllByRecursion}
use Rattle.zone_image.specs.Image.{Image}
use Rattle.record_model.specs.Encoding.{payload_of}
use Rattle.record_model.specs.Grammar.{InGrammar, IsWritable}
use Rattle.record_model.specs.declared.types.Record.{Record}
use Rattle.record_model.specs.declared.types.Record.TheVariants.{Snapshot}
use Rattle.log_model.specs.FileTable.{is_end}
use Rattle.log_model.specs.FileTree.{Change, apply}
use Rattle.log_model.specs.LogScan.{record_blocks}
use Rattle.fs_model.specs.FsState.{FsState, TableRow, recorded}
use Rattle.fs_model.specs.CrashClauses.{shown_tree}
use Rattle.fs_model.specs.LogSteps.{next_log}
use Rattle.log_roll.specs.Rolling.{next_chosen}
use Rattle.log_store.specs.Adding.{GoesOn, LeftByRecord, MakesTable, RestsWithRecord}
use Rattle.log_store.specs.RollCalls.{GoesOnRolled, LeftByBoth, MakesBehind, RestsRolled}
use Rattle.change_records.specs.Recorded.{entries, Makes}
use Rattle.change_records.specs.PinnedRows.{AddsNoExtent}
use Rattle.change_cover.specs.Rests.{AreShown, Becomes, Rests, Stands}
use Rattle.change_cover.specs.Left.{IsLeftOf}
use Rattle.change_cover.specs.NameChanges.{ChangesNames}
use Rattle.change_cover.specs.SameTrees.{KeepsBlocks}

-- the record of a change of names: it makes what the rows after it record, and can be written
pub record IsChange (s : FsState) (c : Change) (r : Record) (after : List TableRow) : Type 0 where
  pub makes : Makes r s.rows after
  pub adds : AddsNoExtent s.rows after
  pub names : ChangesNames c s.rows after
  pub spelled : InGrammar r
  pub short : length (payload_of r) < 2 ^ 32
  pub goes_on : is_end r ≡ false

-- the snapshot of what is recorded can be written
pub record CanSnapshot (s : FsState) : Type 0 where
  pub writable : AllByRecursion IsWritable (recorded s)
  pub short : length (payload_of (Snapshot (recorded s))) < 2 ^ 32

-- its payload
abbrev pub snapshot_of : FsState → List ℕ
snapshot_of s = payload_of (Snapshot (recorded s))

-- the blocks of a record on an image
abbrev pub blocks_on : Image → Record → List (List ℕ)
blocks_on i r = record_blocks i.geometry.block (payload_of r)

-- the log that follows has one meaning in the model and on the device
abbrev pub NextLogFollows : Type 0
NextLogFollows = (s : FsState) → next_log s ≡ next_chosen s.log

-- the record makes a table of the one that the image has at rest
abbrev pub ChangeMakesTable : Type 0
ChangeMakesTable = (i : Image) (s : FsState) (c : Change) (r : Record) (after : List TableRow) (rests : Rests i s) → IsChange s c r after
    → MakesTable i rests.log rests.greatest (blocks_on i r) (payload_of r) (recorded s) (entries after)

-- also behind a roll
abbrev pub ChangeMakesBehind : Type 0
ChangeMakesBehind = (i : Image) (s : FsState) (c : Change) (r : Record) (after : List TableRow) (rests : Rests i s) → IsChange s c r after → CanSnapshot s
    → MakesBehind i rests.log rests.greatest (snapshot_of s) (blocks_on i r) (payload_of r) (recorded s) (entries after)

-- once the record is added, the state with the rows after it stands
abbrev pub RecordStands : Type 0
RecordStands = (i j : Image) (s next : FsState) (c : Change) (r : Record) (after : List TableRow) → Stands i s → IsChange s c r after → Becomes s.log after next
    → AreShown after → RestsWithRecord (blocks_on i r) i j → GoesOn s.log (blocks_on i r) i j → Stands j next

-- also behind a roll
abbrev pub RecordBehindRollStands : Type 0
RecordBehindRollStands = (i j : Image) (s next : FsState) (c : Change) (r : Record) (after : List TableRow) → Stands i s → IsChange s c r after → CanSnapshot s
    → Becomes (next_log s) after next → AreShown after → RestsRolled s.log (snapshot_of s) (blocks_on i r) i j → GoesOnRolled s.log (snapshot_of s) (blocks_on i r) i j → Stands j next

-- a crash while it is added leaves the tree shown before it, or the one after it
abbrev pub RecordLeaves : Type 0
RecordLeaves = (i j : Image) (s : FsState) (c : Change) (r : Record) (after : List TableRow) → Stands i s → IsChange s c r after → LeftByRecord (blocks_on i r) i j
    → IsLeftOf i (shown_tree i s ∷ apply c (shown_tree i s) ∷ []) j

-- also with a roll before it
abbrev pub RecordBehindRollLeaves : Type 0
RecordBehindRollLeaves = (i j : Image) (s : FsState) (c : Change) (r : Record) (after : List TableRow) → Stands i s → IsChange s c r after → CanSnapshot s
    → LeftByBoth (snapshot_of s) (blocks_on i r) i j → IsLeftOf i (shown_tree i s ∷ apply c (shown_tree i s) ∷ []) j

-- what is shown after it is the tree with the change made
abbrev pub ChangeIsShown : Type 0
ChangeIsShown = (i j : Image) (s next : FsState) (c : Change) (r : Record) (after : List TableRow) → Stands i s → IsChange s c r after → Stands j next → next.rows ≡ after
    → KeepsBlocks (λ _. false) i j → shown_tree j next ≡ apply c (shown_tree i s)

-- what is left of that is left of the image before it, with the change made
abbrev pub LeftAfterChange : Type 0
LeftAfterChange = (i j k : Image) (s next : FsState) (c : Change) (r : Record) (after : List TableRow) → Stands i s → IsChange s c r after → Stands j next → next.rows ≡ after
    → KeepsBlocks (λ _. false) i j → IsLeftOf j (shown_tree j next ∷ []) k → IsLeftOf i (apply c (shown_tree i s) ∷ []) k
