-- Rolls of the log of an image at rest, and records that follow them.
use Rattle.std.specs.Prelude.{◌≡◌, ◌⊎◌, ℕ, ◌+◌, List, Ok}
use Rattle.zone_image.specs.Image.{Image}
use Rattle.record_model.specs.Decoding.{record_of}
use Rattle.record_model.specs.declared.types.Record.TheVariants.{Snapshot}
use Rattle.log_model.specs.declared.selection.Chosen.{Chosen}
use Rattle.log_model.specs.LogSelection.{LogAt, selected_log}
use Rattle.log_model.specs.FileTable.{Table}
use Rattle.crash_cover.specs.Pinned.{IsPinned}
use Rattle.crash_cover.specs.AtRest.{IsAtRest}
use Rattle.crash_cover.specs.Recovery.{RecoversTable}
use Rattle.log_roll.specs.Rolling.{next_chosen}
use Rattle.log_store.specs.Adding.{MakesTable}
use Rattle.log_store.specs.RollRest.{IsSnapshotOf, new_log}

-- the payload is the snapshot of a pinned table, which takes the place of the one that the image has at rest
pub record TakesPlace (i : Image) (log : LogAt) (greatest : ℕ) (snapshot : List ℕ) (es next : Table) : Type 0 where
  pub rest : IsAtRest i log greatest es
  pub snapshot_of : IsSnapshotOf snapshot next
  pub pinned : IsPinned i next

-- after a roll with that snapshot the image is at rest with the table of the snapshot
abbrev pub RestsWithSnapshot : Chosen → List ℕ → Image → Image → Type 0
RestsWithSnapshot old snapshot i j = (log : LogAt) (greatest : ℕ) (es next : Table) → TakesPlace i log greatest snapshot es next
    → IsAtRest j (new_log j.geometry old snapshot) (old.greatest + 1) next

-- what a crash may leave of the table, or of that of the snapshot
abbrev pub LeftBySnapshot : List ℕ → Image → Image → Type 0
LeftBySnapshot snapshot i j = (log : LogAt) (greatest : ℕ) (es next : Table) → TakesPlace i log greatest snapshot es next → RecoversTable i es j ⊎ RecoversTable i next j

-- the payload is the snapshot of the table that the image has at rest, and these blocks make another table of it
pub record MakesBehind (i : Image) (log : LogAt) (greatest : ℕ) (snapshot : List ℕ) (blocks : List (List ℕ)) (payload : List ℕ) (es next : Table) : Type 0 where
  pub reads : record_of snapshot ≡ Ok (Snapshot es)
  pub makes : MakesTable i log greatest blocks payload es next

-- after a roll and these blocks the image is at rest with the table that they make
abbrev pub RestsRolled : Chosen → List ℕ → List (List ℕ) → Image → Image → Type 0
RestsRolled old snapshot blocks i j = (log : LogAt) (greatest : ℕ) (payload : List ℕ) (es next : Table) → MakesBehind i log greatest snapshot blocks payload es next
    → (new : LogAt) × IsAtRest j new (old.greatest + 1) next

-- and the new log counts, which may get more records
abbrev pub GoesOnRolled : Chosen → List ℕ → List (List ℕ) → Image → Image → Type 0
GoesOnRolled old snapshot blocks i j = (log : LogAt) (greatest : ℕ) (payload : List ℕ) (es next : Table) → MakesBehind i log greatest snapshot blocks payload es next
    → selected_log j ≡ Ok (next_chosen old)

-- what a crash may leave of the table, or of the one that these blocks make
abbrev pub LeftByBoth : List ℕ → List (List ℕ) → Image → Image → Type 0
LeftByBoth snapshot blocks i j = (log : LogAt) (greatest : ℕ) (payload : List ℕ) (es next : Table) → MakesBehind i log greatest snapshot blocks payload es next
    → RecoversTable i es j ⊎ RecoversTable i next j
