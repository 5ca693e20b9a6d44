-- Records that are added to the log of an image at rest.
use Rattle.std.specs.Prelude.{◌≡◌, ◌⊎◌, ℕ, ◌^◌, ◌<◌, false, List, length, Ok}
use Rattle.zone_image.specs.Image.{Image}
use Rattle.record_model.specs.Decoding.{record_of}
use Rattle.record_model.specs.declared.types.Record.{Record}
use Rattle.log_model.specs.declared.selection.Chosen.{Chosen}
use Rattle.log_model.specs.LogScan.{record_blocks}
use Rattle.log_model.specs.LogSelection.{LogAt, selected_log}
use Rattle.log_model.specs.FileTable.{Table, after_record, is_end}
use Rattle.crash_cover.specs.Pinned.{IsPinned}
use Rattle.crash_cover.specs.AtRest.{IsAtRest, with_record}
use Rattle.crash_cover.specs.Recovery.{RecoversTable}

-- these are the blocks of a record, no end record, which makes a pinned table of the one that the image has at rest
pub record MakesTable (i : Image) (log : LogAt) (greatest : ℕ) (blocks : List (List ℕ)) (payload : List ℕ) (es next : Table) : Type 0 where
  pub rest : IsAtRest i log greatest es
  pub spelled : blocks ≡ record_blocks i.geometry.block payload
  pub short : length payload < 2 ^ 32
  pub change : Record
  pub reads : record_of payload ≡ Ok change
  pub goes_on : is_end change ≡ false
  pub after : after_record change es ≡ Ok next
  pub pinned : IsPinned i next

-- after these blocks the image is at rest with the table that they make
abbrev pub RestsWithRecord : List (List ℕ) → Image → Image → Type 0
RestsWithRecord blocks i j = (log : LogAt) (greatest : ℕ) (payload : List ℕ) (es next : Table) → MakesTable i log greatest blocks payload es next
    → IsAtRest j (with_record i log payload) greatest next

-- and the same log counts, which may get more records
abbrev pub GoesOn : Chosen → List (List ℕ) → Image → Image → Type 0
GoesOn chosen blocks i j = (log : LogAt) (greatest : ℕ) (payload : List ℕ) (es next : Table) → MakesTable i log greatest blocks payload es next → selected_log j ≡ Ok chosen

-- what a crash may leave of the table, or of the one that these blocks make
abbrev pub LeftByRecord : List (List ℕ) → Image → Image → Type 0
LeftByRecord blocks i j = (log : LogAt) (greatest : ℕ) (payload : List ℕ) (es next : Table) → MakesTable i log greatest blocks payload es next
    → RecoversTable i es j ⊎ RecoversTable i next j
