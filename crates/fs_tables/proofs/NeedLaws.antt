-- Needs of tables, from the lengths of their records.
use Rattle.std.specs.Prelude.{◌≡◌, ℕ, ◌+◌, ◌-◌, ◌^◌, ◌<◌, ◌≤◌, List, [], ◌∷◌, length, map, max, Option, Some, None, IsSome, refl}
use Rattle.std.specs.List.{AllByRecursion}
use Rattle.std.proofs.Common.{ap, sym, ◌∙◌, arith}
use Rattle.std.proofs.lemmas.Bool.{eq-eqb}
use Rattle.record_model.specs.Encoding.{payload_of}
use Rattle.record_model.specs.declared.types.Record.{Record}
use Rattle.record_model.specs.declared.types.Record.TheVariants.{Snapshot}
use Rattle.record_codec.specs.Length.{told}
use Rattle.log_model.specs.FileTable.{Table, size_of}
use Rattle.log_model.specs.TableLaws.{AreSized}
use Rattle.log_model.specs.Headroom.{blocks_of_record, need_of}
use Rattle.fs_model.specs.FsState.{FsState, TableRow, working, working_of}
use Rattle.extent_map.specs.ChangeLengths.{IsLittleLonger, TellsLengths}
use Rattle.extent_map.specs.Records.{snapshot_len, greatest_len}
use Rattle.extent_map.specs.Sound.{IsRow}
use Rattle.extent_map.specs.declared.change_lengths.ChangeLengths.{ChangeLengths}
use Rattle.extent_map.proofs.LengthLaws.{longest_within}
use Rattle.fs_tables.specs.Needs.{AreLengths, AreShort, IsNeed}
use Rattle.fs_tables.specs.declared.blocks.ChangeNeed.{ChangeNeed}

-- sound rows record right sizes
pub rows_sized : (rows : List TableRow) → AllByRecursion IsRow rows → AreSized (map (λ r. r.entry) rows)
rows_sized [] h = tt
rows_sized (r ∷ rs) h = (eq-eqb r.entry.size (size_of r.entry.extents) h.0.sound.size, rows_sized rs h.1)

-- lengths that are told are exact after a change of a table with a short snapshot
pub exact_lengths : (l : ChangeLengths) (r : Record) (before after : List TableRow) → TellsLengths l r after → IsLittleLonger before after r → snapshot_len before < 2 ^ 62 → AreLengths l r (working_of after)
exact_lengths l r before after tells little short = record {
  change = omega (arith, tells.change, little.change, short);
  snapshot = omega (arith, tells.snapshot, little.rows, short);
  longest = omega (arith, tells.longest, longest_within (working_of after), little.rows, short);
}

-- and they are short
pub short_lengths : (l : ChangeLengths) (r : Record) (before after : List TableRow) → TellsLengths l r after → IsLittleLonger before after r → snapshot_len before < 2 ^ 62 → AreShort l
short_lengths l r before after tells little short = record {
  change = omega (arith, tells.change, little.change, short);
  snapshot = omega (arith, tells.snapshot, little.rows, short);
  longest = omega (arith, tells.longest, longest_within (working_of after), little.rows, short);
}

-- the file that is there
pub file_there : (o : Option TableRow) → IsSome o → (r : TableRow) × (o ≡ Some r)
file_there None h = absurd cc
file_there (Some r) h = (r, refl)

-- a need in the blocks of a state
pub need_is : (n : ChangeNeed) (s : FsState) (block : ℕ) (r : Record) (after : List TableRow) → block ≡ s.geometry.block → n.blocks ≡ blocks_of_record block r
    → n.need ≡ need_of block (working s) (working_of after) (blocks_of_record block r) → IsNeed n s r after
need_is n s block r after same change room = record {
  change = change ∙ ap (λ (b : ℕ). blocks_of_record b r) same;
  room = room ∙ ap (λ (b : ℕ). need_of b (working s) (working_of after) (blocks_of_record b r)) same;
}
