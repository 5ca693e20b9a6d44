use Rattle.std.proofs.Common.{◌≡◌, ◌≤◌, ◌++◌, ◌∷◌, [], ◌+◌, ◌*◌, List, ℕ, Bool, true, false, cond, length, arith, length-append}
use Rattle.record_model.specs.Encoding.{entry_bytes, field_bytes}
use Rattle.record_model.specs.declared.field.Field.TheVariants.{Linked}
use Rattle.record_model.specs.declared.types.FileEntry.{FileEntry}
use Rattle.record_codec.proofs.Entries.{entry_len}
use Rattle.fs_model.specs.FsState.{TableRow}
use Rattle.fs_model.specs.TreeSteps.{new_entry, new_row}
use Rattle.extent_map.specs.RowsAfter.{names_bytes}
use Rattle.extent_map.proofs.GrowthLaws.{name_most, created_more, snapshot_more, update_most}
use Rattle.extent_map.proofs.table.FileTable.create_lengths.Goals as goal

-- the entry of a new file is short
new_most : (id : ℕ) (name : List ℕ) (hint : ℕ) (sparse : Bool) (time : ℕ) → length name ≤ 255 → length (entry_bytes (new_entry id name hint sparse time)) ≤ 324
new_most id name hint sparse time short = choice sparse (entry_len (new_entry id name hint sparse time))
  where
    choice : (b : Bool) → length (entry_bytes (new_entry id name hint sparse time)) ≡ 56 + 21 * 0 + cond b 4 0 + length (names_bytes (name ∷ []))
        → length (entry_bytes (new_entry id name hint sparse time)) ≤ 324
    choice true h = omega (arith, h, name_most name short, length-append (field_bytes (Linked name)) [])
    choice false h = omega (arith, h, name_most name short, length-append (field_bytes (Linked name)) [])

pub returns-clause-little : goal.returns-clause-little
returns-clause-little c = λ id hint time.
    let name : List ℕ = c.args.name.now in
    let rows : List TableRow = c.args.self.now.rows in
    let e : FileEntry = new_entry id name hint c.args.sparse time in
    let short : length (entry_bytes e) ≤ 324 = new_most id name hint c.args.sparse time c.is_short.ensures in
    record {
      rows = omega (arith, snapshot_more (rows ++ new_row e ∷ []) rows 329 (created_more rows (new_row e) short));
      change = omega (arith, short, update_most e);
    }
