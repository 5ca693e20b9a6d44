use Rattle.std.proofs.Common.{◌≡◌, ◌++◌, ◌∷◌, [], ◌+◌, List, ℕ, length, max, refl, ap, sym, ◌∙◌, arith, length-append}
use Rattle.std.proofs.lemmas.List.{append-nil, map-append}
use Rattle.record_model.specs.Encoding.{entry_bytes, field_bytes, payload_of, slice}
use Rattle.record_model.specs.declared.field.Field.TheVariants.{Linked}
use Rattle.record_model.specs.declared.types.FileEntry.{FileEntry}
use Rattle.record_model.specs.declared.types.Record.TheVariants.{Update}
use Rattle.record_codec.specs.Length.{told}
use Rattle.record_codec.proofs.Entries.{slice_len}
use Rattle.record_codec.proofs.Lengths.{told_slice}
use Rattle.fs_model.specs.FsState.{TableRow, working_entry, working_of}
use Rattle.fs_model.specs.TreeSteps.{new_entry, new_row}
use Rattle.extent_map.specs.Records.{greatest_len}
use Rattle.extent_map.specs.RowsAfter.{entries_bytes, AreNamesOf}
use Rattle.extent_map.proofs.AfterLaws.{bare_entry, bytes_joined, longest_joined}
use Rattle.extent_map.proofs.LengthLaws.{told_update, told_snapshot}
use Rattle.extent_map.proofs.change_lengths.created_lengths.Goals as goal

pub returns : goal.returns
returns c = λ id hint time.
    let name : List ℕ = c.args.name.now in
    let e : FileEntry = new_entry id name hint c.args.sparse time in
    let rows : List TableRow = c.args.rows.now in
    let last : List TableRow = new_row e ∷ [] in
    let names : AreNamesOf c.name_len.result (name ∷ []) = c.name_len.ensures ∙ ap (λ (bytes : List ℕ). told (length bytes)) (sym (append-nil (field_bytes (Linked name)))) in
    let inside : c.bare_len-entry.result ≡ told (length (entry_bytes e)) = c.bare_len-entry.ensures ∙ bare_entry c.name_len.result e names refl in
    let update : c.tagged_len-change_bytes.result ≡ told (length (payload_of (Update e))) =
    told_update e c.bare_len-entry.result c.tagged_len-change_bytes.result inside c.tagged_len-change_bytes.ensures in
    let sliced = rw inside at c.slice_len.ensures in
    let piece : c.slice_len.result ≡ told (length (slice (entry_bytes e))) = sliced ∙ told_slice (length (entry_bytes e)) ∙ ap told (sym (slice_len (entry_bytes e))) in
    let one : length (entries_bytes last) ≡ length (slice (entry_bytes e)) = ap length (append-nil (slice (entry_bytes e))) in
    let whole : length (entries_bytes (rows ++ last)) ≡ length (entries_bytes rows) + length (entries_bytes last) =
    ap length (bytes_joined rows last) ∙ length-append (entries_bytes rows) (entries_bytes last) in
    let entries : c.saturating_add.result ≡ told (length (entries_bytes (rows ++ last))) = omega (arith, c.saturating_add.ensures, c.entries_len.ensures, piece, one, whole) in
    let longest : greatest_len (working_of (rows ++ last)) ≡ max (greatest_len (working_of rows)) (max (length (payload_of (Update e))) 0) =
    ap greatest_len (map-append working_entry rows last) ∙ longest_joined (working_of rows) (working_of last) in
    record {
      change = update;
      snapshot = told_snapshot (working_of (rows ++ last)) c.saturating_add.result c.tagged_len.result entries c.tagged_len.ensures;
      longest = omega (arith, c.max.ensures, c.greatest_len.ensures, update, longest);
    }
