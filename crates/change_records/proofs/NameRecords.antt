-- The records of new files and of deletions make what the rows after them record.
use Rattle.std.specs.Prelude.{ℕ, ◌<◌, not, List, [], ◌∷◌, ◌++◌, Ok, refl}
use Rattle.std.proofs.Common.{◌∙◌, ap, sym}
use Rattle.std.proofs.lemmas.List.{map-append}
use Rattle.std.specs.List.{AllByRecursion}
use Rattle.record_model.specs.declared.types.FileEntry.{FileEntry}
use Rattle.record_model.specs.declared.types.Record.TheVariants.{Update, Deletion}
use Rattle.log_model.specs.FileTable.{Table, take_names, with_entry, unless_broken, delete_from, after_record}
use Rattle.log_model.proofs.TableLaws.{placed_last}
use Rattle.log_model.proofs.ReplayLaws.{none_above, others_below, update_new, unused_table}
use Rattle.fs_model.specs.FsState.{TableRow}
use Rattle.fs_model.specs.TreeSteps.{new_entry, new_row, drop_name}
use Rattle.change_records.specs.Recorded.{entries}
use Rattle.change_records.specs.NameRecords.{CreateIsRecorded, UnlinkIsRecorded}
use Rattle.change_records.proofs.EntryLaws.{made_by, entries_dropped, named_row, unnamed}

-- ids of rows that are below one
below : (id : ℕ) (rows : List TableRow) → AllByRecursion (λ r. r.entry.id < id) rows → AllByRecursion (λ e. e.id < id) (entries rows)
below id [] h = tt
below id (r ∷ rs) h = (h.0, below id rs h.1)

pub create_is_recorded : CreateIsRecorded
create_is_recorded rows id name hint sparse now valid above none =
    let it : FileEntry = new_entry id name hint sparse now in
    let es : Table = entries rows in
    let lower = below id rows above in
    made_by (Update it) rows (rows ++ new_row it ∷ []) valid refl
    (update_new it es (none_above id es lower) refl
    ∙ ap (λ x. Ok x)
    (ap (λ os. with_entry it (take_names (name ∷ []) os)) (others_below id es lower)
    ∙ (ap (with_entry it) (unused_table name es valid.table (unnamed name rows none))
    ∙ (placed_last it es lower ∙ sym (map-append (λ r. r.entry) rows (new_row it ∷ []))))))

pub unlink_is_recorded : UnlinkIsRecorded
unfolding after_record
unlink_is_recorded rows r name valid is =
    let row = named_row 0 name rows r valid.table.ids is in
    made_by (Deletion r.entry.id name) rows (drop_name name rows) valid tt
    (ap (λ o. delete_from o name (entries rows)) row.found
    ∙ ap (λ b. unless_broken (not b) 4 (take_names (name ∷ []) (entries rows))) row.among
    ∙ ap (λ es. Ok es) (sym (entries_dropped name rows)))
