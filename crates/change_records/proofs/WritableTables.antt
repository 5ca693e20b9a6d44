-- A record of the grammar makes a table that can be written of one that can.
use Rattle.std.specs.Prelude.{◌≡◌, ℕ, not, List, [], ◌∷◌, Option, Some, None, is_some, Ok, refl}
use Rattle.std.proofs.Common.{subst}
use Rattle.std.specs.List.{AllByRecursion, list_all}
use Rattle.record_model.specs.FieldDecoding.{◌>>=◌}
use Rattle.record_model.specs.Grammar.{IsExtent, IsWritable}
use Rattle.record_model.specs.declared.types.FileEntry.{FileEntry}
use Rattle.record_model.specs.declared.types.Record.TheVariants.{Snapshot, Update, Deletion, End, Replace}
use Rattle.log_model.specs.FileTable.{Table, file_of, is_among, take_names, set_entry, has_right_size, repeats_id, repeats_name, sorted, unless_broken, grown, delete_from, after_record}
use Rattle.log_model.proofs.TableLaws.{others_of}
use Rattle.log_model.proofs.TableKept.{all_others, all_placed, all_sorted, unbroken_is}
use Rattle.log_model.proofs.ReplayLaws.{file_has}
use Rattle.log_model.proofs.SelectedLog.{went_on, ok_is}
use Rattle.change_records.specs.Writable.{RecordKeepsWritable}
use Rattle.change_records.proofs.WrittenNames.{taken_writable}
use Rattle.change_records.proofs.Writable.{all_more}

-- an entry that is set
set_writable : (e : FileEntry) (es : Table) → IsWritable e → AllByRecursion IsWritable es → AllByRecursion IsWritable (set_entry e es)
set_writable e es w each =
    all_placed IsWritable e (take_names e.names (others_of e.id es)) w (taken_writable e.names (others_of e.id es) (all_others IsWritable e.id es each))

-- an entry that has grown by what the file had
grown_writable : (o : Option FileEntry) (e : FileEntry) → ((f : FileEntry) → o ≡ Some f → IsWritable f) → IsWritable e → IsWritable (grown o e)
grown_writable None e had w = w
grown_writable (Some f) e had w = record {
  id = w.id;
  size = w.size;
  hint = w.hint;
  time = w.time;
  active = w.active;
  extents = all_more IsExtent f.extents e.extents (had f refl).extents w.extents;
  names = w.names;
  named = w.named;
  apart = w.apart;
}

-- a deletion
deleted_writable : (o : Option FileEntry) (name : List ℕ) (es next : Table) → AllByRecursion IsWritable es → delete_from o name es ≡ Ok next → AllByRecursion IsWritable next
deleted_writable None name es next each is = absurd cc
deleted_writable (Some e) name es next each is =
    subst (AllByRecursion IsWritable) (unbroken_is (not (is_among e.names name)) 4 (take_names (name ∷ []) es) next is) (taken_writable (name ∷ []) es each)

-- a snapshot
snapshot_writable : (files before next : Table) → AllByRecursion IsWritable files → after_record (Snapshot files) before ≡ Ok next → AllByRecursion IsWritable next
unfolding after_record
snapshot_writable files before next each h =
    let a = went_on (unless_broken (not (list_all has_right_size files)) 5 files) (λ x. unless_broken (repeats_id files) 6 files >>= (λ y. unless_broken (repeats_name files) 7 files >>= (λ z. Ok (sorted files)))) next h in
    let b = went_on (unless_broken (repeats_id files) 6 files) (λ y. unless_broken (repeats_name files) 7 files >>= (λ z. Ok (sorted files))) next a.2 in
    let c = went_on (unless_broken (repeats_name files) 7 files) (λ z. Ok (sorted files)) next b.2 in
    subst (AllByRecursion IsWritable) (ok_is c.2) (all_sorted IsWritable files each)

pub record_keeps_writable : RecordKeepsWritable
unfolding after_record
record_keeps_writable es next (Snapshot files) each good h = snapshot_writable files es next good h
record_keeps_writable es next (Update e) each good h =
    let it : FileEntry = grown (file_of e.id es) e in
    subst (AllByRecursion IsWritable) (unbroken_is (not (has_right_size it)) 5 (set_entry it es) next h)
    (set_writable it es (grown_writable (file_of e.id es) e (λ f is. file_has IsWritable e.id es f each is) good) each)
record_keeps_writable es next (Deletion id name) each good h = deleted_writable (file_of id es) name es next each h
record_keeps_writable es next End each good h = subst (AllByRecursion IsWritable) (ok_is h) each
record_keeps_writable es next (Replace e) each good h =
    let a = went_on (unless_broken (not (is_some (file_of e.id es))) 3 es) (λ x. unless_broken (not (has_right_size e)) 5 (set_entry e es)) next h in
    subst (AllByRecursion IsWritable) (unbroken_is (not (has_right_size e)) 5 (set_entry e es) next a.2) (set_writable e es good each)
