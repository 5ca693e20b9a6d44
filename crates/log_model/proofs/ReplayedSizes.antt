-- The sizes of a table that was replayed are right.
use Rattle.std.specs.Prelude.{◌≡◌, ℕ, Bool, true, false, not, ◌||◌, List, [], ◌∷◌, Option, Some, None, is_some, Ok}
use Rattle.std.proofs.Common.{subst}
use Rattle.std.proofs.lemmas.Bool.{and_parts, not-false}
use Rattle.std.specs.List.{list_all}
use Rattle.record_model.specs.FieldDecoding.{◌>>=◌}
use Rattle.record_model.specs.Decoding.{record_of}
use Rattle.record_model.specs.declared.types.FileEntry.{FileEntry}
use Rattle.record_model.specs.declared.types.Record.TheVariants.{Snapshot, Update, Deletion, End, Replace}
use Rattle.log_model.specs.FileTable.{Table, file_of, is_among, take_names, set_entry, has_right_size, repeats_id, repeats_name, sorted, unless_broken, grown, delete_from, is_end, decoded, placed, next_table, after_record, replay_from, replay_log}
use Rattle.log_model.specs.TableLaws.{AreSized, RecordKeepsSizes}
use Rattle.log_model.specs.ReplayLaws.{ReplayedSizesAreRight}
use Rattle.log_model.proofs.TableLaws.{others_of}
use Rattle.log_model.proofs.TableKept.{all_taken, all_others, all_placed, all_sorted, unbroken_is, unbroken_test}
use Rattle.log_model.proofs.SelectedLog.{went_on, ok_is}
use Rattle.log_model.proofs.DecodedNames.{not_ended, placed_is}

-- a list of right sizes
pub sized_from : (es : Table) → list_all has_right_size es ≡ true → AreSized es
sized_from [] h = tt
sized_from (e ∷ es) h = let parts = and_parts (has_right_size e) (list_all has_right_size es) h in (parts.0, sized_from es parts.1)

-- names that are taken change no size
pub sized_taken : (ns : List (List ℕ)) (es : Table) → AreSized es → AreSized (take_names ns es)
sized_taken ns es h = all_taken (λ e. has_right_size e ≡ true) (λ e. has_right_size e ≡ true) ns es (λ e right. right) h

-- an entry of the right size, set
pub sized_set : (e : FileEntry) (es : Table) → has_right_size e ≡ true → AreSized es → AreSized (set_entry e es)
sized_set e es right h =
    all_placed (λ x. has_right_size x ≡ true) e (take_names e.names (others_of e.id es)) right
    (sized_taken e.names (others_of e.id es) (all_others (λ x. has_right_size x ≡ true) e.id es h))

-- an entry that was set without breaking the rule on sizes
sized_checked : (e : FileEntry) (es next : Table) → AreSized es → unless_broken (not (has_right_size e)) 5 (set_entry e es) ≡ Ok next → AreSized next
sized_checked e es next h is =
    subst AreSized (unbroken_is (not (has_right_size e)) 5 (set_entry e es) next is)
    (sized_set e es (not-false (has_right_size e) (unbroken_test (not (has_right_size e)) 5 (set_entry e es) next is)) h)

-- a deletion changes no size
sized_deleted : (o : Option FileEntry) (name : List ℕ) (es next : Table) → AreSized es → delete_from o name es ≡ Ok next → AreSized next
sized_deleted None name es next h is = cc
sized_deleted (Some e) name es next h is =
    subst AreSized (unbroken_is (not (is_among e.names name)) 4 (take_names (name ∷ []) es) next is) (sized_taken (name ∷ []) es h)

-- a snapshot that breaks no rule has right sizes
sized_snapshot : (files before next : Table) → after_record (Snapshot files) before ≡ Ok next → AreSized next
unfolding after_record
sized_snapshot files before next h =
    let a = went_on (unless_broken (not (list_all has_right_size files)) 5 files) (λ x. unless_broken (repeats_id files) 6 files >>= (λ y. unless_broken (repeats_name files) 7 files >>= (λ z. Ok (sorted files)))) next h in
    let b = went_on (unless_broken (repeats_id files) 6 files) (λ y. unless_broken (repeats_name files) 7 files >>= (λ z. Ok (sorted files))) next a.2 in
    let c = went_on (unless_broken (repeats_name files) 7 files) (λ z. Ok (sorted files)) next b.2 in
    let right : AreSized files = sized_from files (not-false (list_all has_right_size files) (unbroken_test (not (list_all has_right_size files)) 5 files a.0 a.1)) in
    subst AreSized (ok_is c.2) (all_sorted (λ e. has_right_size e ≡ true) files right)

pub record_keeps_sizes : RecordKeepsSizes
unfolding after_record
record_keeps_sizes es next (Snapshot files) h is = sized_snapshot files es next is
record_keeps_sizes es next (Update e) h is = sized_checked (grown (file_of e.id es) e) es next h is
record_keeps_sizes es next (Deletion id name) h is = sized_deleted (file_of id es) name es next h is
record_keeps_sizes es next End h is = subst AreSized (ok_is is) h
record_keeps_sizes es next (Replace e) h is =
    let a = went_on (unless_broken (not (is_some (file_of e.id es))) 3 es) (λ x. unless_broken (not (has_right_size e)) 5 (set_entry e es)) next is in
    sized_checked e es next h a.2

-- payloads keep right sizes
replayed_sizes : (over : Bool) (before es : Table) (payloads : List (ℕ × List ℕ)) → AreSized before → replay_from over before payloads ≡ Ok es → AreSized es
replayed_sizes over before es [] h is = subst AreSized (ok_is is) h
replayed_sizes over before es (p ∷ ps) h is =
    let a = went_on (placed p.0 (decoded (record_of p.1))) (λ r. placed p.0 (next_table over r before) >>= (λ next. replay_from (over || is_end r) next ps)) es is in
    let b = went_on (placed p.0 (next_table over a.0 before)) (λ next. replay_from (over || is_end a.0) next ps) es a.2 in
    let after : after_record a.0 before ≡ Ok b.0 = not_ended over a.0 before b.0 (placed_is p.0 (next_table over a.0 before) b.0 b.1) in
    replayed_sizes (over || is_end a.0) b.0 es ps (record_keeps_sizes before b.0 a.0 h after) b.2

pub replayed_sizes_are_right : ReplayedSizesAreRight
unfolding replay_log
replayed_sizes_are_right payloads es h = replayed_sizes false [] es payloads tt h
