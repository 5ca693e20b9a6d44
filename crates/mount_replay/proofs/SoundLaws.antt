-- A table stays sound after each record.
use Rattle.std.proofs.Common.{◌≡◌, ◌≢◌, ℕ, ◌<◌, Bool, true, false, not, cond, List, [], ◌∷◌, ◌++◌, length, Option, Some, None, is_some, Ok, filter, refl, subst}
use Rattle.std.proofs.lemmas.Bool.{ltb-true, lt-ltb}
use Rattle.std.specs.List.{AllByRecursion, list_all}
use Rattle.record_model.specs.FieldDecoding.{◌>>=◌}
use Rattle.record_model.specs.declared.types.FileEntry.{FileEntry}
use Rattle.record_model.specs.declared.types.Record.{Record}
use Rattle.record_model.specs.declared.types.Record.TheVariants.{Snapshot, Update, Deletion, End, Replace}
use Rattle.record_model.specs.Grammar.{IsExtent, AreApart, IsWritable, InGrammar}
use Rattle.log_model.specs.FileTable.{Table, file_of, is_among, is_named, without_names, take_names, set_entry, has_right_size, repeats_id, repeats_name, sorted, unless_broken, grown, delete_from, after_record}
use Rattle.log_model.specs.TableLaws.{IsNamedRecord}
use Rattle.log_model.proofs.TableLaws.{others_of}
use Rattle.log_model.proofs.ReplayLaws.{file_has, all_from}
use Rattle.log_model.proofs.ReplayedSizes.{record_keeps_sizes}
use Rattle.log_model.proofs.SelectedLog.{went_on, ok_is}
use Rattle.log_model.proofs.TableKept.{all_taken, named_taken, all_others, all_placed, all_sorted, unbroken_is, record_keeps_table}
use Rattle.mount_replay.specs.SoundTables.{IsSoundTable}

-- one in front of others, or none
all_cond : {A : Type 0} (P : A → Type 0) (b : Bool) (x : A) (xs : List A) → P x → AllByRecursion P xs → AllByRecursion P (cond b (x ∷ xs) xs)
all_cond P true x xs h g = (h, g)
all_cond P false x xs h g = g

all_filtered : {A : Type 0} (P : A → Type 0) (p : A → Bool) (xs : List A) → AllByRecursion P xs → AllByRecursion P (filter p xs)
all_filtered P p [] h = tt
all_filtered P p (x ∷ xs) h = all_cond P (p x) x (filter p xs) h.0 (all_filtered P p xs h.1)

pub all_append : {A : Type 0} (P : A → Type 0) (xs ys : List A) → AllByRecursion P xs → AllByRecursion P ys → AllByRecursion P (xs ++ ys)
all_append P [] ys h g = g
all_append P (x ∷ xs) ys h g = (h.0, all_append P xs ys h.1 g)

-- names that are apart stay so where some are left out
apart_cond : (b : Bool) (x : List ℕ) (xs : List (List ℕ)) → AllByRecursion (λ other. other ≢ x) xs → AreApart xs → AreApart (cond b (x ∷ xs) xs)
apart_cond true x xs h g = (h, g)
apart_cond false x xs h g = g

apart_filtered : (p : List ℕ → Bool) (xs : List (List ℕ)) → AreApart xs → AreApart (filter p xs)
apart_filtered p [] h = tt
apart_filtered p (x ∷ xs) h =
    apart_cond (p x) x (filter p xs) (all_filtered (λ other. other ≢ x) p xs h.0) (apart_filtered p xs h.1)

-- an entry that has a name may be written
abbrev IsWritableIfNamed : FileEntry → Type 0
IsWritableIfNamed e = 0 < length e.names → IsWritable e

-- so an entry from which names were taken
writable_left : (ns : List (List ℕ)) (e : FileEntry) → IsWritable e → IsWritableIfNamed (without_names ns e)
writable_left ns e w = λ named. record {
  id = w.id;
  size = w.size;
  hint = w.hint;
  time = w.time;
  active = w.active;
  extents = w.extents;
  names = all_filtered _ (λ n. not (is_among ns n)) e.names w.names;
  named = named;
  apart = apart_filtered (λ n. not (is_among ns n)) e.names w.apart;
}

both_hold : (es : Table) → AllByRecursion IsWritableIfNamed es → AllByRecursion (λ e. is_named e ≡ true) es → AllByRecursion IsWritable es
both_hold [] h g = tt
both_hold (e ∷ es) h g = (h.0 (ltb-true 0 (length e.names) g.0), both_hold es h.1 g.1)

writable_taken : (ns : List (List ℕ)) (es : Table) → AllByRecursion IsWritable es → AllByRecursion IsWritable (take_names ns es)
writable_taken ns es h = both_hold (take_names ns es) (all_taken IsWritable IsWritableIfNamed ns es (writable_left ns) h) (named_taken ns es)

writable_set : (e : FileEntry) (es : Table) → IsWritable e → AllByRecursion IsWritable es → AllByRecursion IsWritable (set_entry e es)
writable_set e es w h =
    all_placed IsWritable e (take_names e.names (others_of e.id es)) w (writable_taken e.names (others_of e.id es) (all_others IsWritable e.id es h))

-- an entry that was set, whatever the rule on sizes is
writable_checked : (broken : Bool) (e : FileEntry) (es next : Table) → IsWritable e → AllByRecursion IsWritable es → unless_broken broken 5 (set_entry e es) ≡ Ok next → AllByRecursion IsWritable next
writable_checked broken e es next w h is = subst (AllByRecursion IsWritable) (unbroken_is broken 5 (set_entry e es) next is) (writable_set e es w h)

-- an entry with the extents of the file in front
writable_grown : (o : Option FileEntry) (e : FileEntry) (es : Table) → file_of e.id es ≡ o → IsWritable e → AllByRecursion IsWritable es → IsWritable (grown o e)
writable_grown None e es found w h = w
writable_grown (Some f) e es found w h = record {
  id = w.id;
  size = w.size;
  hint = w.hint;
  time = w.time;
  active = w.active;
  extents = all_append IsExtent f.extents e.extents (file_has IsWritable e.id es f h found).extents w.extents;
  names = w.names;
  named = w.named;
  apart = w.apart;
}

writable_deleted : (o : Option FileEntry) (name : List ℕ) (es next : Table) → AllByRecursion IsWritable es → delete_from o name es ≡ Ok next → AllByRecursion IsWritable next
writable_deleted None name es next h is = cc
writable_deleted (Some e) name es next h is =
    subst (AllByRecursion IsWritable) (unbroken_is (not (is_among e.names name)) 4 (take_names (name ∷ []) es) next is) (writable_taken (name ∷ []) es h)

writable_snapshot : (files before next : Table) → AllByRecursion IsWritable files → after_record (Snapshot files) before ≡ Ok next → AllByRecursion IsWritable next
unfolding after_record
writable_snapshot files before next w h =
    let a = went_on (unless_broken (not (list_all has_right_size files)) 5 files) (λ x. unless_broken (repeats_id files) 6 files >>= (λ y. unless_broken (repeats_name files) 7 files >>= (λ z. Ok (sorted files)))) next h in
    let b = went_on (unless_broken (repeats_id files) 6 files) (λ y. unless_broken (repeats_name files) 7 files >>= (λ z. Ok (sorted files))) next a.2 in
    let c = went_on (unless_broken (repeats_name files) 7 files) (λ z. Ok (sorted files)) next b.2 in
    subst (AllByRecursion IsWritable) (ok_is c.2) (all_sorted IsWritable files w)

record_keeps_writable : (es next : Table) (r : Record) → AllByRecursion IsWritable es → InGrammar r → after_record r es ≡ Ok next → AllByRecursion IsWritable next
unfolding after_record
record_keeps_writable es next (Snapshot files) h w is = writable_snapshot files es next w is
record_keeps_writable es next (Update e) h w is =
    writable_checked (not (has_right_size (grown (file_of e.id es) e))) (grown (file_of e.id es) e) es next (writable_grown (file_of e.id es) e es refl w h) h is
record_keeps_writable es next (Deletion id name) h w is = writable_deleted (file_of id es) name es next h is
record_keeps_writable es next End h w is = subst (AllByRecursion IsWritable) (ok_is is) h
record_keeps_writable es next (Replace e) h w is =
    let a = went_on (unless_broken (not (is_some (file_of e.id es))) 3 es) (λ x. unless_broken (not (has_right_size e)) 5 (set_entry e es)) next is in
    writable_checked (not (has_right_size e)) e es next w h a.2

-- each entry of a record has a name
named_entry : (e : FileEntry) → IsWritable e → is_named e ≡ true
named_entry e w = lt-ltb 0 (length e.names) w.named

named_record : (r : Record) → InGrammar r → IsNamedRecord r
named_record (Snapshot files) w = all_from IsWritable (λ e. is_named e ≡ true) files named_entry w
named_record (Update e) w = named_entry e w
named_record (Deletion id name) w = tt
named_record End w = tt
named_record (Replace e) w = named_entry e w

pub record_keeps_sound : (es next : Table) (r : Record) → IsSoundTable es → InGrammar r → after_record r es ≡ Ok next → IsSoundTable next
record_keeps_sound es next r sound grammar is = record {
  table = record_keeps_table es next r sound.table (named_record r grammar) is;
  sized = record_keeps_sizes es next r sound.sized is;
  writable = record_keeps_writable es next r sound.writable grammar is;
}

-- a table without files
pub empty_sound : IsSoundTable []
empty_sound = record {
  table = record { ids = tt; named = tt; apart = λ e found. tt };
  sized = tt;
  writable = tt;
}
