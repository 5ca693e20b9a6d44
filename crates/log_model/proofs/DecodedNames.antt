-- Each entry of a record that decodes has a name, so each log that replays makes a table.
use Rattle.std.specs.Prelude.{◌≡◌, ℕ, zero, suc, ◌-◌, ◌^◌, Bool, true, false, ◌||◌, cond, List, [], ◌∷◌, ◌++◌, length, filter_map, Option, Some, None, Result, Ok, Err, nat_lt, ◌==◌, if◌then◌else◌, refl}
use Rattle.std.proofs.Common.{◌∙◌, ap, sym, subst, arith}
use Rattle.std.proofs.lemmas.Bool.{lt-ltb}
use Rattle.std.specs.Int.{w32, w64}
use Rattle.std.specs.List.{AllByRecursion}
use Rattle.record_model.specs.Name.{is_name}
use Rattle.record_model.specs.FieldDecoding.{Cursor, at_place, number, slice_at, ranged, has_tag, fields_at, ◌>>=◌}
use Rattle.record_model.specs.Decoding.{name_of, entry_of, missing_from, required_tags, complete, entry_at, inside_at, sliced_entry_at, entries_at, ended, sliced, snapshot_at, update_at, replacement_at, deletion_at, record_kind_of, record_with, record_of}
use Rattle.record_model.specs.declared.field.Field.{Field}
use Rattle.record_model.specs.declared.field.Field.TheVariants.{Id, Size, Hint, Piece, Time, Active, Sparse, Linked}
use Rattle.record_model.specs.declared.field.RecordKind.{RecordKind}
use Rattle.record_model.specs.declared.field.RecordKind.TheVariants as kinds
use Rattle.record_model.specs.declared.types.FileEntry.{FileEntry}
use Rattle.record_model.specs.declared.types.Record.{Record}
use Rattle.record_model.specs.declared.types.Record.TheVariants.{Snapshot, Update, Deletion, End, Replace}
use Rattle.record_model.specs.declared.fault.DecodeFault.{DecodeFault}
use Rattle.log_model.specs.declared.selection.DamageWhy.{DamageWhy}
use Rattle.log_model.specs.FileTable.{Table, is_named, is_end, decoded, placed, next_table, after_record, replay_from, replay_log}
use Rattle.log_model.specs.TableLaws.{IsTable, IsNamedRecord}
use Rattle.log_model.specs.ReplayLaws.{ReplayMakesTable}
use Rattle.log_model.proofs.SelectedLog.{went_on, ok_is}
use Rattle.log_model.proofs.EndRecord.{ended_is, last_of}
use Rattle.log_model.proofs.LogReplayLaws.{decoded_is}
use Rattle.log_model.proofs.TableKept.{record_keeps_table, empty_table}

-- each entry has a name
abbrev AreNamed : List FileEntry → Type 0
AreNamed files = AllByRecursion (λ e. is_named e ≡ true) files

-- fields with a name have one
name_there : (fs : List Field) → has_tag 9 fs ≡ true → nat_lt 0 (length (filter_map name_of fs)) ≡ true
name_there [] h = cc
name_there (Id n ∷ fs) h = name_there fs h
name_there (Size n ∷ fs) h = name_there fs h
name_there (Hint n ∷ fs) h = name_there fs h
name_there (Piece e ∷ fs) h = name_there fs h
name_there (Time n ∷ fs) h = name_there fs h
name_there (Active n ∷ fs) h = name_there fs h
name_there (Sparse ∷ fs) h = name_there fs h
name_there (Linked name ∷ fs) h = lt-ltb 0 (length (filter_map name_of (Linked name ∷ fs))) (omega arith)

-- the least tag that is missing, by which are there
least_missing : Bool → Bool → Bool → Bool → Bool → Bool → Option ℕ
least_missing a b c d e f =
    if a then (if b then (if c then (if d then (if e then (if f then None else Some 9) else Some 7) else Some 6) else Some 4) else Some 3) else Some 1

-- where no field is missing, a name is there
last_required : (a b c d e f : Bool) → least_missing a b c d e f ≡ None → f ≡ true
unfolding least_missing
last_required false b c d e f h = cc
last_required true false c d e f h = cc
last_required true true false d e f h = cc
last_required true true true false e f h = cc
last_required true true true true false f h = cc
last_required true true true true true false h = cc
last_required true true true true true true h = refl

-- an entry that is complete lacks nothing
complete_is : (at : ℕ) (fs : List Field) (missing : Option ℕ) (e : FileEntry) → complete at fs missing ≡ Ok e → (missing ≡ None) × (entry_of fs ≡ e)
complete_is at fs None e h = (refl, ok_is h)
complete_is at fs (Some tag) e h = cc

-- an entry that decodes has a name
entry_named : (c : Cursor) (e : FileEntry) → entry_at c ≡ Ok e → is_named e ≡ true
unfolding entry_at least_missing
entry_named c e h =
    let a = went_on (fields_at (length c.rest) [] c) (λ fs. complete c.at fs (missing_from required_tags fs)) e h in
    let whole = complete_is c.at a.0 (missing_from required_tags a.0) e a.2 in
    let there : has_tag 9 a.0 ≡ true = last_required (has_tag 1 a.0) (has_tag 3 a.0) (has_tag 4 a.0) (has_tag 6 a.0) (has_tag 7 a.0) (has_tag 9 a.0) whole.0 in
    ap is_named (sym whole.1) ∙ name_there a.0 there

-- one entry more
named_push : (seen : List FileEntry) (e : FileEntry) → AreNamed seen → is_named e ≡ true → AreNamed (seen ++ e ∷ [])
named_push [] e h g = (g, tt)
named_push (x ∷ xs) e h g = (h.0, named_push xs e h.1 g)

-- an entry within a slice
sliced_named : (c : Cursor) (e : FileEntry × Cursor) → sliced_entry_at c ≡ Ok e → is_named e.0 ≡ true
sliced_named c e h =
    let a = went_on (inside_at c) (λ s. entry_at s.0 >>= (λ x. Ok (x, s.1))) e h in
    let b = went_on (entry_at a.0.0) (λ x. Ok (x, a.0.1)) e a.2 in
    ap (λ p. is_named p.0) (sym (ok_is b.2)) ∙ entry_named a.0.0 b.0 b.1

-- entries are read to the end, or one more is
entries_step : (none : Bool) (seen files : List FileEntry) (more : Result (List FileEntry) DecodeFault) → AreNamed seen → (more ≡ Ok files → AreNamed files)
    → cond none (Ok seen) more ≡ Ok files → AreNamed files
entries_step true seen files more h rest is = subst AreNamed (ok_is is) h
entries_step false seen files more h rest is = rest is

-- the entries of a snapshot have names
entries_named : (k : ℕ) (seen : List FileEntry) (c : Cursor) (files : List FileEntry) → AreNamed seen → entries_at k seen c ≡ Ok files → AreNamed files
entries_named zero seen c files h is = subst AreNamed (ok_is is) h
entries_named (suc k) seen c files h is =
    entries_step (length c.rest == 0) seen files (sliced_entry_at c >>= (λ e. entries_at k (seen ++ e.0 ∷ []) e.1)) h
    (λ more.
    let a = went_on (sliced_entry_at c) (λ e. entries_at k (seen ++ e.0 ∷ []) e.1) files more in
    entries_named k (seen ++ a.0.0 ∷ []) a.0.1 files (named_push seen a.0.0 h (sliced_named c a.0 a.1)) a.2)
    is

-- what a slice holds has P where what reads it gives that
sliced_has : (P : Record → Type 0) (f : Cursor → Result Record DecodeFault) (c : Cursor) (r : Record) → ((d : Cursor) (s : Record) → f d ≡ Ok s → P s) → sliced f c ≡ Ok r → P r
sliced_has P f c r reads h =
    let a = went_on (inside_at c) (λ s. f s.0 >>= (λ x. ended x s.1)) r h in
    let b = went_on (f a.0.0) (λ x. ended x a.0.1) r a.2 in
    subst P (ended_is b.0 r a.0.1 b.2).0 (reads a.0.0 b.0 b.1)

-- the record of each kind is named
snapshot_named : (c : Cursor) (r : Record) → snapshot_at c ≡ Ok r → IsNamedRecord r
snapshot_named c r h =
    let a = went_on (entries_at (length c.rest) [] c) (λ files. Ok (Snapshot files)) r h in
    subst IsNamedRecord (ok_is a.2) (entries_named (length c.rest) [] c a.0 tt a.1)

update_named : (c : Cursor) (r : Record) → update_at c ≡ Ok r → IsNamedRecord r
update_named c r h = let a = went_on (entry_at c) (λ e. Ok (Update e)) r h in subst IsNamedRecord (ok_is a.2) (entry_named c a.0 a.1)

replacement_named : (c : Cursor) (r : Record) → replacement_at c ≡ Ok r → IsNamedRecord r
replacement_named c r h = let a = went_on (entry_at c) (λ e. Ok (Replace e)) r h in subst IsNamedRecord (ok_is a.2) (entry_named c a.0 a.1)

deletion_named : (c : Cursor) (r : Record) → deletion_at c ≡ Ok r → IsNamedRecord r
deletion_named c r h =
    last_of (at_place c.at (number w64 c)) _ r IsNamedRecord
    (λ id a. last_of (at_place c.at (ranged (nat_lt id.0 (2 ^ 64 - 1)) id.0)) _ r IsNamedRecord
    (λ known b. last_of (at_place id.1.at (slice_at id.1)) _ r IsNamedRecord
    (λ s d. last_of (at_place id.1.at (ranged (is_name s.0) s.0)) _ r IsNamedRecord
    (λ name e. subst IsNamedRecord (ended_is (Deletion known name) r s.1 e).0 tt) d) b) a) h

-- the record behind a tag is
kind_named : (tag : ℕ) (kind : Option RecordKind) (c : Cursor) (r : Record) → record_with tag kind c ≡ Ok r → IsNamedRecord r
kind_named tag None c r h = cc
kind_named tag (Some kinds.Snapshot) c r h = sliced_has IsNamedRecord snapshot_at c r snapshot_named h
kind_named tag (Some kinds.Update) c r h = sliced_has IsNamedRecord update_at c r update_named h
kind_named tag (Some kinds.Deletion) c r h = sliced_has IsNamedRecord deletion_at c r deletion_named h
kind_named tag (Some kinds.End) c r h = subst IsNamedRecord (ended_is End r c h).0 tt
kind_named tag (Some kinds.Replace) c r h = sliced_has IsNamedRecord replacement_at c r replacement_named h

-- a record that decodes has a name in each entry
record_named : (payload : List ℕ) (r : Record) → record_of payload ≡ Ok r → IsNamedRecord r
unfolding record_of
record_named payload r h =
    let a = went_on (at_place 0 (number w32 (record { at = 0; rest = payload }))) (λ t. record_with t.0 (record_kind_of t.0) t.1) r h in
    kind_named a.0.0 (record_kind_of a.0.0) a.0.1 r a.2

-- what is placed went well
pub placed_is : {A : Type 0} → (at : ℕ) (r : Result A DamageWhy) (x : A) → placed at r ≡ Ok x → r ≡ Ok x
placed_is at (Ok y) x h = ap (λ z. Ok z) (ok_is h)
placed_is at (Err cause) x h = cc

-- a record that doesn't follow an end
pub not_ended : (over : Bool) (r : Record) (es next : Table) → next_table over r es ≡ Ok next → after_record r es ≡ Ok next
not_ended true r es next h = cc
not_ended false r es next h = h

-- what payloads make of a table is a table
replayed_table : (over : Bool) (before es : Table) (payloads : List (ℕ × List ℕ)) → IsTable before → replay_from over before payloads ≡ Ok es → IsTable es
replayed_table over before es [] table h = subst IsTable (ok_is h) table
replayed_table over before es (p ∷ ps) table h =
    let a = went_on (placed p.0 (decoded (record_of p.1))) (λ r. placed p.0 (next_table over r before) >>= (λ next. replay_from (over || is_end r) next ps)) es h in
    let b = went_on (placed p.0 (next_table over a.0 before)) (λ next. replay_from (over || is_end a.0) next ps) es a.2 in
    let named : IsNamedRecord a.0 = record_named p.1 a.0 (decoded_is p.0 (record_of p.1) a.0 a.1) in
    let after : after_record a.0 before ≡ Ok b.0 = not_ended over a.0 before b.0 (placed_is p.0 (next_table over a.0 before) b.0 b.1) in
    replayed_table (over || is_end a.0) b.0 es ps (record_keeps_table before b.0 a.0 table named after) b.2

pub replay_makes_table : ReplayMakesTable
unfolding replay_log
replay_makes_table payloads es h = replayed_table false [] es payloads empty_table h
