-- What rows record, by names and by ids.
use Rattle.std.specs.Prelude.{◌≡◌, ℕ, ◌+◌, ◌<◌, ◌≤◌, Bool, true, false, cond, List, [], ◌∷◌, Option, Some, None, Ok, ◌==◌, if◌then◌else◌, option_map, refl}
use Rattle.std.proofs.Common.{◌∙◌, ap, sym, arith}
use Rattle.std.proofs.lemmas.Bool.{eq-eqb, ne_eqb, eqb-true, eqb-false}
use Rattle.std.specs.List.{AllByRecursion}
use Rattle.record_model.specs.declared.types.FileEntry.{FileEntry}
use Rattle.record_model.specs.declared.types.Record.{Record}
use Rattle.log_model.specs.FileTable.{file_of, is_among, is_named, names_left, take_names, after_record}
use Rattle.log_model.specs.TableLaws.{IdsRise, IsUnused, IsNamedRecord}
use Rattle.log_model.proofs.TableLaws.{put_in}
use Rattle.log_model.proofs.TableKept.{record_keeps_table}
use Rattle.log_model.proofs.ReplayedSizes.{record_keeps_sizes}
use Rattle.fs_model.specs.FsState.{TableRow, row_of, row_named, on_row}
use Rattle.fs_model.specs.TreeSteps.{with_names, drop_name}
use Rattle.change_records.specs.Recorded.{entries, AreValid, Makes}

-- a record that replays to what the rows after it record
pub made_by : (r : Record) (rows after : List TableRow) → AreValid rows → IsNamedRecord r → after_record r (entries rows) ≡ Ok (entries after) → Makes r rows after
made_by r rows after valid named replayed = record {
  replayed = replayed;
  valid = record {
    table = record_keeps_table (entries rows) (entries after) r valid.table named replayed;
    sized = record_keeps_sizes (entries rows) (entries after) r valid.sized replayed;
  };
}

-- a row, or none, in front of others
dropped_choice : (b : Bool) (r : TableRow) (rs : List TableRow) → entries (if b then r ∷ rs else rs) ≡ cond b (r.entry ∷ entries rs) (entries rs)
dropped_choice true r rs = refl
dropped_choice false r rs = refl

-- rows without a name record what is left where the name is taken
pub entries_dropped : (name : List ℕ) (rows : List TableRow) → entries (drop_name name rows) ≡ take_names (name ∷ []) (entries rows)
entries_dropped name [] = refl
entries_dropped name (r ∷ rs) =
    let left : TableRow = with_names (names_left (name ∷ []) r.entry.names) r in
    dropped_choice (is_named left.entry) left (drop_name name rs)
    ∙ ap (λ es. cond (is_named left.entry) (left.entry ∷ es) es) (entries_dropped name rs)

-- what the row of a name records
pub record IsNamedRow (from : ℕ) (name : List ℕ) (r : TableRow) (rows : List TableRow) : Type 0 where
  pub above : from ≤ r.entry.id
  pub found : file_of r.entry.id (entries rows) ≡ Some r.entry
  pub among : is_among r.entry.names name ≡ true

-- the same at the first row, or behind it
named_choice : (b : Bool) (from : ℕ) (name : List ℕ) (q r : TableRow) (rs : List TableRow) → is_among q.entry.names name ≡ b → from ≤ q.entry.id
    → (row_named name rs ≡ Some r → IsNamedRow (q.entry.id + 1) name r rs) → (if b then Some q else row_named name rs) ≡ Some r → IsNamedRow from name r (q ∷ rs)
named_choice true from name q r rs has low behind is =
    let same : q ≡ r = cc in record {
      above = omega (arith, ap (λ p. p.entry.id) same);
      found = ap (λ b. cond b (Some q.entry) (file_of r.entry.id (entries rs))) (eq-eqb q.entry.id r.entry.id (ap (λ p. p.entry.id) same)) ∙ ap (λ p. Some p.entry) same;
      among = ap (λ p. is_among p.entry.names name) (sym same) ∙ has;
    }
named_choice false from name q r rs has low behind is =
    let rest = behind is in record {
      above = omega (arith, rest.above);
      found = ap (λ b. cond b (Some q.entry) (file_of r.entry.id (entries rs))) (ne_eqb q.entry.id r.entry.id (λ same. omega (arith, rest.above))) ∙ rest.found;
      among = rest.among;
    }

-- the row of a name is recorded under its id, and with the name
pub named_row : (from : ℕ) (name : List ℕ) (rows : List TableRow) (r : TableRow) → IdsRise from (entries rows) → row_named name rows ≡ Some r → IsNamedRow from name r rows
named_row from name [] r rise is = absurd cc
named_row from name (q ∷ qs) r rise is =
    named_choice (is_among q.entry.names name) from name q r qs refl rise.0 (named_row (q.entry.id + 1) name qs r rise.1) is

-- the first row with a name, or one behind it
has_choice : (b : Bool) (name : List ℕ) (q r : TableRow) (later : Option TableRow) → is_among q.entry.names name ≡ b → (later ≡ Some r → is_among r.entry.names name ≡ true)
    → (if b then Some q else later) ≡ Some r → is_among r.entry.names name ≡ true
has_choice true name q r later has behind is = let same : q ≡ r = cc in ap (λ p. is_among p.entry.names name) (sym same) ∙ has
has_choice false name q r later has behind is = behind is

-- the row of a name has it
pub has_the_name : (name : List ℕ) (rows : List TableRow) (r : TableRow) → row_named name rows ≡ Some r → is_among r.entry.names name ≡ true
has_the_name name [] r is = absurd cc
has_the_name name (q ∷ qs) r is = has_choice (is_among q.entry.names name) name q r (row_named name qs) refl (has_the_name name qs r) is

-- a name that no row has, by the first row and by those behind it
unnamed_choice : (b : Bool) (name : List ℕ) (q : TableRow) (qs : List TableRow) → is_among q.entry.names name ≡ b
    → (row_named name qs ≡ None → IsUnused name (entries qs)) → (if b then Some q else row_named name qs) ≡ None → IsUnused name (entries (q ∷ qs))
unnamed_choice true name q qs has behind is = absurd cc
unnamed_choice false name q qs has behind is = (has, behind is)

-- a name that no row has is unused
pub unnamed : (name : List ℕ) (rows : List TableRow) → row_named name rows ≡ None → IsUnused name (entries rows)
unnamed name [] is = tt
unnamed name (q ∷ qs) is = unnamed_choice (is_among q.entry.names name) name q qs refl (unnamed name qs) is

-- one row that is changed, if it is the one
set_choice : (b : Bool) (change : TableRow → TableRow) (e : FileEntry) (q : TableRow) → (b ≡ true → (change q).entry ≡ e)
    → (if b then change q else q).entry ≡ cond b e q.entry
set_choice true change e q same = same refl
set_choice false change e q same = refl

-- a row that is changed records an entry in the place of its own
pub entries_set : (change : TableRow → TableRow) (e : FileEntry) (rows : List TableRow) → AllByRecursion (λ q. q.entry.id ≡ e.id → (change q).entry ≡ e) rows
    → entries (on_row e.id change rows) ≡ put_in e (entries rows)
entries_set change e [] same = refl
entries_set change e (q ∷ qs) same =
    ap (λ x. x ∷ entries (on_row e.id change qs)) (set_choice (q.entry.id == e.id) change e q (λ is. same.0 (eqb-true q.entry.id e.id is)))
    ∙ ap (λ es. cond (q.entry.id == e.id) e q.entry ∷ es) (entries_set change e qs same.1)

-- a row that is changed, or not
each_choice : (P : FileEntry → Type 0) (b : Bool) (change : TableRow → TableRow) (q : TableRow) → (b ≡ true → P (change q).entry) → P q.entry → P (if b then change q else q).entry
each_choice P true change q changed h = changed refl
each_choice P false change q changed h = h

-- what holds of each recorded entry, where one row is changed
pub set_each : (P : FileEntry → Type 0) (id : ℕ) (change : TableRow → TableRow) (rows : List TableRow) → AllByRecursion (λ q. q.entry.id ≡ id → P (change q).entry) rows
    → AllByRecursion P (entries rows) → AllByRecursion P (entries (on_row id change rows))
set_each P id change [] changed each = tt
set_each P id change (q ∷ qs) changed each =
    (each_choice P (q.entry.id == id) change q (λ is. changed.0 (eqb-true q.entry.id id is)) each.0, set_each P id change qs changed.1 each.1)

-- what holds of each recorded entry
pub all_rows : (P : FileEntry → Type 0) (Q : TableRow → Type 0) (rows : List TableRow) → ((q : TableRow) → P q.entry → Q q) → AllByRecursion P (entries rows) → AllByRecursion Q rows
all_rows P Q [] step h = tt
all_rows P Q (q ∷ qs) step h = (step q h.0, all_rows P Q qs step h.1)

-- one row of an id, or what is behind it
row_choice : (b : Bool) (q : TableRow) (rest : Option TableRow) → option_map (λ r. r.entry) (if b then Some q else rest) ≡ cond b (Some q.entry) (option_map (λ r. r.entry) rest)
row_choice true q rest = refl
row_choice false q rest = refl

-- the row of an id records the file of the id
pub row_entry : (id : ℕ) (rows : List TableRow) → option_map (λ r. r.entry) (row_of id rows) ≡ file_of id (entries rows)
row_entry id [] = refl
row_entry id (q ∷ qs) = row_choice (q.entry.id == id) q (row_of id qs) ∙ ap (λ o. cond (q.entry.id == id) (Some q.entry) o) (row_entry id qs)

-- no row past an id has it
past : (P : TableRow → Type 0) (from id : ℕ) (rows : List TableRow) → IdsRise from (entries rows) → id < from → AllByRecursion (λ q. q.entry.id ≡ id → P q) rows
past P from id [] rise h = tt
past P from id (q ∷ qs) rise h = ((λ same. absurd (omega (arith, rise.0))), past P (q.entry.id + 1) id qs rise.1 (omega (arith, rise.0)))

-- the row of an id at the first place, or behind it
only_choice : (b : Bool) (id : ℕ) (q r : TableRow) (qs : List TableRow) → (q.entry.id == id) ≡ b → IdsRise (q.entry.id + 1) (entries qs)
    → (row_of id qs ≡ Some r → AllByRecursion (λ k. k.entry.id ≡ id → k ≡ r) qs) → (if b then Some q else row_of id qs) ≡ Some r → AllByRecursion (λ k. k.entry.id ≡ id → k ≡ r) (q ∷ qs)
only_choice true id q r qs test rise behind is = ((λ _. cc), past (λ k. k ≡ r) (q.entry.id + 1) id qs rise (omega (arith, eqb-true q.entry.id id test)))
only_choice false id q r qs test rise behind is = ((λ same. absurd (eqb-false q.entry.id id test same)), behind is)

-- a row of the id is the one that is found
pub only_row : (from id : ℕ) (rows : List TableRow) (r : TableRow) → IdsRise from (entries rows) → row_of id rows ≡ Some r → AllByRecursion (λ q. q.entry.id ≡ id → q ≡ r) rows
only_row from id [] r rise is = tt
only_row from id (q ∷ qs) r rise is = only_choice (q.entry.id == id) id q r qs refl rise.1 (only_row (q.entry.id + 1) id qs r rise.1) is
