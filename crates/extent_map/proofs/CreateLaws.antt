-- A table with a new file.
use Rattle.std.proofs.Common.{option_copied, Bor}
use Rattle.std.specs.Prelude.{◌≡◌, ℕ, ◌+◌, ◌-◌, ◌^◌, ◌<◌, ◌≤◌, Bool, true, false, not, ◌||◌, cond, List, [], ◌∷◌, ◌++◌, length, Option, Some, None, is_some, nat_lt, refl}
use Rattle.std.specs.List.{AllByRecursion, list_any}
use Rattle.std.specs.Str.{bytes_eq}
use Rattle.std.proofs.Common.{ap, sym, subst, ◌∙◌, arith}
use Rattle.std.proofs.lemmas.Bool.{false≢true, ne_eqb, or_parts, or_from}
use Rattle.record_model.specs.declared.types.FileEntry.{FileEntry}
use Rattle.log_model.specs.FileTable.{Table, is_among, is_named, names_left, take_names, with_entry, set_entry}
use Rattle.log_model.specs.TableLaws.{IsTable}
use Rattle.log_model.proofs.TableLaws.{kept_whole, nothing_taken, placed_last}
use Rattle.log_model.proofs.TableKept.{set_table}
use Rattle.log_model.proofs.ReplayLaws.{bytes_eq_sym, all_from}
use Rattle.fs_model.specs.FsState.{TableRow, row_named}
use Rattle.extent_map.specs.Applying.{others_of}
use Rattle.extent_map.specs.Records.{recorded_of}
use Rattle.extent_map.specs.TableState.{IsTableState}

-- a name that isn't among some isn't one of them
unused_any : (names : List (List ℕ)) (new : List ℕ) → is_among names new ≡ false → list_any (is_among (new ∷ [])) names ≡ false
unused_any [] new h = refl
unused_any (n ∷ ns) new h =
    let parts = or_parts (bytes_eq n new) (is_among ns new) h in
    or_from (bytes_eq new n || false) (list_any (is_among (new ∷ [])) ns) (or_from (bytes_eq new n) false (bytes_eq_sym new n ∙ parts.0) refl) (unused_any ns new parts.1)

-- no file has a name that none is found by
pub unused_everywhere : (name : List ℕ) (rows : List TableRow) → is_some (row_named name rows) ≡ false → AllByRecursion (λ e. is_among e.names name ≡ false) (recorded_of rows)
unused_everywhere name [] h = tt
unused_everywhere name (r ∷ rs) h = choice (is_among r.entry.names name) refl (unused_everywhere name rs) h
  where
    choice : (b : Bool) → is_among r.entry.names name ≡ b → (is_some (row_named name rs) ≡ false → AllByRecursion (λ e. is_among e.names name ≡ false) (recorded_of rs))
        → is_some (cond b (Some r) (row_named name rs)) ≡ false → AllByRecursion (λ e. is_among e.names name ≡ false) (recorded_of (r ∷ rs))
    choice true is rest none = absurd (false≢true (sym none))
    choice false is rest none = (is, rest none)

-- what is found through a reference is there as the reference is
pub copied_same : {T : Type 0} (o : Option (Bor T)) → is_some (option_copied o) ≡ is_some o
copied_same None = refl
copied_same (Some x) = refl

-- entries of lower ids
below : (greatest : ℕ) (rows : List TableRow) → AllByRecursion (λ r. r.entry.id ≤ greatest) rows → AllByRecursion (λ e. e.id < greatest + 1) (recorded_of rows)
below greatest [] h = tt
below greatest (r ∷ rs) h = (omega (arith, h.0), below greatest rs h.1)

-- all of them have other ids
others_all : (id : ℕ) (es : Table) → AllByRecursion (λ f. f.id < id) es → others_of id es ≡ es
others_all id [] h = refl
others_all id (f ∷ fs) h =
    ap (λ b. cond (not b) (f ∷ others_of id fs) (others_of id fs)) (ne_eqb f.id id (λ same. omega (arith, h.0))) ∙ ap (λ (es : Table). f ∷ es) (others_all id fs h.1)

-- an entry of a new id and a new name is set at the end
set_last : (e : FileEntry) (name : List ℕ) (es : Table) → e.names ≡ name ∷ [] → IsTable es → AllByRecursion (λ f. f.id < e.id) es → AllByRecursion (λ f. is_among f.names name ≡ false) es
    → set_entry e es ≡ es ++ e ∷ []
set_last e name es names table above unused =
    let kept : AllByRecursion (λ f. names_left (name ∷ []) f.names ≡ f.names) es =
    all_from (λ f. is_among f.names name ≡ false) (λ f. names_left (name ∷ []) f.names ≡ f.names) es (λ f h. kept_whole (is_among (name ∷ [])) f.names (unused_any f.names name h)) unused in
    ap (λ os. with_entry e (take_names e.names os)) (others_all e.id es above)
    ∙ ap (λ ns. with_entry e (take_names ns es)) names
    ∙ ap (with_entry e) (nothing_taken (name ∷ []) es kept table.named)
    ∙ placed_last e es above

-- the recorded entries with one more
recorded_more : (rows : List TableRow) (r : TableRow) → recorded_of (rows ++ r ∷ []) ≡ recorded_of rows ++ r.entry ∷ []
recorded_more [] r = refl
recorded_more (q ∷ qs) r = ap (λ (es : Table). q.entry ∷ es) (recorded_more qs r)

-- no id is above the new one
above_more : (greatest : ℕ) (rows : List TableRow) (r : TableRow) → AllByRecursion (λ q. q.entry.id ≤ greatest) rows → r.entry.id ≡ greatest + 1
    → AllByRecursion (λ q. q.entry.id ≤ greatest + 1) (rows ++ r ∷ [])
above_more greatest [] r h id = (omega (arith, id), tt)
above_more greatest (q ∷ qs) r h id = (omega (arith, h.0), above_more greatest qs r h.1 id)

-- a new file keeps the table one
pub created_state : (rows : List TableRow) (greatest : ℕ) (r : TableRow) (name : List ℕ) → IsTableState rows greatest → is_some (row_named name rows) ≡ false
    → greatest < 2 ^ 64 - 2 → r.entry.id ≡ greatest + 1 → r.entry.names ≡ name ∷ [] → IsTableState (rows ++ r ∷ []) (greatest + 1)
created_state rows greatest r name state absent room id names =
    let es : Table = recorded_of rows in
    let lower : AllByRecursion (λ f. f.id < r.entry.id) es = subst (λ n. AllByRecursion (λ f. f.id < n) es) (sym id) (below greatest rows state.above) in
    let named : is_named r.entry ≡ true = ap (λ (ns : List (List ℕ)). nat_lt 0 (length ns)) names in
    let last = set_last r.entry name es names state.table lower (unused_everywhere name rows absent) in
    record {
      table = subst IsTable (last ∙ sym (recorded_more rows r)) (set_table r.entry es named state.table);
      above = above_more greatest rows r state.above id;
      limit = omega arith;
    }
