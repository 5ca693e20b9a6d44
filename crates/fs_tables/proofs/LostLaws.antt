-- The extents that are gone with a file that loses its last name.
use Rattle.std.specs.Prelude.{◌≡◌, ◌≢◌, ℕ, ◌+◌, ◌<◌, ◌≤◌, Bool, true, false, cond, List, [], ◌∷◌, ◌++◌, Option, Some, None, ◌==◌, refl}
use Rattle.std.specs.List.{AllByRecursion}
use Rattle.std.proofs.Common.{ap, sym, subst, ◌∙◌, arith, append_assoc}
use Rattle.std.proofs.lemmas.List.{append-nil}
use Rattle.record_model.specs.declared.types.Extent.{Extent}
use Rattle.record_model.specs.declared.types.FileEntry.{FileEntry}
use Rattle.log_model.specs.FileTable.{is_among, is_named, names_left, shares_name}
use Rattle.log_model.specs.TableLaws.{IdsRise}
use Rattle.log_model.proofs.SelectionLaws.{some_is}
use Rattle.fs_model.specs.FsState.{TableRow, row_named}
use Rattle.fs_model.specs.TreeSteps.{drop_name, with_names}
use Rattle.fs_model.proofs.TreeLaws.{without_absent}
use Rattle.extent_map.specs.Naming.{lost_by, lost_extents, without_names}
use Rattle.extent_map.specs.Records.{recorded_of}
use Rattle.extent_map.specs.TableState.{IsTableState}
use Rattle.extent_map.proofs.LinkLaws.{found_by_id, found_entry, named_has, not_shared}
use Rattle.fs_tables.proofs.FileChanges.{IsWhole, extents_of_rows}

-- all extents are those before some that are lost, these, and those behind them
pub record LosesPart (rows after : List TableRow) (lost : List Extent) : Type 0 where
  pub front : List Extent
  pub back : List Extent
  pub before : extents_of_rows rows ≡ front ++ (lost ++ back)
  pub rest : extents_of_rows after ≡ front ++ back

-- a file without the name stays as it is
stays : (name : List ℕ) (r : TableRow) (rs : List TableRow) → is_among r.entry.names name ≡ false → is_named r.entry ≡ true → drop_name name (r ∷ rs) ≡ r ∷ drop_name name rs
stays name r rs absent named =
    let same : without_names (name ∷ []) r ≡ r = ap (λ (ns : List (List ℕ)). with_names ns r) (without_absent r.entry.names name absent) in
    ap (λ (q : TableRow). cond (is_named q.entry) (q ∷ drop_name name rs) (drop_name name rs)) same ∙ ap (λ b. cond b (r ∷ drop_name name rs) (drop_name name rs)) named

-- files without the name stay as they are
all_stay : (name : List ℕ) (rows : List TableRow) → AllByRecursion (λ q. is_among q.entry.names name ≡ false) rows → AllByRecursion (λ e. is_named e ≡ true) (recorded_of rows)
    → drop_name name rows ≡ rows
all_stay name [] absent named = refl
all_stay name (r ∷ rs) absent named = stays name r rs absent.0 named.0 ∙ ap (λ (qs : List TableRow). r ∷ qs) (all_stay name rs absent.1 named.1)

-- behind a file there are others
others_behind : (name : List ℕ) (id from : ℕ) (rows : List TableRow) → id < from → IdsRise from (recorded_of rows)
    → AllByRecursion (λ q. q.entry.id ≢ id → is_among q.entry.names name ≡ false) rows → AllByRecursion (λ q. is_among q.entry.names name ≡ false) rows
others_behind name id from [] lt rise h = tt
others_behind name id from (r ∷ rs) lt rise h =
    (h.0 (λ same. omega (arith, same, lt, rise.0)), others_behind name id (r.entry.id + 1) rs (omega (arith, lt, rise.0)) rise.1 h.1)

-- the extents of a whole row in front of others
extents_front : (r : TableRow) (rs : List TableRow) → IsWhole r → extents_of_rows (r ∷ rs) ≡ r.entry.extents ++ extents_of_rows rs
extents_front r rs whole =
    ap (λ (q : TableRow). (r.entry.extents ++ q.unrecorded) ++ extents_of_rows rs) whole ∙ ap (λ (xs : List Extent). xs ++ extents_of_rows rs) (append-nil r.entry.extents)

-- the part that is lost, where one file has the name
lost_part : (name : List ℕ) (from : ℕ) (rows : List TableRow) (r : TableRow) → row_named name rows ≡ Some r → AllByRecursion IsWhole rows → IdsRise from (recorded_of rows)
    → AllByRecursion (λ e. is_named e ≡ true) (recorded_of rows) → AllByRecursion (λ q. q.entry.id ≢ r.entry.id → is_among q.entry.names name ≡ false) rows
    → LosesPart rows (drop_name name rows) (lost_by name (Some r))
lost_part name from [] r is whole rise named others = absurd cc
lost_part name from (q ∷ qs) r is whole rise named others =
    choice (is_among q.entry.names name) refl is (λ h. lost_part name (q.entry.id + 1) qs r h whole.1 rise.1 named.1 others.1)
  where
    gone : (b : Bool) → is_named (without_names (name ∷ []) q).entry ≡ b → drop_name name qs ≡ qs
        → LosesPart (q ∷ qs) (cond b (without_names (name ∷ []) q ∷ drop_name name qs) (drop_name name qs)) (cond b [] q.entry.extents)
    gone true here same = record {
      front = q.entry.extents;
      back = extents_of_rows qs;
      before = extents_front q qs whole.0;
      rest = extents_front (without_names (name ∷ []) q) (drop_name name qs) (ap (λ (p : TableRow). with_names (names_left (name ∷ []) q.entry.names) p) whole.0)
          ∙ ap (λ (rs : List TableRow). q.entry.extents ++ extents_of_rows rs) same;
    }
    gone false here same = record {
      front = [];
      back = extents_of_rows qs;
      before = extents_front q qs whole.0;
      rest = ap extents_of_rows same;
    }

    choice : (b : Bool) → is_among q.entry.names name ≡ b → cond b (Some q) (row_named name qs) ≡ Some r
        → (row_named name qs ≡ Some r → LosesPart qs (drop_name name qs) (lost_by name (Some r))) → LosesPart (q ∷ qs) (drop_name name (q ∷ qs)) (lost_by name (Some r))
    choice true has h rest =
        let same : q ≡ r = some_is h in
        let absent = others_behind name r.entry.id (q.entry.id + 1) qs (omega (arith, ap (λ (p : TableRow). p.entry.id) same)) rise.1 others.1 in
        subst (λ (p : TableRow). LosesPart (q ∷ qs) (drop_name name (q ∷ qs)) (lost_by name (Some p))) same
        (gone (is_named (without_names (name ∷ []) q).entry) refl (all_stay name qs absent named.1))
    choice false absent h rest =
        let part = rest h in
        let lost : List Extent = lost_by name (Some r) in
        record {
          front = q.entry.extents ++ part.front;
          back = part.back;
          before = extents_front q qs whole.0 ∙ ap (λ (xs : List Extent). q.entry.extents ++ xs) part.before ∙ sym (append_assoc q.entry.extents part.front (lost ++ part.back));
          rest = ap extents_of_rows (stays name q qs absent named.0) ∙ extents_front q (drop_name name qs) whole.0
              ∙ ap (λ (xs : List Extent). q.entry.extents ++ xs) part.rest ∙ sym (append_assoc q.entry.extents part.front part.back);
        }

-- no other file has a name of this one
others_lack : (name : List ℕ) (e : FileEntry) (rows : List TableRow) → is_among e.names name ≡ true → AllByRecursion (λ f. f.id ≢ e.id → shares_name e f ≡ false) (recorded_of rows)
    → AllByRecursion (λ q. q.entry.id ≢ e.id → is_among q.entry.names name ≡ false) rows
others_lack name e [] has h = tt
others_lack name e (q ∷ qs) has h = ((λ other. not_shared e.names q.entry.names name (h.0 other) has), others_lack name e qs has h.1)

-- the part that a table loses with a name
pub table_loses : (name : List ℕ) (rows : List TableRow) (greatest : ℕ) (r : TableRow) → IsTableState rows greatest → AllByRecursion IsWhole rows → row_named name rows ≡ Some r
    → LosesPart rows (drop_name name rows) (lost_extents name rows)
table_loses name rows greatest r state whole is =
    let there = found_by_id 0 name rows r state.table.ids is in
    let others = others_lack name r.entry rows (named_has name rows r is) (state.table.apart r.entry (found_entry rows r there)) in
    subst (λ (o : Option TableRow). LosesPart rows (drop_name name rows) (lost_by name o)) (sym is)
    (lost_part name 0 rows r is whole state.table.ids state.table.named others)
