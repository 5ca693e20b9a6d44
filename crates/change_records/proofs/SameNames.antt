-- A table stays one where its entries keep their ids and their names.
use Rattle.std.specs.Prelude.{◌≡◌, ◌≢◌, ℕ, ◌+◌, ◌≤◌, Bool, true, false, cond, List, [], ◌∷◌, length, map, Some, nat_lt, ◌==◌, if◌then◌else◌, refl}
use Rattle.std.proofs.Common.{◌∙◌, ap, sym, subst}
use Rattle.std.specs.List.{AllByRecursion, list_any}
use Rattle.record_model.specs.declared.types.FileEntry.{FileEntry}
use Rattle.log_model.specs.FileTable.{Table, file_of, is_among, is_named, shares_name, has_right_size}
use Rattle.log_model.specs.TableLaws.{IdsRise, IsTable, AreSized}
use Rattle.log_model.proofs.SelectionLaws.{some_is}
use Rattle.fs_model.specs.FsState.{TableRow, on_row}
use Rattle.change_records.specs.Recorded.{entries}

-- what changes entries keeps their ids, their names and right sizes
pub record KeepsNames (g : FileEntry → FileEntry) : Type 0 where
  pub id : (e : FileEntry) → (g e).id ≡ e.id
  pub names : (e : FileEntry) → (g e).names ≡ e.names
  pub size : (e : FileEntry) → has_right_size e ≡ true → has_right_size (g e) ≡ true

module _ (g : FileEntry → FileEntry) (keeps : KeepsNames g) where
  -- the ids rise
  rise_map : (from : ℕ) (es : Table) → IdsRise from es → IdsRise from (map g es)
  rise_map from [] rise = tt
  rise_map from (e ∷ es) rise =
      (subst (λ n. from ≤ n) (sym (keeps.id e)) rise.0, subst (λ n. IdsRise (n + 1) (map g es)) (sym (keeps.id e)) (rise_map (e.id + 1) es rise.1))

  -- each has a name
  named_map : (es : Table) → AllByRecursion (λ e. is_named e ≡ true) es → AllByRecursion (λ e. is_named e ≡ true) (map g es)
  named_map [] named = tt
  named_map (e ∷ es) named = (ap (λ (ns : List (List ℕ)). nat_lt 0 (length ns)) (keeps.names e) ∙ named.0, named_map es named.1)

  -- right sizes
  pub sized_map : (es : Table) → AreSized es → AreSized (map g es)
  sized_map [] sized = tt
  sized_map (e ∷ es) sized = (keeps.size e sized.0, sized_map es sized.1)

  -- the file was one before
  origin_choice : (b : Bool) (id : ℕ) (f e : FileEntry) (fs : Table) → (file_of id (map g fs) ≡ Some e → (old : FileEntry) × (file_of id fs ≡ Some old) × (g old ≡ e))
      → cond b (Some (g f)) (file_of id (map g fs)) ≡ Some e → (old : FileEntry) × (cond b (Some f) (file_of id fs) ≡ Some old) × (g old ≡ e)
  origin_choice true id f e fs behind is = (f, refl, some_is is)
  origin_choice false id f e fs behind is = behind is

  -- the same in a whole table
  origin : (id : ℕ) (e : FileEntry) (es : Table) → file_of id (map g es) ≡ Some e → (old : FileEntry) × (file_of id es ≡ Some old) × (g old ≡ e)
  origin id e [] is = absurd cc
  origin id e (f ∷ fs) is =
      origin_choice (f.id == id) id f e fs (origin id e fs) (sym (ap (λ n. cond (n == id) (Some (g f)) (file_of id (map g fs))) (keeps.id f)) ∙ is)

  -- it shares no name with the others
  apart_map : (old : FileEntry) (es : Table) → AllByRecursion (λ f. f.id ≢ old.id → shares_name old f ≡ false) es
      → AllByRecursion (λ f. f.id ≢ (g old).id → shares_name (g old) f ≡ false) (map g es)
  apart_map old [] apart = tt
  apart_map old (f ∷ fs) apart = (
    (λ other.
        ap (λ (ns : List (List ℕ)). list_any (is_among ns) (g f).names) (keeps.names old)
        ∙ ap (λ (ns : List (List ℕ)). list_any (is_among old.names) ns) (keeps.names f)
        ∙ apart.0 (λ same. other (keeps.id f ∙ same ∙ sym (keeps.id old)))),
    apart_map old fs apart.1,
  )

  -- a table stays one
  pub table_map : (es : Table) → IsTable es → IsTable (map g es)
  table_map es table = record {
    ids = rise_map 0 es table.ids;
    named = named_map es table.named;
    apart =
        λ e is.
        let from = origin e.id e es is in
        let same : e.id ≡ from.0.id = ap (λ x. x.id) (sym from.2) ∙ keeps.id from.0 in
        subst (λ x. AllByRecursion (λ f. f.id ≢ x.id → shares_name x f ≡ false) (map g es)) from.2
        (apart_map from.0 es (table.apart from.0 (sym (ap (λ id. file_of id es) same) ∙ from.1)));
  }

-- the entry of one id changed
abbrev pub at_id : ℕ → (FileEntry → FileEntry) → FileEntry → FileEntry
at_id id g e = if e.id == id then g e else e

-- it keeps what the change keeps
pub keeps_at : (id : ℕ) (g : FileEntry → FileEntry) → KeepsNames g → KeepsNames (at_id id g)
keeps_at id g keeps = record {
  id = λ e. id_choice (e.id == id) e;
  names = λ e. names_choice (e.id == id) e;
  size = λ e right. size_choice (e.id == id) e right;
}
  where
    id_choice : (b : Bool) (e : FileEntry) → (if b then g e else e).id ≡ e.id
    id_choice true e = keeps.id e
    id_choice false e = refl

    names_choice : (b : Bool) (e : FileEntry) → (if b then g e else e).names ≡ e.names
    names_choice true e = keeps.names e
    names_choice false e = refl

    size_choice : (b : Bool) (e : FileEntry) → has_right_size e ≡ true → has_right_size (if b then g e else e) ≡ true
    size_choice true e right = keeps.size e right
    size_choice false e right = right

-- one row that is changed, or not
row_choice : (b : Bool) (g : FileEntry → FileEntry) (change : TableRow → TableRow) (q : TableRow) → (change q).entry ≡ g q.entry
    → (if b then change q else q).entry ≡ (if b then g q.entry else q.entry)
row_choice true g change q same = same
row_choice false g change q same = refl

-- rows of which one is changed record the changed entry
pub entries_at : (id : ℕ) (g : FileEntry → FileEntry) (change : TableRow → TableRow) (rows : List TableRow) → ((q : TableRow) → (change q).entry ≡ g q.entry)
    → entries (on_row id change rows) ≡ map (at_id id g) (entries rows)
entries_at id g change [] same = refl
entries_at id g change (q ∷ qs) same =
    ap (λ e. e ∷ entries (on_row id change qs)) (row_choice (q.entry.id == id) g change q (same q))
    ∙ ap (λ es. at_id id g q.entry ∷ es) (entries_at id g change qs same)
