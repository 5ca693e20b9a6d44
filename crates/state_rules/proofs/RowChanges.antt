-- What is true of all rows where the one of an id is changed.
use Rattle.std.specs.Prelude.{◌≡◌, ◌≢◌, ℕ, ◌+◌, ◌≤◌, Bool, true, false, List, [], ◌∷◌, ◌++◌, Some, ◌==◌, if◌then◌else◌, refl}
use Rattle.std.proofs.Common.{◌∙◌, ap, subst}
use Rattle.std.proofs.lemmas.Bool.{eqb-true, eqb-false}
use Rattle.std.specs.List.{AllByRecursion}
use Rattle.zone_image.specs.declared.Geometry.{Geometry}
use Rattle.zone_image.specs.Image.{zone_of}
use Rattle.record_model.specs.declared.types.Extent.{Extent}
use Rattle.log_model.specs.FileTable.{Table}
use Rattle.log_model.specs.Mounted.{all_extents}
use Rattle.fs_model.specs.FsState.{TableRow, ZoneDescriptor, working_entry, working_of, row_of, on_row}
use Rattle.state_rules.specs.Rules.{IsFresh}

-- a row that is changed, or not
choice : (P : TableRow → Type 0) (b : Bool) (g : TableRow → TableRow) (q : TableRow) → (b ≡ true → P (g q)) → (b ≡ false → P q) → P (if b then g q else q)
choice P true g q changed same = changed refl
choice P false g q changed same = same refl

-- each row is changed so, or is another
pub each_row : (P Q : TableRow → Type 0) (id : ℕ) (g : TableRow → TableRow) (rows : List TableRow) → ((q : TableRow) → q.entry.id ≡ id → P q → Q (g q))
    → ((q : TableRow) → q.entry.id ≢ id → P q → Q q) → AllByRecursion P rows → AllByRecursion Q (on_row id g rows)
each_row P Q id g [] changed same h = tt
each_row P Q id g (q ∷ qs) changed same h = (
  choice Q (q.entry.id == id) g q (λ is. changed q (eqb-true q.entry.id id is) h.0) (λ other. same q (eqb-false q.entry.id id other) h.0),
  each_row P Q id g qs changed same h.1,
)

-- of each row two things
pub both_rows : (P Q : TableRow → Type 0) (rows : List TableRow) → AllByRecursion P rows → AllByRecursion Q rows → AllByRecursion (λ r. P r × Q r) rows
both_rows P Q [] h g = tt
both_rows P Q (r ∷ rs) h g = ((h.0, g.0), both_rows P Q rs h.1 g.1)

-- the row of an id is one of them
pub at_row : (P : TableRow → Type 0) (id : ℕ) (rows : List TableRow) (r : TableRow) → AllByRecursion P rows → row_of id rows ≡ Some r → P r
at_row P id [] r h is = absurd cc
at_row P id (q ∷ qs) r h is = by (q.entry.id == id) (at_row P id qs r h.1) is
  where
    by : (b : Bool) → (row_of id qs ≡ Some r → P r) → (if b then Some q else row_of id qs) ≡ Some r → P r
    by true rest is = let same : q ≡ r = cc in subst P same h.0
    by false rest is = rest is

-- extents in memory that a change leaves where they are
pub working_same : (id : ℕ) (g : TableRow → TableRow) (rows : List TableRow) → ((q : TableRow) → (working_entry (g q)).extents ≡ (working_entry q).extents)
    → all_extents (working_of (on_row id g rows)) ≡ all_extents (working_of rows)
working_same id g [] same = refl
working_same id g (q ∷ qs) same =
    ap (λ xs. xs ++ all_extents (working_of (on_row id g qs))) (by (q.entry.id == id)) ∙ ap (λ xs. (q.entry.extents ++ q.unrecorded) ++ xs) (working_same id g qs same)
  where
    by : (b : Bool) → (working_entry (if b then g q else q)).extents ≡ (working_entry q).extents
    by true = same q
    by false = refl

-- what is fresh is so where other extents are recorded before it
pub fresh_where : (g : Geometry) (zones : List ZoneDescriptor) (es fs : Table) (id : ℕ) (xs : List Extent)
    → ((x : Extent) → IsFresh g zones es id x → AllByRecursion (λ y. zone_of g y.start ≡ zone_of g x.start → y.start + y.len ≤ x.start) (all_extents fs))
    → AllByRecursion (IsFresh g zones es id) xs → AllByRecursion (IsFresh g zones fs id) xs
fresh_where g zones es fs id [] behind h = tt
fresh_where g zones es fs id (x ∷ xs) behind h = (record { owner = h.0.owner; behind = behind x h.0 }, fresh_where g zones es fs id xs behind h.1)

-- extents of joined lists
pub all_append : (P : Extent → Type 0) (xs ys : List Extent) → AllByRecursion P xs → AllByRecursion P ys → AllByRecursion P (xs ++ ys)
all_append P [] ys h g = g
all_append P (x ∷ xs) ys h g = (h.0, all_append P xs ys h.1 g)

pub all_split : (P : Extent → Type 0) (xs ys : List Extent) → AllByRecursion P (xs ++ ys) → AllByRecursion P xs × AllByRecursion P ys
all_split P [] ys h = (tt, h)
all_split P (x ∷ xs) ys h = let rest = all_split P xs ys h.1 in ((h.0, rest.0), rest.1)

-- what is true of each
pub all_weaker : (P Q : Extent → Type 0) (xs : List Extent) → ((x : Extent) → P x → Q x) → AllByRecursion P xs → AllByRecursion Q xs
all_weaker P Q [] step h = tt
all_weaker P Q (x ∷ xs) step h = (step x h.0, all_weaker P Q xs step h.1)
