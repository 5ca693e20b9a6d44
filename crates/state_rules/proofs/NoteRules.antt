-- An extent that is noted keeps the rules.
use Rattle.std.specs.Prelude.{◌≡◌, ℕ, ◌+◌, ◌-◌, ◌^◌, ◌<◌, ◌≤◌, Bool, true, false, List, [], ◌∷◌, ◌++◌, Some, nat_le, ◌==◌, if◌then◌else◌, refl}
use Rattle.std.proofs.Common.{◌∙◌, ap, sym, subst, append_assoc, arith}
use Rattle.std.proofs.lemmas.Bool.{leb-true, eqb-true, ne_eqb}
use Rattle.std.proofs.lemmas.List.Sums.{sum_by-cons}
use Rattle.std.specs.List.{AllByRecursion}
use Rattle.zone_image.specs.declared.Geometry.{Geometry}
use Rattle.zone_image.specs.Image.{zone_of}
use Rattle.record_model.specs.Grammar.{IsExtent, IsWritable}
use Rattle.record_model.specs.declared.types.Extent.{Extent}
use Rattle.log_model.specs.FileTable.{Table, size_of}
use Rattle.log_model.specs.Mounted.{all_extents}
use Rattle.log_model.specs.TableLaws.{IdsRise, IsTable, AreSized}
use Rattle.fs_model.specs.FsState.{TableRow, ZoneDescriptor, working_of, row_of, on_row}
use Rattle.fs_model.specs.FileSteps.{extents_with, note}
use Rattle.change_records.specs.Recorded.{entries}
use Rattle.change_records.proofs.EntryLaws.{only_row}
use Rattle.change_records.proofs.StepsWithoutRecord.{note_records_nothing}
use Rattle.state_rules.specs.Rules.{found_within, finds_again, AreOrdered, RowRules, LiesInZone, IsFresh, FreshRules}
use Rattle.state_rules.specs.NoteRules.{NoteKeepsRules}
use Rattle.state_rules.proofs.RowChanges.{each_row, both_rows, at_row, all_split, all_weaker}
use Rattle.state_rules.proofs.DataRules.{rows_keep}
use Rattle.state_rules.proofs.GrownLaws.{Grown, grown_front, grown_noted, lie_grown, apart_grown, behind_all}

-- ---- the row

-- one more extent, or a longer one, has so many bytes more
size_noted : (us : List Extent) (x : Extent) → size_of (extents_with us x) ≡ size_of us + x.len
size_noted [] x = omega (arith, sum_by-cons (λ (y : Extent). y.len) x [])
size_noted (y ∷ []) x = by (y.start + y.len == x.start)
  where
    by : (b : Bool) → size_of (if b then (record y { len = y.len + x.len }) ∷ [] else y ∷ x ∷ []) ≡ size_of (y ∷ []) + x.len
    by true = omega (arith, sum_by-cons (λ (z : Extent). z.len) (record y { len = y.len + x.len }) [], sum_by-cons (λ (z : Extent). z.len) y [])
    by false = omega (arith, sum_by-cons (λ (z : Extent). z.len) y (x ∷ []), sum_by-cons (λ (z : Extent). z.len) x [], sum_by-cons (λ (z : Extent). z.len) y [])
size_noted (y ∷ z ∷ zs) x =
    omega (arith, sum_by-cons (λ (w : Extent). w.len) y (extents_with (z ∷ zs) x), sum_by-cons (λ (w : Extent). w.len) y (z ∷ zs), size_noted (z ∷ zs) x)

-- each can be written
extents_noted : (us : List Extent) (x : Extent) → IsExtent x → size_of us + x.len < 2 ^ 64 → AllByRecursion IsExtent us → AllByRecursion IsExtent (extents_with us x)
extents_noted [] x is fits h = (is, tt)
extents_noted (y ∷ []) x is fits h = by (y.start + y.len == x.start)
  where
    short : y.len + x.len < 2 ^ 64
    short = omega (arith, fits, sum_by-cons (λ (z : Extent). z.len) y [])

    some : 0 < y.len + x.len
    some = omega (arith, h.0.1)

    by : (b : Bool) → AllByRecursion IsExtent (if b then (record y { len = y.len + x.len }) ∷ [] else y ∷ x ∷ [])
    by true = ((h.0.0, some, short), tt)
    by false = (h.0, (is, tt))
extents_noted (y ∷ z ∷ zs) x is fits h =
    (h.0, extents_noted (z ∷ zs) x is (omega (arith, fits, sum_by-cons (λ (w : Extent). w.len) y (z ∷ zs))) h.1)

-- they stand in order
ordered_behind : (y z : Extent) (zs : List Extent) (x : Extent) → y.start + y.len ≤ z.start → AreOrdered (extents_with (z ∷ zs) x) → AreOrdered (y ∷ extents_with (z ∷ zs) x)
ordered_behind y z [] x end h = by (z.start + z.len == x.start) h
  where
    by : (b : Bool) → AreOrdered (if b then (record z { len = z.len + x.len }) ∷ [] else z ∷ x ∷ []) → AreOrdered (y ∷ (if b then (record z { len = z.len + x.len }) ∷ [] else z ∷ x ∷ []))
    by true g = (end, g)
    by false g = (end, g)
ordered_behind y z (u ∷ us) x end h = (end, h)

ordered_noted : (us : List Extent) (x : Extent) → AreOrdered us → AllByRecursion (λ y. y.start + y.len ≤ x.start) us → AreOrdered (extents_with us x)
ordered_noted [] x h behind = tt
ordered_noted (y ∷ []) x h behind = by (y.start + y.len == x.start)
  where
    by : (b : Bool) → AreOrdered (if b then (record y { len = y.len + x.len }) ∷ [] else y ∷ x ∷ [])
    by true = tt
    by false = (behind.0, tt)
ordered_noted (y ∷ z ∷ zs) x h behind = ordered_behind y z zs x h.0 (ordered_noted (z ∷ zs) x h.1 behind.1)

-- what is found stays so, where it was all that is shown
found_still : (us : List Extent) (x : Extent) (n : ℕ) → 0 < x.len → n ≡ size_of (found_within n us) → found_within n (us ++ x ∷ []) ≡ found_within n us
found_still [] x n some all = ap (λ b. if b then x ∷ found_within (n - x.len) [] else []) (lt-leb x.len n (omega (arith, all, some)))
  where
    lt-leb : (a b : ℕ) → b < a → nat_le a b ≡ false
    lt-leb a b less = by (nat_le a b) refl
      where
        by : (c : Bool) → nat_le a b ≡ c → nat_le a b ≡ false
        by true is = let le = leb-true a b is in absurd (omega (arith, le, less))
        by false is = is
found_still (y ∷ us) x n some all = by (nat_le y.len n) all (found_still us x (n - y.len) some)
  where
    by : (b : Bool) → n ≡ size_of (if b then y ∷ found_within (n - y.len) us else []) → (n - y.len ≡ size_of (found_within (n - y.len) us) → found_within (n - y.len) (us ++ x ∷ []) ≡ found_within (n - y.len) us)
        → (if b then y ∷ found_within (n - y.len) (us ++ x ∷ []) else []) ≡ (if b then y ∷ found_within (n - y.len) us else [])
    by true sum rest = ap (λ zs. y ∷ zs) (rest (omega (arith, sum, sum_by-cons (λ (z : Extent). z.len) y (found_within (n - y.len) us))))
    by false sum rest = refl

-- the rules of the row
noted_rules : (r : TableRow) (x : Extent) → RowRules r → IsExtent x → r.entry.size + (size_of r.unrecorded + x.len) < 2 ^ 64 → AllByRecursion (λ y. y.start + y.len ≤ x.start) r.unrecorded
    → (finds_again r ≡ true → extents_with r.unrecorded x ≡ r.unrecorded ++ x ∷ []) → RowRules (note x r)
noted_rules r x h is fits behind frame = record {
  extents = extents_noted r.unrecorded x is (omega (arith, fits)) h.extents;
  fits = let size = size_noted r.unrecorded x in omega (arith, fits, size);
  ordered = ordered_noted r.unrecorded x h.ordered behind;
  shown = h.shown ∙ ap (λ xs. r.entry.size + size_of xs) (sym (by (finds_again r) frame h.shown));
}
  where
    by : (b : Bool) → (b ≡ true → extents_with r.unrecorded x ≡ r.unrecorded ++ x ∷ []) → r.shown ≡ r.entry.size + size_of (if b then found_within (r.shown - r.entry.size) r.unrecorded else [])
        → (if b then found_within (r.shown - r.entry.size) (extents_with r.unrecorded x) else []) ≡ (if b then found_within (r.shown - r.entry.size) r.unrecorded else [])
    by true last shown =
        ap (found_within (r.shown - r.entry.size)) (last refl)
        ∙ found_still r.unrecorded x (r.shown - r.entry.size) is.1 (omega (arith, shown))
    by false last shown = refl

-- ---- the table

-- rows behind an id aren't changed
untouched : (from id : ℕ) (change : TableRow → TableRow) (rows : List TableRow) → id < from → IdsRise from (entries rows) → on_row id change rows ≡ rows
untouched from id change [] less rise = refl
untouched from id change (q ∷ qs) less rise =
    ap (λ b. (if b then change q else q) ∷ on_row id change qs) (ne_eqb q.entry.id id (λ same. omega (arith, same, less, rise.0)))
    ∙ ap (λ rs. q ∷ rs) (untouched (q.entry.id + 1) id change qs (omega (arith, less, rise.0)) rise.1)

-- the extents of all files, with one more
table_grown : (g : Geometry) (from id : ℕ) (rows : List TableRow) (r : TableRow) (x : Extent) → IdsRise from (entries rows) → row_of id rows ≡ Some r
    → AllByRecursion (λ y. zone_of g y.start ≡ zone_of g x.start) r.unrecorded → Grown g x (all_extents (working_of rows)) (all_extents (working_of (on_row id (note x) rows)))
table_grown g from id [] r x rise is same = absurd cc
table_grown g from id (q ∷ qs) r x rise is same = by (q.entry.id == id) refl is (table_grown g (q.entry.id + 1) id qs r x rise.1)
  where
    by : (b : Bool) → (q.entry.id == id) ≡ b → (if b then Some q else row_of id qs) ≡ Some r
        → (row_of id qs ≡ Some r → AllByRecursion (λ y. zone_of g y.start ≡ zone_of g x.start) r.unrecorded → Grown g x (all_extents (working_of qs)) (all_extents (working_of (on_row id (note x) qs))))
        → Grown g x ((q.entry.extents ++ q.unrecorded) ++ all_extents (working_of qs)) (all_extents (working_of ((if b then note x q else q) ∷ on_row id (note x) qs)))
    by true here found rest =
        let it : q ≡ r = cc in
        let behind : on_row id (note x) qs ≡ qs = untouched (q.entry.id + 1) id (note x) qs (omega (arith, eqb-true q.entry.id id here)) rise.1 in
        let zones : AllByRecursion (λ y. zone_of g y.start ≡ zone_of g x.start) q.unrecorded = subst (λ p. AllByRecursion (λ y. zone_of g y.start ≡ zone_of g x.start) p.unrecorded) (sym it) same in
        subst (λ rs. Grown g x ((q.entry.extents ++ q.unrecorded) ++ all_extents (working_of qs)) ((q.entry.extents ++ extents_with q.unrecorded x) ++ all_extents (working_of rs))) (sym behind)
        (subst (λ xs. Grown g x xs ((q.entry.extents ++ extents_with q.unrecorded x) ++ all_extents (working_of qs))) (sym (append_assoc q.entry.extents q.unrecorded (all_extents (working_of qs))))
        (subst (Grown g x (q.entry.extents ++ (q.unrecorded ++ all_extents (working_of qs)))) (sym (append_assoc q.entry.extents (extents_with q.unrecorded x) (all_extents (working_of qs))))
        (grown_front q.entry.extents (grown_noted g x q.unrecorded (all_extents (working_of qs)) zones))))
    by false other found rest = grown_front (q.entry.extents ++ q.unrecorded) (rest found same)

-- what is true of all extents in memory is true of those of a row, and of all that are recorded
of_row : (P : Extent → Type 0) (id : ℕ) (rows : List TableRow) (r : TableRow) → AllByRecursion P (all_extents (working_of rows)) → row_of id rows ≡ Some r → AllByRecursion P r.unrecorded
of_row P id [] r h is = absurd cc
of_row P id (q ∷ qs) r h is =
    let parts = all_split P (q.entry.extents ++ q.unrecorded) (all_extents (working_of qs)) h in
    by (q.entry.id == id) (all_split P q.entry.extents q.unrecorded parts.0).1 (of_row P id qs r parts.1) is
  where
    by : (b : Bool) → AllByRecursion P q.unrecorded → (row_of id qs ≡ Some r → AllByRecursion P r.unrecorded) → (if b then Some q else row_of id qs) ≡ Some r → AllByRecursion P r.unrecorded
    by true here rest found = let it : q ≡ r = cc in subst (λ p. AllByRecursion P p.unrecorded) it here
    by false here rest found = rest found

pub of_recorded : (P : Extent → Type 0) (rows : List TableRow) → AllByRecursion P (all_extents (working_of rows)) → AllByRecursion P (all_extents (entries rows))
of_recorded P [] h = tt
of_recorded P (q ∷ qs) h =
    let parts = all_split P (q.entry.extents ++ q.unrecorded) (all_extents (working_of qs)) h in
    front q.entry.extents (all_split P q.entry.extents q.unrecorded parts.0).0 (of_recorded P qs parts.1)
  where
    front : (xs : List Extent) → AllByRecursion P xs → AllByRecursion P (all_extents (entries qs)) → AllByRecursion P (xs ++ all_extents (entries qs))
    front [] a b = b
    front (x ∷ xs) a b = (a.0, front xs a.1 b)

-- ---- what is fresh

fresh_noted : (g : Geometry) (zones : List ZoneDescriptor) (es : Table) (id : ℕ) (us : List Extent) (x : Extent) → IsFresh g zones es id x → AllByRecursion (IsFresh g zones es id) us
    → AllByRecursion (IsFresh g zones es id) (extents_with us x)
fresh_noted g zones es id [] x is h = (is, tt)
fresh_noted g zones es id (y ∷ []) x is h = by (y.start + y.len == x.start)
  where
    by : (b : Bool) → AllByRecursion (IsFresh g zones es id) (if b then (record y { len = y.len + x.len }) ∷ [] else y ∷ x ∷ [])
    by true = (record { owner = h.0.owner; behind = h.0.behind }, tt)
    by false = (h.0, (is, tt))
fresh_noted g zones es id (y ∷ z ∷ zs) x is h = (h.0, fresh_noted g zones es id (z ∷ zs) x is h.1)

pub note_keeps_rules : NoteKeepsRules
note_keeps_rules s r x h is may =
    let id = r.entry.id in
    let g = s.geometry in
    let after = on_row id (note x) s.rows in
    let same : entries after ≡ entries s.rows = note_records_nothing s.rows id x in
    let only = only_row 0 id s.rows r h.valid.table.ids is in
    let fresh = at_row (λ q. AllByRecursion (IsFresh g s.zones (entries s.rows) q.entry.id) q.unrecorded) id s.rows r h.fresh is in
    let zones : AllByRecursion (λ y. zone_of g y.start ≡ zone_of g x.start) r.unrecorded =
    all_weaker (IsFresh g s.zones (entries s.rows) id) (λ y. zone_of g y.start ≡ zone_of g x.start) r.unrecorded
    (λ y it. h.owners.only id (zone_of g y.start) (zone_of g x.start) it.owner may.owner) fresh in
    let before : AllByRecursion (λ y. y.start + y.len ≤ x.start) r.unrecorded =
    apply_zones g x r.unrecorded zones (of_row (λ y. zone_of g y.start ≡ zone_of g x.start → y.start + y.len ≤ x.start) id s.rows r may.behind is) in
    let grown = table_grown g 0 id s.rows r x h.valid.table.ids is zones in
    let row : RowRules (note x r) = noted_rules r x (at_row RowRules id s.rows r h.files.each is) may.spelled may.fits before may.frame in
    let new : IsFresh g s.zones (entries s.rows) id x = record {
      owner = may.owner;
      behind = of_recorded (λ y. zone_of g y.start ≡ zone_of g x.start → y.start + y.len ≤ x.start) s.rows may.behind;
    } in
    rows_keep s after h
    (record { table = subst IsTable (sym same) h.valid.table; sized = subst AreSized (sym same) h.valid.sized })
    (subst (AllByRecursion IsWritable) (sym same) h.writable)
    (record {
      each =
          each_row (λ q. RowRules q × (q.entry.id ≡ id → q ≡ r)) RowRules id (note x) s.rows
          (λ q at rules. subst (λ p. RowRules (note x p)) (sym (rules.1 at)) row) (λ q other rules. rules.0)
          (both_rows RowRules (λ q. q.entry.id ≡ id → q ≡ r) s.rows h.files.each only);
      ids = each_row (λ q. q.entry.id ≤ s.greatest) (λ q. q.entry.id ≤ s.greatest) id (note x) s.rows (λ q at low. low) (λ q other low. low) h.files.ids;
      lie = lie_grown grown may.lies h.files.lie;
      apart =
          apart_grown grown (behind_all g x (all_extents (working_of s.rows)) h.device.valid may.lies h.files.lie may.behind)
          (all_weaker (LiesInZone g) (λ y. 0 < y.len) (all_extents (working_of s.rows)) (λ y it. it.some) h.files.lie) h.files.apart;
    })
    (subst (λ es. FreshRules g s.zones es after) (sym same)
    (each_row (λ q. AllByRecursion (IsFresh g s.zones (entries s.rows) q.entry.id) q.unrecorded × (q.entry.id ≡ id → q ≡ r))
    (λ q. AllByRecursion (IsFresh g s.zones (entries s.rows) q.entry.id) q.unrecorded) id (note x) s.rows
    (λ q at it. subst (λ n. AllByRecursion (IsFresh g s.zones (entries s.rows) n) (extents_with q.unrecorded x)) (sym at)
    (fresh_noted g s.zones (entries s.rows) id q.unrecorded x new (subst (λ n. AllByRecursion (IsFresh g s.zones (entries s.rows) n) q.unrecorded) at it.0)))
    (λ q other it. it.0)
    (both_rows (λ q. AllByRecursion (IsFresh g s.zones (entries s.rows) q.entry.id) q.unrecorded) (λ q. q.entry.id ≡ id → q ≡ r) s.rows h.fresh only)))
  where
    apply_zones : (g : Geometry) (x : Extent) (us : List Extent) → AllByRecursion (λ y. zone_of g y.start ≡ zone_of g x.start) us
        → AllByRecursion (λ y. zone_of g y.start ≡ zone_of g x.start → y.start + y.len ≤ x.start) us → AllByRecursion (λ y. y.start + y.len ≤ x.start) us
    apply_zones g x [] zones h = tt
    apply_zones g x (y ∷ ys) zones h = (h.0 zones.0, apply_zones g x ys zones.1 h.1)
