-- Zones into which extents are entered.
use Rattle.std.proofs.Common.{◌≡◌, ◌≢◌, ℕ, zero, suc, ◌+◌, ◌*◌, ◌-◌, ◌/◌, ◌<◌, ◌≤◌, Bool, true, false, cond, List, [], ◌∷◌, ◌++◌, length, take, nat_lt, get_or, set, sum_by, Option, Some, None, refl, sym, ◌∙◌, ap, subst, arith, append-nil, append_assoc}
use Rattle.std.specs.Prelude.{◌==◌, IsTrue}
use Rattle.std.specs.List.{All}
use Rattle.std.proofs.Math.Nat.{mul-le-mul_left, div-lt_iff_lt-mul}
use Rattle.std.proofs.lemmas.Bool.{eqb-true, eqb-false}
use Rattle.std.proofs.lemmas.List.Elements.{All-head, All-tail}
use Rattle.std.proofs.lemmas.List.Sums.{sum_by-cons, sum_by-append, sum_by-set, sum_by_push}
use Rattle.zone_image.specs.declared.Geometry.{Geometry}
use Rattle.zone_image.specs.Image.{zone_of}
use Rattle.zone_image.specs.Changes.{change_at}
use Rattle.zone_image.proofs.ImageLaws.{change_at_is, length-change_at, All-change_at}
use Rattle.record_model.specs.declared.types.Extent.{Extent}
use Rattle.record_model.specs.declared.types.FileEntry.{FileEntry}
use Rattle.log_model.specs.FileTable.{Table, size_of}
use Rattle.log_model.specs.Mounted.{all_extents}
use Rattle.fs_model.specs.declared.zones.ZoneState.{ZoneState}
use Rattle.fs_model.specs.FsState.{touched}
use Rattle.fs_model.specs.ZonePolicy.{is_idle}
use Rattle.zone_alloc.specs.ZoneTableState.{ZoneTableState, no_state, live_added, live_blocks, live_bytes, with_state, with_hint, IsInDataZone}
use Rattle.mount_replay.specs.Filling.{start_of, lowered, entered, ZoneMark, mark_at, marked, marked_all, marked_files, AreMarks, Entered}

-- the item that was changed
pub at_change : {A : Type 0} (k : ℕ) (f : A → A) (xs : List A) (d : A) → k < length xs → get_or (change_at k f xs) k d ≡ f (get_or xs k d)
at_change k f [] d lt = absurd (omega arith)
at_change zero f (x ∷ xs) d lt = refl
at_change (suc k) f (x ∷ xs) d lt = at_change k f xs d (omega arith)

-- another one
pub at_other : {A : Type 0} (k n : ℕ) (f : A → A) (xs : List A) (d : A) → k ≢ n → get_or (change_at k f xs) n d ≡ get_or xs n d
at_other k n f [] d other = refl
at_other zero zero f (x ∷ xs) d other = absurd (other refl)
at_other zero (suc n) f (x ∷ xs) d other = refl
at_other (suc k) zero f (x ∷ xs) d other = refl
at_other (suc k) (suc n) f (x ∷ xs) d other = at_other k n f xs d (λ same. other (ap suc same))

-- two changes of one item
pub change_twice : {A : Type 0} (k : ℕ) (f h : A → A) (xs : List A) → change_at k h (change_at k f xs) ≡ change_at k (λ x. h (f x)) xs
change_twice k f h [] = refl
change_twice zero f h (x ∷ xs) = refl
change_twice (suc k) f h (x ∷ xs) = ap (λ l. x ∷ l) (change_twice k f h xs)

-- a sum after a change that adds so much
pub sum_change : (f : ZoneState → ℕ) (k a : ℕ) (h : ZoneState → ZoneState) (zs : List ZoneState) → k < length zs → f (h (get_or zs k no_state)) ≡ f (get_or zs k no_state) + a
    → sum_by f (change_at k h zs) ≡ sum_by f zs + a
sum_change f k a h zs lt adds =
    let changed : sum_by f (change_at k h zs) ≡ sum_by f (set zs k (h (get_or zs k no_state))) = ap (sum_by f) (change_at_is k h zs no_state lt) in
    omega (arith, changed, sum_by-set f zs k (h (get_or zs k no_state)) no_state lt, adds)

-- the lowest start, with one more
start_lowered : (s : ℕ) (o : Option ℕ) (c : Bool) → start_of (cond c (Some s) o) ≡ cond c s (start_of o)
start_lowered s o true = refl
start_lowered s o false = refl

-- one extent
pub extent_entered : (g : Geometry) (hint : ℕ) (x : Extent) (starts more : List (Option ℕ)) (t u : ZoneTableState) → AreMarks g starts t → IsInDataZone g x
    → more ≡ change_at (zone_of g x.start) (lowered x.start) starts
    → u ≡ with_state t (zone_of g x.start) (entered g.block hint x (start_of (get_or starts (zone_of g x.start) None)))
    → Entered g (λ n m. marked g n hint x m) (touched g.block x) x.len starts t more u
extent_entered g hint x starts more t u marks lies lows zones = record {
  marks = record {
    same = ap (λ (s : ZoneTableState). s.geometry) zones ∙ marks.same;
    all_zones = ap (λ (s : ZoneTableState). length s.zones) zones ∙ length-change_at k h t.zones ∙ marks.all_zones;
    all_starts = ap length lows ∙ length-change_at k (lowered x.start) starts ∙ marks.all_starts;
    idle = subst (λ (s : ZoneTableState). All (λ (z : ZoneState). IsTrue (is_idle z)) s.zones) (sym zones) (All-change_at (λ (z : ZoneState). IsTrue (is_idle z)) k h t.zones no_state in_zones (λ is. is) marks.idle);
  };
  collect = ap (λ (s : ZoneTableState). s.collect) zones;
  each = λ n below.
      ap (λ (s : ZoneTableState). mark_at more s.zones n) zones ∙ ap (λ (l : List (Option ℕ)). mark_at l (change_at k h t.zones) n) lows ∙ go n (k == n) refl;
  blocks = ap (λ (s : ZoneTableState). live_blocks s.zones) zones ∙ sum_change (λ (z : ZoneState). z.live) k (touched g.block x) h t.zones in_zones refl;
  bytes = ap (λ (s : ZoneTableState). live_bytes s.zones) zones ∙ sum_change (λ (z : ZoneState). z.live_bytes) k x.len h t.zones in_zones refl;
}
  where
    k : ℕ
    k = zone_of g x.start

    h : ZoneState → ZoneState
    h = entered g.block hint x (start_of (get_or starts k None))

    in_zones : k < length t.zones
    in_zones = omega (arith, lies.is_zone, marks.all_zones)

    in_starts : k < length starts
    in_starts = omega (arith, lies.is_zone, marks.all_starts)

    mark_of : ℕ → ZoneState → ZoneMark
    mark_of start state = record { start = start; state = state }

    here : mark_at (change_at k (lowered x.start) starts) (change_at k h t.zones) k
        ≡ mark_of (cond (nat_lt x.start (start_of (get_or starts k None))) x.start (start_of (get_or starts k None))) (h (get_or t.zones k no_state))
    here =
        ap (λ (o : Option ℕ). mark_of (start_of o) (get_or (change_at k h t.zones) k no_state)) (at_change k (lowered x.start) starts None in_starts)
        ∙ ap (λ (z : ZoneState). mark_of (start_of (lowered x.start (get_or starts k None))) z) (at_change k h t.zones no_state in_zones)
        ∙ ap (λ (s : ℕ). mark_of s (h (get_or t.zones k no_state))) (start_lowered x.start (get_or starts k None) (nat_lt x.start (start_of (get_or starts k None))))

    go : (n : ℕ) (c : Bool) → (k == n) ≡ c → mark_at (change_at k (lowered x.start) starts) (change_at k h t.zones) n
        ≡ cond c (mark_of (cond (nat_lt x.start (start_of (get_or starts n None))) x.start (start_of (get_or starts n None))) (entered g.block hint x (start_of (get_or starts n None)) (get_or t.zones n no_state))) (mark_at starts t.zones n)
    go n true is =
        subst (λ (m : ℕ). mark_at (change_at k (lowered x.start) starts) (change_at k h t.zones) m
        ≡ mark_of (cond (nat_lt x.start (start_of (get_or starts m None))) x.start (start_of (get_or starts m None))) (entered g.block hint x (start_of (get_or starts m None)) (get_or t.zones m no_state))) (eqb-true k n is) here
    go n false is =
        ap (λ (o : Option ℕ). mark_of (start_of o) (get_or (change_at k h t.zones) n no_state)) (at_other k n (lowered x.start) starts None (eqb-false k n is))
        ∙ ap (λ (z : ZoneState). mark_of (start_of (get_or starts n None)) z) (at_other k n h t.zones no_state (eqb-false k n is))

-- a change that changes nothing
change_nothing : {A : Type 0} (k : ℕ) (f : A → A) (xs : List A) (d : A) → f (get_or xs k d) ≡ get_or xs k d → change_at k f xs ≡ xs
change_nothing k f [] d same = refl
change_nothing zero f (x ∷ xs) d same = ap (λ y. y ∷ xs) same
change_nothing (suc k) f (x ∷ xs) d same = ap (λ l. x ∷ l) (change_nothing k f xs d same)

-- a start that isn't lower
pub not_lowered : (s k zone : ℕ) (starts : List (Option ℕ)) → k ≡ zone → nat_lt s (start_of (get_or starts k None)) ≡ false → starts ≡ change_at zone (lowered s) starts
not_lowered s k zone starts same test =
    sym (change_nothing k (lowered s) starts None (ap (λ b. cond b (Some s) (get_or starts k None)) test)) ∙ ap (λ n. change_at n (lowered s) starts) same

-- a start that is lower
pub is_lowered : (s k zone : ℕ) (starts : List (Option ℕ)) → k ≡ zone → k < length starts → nat_lt s (start_of (get_or starts k None)) ≡ true → set starts k (Some s) ≡ change_at zone (lowered s) starts
is_lowered s k zone starts same lt test =
    ap (set starts k) (sym (ap (λ b. cond b (Some s) (get_or starts k None)) test)) ∙ sym (change_at_is k (lowered s) starts None lt) ∙ ap (λ n. change_at n (lowered s) starts) same

-- what is live changes no owner
pub idle_still : (g : Geometry) (starts : List (Option ℕ)) (t u : ZoneTableState) (x : Extent) (k : ℕ) → AreMarks g starts t → k ≡ zone_of g x.start → k < g.zones
    → u ≡ with_state t (zone_of t.geometry x.start) (live_added t.geometry.block x) → IsTrue (is_idle (get_or u.zones k no_state))
idle_still g starts t u x k marks same lt is =
    let f : ZoneState → ZoneState = live_added t.geometry.block x in
    let at : zone_of t.geometry x.start ≡ k = ap (λ (h : Geometry). zone_of h x.start) marks.same ∙ sym same in
    let within : k < length t.zones = omega (arith, marks.all_zones, lt) in
    let made : u ≡ with_state t k f = is ∙ ap (λ n. with_state t n f) at in
    let all : All (λ (z : ZoneState). IsTrue (is_idle z)) (change_at k f t.zones) = All-change_at (λ (z : ZoneState). IsTrue (is_idle z)) k f t.zones no_state within (λ it. it) marks.idle in
    subst (λ (s : ZoneTableState). IsTrue (is_idle (get_or s.zones k no_state))) (sym made) (all k no_state (omega (arith, length-change_at k f t.zones, within)))

-- a live extent that gives its zone a hint
pub lower_entered : (g : Geometry) (hint : ℕ) (x : Extent) (starts : List (Option ℕ)) (t u v : ZoneTableState) (k : ℕ) → AreMarks g starts t → k ≡ zone_of g x.start
    → nat_lt x.start (start_of (get_or starts k None)) ≡ true → u ≡ with_state t (zone_of t.geometry x.start) (live_added t.geometry.block x) → v ≡ with_state u k (with_hint hint)
    → v ≡ with_state t (zone_of g x.start) (entered g.block hint x (start_of (get_or starts (zone_of g x.start) None)))
lower_entered g hint x starts t u v k marks same test live hinted =
    let f : ZoneState → ZoneState = live_added g.block x in
    let made : u ≡ with_state t k f =
    live ∙ ap (λ (h : Geometry). with_state t (zone_of h x.start) (live_added h.block x)) marks.same ∙ ap (λ n. with_state t n f) (sym same) in
    hinted
    ∙ ap (λ (s : ZoneTableState). with_state s k (with_hint hint)) made
    ∙ ap (λ (zs : List ZoneState). record t { zones = zs }) (change_twice k f (with_hint hint) t.zones)
    ∙ ap (λ b. with_state t k (λ s. record (live_added g.block x s) { hint = cond b hint s.hint })) (sym test)
    ∙ ap (λ n. with_state t n (entered g.block hint x (start_of (get_or starts n None)))) same

-- extents that are entered after others
pub entered_then : (g : Geometry) (f h : ℕ → ZoneMark → ZoneMark) (a b c d : ℕ) (s0 s1 s2 : List (Option ℕ)) (t0 t1 t2 : ZoneTableState) → Entered g f a b s0 t0 s1 t1 → Entered g h c d s1 t1 s2 t2
    → Entered g (λ n m. h n (f n m)) (a + c) (b + d) s0 t0 s2 t2
entered_then g f h a b c d s0 s1 s2 t0 t1 t2 first second = record {
  marks = second.marks;
  collect = second.collect ∙ first.collect;
  each = λ n below. second.each n below ∙ ap (h n) (first.each n below);
  blocks = omega (arith, first.blocks, second.blocks);
  bytes = omega (arith, first.bytes, second.bytes);
}

-- the same, by another name
pub entered_as : (g : Geometry) (f h : ℕ → ZoneMark → ZoneMark) (a b c d : ℕ) (s0 s1 : List (Option ℕ)) (t0 t1 : ZoneTableState) → ((n : ℕ) (m : ZoneMark) → f n m ≡ h n m) → a ≡ c → b ≡ d
    → Entered g f a b s0 t0 s1 t1 → Entered g h c d s0 t0 s1 t1
entered_as g f h a b c d s0 s1 t0 t1 steps blocks bytes e = record {
  marks = e.marks;
  collect = e.collect;
  each = λ n below. e.each n below ∙ steps n (mark_at s0 t0.zones n);
  blocks = omega (arith, e.blocks, blocks);
  bytes = omega (arith, e.bytes, bytes);
}

-- nothing is entered yet
pub none_entered : (g : Geometry) (f : ℕ → ZoneMark → ZoneMark) (a b : ℕ) (s : List (Option ℕ)) (t : ZoneTableState) → AreMarks g s t → ((n : ℕ) (m : ZoneMark) → m ≡ f n m) → a ≡ 0 → b ≡ 0 → Entered g f a b s t s t
none_entered g f a b s t marks same blocks bytes = record {
  marks = marks;
  collect = refl;
  each = λ n below. same n (mark_at s t.zones n);
  blocks = omega (arith, blocks);
  bytes = omega (arith, bytes);
}

-- one extent behind others
all_pushed : (g : Geometry) (n hint : ℕ) (xs : List Extent) (x : Extent) (m : ZoneMark) → marked g n hint x (marked_all g n hint xs m) ≡ marked_all g n hint (xs ++ x ∷ []) m
all_pushed g n hint [] x m = refl
all_pushed g n hint (y ∷ xs) x m = all_pushed g n hint xs x (marked g n hint y m)

-- one file behind others
files_pushed : (g : Geometry) (n : ℕ) (es : Table) (e : FileEntry) (m : ZoneMark) → marked_all g n e.hint e.extents (marked_files g n es m) ≡ marked_files g n (es ++ e ∷ []) m
files_pushed g n [] e m = refl
files_pushed g n (f ∷ es) e m = files_pushed g n es e (marked_all g n f.hint f.extents m)

pub extents_push : (es : Table) (e : FileEntry) → all_extents (es ++ e ∷ []) ≡ all_extents es ++ e.extents
extents_push [] e = append-nil e.extents
extents_push (f ∷ es) e = ap (λ (xs : List Extent). f.extents ++ xs) (extents_push es e) ∙ sym (append_assoc f.extents (all_extents es) e.extents)

-- the next extent of a list
pub extent_more : (g : Geometry) (hint : ℕ) (xs : List Extent) (i : ℕ) (x : Extent) (s0 s1 s2 : List (Option ℕ)) (t0 t1 t2 : ZoneTableState) → take (i + 1) xs ≡ take i xs ++ x ∷ []
    → Entered g (λ n m. marked_all g n hint (take i xs) m) (sum_by (touched g.block) (take i xs)) (size_of (take i xs)) s0 t0 s1 t1
    → Entered g (λ n m. marked g n hint x m) (touched g.block x) x.len s1 t1 s2 t2
    → Entered g (λ n m. marked_all g n hint (take (i + 1) xs) m) (sum_by (touched g.block) (take (i + 1) xs)) (size_of (take (i + 1) xs)) s0 t0 s2 t2
extent_more g hint xs i x s0 s1 s2 t0 t1 t2 more first second =
    let f : ℕ → ZoneMark → ZoneMark = λ n m. marked_all g n hint (take i xs) m in
    let h : ℕ → ZoneMark → ZoneMark = λ n m. marked g n hint x m in
    let all : ℕ → ZoneMark → ZoneMark = λ n m. marked_all g n hint (take (i + 1) xs) m in
    entered_as g (λ n m. h n (f n m)) all (sum_by (touched g.block) (take i xs) + touched g.block x) (size_of (take i xs) + x.len) (sum_by (touched g.block) (take (i + 1) xs)) (size_of (take (i + 1) xs)) s0 s2 t0 t2
    (λ n m. all_pushed g n hint (take i xs) x m ∙ ap (λ (l : List Extent). marked_all g n hint l m) (sym more))
    (sym (ap (sum_by (touched g.block)) more ∙ sum_by_push (touched g.block) (take i xs) x))
    (sym (ap size_of more ∙ sum_by_push (λ (y : Extent). y.len) (take i xs) x))
    (entered_then g f h (sum_by (touched g.block) (take i xs)) (size_of (take i xs)) (touched g.block x) x.len s0 s1 s2 t0 t1 t2 first second)

-- the next file of a table
pub file_more : (g : Geometry) (es : Table) (i : ℕ) (e : FileEntry) (s0 s1 s2 : List (Option ℕ)) (t0 t1 t2 : ZoneTableState) → take (i + 1) es ≡ take i es ++ e ∷ []
    → Entered g (λ n m. marked_files g n (take i es) m) (sum_by (touched g.block) (all_extents (take i es))) (size_of (all_extents (take i es))) s0 t0 s1 t1
    → Entered g (λ n m. marked_all g n e.hint e.extents m) (sum_by (touched g.block) e.extents) (size_of e.extents) s1 t1 s2 t2
    → Entered g (λ n m. marked_files g n (take (i + 1) es) m) (sum_by (touched g.block) (all_extents (take (i + 1) es))) (size_of (all_extents (take (i + 1) es))) s0 t0 s2 t2
file_more g es i e s0 s1 s2 t0 t1 t2 more first second =
    let f : ℕ → ZoneMark → ZoneMark = λ n m. marked_files g n (take i es) m in
    let h : ℕ → ZoneMark → ZoneMark = λ n m. marked_all g n e.hint e.extents m in
    let all : ℕ → ZoneMark → ZoneMark = λ n m. marked_files g n (take (i + 1) es) m in
    let joined : (w : Extent → ℕ) → sum_by w (all_extents (take i es)) + sum_by w e.extents ≡ sum_by w (all_extents (take (i + 1) es)) =
    λ w. sym (ap (λ (l : Table). sum_by w (all_extents l)) more ∙ ap (sum_by w) (extents_push (take i es) e) ∙ sum_by-append w (all_extents (take i es)) e.extents) in
    entered_as g (λ n m. h n (f n m)) all (sum_by (touched g.block) (all_extents (take i es)) + sum_by (touched g.block) e.extents) (size_of (all_extents (take i es)) + size_of e.extents)
    (sum_by (touched g.block) (all_extents (take (i + 1) es))) (size_of (all_extents (take (i + 1) es))) s0 s2 t0 t2
    (λ n m. files_pushed g n (take i es) e m ∙ ap (λ (l : Table). marked_files g n l m) (sym more))
    (joined (touched g.block)) (joined (λ (y : Extent). y.len))
    (entered_then g f h (sum_by (touched g.block) (all_extents (take i es))) (size_of (all_extents (take i es))) (sum_by (touched g.block) e.extents) (size_of e.extents) s0 s1 s2 t0 t1 t2 first second)

-- ---- an extent touches no more blocks than it has bytes

div_grows : (s k b : ℕ) → 0 < b → (s + k) / b ≤ s / b + k
div_grows s k b some =
    let q : ℕ = s / b in
    let before : s < suc q * b = (div-lt_iff_lt-mul some).0 (omega arith) in
    let grown : k ≤ k * b = go k b some in
    let sum : (suc q + k) * b ≡ suc q * b + k * b = grind (arith) in
    let within : (s + k) / b < suc q + k = (div-lt_iff_lt-mul some).1 (omega (arith, before, grown, sum)) in
    omega (arith, within)
  where
    go : (k b : ℕ) → 0 < b → k ≤ k * b
    go k b some = omega (arith, mul-le-mul_left k some)

touched_le : (g : Geometry) (x : Extent) → 0 < g.block → 0 < x.len → touched g.block x ≤ x.len
touched_le g x block some =
    let same : x.start + x.len - 1 ≡ x.start + (x.len - 1) = omega arith in
    let ends : (x.start + x.len - 1) / g.block ≡ (x.start + (x.len - 1)) / g.block = ap (λ (n : ℕ). n / g.block) same in
    omega (arith, ends, div_grows x.start (x.len - 1) g.block block)

pub touched_sum : (g : Geometry) (xs : List Extent) → 0 < g.block → All (IsInDataZone g) xs → sum_by (touched g.block) xs ≤ size_of xs
touched_sum g [] block all = omega arith
touched_sum g (x ∷ xs) block all =
    omega (arith, sum_by-cons (touched g.block) x xs, sum_by-cons (λ (y : Extent). y.len) x xs, touched_le g x block (All-head (IsInDataZone g) x xs all).some, touched_sum g xs block (All-tail (IsInDataZone g) x xs all))
