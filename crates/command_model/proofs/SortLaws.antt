-- Sorting files by their names.
use Rattle.std.specs.Prelude.{◌≡◌, ◌≢◌, ⊤, Bool, true, false, List, [], ◌∷◌, map, filter, refl, if◌then◌else◌}
use Rattle.std.specs.List.{AllByRecursion}
use Rattle.std.proofs.Common.{sym, ◌∙◌, ap}
use Rattle.command_model.specs.TreeCommands.{RestoreFile}
use Rattle.command_model.specs.Backup.{is_before, insert_file, in_order}
use Rattle.command_model.proofs.ByteOrder.{before_then, before_or_after}

-- a file before each of these
abbrev pub IsBeforeAll : RestoreFile → List RestoreFile → Type 0
IsBeforeAll f gs = AllByRecursion (λ g. is_before f.name g.name ≡ true) gs

-- a file of another name than each of these
abbrev pub IsNew : RestoreFile → List RestoreFile → Type 0
IsNew f gs = AllByRecursion (λ g. f.name ≢ g.name) gs

-- each file before all that follow it
abbrev pub IsOrdered : List RestoreFile → Type 0
IsOrdered [] = ⊤
IsOrdered (g ∷ gs) = IsBeforeAll g gs × IsOrdered gs

-- files of different names
abbrev pub HasDistinctNames : List RestoreFile → Type 0
HasDistinctNames [] = ⊤
HasDistinctNames (g ∷ gs) = IsNew g gs × HasDistinctNames gs

-- what holds of a file and of others holds of them with the file among them
all_choice : (P : RestoreFile → Type 0) (b : Bool) (f g : RestoreFile) (gs with_f : List RestoreFile) → P f → P g → AllByRecursion P gs → AllByRecursion P with_f
    → AllByRecursion P (if b then f ∷ g ∷ gs else g ∷ with_f)
all_choice P true f g gs with_f a b c d = (a, (b, c))
all_choice P false f g gs with_f a b c d = (b, d)

-- the same for a sorted insert
all_insert : (P : RestoreFile → Type 0) (f : RestoreFile) (gs : List RestoreFile) → P f → AllByRecursion P gs → AllByRecursion P (insert_file f gs)
all_insert P f [] a h = (a, tt)
all_insert P f (g ∷ gs) a h = all_choice P (is_before f.name g.name) f g gs (insert_file f gs) a h.0 h.1 (all_insert P f gs a h.1)

-- what holds of each file holds of each of them sorted
pub all_in_order : (P : RestoreFile → Type 0) (fs : List RestoreFile) → AllByRecursion P fs → AllByRecursion P (in_order fs)
all_in_order P [] h = tt
all_in_order P (f ∷ fs) h = all_insert P f (in_order fs) h.0 (all_in_order P fs h.1)

-- a file before the first of sorted ones is before all
before_all : (f g : RestoreFile) (gs : List RestoreFile) → is_before f.name g.name ≡ true → IsBeforeAll g gs → IsBeforeAll f gs
before_all f g [] first h = tt
before_all f g (k ∷ ks) first h = (before_then f.name g.name k.name first h.0, before_all f g ks first h.1)

-- one of two places for a new file
insert_choice : (b : Bool) (f g : RestoreFile) (gs with_f : List RestoreFile) → is_before f.name g.name ≡ b → IsBeforeAll g gs → IsOrdered gs
    → (is_before f.name g.name ≡ false → IsBeforeAll g with_f) → IsOrdered with_f → IsOrdered (if b then f ∷ g ∷ gs else g ∷ with_f)
insert_choice true f g gs with_f is first rest a b = ((is, before_all f g gs is first), (first, rest))
insert_choice false f g gs with_f is first rest a b = (a is, b)

-- a new file into sorted ones
ordered_insert : (f : RestoreFile) (gs : List RestoreFile) → IsNew f gs → IsOrdered gs → IsOrdered (insert_file f gs)
ordered_insert f [] new h = (tt, tt)
ordered_insert f (g ∷ gs) new h =
    insert_choice (is_before f.name g.name) f g gs (insert_file f gs) refl h.0 h.1
    (λ no_order. all_insert (λ k. is_before g.name k.name ≡ true) f gs (before_or_after f.name g.name new.0 no_order) h.0) (ordered_insert f gs new.1 h.1)

-- files of different names are sorted strictly
pub ordered_in_order : (fs : List RestoreFile) → HasDistinctNames fs → IsOrdered (in_order fs)
ordered_in_order [] h = tt
ordered_in_order (f ∷ fs) h = ordered_insert f (in_order fs) (all_in_order (λ g. f.name ≢ g.name) fs h.0) (ordered_in_order fs h.1)

-- a file before all goes to the front
insert_front : (f : RestoreFile) (gs : List RestoreFile) → IsBeforeAll f gs → insert_file f gs ≡ f ∷ gs
insert_front f [] h = refl
insert_front f (g ∷ gs) h = ap (λ b. if b then f ∷ g ∷ gs else g ∷ insert_file f gs) h.0

-- sorted files stay as they are
pub sorted_again : (fs : List RestoreFile) → IsOrdered fs → in_order fs ≡ fs
sorted_again [] h = refl
sorted_again (f ∷ fs) h = ap (λ gs. insert_file f gs) (sorted_again fs h.1) ∙ insert_front f fs h.0

-- what holds of each holds of those that pass a test
passing_choice : (P : RestoreFile → Type 0) (b : Bool) (f : RestoreFile) (gs : List RestoreFile) → P f → AllByRecursion P gs → AllByRecursion P (if b then f ∷ gs else gs)
passing_choice P true f gs a h = (a, h)
passing_choice P false f gs a h = h

-- so does a filter
pub all_passing : (P : RestoreFile → Type 0) (test : RestoreFile → Bool) (fs : List RestoreFile) → AllByRecursion P fs → AllByRecursion P (filter test fs)
all_passing P test [] h = tt
all_passing P test (f ∷ fs) h = passing_choice P (test f) f (filter test fs) h.0 (all_passing P test fs h.1)

-- a filter after an insert, where the file comes first
filter_first : (keeps : Bool) (f : RestoreFile) (kept : List RestoreFile) → IsBeforeAll f kept → (if keeps then f ∷ kept else kept) ≡ (if keeps then insert_file f kept else kept)
filter_first true f kept h = sym (insert_front f kept h)
filter_first false f kept h = refl

-- and where it comes later
filter_later : (keeps keeps_g : Bool) (f g : RestoreFile) (with_f kept : List RestoreFile) → is_before f.name g.name ≡ false
    → with_f ≡ (if keeps then insert_file f kept else kept)
    → (if keeps_g then g ∷ with_f else with_f) ≡ (if keeps then insert_file f (if keeps_g then g ∷ kept else kept) else (if keeps_g then g ∷ kept else kept))
filter_later true true f g with_f kept later is = ap (λ gs. g ∷ gs) is ∙ sym (ap (λ b. if b then f ∷ g ∷ kept else g ∷ insert_file f kept) later)
filter_later true false f g with_f kept later is = is
filter_later false true f g with_f kept later is = ap (λ gs. g ∷ gs) is
filter_later false false f g with_f kept later is = is

-- a filter of sorted files with one more
filter_choice : (test : RestoreFile → Bool) (b : Bool) (f g : RestoreFile) (gs : List RestoreFile) → is_before f.name g.name ≡ b → IsBeforeAll g gs
    → filter test (insert_file f gs) ≡ (if test f then insert_file f (filter test gs) else filter test gs)
    → filter test (if b then f ∷ g ∷ gs else g ∷ insert_file f gs) ≡ (if test f then insert_file f (filter test (g ∷ gs)) else filter test (g ∷ gs))
filter_choice test true f g gs is first later =
    filter_first (test f) f (filter test (g ∷ gs)) (all_passing (λ k. is_before f.name k.name ≡ true) test (g ∷ gs) (is, before_all f g gs is first))
filter_choice test false f g gs is first later = filter_later (test f) (test g) f g (filter test (insert_file f gs)) (filter test gs) is later

-- a filter of an insert
filter_insert : (test : RestoreFile → Bool) (f : RestoreFile) (gs : List RestoreFile) → IsOrdered gs
    → filter test (insert_file f gs) ≡ (if test f then insert_file f (filter test gs) else filter test gs)
filter_insert test f [] h = refl
filter_insert test f (g ∷ gs) h = filter_choice test (is_before f.name g.name) f g gs refl h.0 (filter_insert test f gs h.1)

-- one file more or not
one_more : (b : Bool) (f : RestoreFile) (fs : List RestoreFile) → (if b then insert_file f (in_order fs) else in_order fs) ≡ in_order (if b then f ∷ fs else fs)
one_more true f fs = refl
one_more false f fs = refl

-- to sort and to filter may be done in either order
pub filter_in_order : (test : RestoreFile → Bool) (fs : List RestoreFile) → HasDistinctNames fs → filter test (in_order fs) ≡ in_order (filter test fs)
filter_in_order test [] h = refl
filter_in_order test (f ∷ fs) h =
    filter_insert test f (in_order fs) (ordered_in_order fs h.1)
    ∙ ap (λ gs. if test f then insert_file f gs else gs) (filter_in_order test fs h.1) ∙ one_more (test f) f (filter test fs)

-- a change of names that keeps their order, one of two places
map_choice : (h : RestoreFile → RestoreFile) (b c : Bool) (f g : RestoreFile) (gs : List RestoreFile) → c ≡ b → map h (insert_file f gs) ≡ insert_file (h f) (map h gs)
    → map h (if b then f ∷ g ∷ gs else g ∷ insert_file f gs) ≡ (if c then h f ∷ h g ∷ map h gs else h g ∷ insert_file (h f) (map h gs))
map_choice h true c f g gs same later = sym (ap (λ x. if x then h f ∷ h g ∷ map h gs else h g ∷ insert_file (h f) (map h gs)) same)
map_choice h false c f g gs same later = ap (λ ks. h g ∷ ks) later ∙ sym (ap (λ x. if x then h f ∷ h g ∷ map h gs else h g ∷ insert_file (h f) (map h gs)) same)

-- of an insert
map_insert : (h : RestoreFile → RestoreFile) → ((f g : RestoreFile) → is_before (h f).name (h g).name ≡ is_before f.name g.name)
    → (f : RestoreFile) (gs : List RestoreFile) → map h (insert_file f gs) ≡ insert_file (h f) (map h gs)
map_insert h same f [] = refl
map_insert h same f (g ∷ gs) = map_choice h (is_before f.name g.name) (is_before (h f).name (h g).name) f g gs (same f g) (map_insert h same f gs)

-- to sort and to change names in a way that keeps their order may be done in either order
pub map_in_order : (h : RestoreFile → RestoreFile) → ((f g : RestoreFile) → is_before (h f).name (h g).name ≡ is_before f.name g.name)
    → (fs : List RestoreFile) → map h (in_order fs) ≡ in_order (map h fs)
map_in_order h same [] = refl
map_in_order h same (f ∷ fs) = map_insert h same f (in_order fs) ∙ ap (λ gs. insert_file (h f) gs) (map_in_order h same fs)
