-- Names that an entry may have, and the entry under other ones.
use Rattle.std.specs.Prelude.{◌≡◌, ◌≢◌, ℕ, ◌<◌, Bool, true, false, ◌||◌, cond, List, [], ◌∷◌, ◌++◌, length, IsTrue, not, if◌then◌else◌, refl}
use Rattle.std.proofs.Common.{sym, subst, arith, length-append}
use Rattle.std.proofs.lemmas.Bool.{or_parts, both_ways, ltb-true}
use Rattle.std.proofs.lemmas.List.{length-map}
use Rattle.std.proofs.lemmas.Slice.Eq.{bytes_eq-Decides}
use Rattle.std.specs.List.{AllByRecursion}
use Rattle.std.specs.Str.{bytes_eq}
use Rattle.record_model.specs.Name.{is_name}
use Rattle.record_model.specs.Grammar.{AreApart, IsWritable}
use Rattle.record_model.specs.declared.types.FileEntry.{FileEntry}
use Rattle.log_model.specs.FileTable.{Table, is_among, is_named, names_left, without_names, take_names}
use Rattle.log_model.specs.FileTree.{renamed}

-- names that an entry may have: one at least, each by the rule of names, and none twice
pub record AreNames (names : List (List ℕ)) : Type 0 where
  pub each : AllByRecursion (λ name. IsTrue (is_name name)) names
  pub some : 0 < length names
  pub apart : AreApart names

-- those of an entry that can be written
pub names_of : (e : FileEntry) → IsWritable e → AreNames e.names
names_of e w = record { each = w.names; some = w.named; apart = w.apart }

-- an entry that can be written can be under others
pub under_others : (e : FileEntry) (names : List (List ℕ)) → IsWritable e → AreNames names → IsWritable (record e { names = names })
under_others e names w are = record {
  id = w.id;
  size = w.size;
  hint = w.hint;
  time = w.time;
  active = w.active;
  extents = w.extents;
  names = are.each;
  named = are.some;
  apart = are.apart;
}

-- what holds of each and of one more
pub all_push : {X : Type 0} (P : X → Type 0) (xs : List X) (x : X) → AllByRecursion P xs → P x → AllByRecursion P (xs ++ x ∷ [])
all_push P [] x h p = (p, tt)
all_push P (y ∷ ys) x h p = (h.0, all_push P ys x h.1 p)

-- names that differ
differs : (n m : List ℕ) → bytes_eq n m ≡ false → m ≢ n
differs n m h same = both_ways (bytes_eq n m) h ((bytes_eq-Decides n m).1 (sym same))

-- names of which none stands twice, and one more
apart_push : (names : List (List ℕ)) (new : List ℕ) → AreApart names → is_among names new ≡ false → AreApart (names ++ new ∷ [])
apart_push [] new apart absent = (tt, tt)
apart_push (n ∷ ns) new apart absent =
    let parts = or_parts (bytes_eq n new) (is_among ns new) absent in
    (all_push (λ other. other ≢ n) ns new apart.0 (differs n new parts.0), apart_push ns new apart.1 parts.1)

-- one name more
pub one_more_name : (names : List (List ℕ)) (new : List ℕ) → AreNames names → is_among names new ≡ false → IsTrue (is_name new) → AreNames (names ++ new ∷ [])
one_more_name names new are absent good = record {
  each = all_push (λ name. IsTrue (is_name name)) names new are.each good;
  some = omega (arith, length-append names (new ∷ []));
  apart = apart_push names new are.apart absent;
}

-- ---- one name in the place of another

-- the new one or one that was there
either_name : (b : Bool) (P : List ℕ → Type 0) (new n : List ℕ) → P new → P n → P (if b then new else n)
either_name true P new n h g = h
either_name false P new n h g = g

-- what holds of the new name and of each old one
renamed_each : (P : List ℕ → Type 0) (old new : List ℕ) (names : List (List ℕ)) → P new → AllByRecursion P names → AllByRecursion P (renamed old new names)
renamed_each P old new [] h each = tt
renamed_each P old new (n ∷ ns) h each = (either_name (bytes_eq n old) P new n h each.0, renamed_each P old new ns h each.1)

-- a name that isn't the old one stays, and so isn't the new one
stays_other : (b : Bool) (old new n : List ℕ) → bytes_eq n old ≡ b → n ≢ old → n ≢ new → (if b then new else n) ≢ new
stays_other true old new n is other apart = absurd (other ((bytes_eq-Decides n old).0 is))
stays_other false old new n is other apart = apart

-- of names without the old one none becomes the new one
none_new : (old new : List ℕ) (ns : List (List ℕ)) → AllByRecursion (λ m. m ≢ old) ns → is_among ns new ≡ false → AllByRecursion (λ other. other ≢ new) (renamed old new ns)
none_new old new [] others absent = tt
none_new old new (m ∷ ms) others absent =
    let parts = or_parts (bytes_eq m new) (is_among ms new) absent in
    (stays_other (bytes_eq m old) old new m refl others.0 (λ same. differs m new parts.0 (sym same)), none_new old new ms others.1 parts.1)

-- what becomes of names other than one is another one too
renamed_apart : (b : Bool) (old new n : List ℕ) (ns : List (List ℕ)) → bytes_eq n old ≡ b → AllByRecursion (λ m. m ≢ n) ns → bytes_eq n new ≡ false → is_among ns new ≡ false
    → AllByRecursion (λ other. other ≢ (if b then new else n)) (renamed old new ns)
renamed_apart true old new n ns is apart own absent =
    none_new old new ns (subst (λ m. AllByRecursion (λ k. k ≢ m) ns) ((bytes_eq-Decides n old).0 is) apart) absent
renamed_apart false old new n ns is apart own absent = renamed_each (λ other. other ≢ n) old new ns (differs n new own) apart

-- none stands twice
apart_renamed : (old new : List ℕ) (names : List (List ℕ)) → AreApart names → is_among names new ≡ false → AreApart (renamed old new names)
apart_renamed old new [] apart absent = tt
apart_renamed old new (n ∷ ns) apart absent =
    let parts = or_parts (bytes_eq n new) (is_among ns new) absent in
    (renamed_apart (bytes_eq n old) old new n ns refl apart.0 parts.0 parts.1, apart_renamed old new ns apart.1 parts.1)

-- a new name in the place of another
pub name_in_place : (old new : List ℕ) (names : List (List ℕ)) → AreNames names → is_among names new ≡ false → IsTrue (is_name new) → AreNames (renamed old new names)
name_in_place old new names are absent good = record {
  each = renamed_each (λ name. IsTrue (is_name name)) old new names good are.each;
  some = omega (arith, length-map names (λ n. if bytes_eq n old then new else n), are.some);
  apart = apart_renamed old new names are.apart absent;
}

-- ---- fewer names

-- one name, or none, in front of others
kept_choice : (b : Bool) (P : List ℕ → Type 0) (n : List ℕ) (ns : List (List ℕ)) → P n → AllByRecursion P ns → AllByRecursion P (cond b (n ∷ ns) ns)
kept_choice true P n ns h each = (h, each)
kept_choice false P n ns h each = each

-- what holds of each holds of those that are left
each_left : (P : List ℕ → Type 0) (taken names : List (List ℕ)) → AllByRecursion P names → AllByRecursion P (names_left taken names)
each_left P taken [] each = tt
each_left P taken (n ∷ ns) each = kept_choice (not (is_among taken n)) P n (names_left taken ns) each.0 (each_left P taken ns each.1)

-- one name, or none, in front of others that aren't it
apart_choice : (b : Bool) (n : List ℕ) (ns : List (List ℕ)) → AllByRecursion (λ other. other ≢ n) ns → AreApart ns → AreApart (cond b (n ∷ ns) ns)
apart_choice true n ns others apart = (others, apart)
apart_choice false n ns others apart = apart

-- none of those that are left stands twice
apart_left : (taken names : List (List ℕ)) → AreApart names → AreApart (names_left taken names)
apart_left taken [] apart = tt
apart_left taken (n ∷ ns) apart =
    apart_choice (not (is_among taken n)) n (names_left taken ns) (each_left (λ other. other ≢ n) taken ns apart.0) (apart_left taken ns apart.1)

-- an entry that has a name left, or none, in front of others
left_choice : (b : Bool) (taken : List (List ℕ)) (e : FileEntry) (es : Table) → is_named (without_names taken e) ≡ b → IsWritable e → AllByRecursion IsWritable es
    → AllByRecursion IsWritable (cond b (without_names taken e ∷ es) es)
left_choice true taken e es named w each = (
  under_others e (names_left taken e.names) w (record {
    each = each_left (λ name. IsTrue (is_name name)) taken e.names w.names;
    some = ltb-true 0 (length (names_left taken e.names)) named;
    apart = apart_left taken e.names w.apart;
  }),
  each,
)
left_choice false taken e es named w each = each

-- entries that can be written can be where names are taken
pub taken_writable : (taken : List (List ℕ)) (es : Table) → AllByRecursion IsWritable es → AllByRecursion IsWritable (take_names taken es)
taken_writable taken [] each = tt
taken_writable taken (e ∷ es) each = left_choice (is_named (without_names taken e)) taken e (take_names taken es) refl each.0 (taken_writable taken es each.1)

-- one of the names, by the rule of names
name_choice : (b : Bool) (n name : List ℕ) → bytes_eq n name ≡ b → IsTrue (is_name n) → (rest : Bool) → (rest ≡ true → IsTrue (is_name name)) → (b || rest) ≡ true → IsTrue (is_name name)
name_choice true n name same good rest behind h = subst (λ m. IsTrue (is_name m)) ((bytes_eq-Decides n name).0 same) good
name_choice false n name same good rest behind h = behind h

-- a name that an entry has is one by the rule of names
pub among_good : (names : List (List ℕ)) (name : List ℕ) → AllByRecursion (λ m. IsTrue (is_name m)) names → is_among names name ≡ true → IsTrue (is_name name)
among_good [] name each h = absurd cc
among_good (n ∷ ns) name each h = name_choice (bytes_eq n name) n name refl each.0 (is_among ns name) (among_good ns name each.1) h
