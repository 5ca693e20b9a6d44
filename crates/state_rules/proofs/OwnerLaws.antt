-- Who holds which zone after a step on one zone.
use Rattle.std.specs.Prelude.{◌≡◌, ◌≢◌, ℕ, zero, suc, ◌≤◌, true, false, List, [], ◌∷◌, length, refl}
use Rattle.std.proofs.Common.{◌∙◌, ap, sym, ⊎_elim, inl, inr, arith}
use mathlib.Core.Logic.{◌⊎◌}
use Rattle.std.specs.List.{AllByRecursion}
use Rattle.zone_image.specs.declared.Geometry.{Geometry}
use Rattle.zone_image.specs.Image.{zone_of}
use Rattle.record_model.specs.declared.types.Extent.{Extent}
use Rattle.log_model.specs.FileTable.{Table}
use Rattle.fs_model.specs.declared.zones.Owner.{Owner}
use Rattle.fs_model.specs.declared.zones.Owner.TheVariants.{Writer, Collector, Victim}
use Rattle.fs_model.specs.ZonePolicy.{is_idle_owner}
use Rattle.fs_model.specs.FsState.{TableRow, ZoneDescriptor, on_descriptor}
use Rattle.fs_model.specs.Untouched.{is_one_of}
use Rattle.state_rules.specs.Rules.{owner_in, IsOnlyOne, OwnerRules, IsFresh, FreshRules}
use Rattle.state_rules.specs.ZoneRules.{HasNothingFresh}

-- there are as many zones
pub same_count : (n : ℕ) (f : ZoneDescriptor → ZoneDescriptor) (zs : List ZoneDescriptor) → length (on_descriptor n f zs) ≡ length zs
same_count n f [] = refl
same_count zero f (z ∷ zs) = refl
same_count (suc n) f (z ∷ zs) = ap suc (same_count n f zs)

-- a step that changes no owner
pub owners_stay : (n m : ℕ) (f : ZoneDescriptor → ZoneDescriptor) (zs : List ZoneDescriptor) → ((z : ZoneDescriptor) → (f z).owner ≡ z.owner)
    → owner_in (on_descriptor n f zs) m ≡ owner_in zs m
owners_stay n m f [] same = refl
owners_stay zero zero f (z ∷ zs) same = same z
owners_stay zero (suc m) f (z ∷ zs) same = refl
owners_stay (suc n) zero f (z ∷ zs) same = refl
owners_stay (suc n) (suc m) f (z ∷ zs) same = owners_stay n m f zs same

-- owners that are the same, but that one zone may have this one
abbrev pub Given : List ZoneDescriptor → List ZoneDescriptor → ℕ → Owner → Type 0
Given zs ys zone owner = (m : ℕ) → (owner_in ys m ≡ owner_in zs m) ⊎ ((m ≡ zone) × (owner_in ys m ≡ owner))

-- a step that gives a zone an owner
pub owner_given : (n m : ℕ) (owner : Owner) (f : ZoneDescriptor → ZoneDescriptor) (zs : List ZoneDescriptor) → ((z : ZoneDescriptor) → (f z).owner ≡ owner)
    → (owner_in (on_descriptor n f zs) m ≡ owner_in zs m) ⊎ ((m ≡ n) × (owner_in (on_descriptor n f zs) m ≡ owner))
owner_given n m owner f [] gives = inl refl
owner_given zero zero owner f (z ∷ zs) gives = inr (refl, gives z)
owner_given zero (suc m) owner f (z ∷ zs) gives = inl refl
owner_given (suc n) zero owner f (z ∷ zs) gives = inl refl
owner_given (suc n) (suc m) owner f (z ∷ zs) gives =
    ⊎_elim (λ same. inl same) (λ it. inr (ap suc it.0, it.1)) (owner_given n m owner f zs gives)

-- ---- owners

-- one owner has a zone at most
only_given : (zs ys : List ZoneDescriptor) (zone : ℕ) (owner o : Owner) → Given zs ys zone owner → is_idle_owner o ≡ false
    → (is_idle_owner owner ≡ false → (n : ℕ) → owner_in zs n ≢ owner) → IsOnlyOne o zs → IsOnlyOne o ys
only_given zs ys zone owner o given some none only n m here there =
    ⊎_elim
    (λ a. ⊎_elim (λ b. only n m (sym a ∙ here) (sym b ∙ there)) (λ b. absurd (apart n m a b.1 here there)) (given m))
    (λ a. ⊎_elim (λ b. absurd (apart m n b a.1 there here)) (λ b. a.0 ∙ sym b.0) (given m))
    (given n)
  where
    apart : (k l : ℕ) → owner_in ys k ≡ owner_in zs k → owner_in ys l ≡ owner → owner_in ys k ≡ o → owner_in ys l ≡ o → ⊥
    apart k l a b here there =
        let same : owner ≡ o = sym b ∙ there in
        none (ap is_idle_owner same ∙ some) k (sym a ∙ here ∙ sym same)

-- the rules of owners, where a data zone is given an owner that had none
pub owners_given : (zs ys : List ZoneDescriptor) (writers : List ℕ) (zone : ℕ) (owner : Owner) → Given zs ys zone owner
    → (is_idle_owner owner ≡ false → 3 ≤ zone) → ((id : ℕ) → owner ≡ Writer id → is_one_of writers id ≡ true)
    → (is_idle_owner owner ≡ false → (n : ℕ) → owner_in zs n ≢ owner) → OwnerRules zs writers → OwnerRules ys writers
owners_given zs ys writers zone owner given data_zone open_too none h = record {
  held = λ n busy. ⊎_elim (λ same. h.held n (ap is_idle_owner (sym same) ∙ busy)) (λ it. let low = data_zone (ap is_idle_owner (sym it.1) ∙ busy) in omega (arith, low, it.0)) (given n);
  writer = λ id n is. ⊎_elim (λ same. h.writer id n (sym same ∙ is)) (λ it. open_too id (sym it.1 ∙ is)) (given n);
  only = λ id. only_given zs ys zone owner (Writer id) given refl none (h.only id);
  collector = only_given zs ys zone owner Collector given refl none h.collector;
  victim = only_given zs ys zone owner Victim given refl none h.victim;
}

-- the same owners
pub owners_same : (zs ys : List ZoneDescriptor) (writers : List ℕ) → ((m : ℕ) → owner_in ys m ≡ owner_in zs m) → OwnerRules zs writers → OwnerRules ys writers
owners_same zs ys writers same h = record {
  held = λ n busy. h.held n (ap is_idle_owner (sym (same n)) ∙ busy);
  writer = λ id n is. h.writer id n (sym (same n) ∙ is);
  only = λ id n m a b. h.only id n m (sym (same n) ∙ a) (sym (same m) ∙ b);
  collector = λ n m a b. h.collector n m (sym (same n) ∙ a) (sym (same m) ∙ b);
  victim = λ n m a b. h.victim n m (sym (same n) ∙ a) (sym (same m) ∙ b);
}

-- ---- what isn't recorded

-- where the owners are the same
pub fresh_owners : (g : Geometry) (zs ys : List ZoneDescriptor) (es : Table) (rows : List TableRow) → ((m : ℕ) → owner_in ys m ≡ owner_in zs m)
    → FreshRules g zs es rows → FreshRules g ys es rows
fresh_owners g zs ys es [] same h = tt
fresh_owners g zs ys es (r ∷ rs) same h = (each r.unrecorded h.0, fresh_owners g zs ys es rs same h.1)
  where
    each : (xs : List Extent) → AllByRecursion (IsFresh g zs es r.entry.id) xs → AllByRecursion (IsFresh g ys es r.entry.id) xs
    each [] all = tt
    each (x ∷ xs) all = (record { owner = same (zone_of g x.start) ∙ all.0.owner; behind = all.0.behind }, each xs all.1)

-- where a zone in which nothing is fresh has another owner
pub fresh_given : (g : Geometry) (zs ys : List ZoneDescriptor) (es : Table) (zone : ℕ) (owner : Owner) (rows : List TableRow) → Given zs ys zone owner
    → HasNothingFresh g zone rows → FreshRules g zs es rows → FreshRules g ys es rows
fresh_given g zs ys es zone owner [] given none h = tt
fresh_given g zs ys es zone owner (r ∷ rs) given none h = (each r.unrecorded none.0 h.0, fresh_given g zs ys es zone owner rs given none.1 h.1)
  where
    each : (xs : List Extent) → AllByRecursion (λ x. zone_of g x.start ≢ zone) xs → AllByRecursion (IsFresh g zs es r.entry.id) xs → AllByRecursion (IsFresh g ys es r.entry.id) xs
    each [] away all = tt
    each (x ∷ xs) away all = (
      record {
        owner = ⊎_elim (λ same. same ∙ all.0.owner) (λ it. absurd (away.0 it.0)) (given (zone_of g x.start));
        behind = all.0.behind;
      },
      each xs away.1 all.1,
    )

-- nothing is fresh in a zone that no writer holds
pub nothing_fresh : (g : Geometry) (zs : List ZoneDescriptor) (es : Table) (zone : ℕ) (rows : List TableRow) → ((id : ℕ) → owner_in zs zone ≢ Writer id)
    → FreshRules g zs es rows → HasNothingFresh g zone rows
nothing_fresh g zs es zone [] unheld h = tt
nothing_fresh g zs es zone (r ∷ rs) unheld h = (each r.unrecorded h.0, nothing_fresh g zs es zone rs unheld h.1)
  where
    each : (xs : List Extent) → AllByRecursion (IsFresh g zs es r.entry.id) xs → AllByRecursion (λ x. zone_of g x.start ≢ zone) xs
    each [] all = tt
    each (x ∷ xs) all = ((λ same. unheld r.entry.id (ap (owner_in zs) (sym same) ∙ all.0.owner)), each xs all.1)
