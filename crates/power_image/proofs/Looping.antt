-- What a loop over zones keeps of a file and of what is known of it.
use Rattle.std.proofs.Common.{◌≡◌, ℕ, ◌≤◌, List, length, refl, sym, ◌∙◌, ap, subst, arith}
use Rattle.image_backend.specs.Table.{TableState, IsTable}
use Rattle.power_image.specs.Table.{Known}
use Rattle.power_image.specs.State.{HoldsZones, HoldsTable, IsSaid, SameZones}

-- the numbers are those at the begin, the file says what is known of it, and its zones are those at the begin
pub record Kept {F : Type 0} (is_open is_sized : F → Type 0) (size : F → ℕ) (tells : Type 0) (contents : F → List ℕ) (faults : F → ℕ) (first : Known) (begun : F) (k : Known) (file : F) : Type 0 where
  pub numbers : k.zones ≡ first.zones
  pub known : HoldsTable is_open is_sized size k file
  pub said : IsSaid tells k (contents file)
  pub same : tells → SameZones first.zones.geometry (contents begun) (contents file)
  pub faults_grow : faults begun ≤ faults file

module _ {F : Type 0} (is_open is_sized : F → Type 0) (size : F → ℕ) (tells : Type 0) (contents : F → List ℕ) (faults : F → ℕ) (first : Known) (begun : F) where
  pub kept_begun : HoldsTable is_open is_sized size first begun → IsSaid tells first (contents begun) → Kept is_open is_sized size tells contents faults first begun first begun
  kept_begun known said = record { numbers = refl; known = known; said = said; same = λ _. record { zones = refl; long = refl }; faults_grow = omega arith }

  module _ (k : Known) (file : F) (was : Kept is_open is_sized size tells contents faults first begun k file) where
    geometry_is : (next : Known) → next.zones ≡ k.zones → next.zones.geometry ≡ first.zones.geometry
    geometry_is next same = ap (λ (t : TableState). t.geometry) (same ∙ was.numbers)

    -- further bytes of the same zones
    pub further : (new : F) → (tells → SameZones k.zones.geometry (contents file) (contents new)) → tells → SameZones first.zones.geometry (contents begun) (contents new)
    further new same told =
        let step : SameZones first.zones.geometry (contents file) (contents new) =
        subst (λ (t : TableState). SameZones t.geometry (contents file) (contents new)) was.numbers (same told) in
        let before = was.same told in
        record { zones = step.zones ∙ before.zones; long = step.long ∙ before.long }

    -- what is known is still held
    pub held : (next : Known) (new : F) → next.zones ≡ k.zones → length next.descriptors ≡ length k.descriptors → HoldsZones is_open is_sized size k.zones.geometry new → HoldsTable is_open is_sized size next new
    held next new same count zones = record {
      table = subst IsTable (sym same) was.known.table;
      count = count ∙ was.known.count ∙ ap (λ (t : TableState). t.geometry.zones) (sym same);
      zones = subst (λ (t : TableState). HoldsZones is_open is_sized size t.geometry new) (sym same) zones;
    }

    pub kept_step : (next : Known) (new : F) → next.zones ≡ k.zones → length next.descriptors ≡ length k.descriptors → HoldsZones is_open is_sized size k.zones.geometry new → IsSaid tells next (contents new)
        → (tells → SameZones k.zones.geometry (contents file) (contents new)) → faults file ≤ faults new → Kept is_open is_sized size tells contents faults first begun next new
    kept_step next new same count zones said bytes grow = record {
      numbers = same ∙ was.numbers;
      known = held next new same count zones;
      said = said;
      same = further new bytes;
      faults_grow = omega (arith, was.faults_grow, grow);
    }
