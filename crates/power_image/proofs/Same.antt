-- A file that stays as it was still holds and says what is known.
use Rattle.std.proofs.Common.{ℕ, List, Bool, Option, None, Some, sym, subst, arith}
use Rattle.image_backend.specs.Contents.{SameFile}
use Rattle.power_image.specs.Table.{Known, Describes}
use Rattle.power_image.specs.State.{IsHeld, IsSaidIn}

module _ {F : Type 0} (is_open is_sized : F → Type 0) (size : F → ℕ) (tells : Type 0) (contents : F → List ℕ) (old new : F) (same : SameFile is_open is_sized size tells contents old new) where
  pub held_same : (table : Option Known) → IsHeld is_open is_sized size table old → IsHeld is_open is_sized size table new
  held_same None was = tt
  held_same (Some k) was = record {
    table = was.table;
    count = was.count;
    zones = record {
      opened = same.still_open was.zones.opened;
      known = same.still_sized was.zones.known;
      long = omega (arith, same.same_size was.zones.known, was.zones.long);
    };
  }

  pub said_same : (broken : Bool) (table : Option Known) → IsSaidIn tells broken table (contents old) → IsSaidIn tells broken table (contents new)
  said_same broken None was = tt
  said_same broken (Some k) was = λ unbroken told. subst (λ (l : List ℕ). Describes l k.zones.geometry k.descriptors) (sym (same.same_contents told)) (was unbroken told)

-- the same of a file that stays as it was if it was open, as it is where something is known
pub kept_open : {F : Type 0} (is_open is_sized : F → Type 0) (size : F → ℕ) (tells : Type 0) (contents : F → List ℕ) (old new : F) (broken : Bool) (table : Option Known)
    → (is_open old → SameFile is_open is_sized size tells contents old new) → IsHeld is_open is_sized size table old → IsSaidIn tells broken table (contents old)
    → IsHeld is_open is_sized size table new × IsSaidIn tells broken table (contents new)
kept_open is_open is_sized size tells contents old new broken None same held said = (tt, tt)
kept_open is_open is_sized size tells contents old new broken (Some k) same held said = (
  held_same is_open is_sized size tells contents old new (same held.zones.opened) (Some k) held,
  said_same is_open is_sized size tells contents old new (same held.zones.opened) broken (Some k) said,
)
