-- The numbers of zones as they are kept.
use Rattle.std.proofs.Common.{◌≡◌, ℕ, zero, suc, List, [], ◌∷◌, map, replicate, refl, ◌∙◌, ap}
use Rattle.image_backend.specs.declared.table.Slot.{Slot as Numbers}
use Rattle.image_backend.specs.Table.{slot_synced, no_slot}
use Rattle.power_image.specs.declared.table.Zone.{Zone}
use Rattle.power_image.specs.Table.{numbers_of, zone_kept}

pub numbers_kept : (zones : List Zone) → map numbers_of (map zone_kept zones) ≡ map slot_synced (map numbers_of zones)
numbers_kept [] = refl
numbers_kept (z ∷ zones) = ap (λ (l : List Numbers). slot_synced (numbers_of z) ∷ l) (numbers_kept zones)

pub numbers_blank : (n : ℕ) (z : Zone) → numbers_of z ≡ no_slot → map numbers_of (replicate n z) ≡ replicate n no_slot
numbers_blank zero z is = refl
numbers_blank (suc n) z is = ap (λ (y : Numbers). y ∷ map numbers_of (replicate n z)) is ∙ ap (λ (l : List Numbers). no_slot ∷ l) (numbers_blank n z is)
