-- A zone's buffer after an append.
use Rattle.std.proofs.Common.{◌≡◌, ℕ, ◌+◌, ◌*◌, ◌/◌, ◌%◌, ◌≤◌, Bool, ◌||◌, ◌==◌, List, ◌++◌, length, sym, ◌∙◌, ap, arith, length-append}
use Rattle.std.proofs.Math.Nat.{mul-le-mul_right}
use Rattle.zone_image.specs.Image.{Zone}
use Rattle.zone_image.specs.Changes.{chunks, zone_appended}
use Rattle.zone_image.proofs.BlockLaws.{chunks-append, length-chunks, whole_bytes}

-- more blocks fit the memory that was taken for the capacity
pub room_for : (bytes block written capacity room : ℕ) → bytes % block ≡ 0 → written + bytes / block ≤ capacity → capacity * block ≤ room → written * block + bytes ≤ room
room_for bytes block written capacity room whole fits taken =
    let product : (written + bytes / block) * block ≤ capacity * block = mul-le-mul_right block fits in
    omega (arith, product, taken, whole_bytes bytes block whole)

-- the zone of the longer bytes
pub longer_zone : (block capacity written count kept : ℕ) (xs ys zs : List ℕ) (sealed sealed' : Bool) → length xs ≡ written * block → zs ≡ xs ++ ys
    → sealed' ≡ (sealed || (written + count == capacity))
    → ◌≡◌ {A = Zone} (record { blocks = chunks block (written + count) zs; kept = kept; sealed = sealed' }) (zone_appended capacity (chunks block count ys) (record { blocks = chunks block written xs; kept = kept; sealed = sealed }))
longer_zone block capacity written count kept xs ys zs sealed sealed' long joined seals =
    let blocks : chunks block (written + count) zs ≡ chunks block written xs ++ chunks block count ys = ap (chunks block (written + count)) joined ∙ chunks-append block written count xs ys long in
    let number : written + count ≡ length (chunks block written xs ++ chunks block count ys) =
    sym (omega (arith, length-append (chunks block written xs) (chunks block count ys), length-chunks block written xs, length-chunks block count ys)) in
    let seal : sealed' ≡ (sealed || (length (chunks block written xs ++ chunks block count ys) == capacity)) = seals ∙ ap (λ n. sealed || (n == capacity)) number in
    λ i. record { blocks = blocks i; kept = kept; sealed = seal i }
