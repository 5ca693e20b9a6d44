-- Extents and tables on an image that keeps the first blocks of each zone.
use Rattle.std.specs.Prelude.{◌≡◌, ℕ, ◌+◌, ◌*◌, ◌≤◌, Bool, true, ◌&&◌, List, [], ◌∷◌, ◌++◌, length, take, drop, nat_lt, nat_le, refl}
use Rattle.std.proofs.Common.{◌∙◌, ap, sym, append_assoc, arith}
use Rattle.std.proofs.Math.Nat.{mul-le-mul_right}
use Rattle.std.proofs.lemmas.Bool.{leb-true, le-leb, and_parts, and_from}
use Rattle.std.proofs.lemmas.List.{length-append, length-drop, take-append-le, drop-append-le}
use Rattle.std.specs.List.{AllByRecursion, concat}
use Rattle.zone_image.specs.declared.Geometry.{Geometry}
use Rattle.zone_image.specs.Image.{zone_at, zone_of, offset_of}
use Rattle.record_model.specs.declared.types.Extent.{Extent}
use Rattle.log_model.specs.MountLaws.{KeptExtentStays}

-- joined blocks, one list behind another
concat_append : (xs ys : List (List ℕ)) → concat (xs ++ ys) ≡ concat xs ++ concat ys
concat_append [] ys = refl
concat_append (x ∷ xs) ys = ap (λ bs. x ++ bs) (concat_append xs ys) ∙ sym (append_assoc x (concat xs) (concat ys))

-- so many blocks of one size
concat_length : (block : ℕ) (xs : List (List ℕ)) → AllByRecursion (λ b. length b ≡ block) xs → length (concat xs) ≡ length xs * block
concat_length block [] h = omega arith
concat_length block (x ∷ xs) h = omega (arith, length-append x (concat xs), concat_length block xs h.1, h.0)

-- a piece within the first of two lists
piece_within : (len at : ℕ) (xs ys : List ℕ) → at + len ≤ length xs → take len (drop at (xs ++ ys)) ≡ take len (drop at xs)
piece_within len at xs ys h =
    ap (take len) (drop-append-le at xs ys (omega arith)) ∙ take-append-le len (drop at xs) ys (omega (arith, length-drop at xs))

-- written, by the geometry and the blocks of the extent's zone
written_in : Geometry → List (List ℕ) → Extent → Bool
written_in g blocks x =
    nat_le 3 (zone_of g x.start) && nat_lt (zone_of g x.start) g.zones && nat_le (offset_of g x.start + x.len) (length blocks * g.block)

-- the bytes, by the same
bytes_within : Geometry → List (List ℕ) → Extent → List ℕ
bytes_within g blocks x = take x.len (drop (offset_of g x.start) (concat blocks))

-- an extent within the first blocks
stays_within : (g : Geometry) (front rest : List (List ℕ)) (x : Extent) → AllByRecursion (λ b. length b ≡ g.block) front → written_in g front x ≡ true
    → (written_in g (front ++ rest) x ≡ true) × (bytes_within g (front ++ rest) x ≡ bytes_within g front x)
unfolding written_in bytes_within
stays_within g front rest x sized h =
    let parts = and_parts (nat_le 3 (zone_of g x.start) && nat_lt (zone_of g x.start) g.zones) (nat_le (offset_of g x.start + x.len) (length front * g.block)) h in
    let end : offset_of g x.start + x.len ≤ length front * g.block = leb-true (offset_of g x.start + x.len) (length front * g.block) parts.1 in
    let more : length front * g.block ≤ length (front ++ rest) * g.block = mul-le-mul_right g.block (omega (arith, length-append front rest)) in
    let room : offset_of g x.start + x.len ≤ length (concat front) = omega (arith, concat_length g.block front sized) in (
      and_from (nat_le 3 (zone_of g x.start) && nat_lt (zone_of g x.start) g.zones) (nat_le (offset_of g x.start + x.len) (length (front ++ rest) * g.block)) parts.0
          (le-leb (offset_of g x.start + x.len) (length (front ++ rest) * g.block) (omega arith)),
      ap (λ bs. take x.len (drop (offset_of g x.start) bs)) (concat_append front rest)
          ∙ piece_within x.len (offset_of g x.start) (concat front) (concat rest) room,
    )

pub kept_extent_stays : KeptExtentStays
unfolding written_in bytes_within
kept_extent_stays i j x keeps sized written =
    let n : ℕ = zone_of i.geometry x.start in
    let front : List (List ℕ) = (zone_at j n).blocks in
    let here : written_in i.geometry front x ≡ true = ap (λ g. written_in g (zone_at j (zone_of g x.start)).blocks x) (sym keeps.geometry) ∙ written in
    let stays = stays_within i.geometry front (keeps.fronts n).0 x sized here in
    let whole : front ++ (keeps.fronts n).0 ≡ (zone_at i n).blocks = (keeps.fronts n).1 in (
      ap (λ bs. written_in i.geometry bs x) (sym whole) ∙ stays.0,
      ap (λ g. bytes_within g (zone_at j (zone_of g x.start)).blocks x) keeps.geometry
          ∙ (sym stays.1 ∙ ap (λ bs. bytes_within i.geometry bs x) whole),
    )
