-- What a changing call of a device in memory passes.
use Rattle.std.proofs.Common.{◌≡◌, inl, inr, ⊎_elim, ℕ, zero, suc, ◌+◌, ◌<◌, ◌≤◌, false, List, [], ◌∷◌, ◌++◌, length, take, None, Some, refl, sym, ◌∙◌, ap, subst, arith, length-take}
use Rattle.std.specs.List.{All}
use Rattle.std.specs.Prelude.{◌==◌, ◌||◌, if◌then◌else◌}
use Rattle.std.proofs.lemmas.Bool.{ne_eqb, cases_eq}
use Rattle.std.proofs.lemmas.List.{append-nil, take_all, take-take, length-map}
use Rattle.std.proofs.lemmas.List.Elements.{All-take}
use Rattle.zone_image.specs.Image.{Zone, Image, IsCrash, zone_in, zone_at}
use Rattle.zone_image.specs.Changes.{change_at, zone_appended, appended}
use Rattle.zone_image.specs.Infos.{info_of, infos_of, info_at, active_zones, IsValidImage}
use Rattle.zone_image.specs.Moments.{PassedByAppend}
use Rattle.zone_image.proofs.InfoLaws.{info_at_is, valid_appended, valid_finished, valid_emptied, valid_synced}
use Rattle.zone_image.proofs.CrashLaws.{crash_before_sync, valid_crash}
use Rattle.zoned_device.specs.Content.{Change, Append, Finish, Reset, Sync, after, Passes, part_of}

-- the conditions of an append of blocks
pub record CanAppend (i : Image) (zone : ℕ) (added : List (List ℕ)) : Type 0 where
  pub is_zone : zone < i.geometry.zones
  pub whole : All (λ b. length b ≡ i.geometry.block) added
  pub some : 0 < length added
  pub unsealed : (info_at (infos_of i) zone).sealed ≡ false
  pub room : (info_at (infos_of i) zone).written + length added ≤ i.geometry.capacity
  pub active : (info_at (infos_of i) zone).written ≡ 0 → active_zones (infos_of i) < i.geometry.active_limit

-- a change whose conditions hold
abbrev pub CanDo : Change → Image → Type 0
CanDo (Append zone added) i = CanAppend i zone added
CanDo (Finish zone) i = zone < i.geometry.zones
CanDo (Reset zone) i = zone < i.geometry.zones
CanDo Sync i = Unit {0}

pub valid_after : (ch : Change) (i : Image) → CanDo ch i → IsValidImage i → IsValidImage (after ch i)
valid_after (Append zone added) i can is = valid_appended i zone is can.is_zone added can.whole can.unsealed can.room can.active
valid_after (Finish zone) i can is = valid_finished i zone is can
valid_after (Reset zone) i can is = valid_emptied i zone is can
valid_after Sync i can is = valid_synced i is

-- an append of nothing to a zone that isn't full changes nothing
nothing_at : (n capacity : ℕ) (zs : List Zone) → ((zone_in zs n).sealed ≡ false) → (length (zone_in zs n).blocks < capacity) → change_at n (zone_appended capacity []) zs ≡ zs
nothing_at n capacity [] unsealed room = refl
nothing_at zero capacity (z ∷ zs) unsealed room =
    let seal : (z.sealed || (length (z.blocks ++ []) == capacity)) ≡ z.sealed =
    ap (λ (bs : List (List ℕ)). z.sealed || (length bs == capacity)) (append-nil z.blocks)
    ∙ ap (λ b. z.sealed || b) (ne_eqb (length z.blocks) capacity (λ full. omega arith))
    ∙ ap (λ b. b || false) unsealed
    ∙ sym unsealed in
    λ i. record { blocks = append-nil z.blocks i; kept = z.kept; sealed = seal i } ∷ zs
nothing_at (suc n) capacity (z ∷ zs) unsealed room = ap (λ l. z ∷ l) (nothing_at n capacity zs unsealed room)

pub append_nothing : (i : Image) (zone : ℕ) (added : List (List ℕ)) → CanAppend i zone added → IsValidImage i → appended i zone (take 0 added) ≡ i
append_nothing i zone added can is =
    let in_range : zone < length i.zones = omega (arith, is.possible.count, length-map i.zones info_of, can.is_zone) in
    let told = info_at_is i zone in_range in
    let unsealed : (zone_at i zone).sealed ≡ false = sym (ap (λ info. info.sealed) told) ∙ can.unsealed in
    let room : length (zone_at i zone).blocks < i.geometry.capacity = omega (arith, ap (λ info. info.written) told, can.room, can.some) in
    ap (λ zs. record { geometry = i.geometry; zones = zs }) (nothing_at zone i.geometry.capacity i.zones unsealed room)

-- a change passes the image before it
pub passes_before : (ch : Change) (i j : Image) → CanDo ch i → IsValidImage i → IsCrash i j → Passes ch i j
passes_before (Append zone added) i j can is crash = record { count = 0; some = omega arith; crash = subst (λ k. IsCrash k j) (sym (append_nothing i zone added can is)) crash }
passes_before (Finish zone) i j can is crash = inl crash
passes_before (Reset zone) i j can is crash = inl crash
passes_before Sync i j can is crash = crash

-- and the one after it
pub passes_after : (ch : Change) (i j : Image) → IsValidImage i → IsCrash (after ch i) j → Passes ch i j
passes_after (Append zone added) i j is crash = record { count = length added; some = omega arith; crash = subst (λ bs. IsCrash (appended i zone bs) j) (sym (take_all (length added) added (omega arith))) crash }
passes_after (Finish zone) i j is crash = inr crash
passes_after (Reset zone) i j is crash = inr crash
passes_after Sync i j is crash = crash_before_sync i j is crash

-- the first blocks of an append
pub can_append_part : (n : ℕ) (i : Image) (zone : ℕ) (added : List (List ℕ)) → (n ≡ 0 → ⊥) → CanAppend i zone added → CanAppend i zone (take n added)
can_append_part n i zone added some can = record {
  is_zone = can.is_zone;
  whole = All-take (λ (b : List ℕ). length b ≡ i.geometry.block) n added can.whole;
  some = omega (arith, length-take n added, can.some, some);
  unsealed = can.unsealed;
  room = omega (arith, length-take n added, can.room);
  active = can.active;
}

pub passes_part : (n : ℕ) (i j : Image) (zone : ℕ) (added : List (List ℕ)) → PassedByAppend i zone (take n added) j → PassedByAppend i zone added j
passes_part n i j zone added passed = record {
  count = passed.count;
  some = omega (arith, length-take n added, passed.some);
  crash = subst (λ bs. IsCrash (appended i zone bs) j) (take-take passed.count n added (omega (arith, length-take n added, passed.some))) passed.crash;
}

-- what is done of an append that fails after some blocks
pub part_of-append : (n zone : ℕ) (added : List (List ℕ)) → (n ≡ 0 → ⊥) → part_of (Some n) (Append zone added) ≡ Some (Append zone (take n added))
part_of-append n zone added some = ap (λ b. if b then None else Some (Append zone (take n added))) (ne_eqb n 0 some)

-- whatever a crash leaves within a change is an image that a device may have
pub passes_valid : (ch : Change) (i j : Image) → CanDo ch i → IsValidImage i → Passes ch i j → IsValidImage j
passes_valid (Append zone added) i j can is passed = ⊎_elim
    (λ none. valid_crash i j is (subst (λ k. IsCrash k j) (ap (λ n. appended i zone (take n added)) none ∙ append_nothing i zone added can is) passed.crash))
    (λ some. valid_crash (appended i zone (take passed.count added)) j
    (valid_after (Append zone (take passed.count added)) i (can_append_part passed.count i zone added some can) is) passed.crash)
    (cases_eq passed.count 0)
passes_valid (Finish zone) i j can is (inl crash) = valid_crash i j is crash
passes_valid (Finish zone) i j can is (inr crash) = valid_crash (after (Finish zone) i) j (valid_after (Finish zone) i can is) crash
passes_valid (Reset zone) i j can is (inl crash) = valid_crash i j is crash
passes_valid (Reset zone) i j can is (inr crash) = valid_crash (after (Reset zone) i) j (valid_after (Reset zone) i can is) crash
passes_valid Sync i j can is crash = valid_crash i j is crash
