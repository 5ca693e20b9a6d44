-- What is found again from a recovery point, by the written numbers of the zones.
use Rattle.std.proofs.Common.{◌≡◌, ℕ, ◌+◌, ◌*◌, ◌-◌, ◌/◌, ◌%◌, ◌^◌, ◌<◌, ◌≤◌, Bool, true, false, not, cond, ◌&&◌, ◌||◌, List, [], length, drop, nat_lt, nat_le, refl, sym, ◌∙◌, ap, subst, arith, length-drop}
use Rattle.std.specs.Prelude.{◌==◌, IsTrue}
use Rattle.std.proofs.Math.Nat.{mul-le-mul_left, mul-le-mul_right, div-lt_iff_lt-mul}
use Rattle.std.proofs.lemmas.Bool.{and_parts}
use Rattle.std.proofs.lemmas.Bool.Decides.{nat_tests}
use Rattle.zone_image.specs.declared.Geometry.{Geometry}
use Rattle.zone_image.specs.declared.ZoneInfo.{ZoneInfo}
use Rattle.zone_image.specs.Image.{Image, is_valid, zone_bytes, zone_at, zone_of, offset_of}
use Rattle.zone_image.specs.Infos.{info_at, IsPossible, IsImage}
use Rattle.record_model.specs.declared.types.FileEntry.{FileEntry}
use Rattle.log_model.specs.Frames.{no_active, is_recovery_point, recovered_extents, frames_at, rest_at, extent_if_any}
use Rattle.mount_replay.specs.FrameWalk.{frames_from}
use Rattle.mount_replay.specs.Rules.{is_recovery_point_in, is_recovered_in}
use Rattle.mount_replay.proofs.FrameWalks.{written_is}

-- two tests that differ in their last part alone, where the second part holds
same_last : (a b c d e : Bool) → (b ≡ true → d ≡ e) → (((a && b) && c) && d) ≡ (((a && b) && c) && e)
same_last false b c d e h = refl
same_last true false c d e h = refl
same_last true true false d e h = refl
same_last true true true d e h = h refl

below : (m n : ℕ) → nat_lt m n ≡ true → m < n
below m n h = grind (arith, nat_tests)

-- the written numbers say what an image's blocks say
pub point_is : (g : Geometry) (infos : List ZoneInfo) (i : Image) (start : ℕ) → IsPossible g infos → IsImage g infos i → is_recovery_point i start ≡ is_recovery_point_in g infos start
point_is g infos i start possible image =
    let zone = zone_of g start in
    subst (λ (h : Geometry). (nat_le 3 (zone_of h start) && nat_lt (zone_of h start) h.zones && (offset_of h start % h.block == 0) && nat_le (offset_of h start) (length (zone_at i (zone_of h start)).blocks * h.block)) ≡ is_recovery_point_in g infos start)
    (sym image.shape)
    (same_last (nat_le 3 zone) (nat_lt zone g.zones) (offset_of g start % g.block == 0)
    (nat_le (offset_of g start) (length (zone_at i zone).blocks * g.block)) (nat_le (offset_of g start) ((info_at infos zone).written * g.block))
    (λ inside. ap (λ (n : ℕ). nat_le (offset_of g start) (n * g.block)) (sym (written_is g infos i zone possible image (below zone g.zones inside)))))

refused : (a p : Bool) → (not a && p) ≡ false → (a || not p) ≡ true
refused true p h = refl
refused false true h = sym h
refused false false h = refl

taken : (a p : Bool) → (not a && p) ≡ true → (a || not p) ≡ false
taken true p h = sym h
taken false true h = refl
taken false false h = sym h

-- nothing is found again
pub recovers_nothing : (g : Geometry) (infos : List ZoneInfo) (i : Image) (e : FileEntry) → IsPossible g infos → IsImage g infos i
    → is_recovered_in g infos e ≡ false → recovered_extents i e ≡ []
recovers_nothing g infos i e possible image none =
    ap (λ p. cond ((e.active == no_active) || not p) [] (cond e.sparse (frames_at i e.active) (rest_at i e.active))) (point_is g infos i e.active possible image)
    ∙ ap (λ c. cond c [] (cond e.sparse (frames_at i e.active) (rest_at i e.active))) (refused (e.active == no_active) (is_recovery_point_in g infos e.active) none)

-- something is
recovers : (g : Geometry) (infos : List ZoneInfo) (i : Image) (e : FileEntry) → IsPossible g infos → IsImage g infos i
    → is_recovered_in g infos e ≡ true → recovered_extents i e ≡ cond e.sparse (frames_at i e.active) (rest_at i e.active)
recovers g infos i e possible image some =
    ap (λ p. cond ((e.active == no_active) || not p) [] (cond e.sparse (frames_at i e.active) (rest_at i e.active))) (point_is g infos i e.active possible image)
    ∙ ap (λ c. cond c [] (cond e.sparse (frames_at i e.active) (rest_at i e.active))) (taken (e.active == no_active) (is_recovery_point_in g infos e.active) some)

-- the frames of a sparse file
pub recovers_frames : (g : Geometry) (infos : List ZoneInfo) (i : Image) (e : FileEntry) → IsPossible g infos → IsImage g infos i
    → is_recovered_in g infos e ≡ true → e.sparse ≡ true
    → recovered_extents i e ≡ frames_from g.block e.active (drop (offset_of g e.active / g.block) (zone_at i (zone_of g e.active)).blocks)
unfolding frames_at
recovers_frames g infos i e possible image some sparse =
    recovers g infos i e possible image some
    ∙ ap (λ s. cond s (frames_at i e.active) (rest_at i e.active)) sparse
    ∙ ap (λ (h : Geometry). frames_from h.block e.active (drop (offset_of h e.active / h.block) (zone_at i (zone_of h e.active)).blocks)) image.shape

-- the blocks of another file
pub recovers_rest : (g : Geometry) (infos : List ZoneInfo) (i : Image) (e : FileEntry) → IsPossible g infos → IsImage g infos i → zone_of g e.active < g.zones
    → is_recovered_in g infos e ≡ true → e.sparse ≡ false
    → recovered_extents i e ≡ extent_if_any e.active (((info_at infos (zone_of g e.active)).written - offset_of g e.active / g.block) * g.block)
recovers_rest g infos i e possible image within some plain =
    let zone = zone_of g e.active in
    let first = offset_of g e.active / g.block in
    recovers g infos i e possible image some
    ∙ ap (λ s. cond s (frames_at i e.active) (rest_at i e.active)) plain
    ∙ ap (λ (h : Geometry). extent_if_any e.active (length (drop (offset_of h e.active / h.block) (zone_at i (zone_of h e.active)).blocks) * h.block)) image.shape
    ∙ ap (λ (n : ℕ). extent_if_any e.active (n * g.block)) (length-drop first (zone_at i zone).blocks ∙ ap (λ (n : ℕ). n - first) (sym (written_is g infos i zone possible image within)))

-- a recovery point lies in a zone
pub point_zone : (g : Geometry) (infos : List ZoneInfo) (start : ℕ) → is_recovery_point_in g infos start ≡ true → zone_of g start < g.zones
point_zone g infos start point =
    let zone = zone_of g start in
    let all = and_parts ((nat_le 3 zone && nat_lt zone g.zones) && (offset_of g start % g.block == 0)) (nat_le (offset_of g start) ((info_at infos zone).written * g.block)) point in
    let three = and_parts (nat_le 3 zone && nat_lt zone g.zones) (offset_of g start % g.block == 0) all.0 in
    below zone g.zones (and_parts (nat_le 3 zone) (nat_lt zone g.zones) three.0).1

-- addresses behind a place in a zone
pub address_bound : (g : Geometry) (start written first : ℕ) → IsTrue (is_valid g) → zone_of g start < g.zones → written < 2 ^ 32 → start + (written - first) * g.block + 8 < 2 ^ 64
address_bound g start written first valid inside small =
    let some : 0 < zone_bytes g = grind (arith, valid) in
    let size : zone_bytes g < 2 ^ 32 = grind (arith, valid) in
    let zones : g.zones ≤ 65536 = grind (arith, valid) in
    let block : g.block ≤ 4096 = grind (arith, valid) in
    let before : start < g.zones * zone_bytes g = (div-lt_iff_lt-mul some).0 inside in
    let device : g.zones * zone_bytes g ≤ 65536 * zone_bytes g = mul-le-mul_right (zone_bytes g) zones in
    let rest : (written - first) * g.block ≤ (written - first) * 4096 = mul-le-mul_left (written - first) block in
    omega (arith, before, device, rest)

-- a file whose recovery point is one
pub recovered_point : (g : Geometry) (infos : List ZoneInfo) (e : FileEntry) → is_recovered_in g infos e ≡ true → is_recovery_point_in g infos e.active ≡ true
recovered_point g infos e some = (and_parts (not (e.active == no_active)) (is_recovery_point_in g infos e.active) some).1
