-- The image and the zones' numbers after formatting.
use Rattle.std.proofs.Common.{◌≡◌, ℕ, zero, suc, ◌+◌, ◌-◌, ◌<◌, false, ◌||◌, ◌==◌, List, [], ◌∷◌, ◌++◌, length, map, replicate, refl, sym, ◌∙◌, ap, arith, length-append, IsTrue}
use Rattle.std.proofs.lemmas.Bool.{ne_eqb}
use Rattle.std.proofs.lemmas.Grind.{common_steps}
use Rattle.zone_image.specs.declared.Geometry.{Geometry}
use Rattle.zone_image.specs.Image.{Image, no_zone, is_valid}
use Rattle.zone_image.specs.Changes.{zone_appended, zone_synced, appended, synced, blank}
use Rattle.zone_image.specs.Infos.{infos_of, infos_appended, infos_blank}
use Rattle.zone_image.proofs.InfoLaws.{infos-appended, infos-synced, infos-blank}
use Rattle.record_model.specs.Encoding.{payload_of}
use Rattle.record_model.specs.Numbers.{varint}
use Rattle.record_model.specs.declared.types.Record.TheVariants.{Snapshot}
use Rattle.superblock_core.specs.Superblock.{superblock_bytes}
use Rattle.superblock_core.specs.declared.superblock.Superblock.{Superblock}
use Rattle.log_model.specs.LogScan.{blocks_of, record_blocks}
use Rattle.log_model.specs.Format.{durable_zone, formatted_image}
use Rattle.log_model.proofs.RecordLaws.{length_record}
use Rattle.log_roll.specs.NewLog.{begun, infos_begun}

-- one copy, and the others
copies : {A : Type 0} (n : ℕ) (x : A) → 0 < n → replicate n x ≡ x ∷ replicate (n - 1) x
copies zero x some = absurd (omega arith)
copies (suc n) x some = ap (λ k. x ∷ replicate k x) (omega arith)

-- empty zones after a sync
synced_empty : (n : ℕ) → map zone_synced (replicate n no_zone) ≡ replicate n no_zone
synced_empty zero = refl
synced_empty (suc n) = ap (λ zs. no_zone ∷ zs) (synced_empty n)

-- a zone that was empty after two appends that don't fill it, and a sync
pub begun_zone : (capacity : ℕ) (first second : List (List ℕ)) → length first + length second < capacity
    → zone_synced (zone_appended capacity second (zone_appended capacity first no_zone)) ≡ durable_zone (first ++ second)
begun_zone capacity first second less =
    let part : (length first == capacity) ≡ false = ne_eqb (length first) capacity (λ e. absurd (omega (arith, less, e))) in
    let whole : (length (first ++ second) == capacity) ≡ false = ne_eqb (length (first ++ second)) capacity (λ e. absurd (omega (arith, less, e, length-append first second))) in
    let seal : ((false || (length first == capacity)) || (length (first ++ second) == capacity)) ≡ false = ap (λ b. (false || b) || (length (first ++ second) == capacity)) part ∙ whole in
    λ k. record { blocks = first ++ second; kept = length (first ++ second); sealed = seal k }

-- room for a superblock and an empty snapshot
pub room_for_format : (g : Geometry) → IsTrue (is_valid g) → blocks_of g.block 512 + blocks_of g.block 5 < g.capacity
room_for_format g valid = grind (arith, common_steps)

-- the image of a device on which the first log is begun
pub begun_image : (g : Geometry) (first second : List (List ℕ)) → 0 < g.zones → length first + length second < g.capacity
    → synced (begun 0 first second (blank g)) ≡ record { geometry = g; zones = durable_zone (first ++ second) ∷ replicate (g.zones - 1) no_zone }
begun_image g first second some less =
    let zones = copies g.zones no_zone some in
    ap (λ zs. synced (begun 0 first second (record { geometry = g; zones = zs }))) zones
    ∙ (λ k. record { geometry = g; zones = begun_zone g.capacity first second less k ∷ synced_empty (g.zones - 1) k })

-- the formatted image
pub formatted_is : (g : Geometry) (s : Superblock) (superblock snapshot : List ℕ) → 0 < g.zones → IsTrue (is_valid g) → length superblock ≡ 512
    → superblock ≡ superblock_bytes s → snapshot ≡ payload_of (Snapshot []) → length snapshot ≡ 5
    → synced (begun 0 (record_blocks g.block superblock) (record_blocks g.block snapshot) (blank g)) ≡ formatted_image g s
unfolding formatted_image
formatted_is g s superblock snapshot some valid size is empty short =
    let first : length (record_blocks g.block superblock) ≡ blocks_of g.block 512 = length_record g.block superblock ∙ ap (blocks_of g.block) size in
    let second : length (record_blocks g.block snapshot) ≡ blocks_of g.block 5 = length_record g.block snapshot ∙ ap (blocks_of g.block) short in
    begun_image g (record_blocks g.block superblock) (record_blocks g.block snapshot) some (omega (arith, first, second, room_for_format g valid))
    ∙ (λ k. record { geometry = g; zones = durable_zone (record_blocks g.block (is k) ++ record_blocks g.block (empty k)) ∷ replicate (g.zones - 1) no_zone })

-- the numbers and seals of an image with a new log
pub begun_infos : (i : Image) (zone : ℕ) (first second : List (List ℕ))
    → infos_of (synced (begun zone first second i)) ≡ infos_begun i.geometry (infos_of i) zone (length first) (length second)
begun_infos i zone first second =
    infos-synced (begun zone first second i) ∙ (infos-appended (appended i zone first) zone second
    ∙ ap (λ infos. infos_appended i.geometry infos zone (length second)) (infos-appended i zone first))

-- the numbers and seals of the formatted image
pub formatted_infos : (g : Geometry) (s : Superblock) (superblock snapshot : List ℕ) → 0 < g.zones → IsTrue (is_valid g) → length superblock ≡ 512
    → superblock ≡ superblock_bytes s → snapshot ≡ payload_of (Snapshot []) → length snapshot ≡ 5
    → infos_begun g (infos_blank g) 0 (blocks_of g.block 512) (blocks_of g.block 5) ≡ infos_of (formatted_image g s)
formatted_infos g s superblock snapshot some valid size is empty short =
    let first : length (record_blocks g.block superblock) ≡ blocks_of g.block 512 = length_record g.block superblock ∙ ap (blocks_of g.block) size in
    let second : length (record_blocks g.block snapshot) ≡ blocks_of g.block 5 = length_record g.block snapshot ∙ ap (blocks_of g.block) short in
    (λ k. infos_begun g (sym (infos-blank g) k) 0 (sym first k) (sym second k))
    ∙ (sym (begun_infos (blank g) 0 (record_blocks g.block superblock) (record_blocks g.block snapshot))
    ∙ ap infos_of (formatted_is g s superblock snapshot some valid size is empty short))

-- an empty snapshot
pub empty_snapshot : ◌≡◌ {A = List ℕ} (1 ∷ 0 ∷ 0 ∷ 0 ∷ 0 ∷ []) (payload_of (Snapshot []))
unfolding payload_of varint
empty_snapshot = refl
