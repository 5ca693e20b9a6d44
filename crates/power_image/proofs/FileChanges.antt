-- The image in a file after a write of blocks, or with other numbers of a zone.
use Rattle.std.proofs.Common.{◌≡◌, ℕ, zero, suc, ◌+◌, ◌*◌, ◌/◌, ◌%◌, ◌<◌, ◌≤◌, ◌≢◌, ⊎_elim, ◌||◌, ◌==◌, List, [], ◌∷◌, ◌++◌, length, get_or, take, drop, refl, sym, ◌∙◌, ap, arith, length-append}
use Rattle.std.specs.List.{concat}
use Rattle.std.proofs.lemmas.Bool.{cases_lt}
use Rattle.std.proofs.lemmas.List.{append-nil, drop-drop, set-get_or}
use Rattle.zone_image.specs.declared.Geometry.{Geometry}
use Rattle.zone_image.specs.Image.{Zone, Image, no_zone}
use Rattle.zone_image.specs.Changes.{chunks, change_at, blocks_in, bytes_at, with_zone, appended, finished, emptied, synced, zone_appended, zone_finished}
use Rattle.zone_image.specs.declared.ZoneInfo.{ZoneInfo}
use Rattle.zone_image.specs.Infos.{info_appended}
use Rattle.zone_image.proofs.ImageLaws.{zone_in_is}
use Rattle.zone_image.proofs.BlockLaws.{length-chunks, length-blocks_in, whole_bytes, concat_part}
use Rattle.image_backend.specs.declared.table.Slot.{Slot}
use Rattle.image_backend.specs.Contents.{patched, SameOutside}
use Rattle.image_backend.specs.Format.{image_bytes, block_at}
use Rattle.image_backend.specs.Table.{TableState, no_slot, slot_at, slot_info, with_slot, slot_appended, slot_finished, table_synced, IsTable}
use Rattle.image_backend.specs.FileImage.{zone_start, zone_there, zones_there, image_with}
use Rattle.image_backend.specs.ImageLaws.{all_fit, zone_ends, zone_order}
use Rattle.power_image.proofs.Bytes.{patched_outside, from_piece}
use Rattle.power_image.proofs.Places.{blocks_within}
use Rattle.power_image.proofs.Tables.{slot_there, slot_possible, info_with_none, change_at_same}
use Rattle.power_image.proofs.FileZones.{length-zones, zone_by_number, zones_synced, zones_changed, zone_before, zone_behind, chunks-split, chunks-front}

-- an image of these zones
abbrev with_zones : Geometry → List Zone → Image
with_zones g zones = record { geometry = g; zones = zones }

change_at_none : (n : ℕ) (zones : List Zone) → change_at n (λ z. z) zones ≡ zones
change_at_none n [] = refl
change_at_none zero (z ∷ zones) = refl
change_at_none (suc n) (z ∷ zones) = ap (λ (zs : List Zone). z ∷ zs) (change_at_none n zones)

-- other numbers for one zone
image_slot : (t : TableState) (zone : ℕ) (s : Slot) (bytes : List ℕ) (c : Zone → Zone) → IsTable t
    → zone_there t.geometry bytes zone s ≡ c (zone_there t.geometry bytes zone (slot_at t zone)) → image_with (with_slot t zone s) bytes ≡ with_zone (image_with t bytes) zone c
unfolding image_with
image_slot t zone s bytes c is here =
    let at : zone ≡ 0 + zone = omega arith in
    ap (with_zones t.geometry) (zones_changed t.geometry bytes bytes 0 zone zone t.slots s c at (λ m s other fits. refl) here (all_fit t is))

module _ (t : TableState) (zone : ℕ) (bytes : List ℕ) (is : IsTable t) where
  -- a seal
  pub image_finished : image_with (with_slot t zone (slot_finished (slot_at t zone))) bytes ≡ finished (image_with t bytes) zone
  image_finished = image_slot t zone (slot_finished (slot_at t zone)) bytes zone_finished is refl

  -- an empty zone
  pub image_emptied : image_with (with_slot t zone no_slot) bytes ≡ emptied (image_with t bytes) zone
  image_emptied = image_slot t zone no_slot bytes (λ _. no_zone) is refl

-- the bytes of some blocks of a zone
pub image_read : (t : TableState) (zone block bytes : ℕ) (contents : List ℕ) → IsTable t → zone < t.geometry.zones → bytes % t.geometry.block ≡ 0
    → block + bytes / t.geometry.block ≤ (slot_at t zone).written
    → take bytes (drop (block_at t.geometry zone block) contents) ≡ bytes_at (image_with t contents) zone block (bytes / t.geometry.block)
unfolding image_with
image_read t zone block bytes contents is in_range whole written =
    let g = t.geometry in
    let at : zone ≡ 0 + zone = omega arith in
    let count = bytes / g.block in
    let slot = slot_at t zone in
    let here = zone_by_number g contents 0 zone zone t.slots at (slot_there t zone is in_range) in
    let size : count * g.block ≡ bytes = whole_bytes bytes g.block whole in
    let place : zone_start g zone + block * g.block ≡ block_at g zone block = omega arith in
    sym (
    ap (λ (z : Zone). concat (take count (drop block z.blocks))) here
    ∙ concat_part g.block block count slot.written (drop (zone_start g zone) contents) written
    ∙ ap (take (count * g.block)) (drop-drop (block * g.block) (zone_start g zone) contents)
    ∙ ap (λ k. take k (drop (zone_start g zone + block * g.block) contents)) size
    ∙ ap (λ k. take bytes (drop k contents)) place
    )

-- all blocks durable
pub image_synced : (t : TableState) (bytes : List ℕ) → image_with (table_synced t) bytes ≡ synced (image_with t bytes)
unfolding image_with
image_synced t bytes = ap (with_zones t.geometry) (zones_synced t.geometry bytes 0 t.slots)

-- a write of blocks at the end of a zone: its place, and what is written
module _ (t : TableState) (zone : ℕ) (old : List ℕ) (bytes : List ℕ) (is : IsTable t) (in_range : zone < t.geometry.zones) (long : image_bytes t.geometry ≤ length old)
    (whole : length bytes % t.geometry.block ≡ 0) (room : (slot_at t zone).written + length bytes / t.geometry.block ≤ t.geometry.capacity) where
  abbrev pub at : ℕ
  at = block_at t.geometry zone (slot_at t zone).written

  abbrev pub count : ℕ
  count = length bytes / t.geometry.block

  pub fits : at + length bytes ≤ length old
  fits = omega (arith, blocks_within t.geometry zone (slot_at t zone).written (length bytes) is.possible.valid in_range whole room, long)

  capacity : t.geometry.capacity ≤ t.geometry.zone_blocks
  capacity = grind (arith, is.possible.valid)

  -- the write ends where the next zone begins, or before
  ends : at + length bytes ≤ zone_start t.geometry (zone + 1)
  ends =
      let sum : ((slot_at t zone).written + count) * t.geometry.block ≡ (slot_at t zone).written * t.geometry.block + count * t.geometry.block = omega arith in
      omega (arith, zone_ends t.geometry zone ((slot_at t zone).written + count) capacity room, sum, whole_bytes (length bytes) t.geometry.block whole)

  others : (new : List ℕ) → SameOutside at (length bytes) old new → (m : ℕ) (s : Slot) → m ≢ zone → s.written ≤ t.geometry.capacity → zone_there t.geometry new m s ≡ zone_there t.geometry old m s
  others new same m s other room = ⊎_elim
      (λ before.
      let end : zone_start t.geometry m + s.written * t.geometry.block ≤ zone_start t.geometry (m + 1) = zone_ends t.geometry m s.written capacity room in
      let next : zone_start t.geometry (m + 1) ≤ zone_start t.geometry zone = zone_order t.geometry (m + 1) zone (omega (arith, before)) in
      zone_before t.geometry old new same m s (omega (arith, end, next)))
      (λ behind.
      let next : zone_start t.geometry (zone + 1) ≤ zone_start t.geometry m = zone_order t.geometry (zone + 1) m (omega (arith, behind, other)) in
      zone_behind t.geometry old new same m s (omega (arith, ends, next)))
      (cases_lt m zone)

  -- the written blocks of the zone itself end before it
  here_same : (new : List ℕ) → SameOutside at (length bytes) old new → zone_there t.geometry new zone (slot_at t zone) ≡ zone_there t.geometry old zone (slot_at t zone)
  here_same new same = zone_before t.geometry old new same zone (slot_at t zone) (omega arith)

  -- a write that failed leaves the image
  pub image_unwritten : (new : List ℕ) → SameOutside at (length bytes) old new → image_with t new ≡ image_with t old
  unfolding image_with
  image_unwritten new same =
      let there : zone ≡ 0 + zone = omega arith in
      ap (with_zones t.geometry)
      (ap (zones_there t.geometry new 0) (sym (set-get_or t.slots zone no_slot))
      ∙ zones_changed t.geometry old new 0 zone zone t.slots (slot_at t zone) (λ z. z) there (others new same) (here_same new same) (all_fit t is)
      ∙ change_at_none zone (zones_there t.geometry old 0 t.slots))

  abbrev pub written : List ℕ
  written = patched at bytes old

  pub same_written : SameOutside at (length bytes) old written
  same_written = patched_outside at bytes old fits

  blocks_written : chunks t.geometry.block ((slot_at t zone).written + count) (drop (zone_start t.geometry zone) written)
      ≡ chunks t.geometry.block (slot_at t zone).written (drop (zone_start t.geometry zone) old) ++ blocks_in t.geometry bytes
  blocks_written =
      let g = t.geometry in
      let w = (slot_at t zone).written in
      let place : zone_start g zone + w * g.block ≡ at = omega arith in
      chunks-split g.block w count (drop (zone_start g zone) written)
      ∙ ap (λ (z : Zone). z.blocks ++ chunks g.block count (drop (w * g.block) (drop (zone_start g zone) written))) (here_same written same_written)
      ∙ ap (λ (l : List ℕ). chunks g.block w (drop (zone_start g zone) old) ++ chunks g.block count l)
      (drop-drop (w * g.block) (zone_start g zone) written ∙ ap (λ k. drop k written) place ∙ from_piece at bytes old fits)
      ∙ ap (λ (l : List (List ℕ)). chunks g.block w (drop (zone_start g zone) old) ++ l)
      (chunks-front g.block count bytes (drop (at + length bytes) old) (sym (whole_bytes (length bytes) g.block whole)))

  zone_written : zone_there t.geometry written zone (slot_appended t.geometry.capacity count (slot_at t zone))
      ≡ zone_appended t.geometry.capacity (blocks_in t.geometry bytes) (zone_there t.geometry old zone (slot_at t zone))
  zone_written = λ i. record { blocks = blocks_written i; kept = (slot_at t zone).kept; sealed = (slot_at t zone).sealed || (number i == t.geometry.capacity) }
    where
      number : (slot_at t zone).written + count ≡ length (chunks t.geometry.block (slot_at t zone).written (drop (zone_start t.geometry zone) old) ++ blocks_in t.geometry bytes)
      number = omega (
        arith,
        length-append (chunks t.geometry.block (slot_at t zone).written (drop (zone_start t.geometry zone) old)) (blocks_in t.geometry bytes),
        length-chunks t.geometry.block (slot_at t zone).written (drop (zone_start t.geometry zone) old),
        length-blocks_in t.geometry bytes,
      )

  -- the blocks are added to the image
  pub image_written : image_with (with_slot t zone (slot_appended t.geometry.capacity count (slot_at t zone))) written ≡ appended (image_with t old) zone (blocks_in t.geometry bytes)
  unfolding image_with
  image_written =
      let there : zone ≡ 0 + zone = omega arith in
      ap (with_zones t.geometry)
      (zones_changed t.geometry old written 0 zone zone t.slots (slot_appended t.geometry.capacity count (slot_at t zone)) (zone_appended t.geometry.capacity (blocks_in t.geometry bytes)) there
      (others written same_written) zone_written (all_fit t is))

-- nothing added to a zone that has what is told of it
zone_nothing : (capacity : ℕ) (z : Zone) (info : ZoneInfo) → length z.blocks ≡ info.written → z.sealed ≡ info.sealed → info_appended capacity 0 info ≡ info → zone_appended capacity [] z ≡ z
zone_nothing capacity z info long seal none = λ i. record { blocks = append-nil z.blocks i; kept = z.kept; sealed = sealed i }
  where
    sealed : (z.sealed || (length (z.blocks ++ []) == capacity)) ≡ z.sealed
    sealed =
        let number : length (z.blocks ++ []) ≡ info.written + 0 = omega (arith, ap length (append-nil z.blocks), long) in
        ap (λ n. z.sealed || (n == capacity)) number ∙ ap (λ b. b || (info.written + 0 == capacity)) seal ∙ ap (λ (i : ZoneInfo). i.sealed) none ∙ sym seal

-- an append of no blocks changes nothing
pub image_nothing : (t : TableState) (zone : ℕ) (bytes : List ℕ) → IsTable t → zone < t.geometry.zones → appended (image_with t bytes) zone [] ≡ image_with t bytes
unfolding image_with
image_nothing t zone bytes is in_range =
    let at : zone ≡ 0 + zone = omega arith in
    let zones = zones_there t.geometry bytes 0 t.slots in
    let slot = slot_at t zone in
    let there : get_or zones zone no_zone ≡ zone_there t.geometry bytes zone slot = sym (zone_in_is zones zone) ∙ zone_by_number t.geometry bytes 0 zone zone t.slots at (slot_there t zone is in_range) in
    let same : zone_appended t.geometry.capacity [] (zone_there t.geometry bytes zone slot) ≡ zone_there t.geometry bytes zone slot =
    zone_nothing t.geometry.capacity (zone_there t.geometry bytes zone slot) (slot_info slot) (length-chunks t.geometry.block slot.written (drop (zone_start t.geometry zone) bytes)) refl
    (info_with_none t.geometry (slot_info slot) (slot_possible t zone is in_range)) in
    let in_zones : zone < length zones = omega (arith, length-zones t.geometry bytes 0 t.slots, slot_there t zone is in_range) in
    ap (with_zones t.geometry) (change_at_same zone (zone_appended t.geometry.capacity []) zones no_zone in_zones (ap (zone_appended t.geometry.capacity []) there ∙ same ∙ sym there))
