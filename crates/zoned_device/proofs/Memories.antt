-- An image in memory when the buffer of one zone changes.
use Rattle.std.proofs.Common.{Bool, ◌≡◌, ℕ, ◌+◌, ◌*◌, ◌/◌, ◌%◌, ◌<◌, ◌≤◌, false, List, [], ◌∷◌, length, map, take, drop, get_or, set, refl, sym, ◌∙◌, ap, subst, arith}
use Rattle.std.specs.Prelude.{IsTrue}
use Rattle.std.specs.List.{All, concat}
use Rattle.std.proofs.lemmas.List.{get_or-map, length-map, map-set}
use Rattle.std.proofs.lemmas.List.Elements.{All-set, All-get_or, All-tail, All-map, All-weaker}
use Rattle.zone_image.specs.declared.Geometry.{Geometry}
use Rattle.zone_image.specs.Image.{Zone, no_zone, zone_at}
use Rattle.zone_image.specs.Changes.{zones_crashed, crashed, with_content, chunks, blocks_in, bytes_at, with_zone, zone_appended, zone_finished, zone_synced, synced}
use Rattle.zone_image.specs.Infos.{no_info, info_of, infos_of, info_at, active_zones, IsValidImage}
use Rattle.zone_image.proofs.BlockLaws.{length-chunks, concat_part, length-blocks_in, All-blocks_in}
use Rattle.zone_image.proofs.ImageLaws.{zone_in_is, change_at_is}
use Rattle.zone_image.proofs.InfoLaws.{valid_finished, valid_emptied, valid_written, valid_content, valid_synced}
use Rattle.zone_image.proofs.CrashLaws.{valid_crash, crashed_is_crash}
use Rattle.zoned_device.specs.declared.zone_buffer.ZoneBuffer.{ZoneBuffer}
use Rattle.zoned_device.specs.Memory.{zone_in, image_in, synced_buffer, IsBuffer, IsMemory}

module _ (g : Geometry) (buffers : List ZoneBuffer) (is : IsMemory g buffers) (zone : ℕ) (b : ZoneBuffer) (in_range : zone < g.zones) (here : b ≡ get_or buffers zone b) where
  there : zone < length buffers
  there = omega (arith, is.valid.possible.count, length-map (map (zone_in g.block) buffers) info_of, length-map buffers (zone_in g.block))

  zone_there : zone < length (map (zone_in g.block) buffers)
  zone_there = omega (arith, there, length-map buffers (zone_in g.block))

  zone_is : (d : Zone) → get_or (map (zone_in g.block) buffers) zone d ≡ zone_in g.block b
  zone_is d = get_or-map (zone_in g.block) buffers zone b d there ∙ ap (zone_in g.block) (sym here)

  -- the buffer's own facts
  pub buffer_is : IsBuffer g b
  buffer_is = subst (IsBuffer g) (sym here) (All-get_or (IsBuffer g) buffers zone b there is.buffers_are)

  -- the zone by its number
  pub zone_at_is : zone_at (image_in g buffers) zone ≡ zone_in g.block b
  zone_at_is = zone_in_is (map (zone_in g.block) buffers) zone ∙ zone_is no_zone

  -- what the buffer tells is told of its zone
  pub info_is : info_at (infos_of (image_in g buffers)) zone ≡ record { written = b.written; sealed = b.sealed }
  info_is =
      get_or-map info_of (map (zone_in g.block) buffers) zone no_zone no_info zone_there
      ∙ ap info_of (zone_is no_zone)
      ∙ (λ i. record { written = length-chunks g.block b.written b.bytes.items i; sealed = b.sealed })

  -- another buffer for the zone is a change of the zone
  pub with_buffer : (c : ZoneBuffer) (f : Zone → Zone) → zone_in g.block c ≡ f (zone_in g.block b) → image_in g (set buffers zone c) ≡ with_zone (image_in g buffers) zone f
  with_buffer c f changed =
      ap (λ zs. record { geometry = g; zones = zs })
      (map-set (zone_in g.block) buffers zone c
      ∙ ap (set (map (zone_in g.block) buffers) zone) (changed ∙ ap f (sym (zone_is no_zone)))
      ∙ sym (change_at_is zone f (map (zone_in g.block) buffers) no_zone zone_there))

  buffers_with : (c : ZoneBuffer) → IsBuffer g c → All (IsBuffer g) (set buffers zone c)
  buffers_with c c_is = All-set (IsBuffer g) buffers zone c c_is is.buffers_are

  pub memory_finished : (c : ZoneBuffer) → IsBuffer g c → zone_in g.block c ≡ zone_finished (zone_in g.block b) → IsMemory g (set buffers zone c)
  memory_finished c c_is changed = record {
    valid = subst IsValidImage (sym (with_buffer c zone_finished changed)) (valid_finished (image_in g buffers) zone is.valid in_range);
    buffers_are = buffers_with c c_is;
  }

  pub memory_emptied : (c : ZoneBuffer) → IsBuffer g c → zone_in g.block c ≡ no_zone → IsMemory g (set buffers zone c)
  memory_emptied c c_is changed = record {
    valid = subst IsValidImage (sym (with_buffer c (λ _. no_zone) changed)) (valid_emptied (image_in g buffers) zone is.valid in_range);
    buffers_are = buffers_with c c_is;
  }

  pub memory_appended : (c : ZoneBuffer) (bytes : List ℕ) → length bytes % g.block ≡ 0 → IsBuffer g c
      → zone_in g.block c ≡ zone_appended g.capacity (blocks_in g bytes) (zone_in g.block b)
      → (info_at (infos_of (image_in g buffers)) zone).sealed ≡ false
      → (info_at (infos_of (image_in g buffers)) zone).written + length bytes / g.block ≤ g.capacity
      → ((info_at (infos_of (image_in g buffers)) zone).written ≡ 0 → active_zones (infos_of (image_in g buffers)) < g.active_limit)
      → IsMemory g (set buffers zone c)
  memory_appended c bytes whole c_is changed unsealed room spare =
      record {
        valid = subst IsValidImage (sym (with_buffer c (zone_appended g.capacity (blocks_in g bytes)) changed))
            (valid_written (image_in g buffers) zone bytes is.valid in_range whole unsealed room spare);
        buffers_are = buffers_with c c_is;
      }

  pub memory_content : (c : ZoneBuffer) (bytes : List ℕ) (kept : ℕ) (sealed : Bool) → length bytes % g.block ≡ 0 → IsBuffer g c
      → zone_in g.block c ≡ record { blocks = blocks_in g bytes; kept = kept; sealed = sealed }
      → length bytes / g.block ≤ g.capacity → kept ≤ length bytes / g.block → (length bytes / g.block ≡ g.capacity → IsTrue sealed)
      → active_zones (infos_of (with_content (image_in g buffers) zone (blocks_in g bytes) kept sealed)) ≤ g.active_limit
      → IsMemory g (set buffers zone c)
  memory_content c bytes kept sealed whole c_is changed room durable full active =
      let count = length-blocks_in g bytes in
      record {
        valid = subst IsValidImage (sym (with_buffer c (λ _. record { blocks = blocks_in g bytes; kept = kept; sealed = sealed }) changed))
            (valid_content (image_in g buffers) zone (blocks_in g bytes) kept sealed is.valid in_range (All-blocks_in g bytes whole) (omega (arith, count, room)) (omega (arith, count, durable)) (λ all. full (sym count ∙ all)) active);
        buffers_are = buffers_with c c_is;
      }

  -- the bytes of some blocks
  pub bytes_are : (block count : ℕ) → block + count ≤ b.written → bytes_at (image_in g buffers) zone block count ≡ take (count * g.block) (drop (block * g.block) b.bytes.items)
  bytes_are block count within =
      ap (λ z. concat (take count (drop block z.blocks))) zone_at_is ∙ concat_part g.block block count b.written b.bytes.items within

-- all buffers synced
module _ (g : Geometry) where
  zones_synced : (buffers : List ZoneBuffer) → All (IsBuffer g) buffers → map (zone_in g.block) (map synced_buffer buffers) ≡ map zone_synced (map (zone_in g.block) buffers)
  zones_synced [] all = refl
  zones_synced (b ∷ buffers) all =
      let here : zone_in g.block (synced_buffer b) ≡ zone_synced (zone_in g.block b) =
      ap (λ n. record { blocks = chunks g.block b.written b.bytes.items; kept = n; sealed = b.sealed }) (sym (length-chunks g.block b.written b.bytes.items)) in
      λ i. here i ∷ zones_synced buffers (All-tail (IsBuffer g) b buffers all) i

  pub image_synced : (buffers : List ZoneBuffer) → IsMemory g buffers → image_in g (map synced_buffer buffers) ≡ synced (image_in g buffers)
  image_synced buffers is = ap (λ zs. record { geometry = g; zones = zs }) (zones_synced buffers is.buffers_are)

  pub memory_synced : (buffers : List ZoneBuffer) → IsMemory g buffers → IsMemory g (map synced_buffer buffers)
  memory_synced buffers is = record {
    valid = subst IsValidImage (sym (image_synced buffers is)) (valid_synced (image_in g buffers) is.valid);
    buffers_are = All-map (IsBuffer g) synced_buffer buffers
        (All-weaker (IsBuffer g) (λ b. IsBuffer g (synced_buffer b)) (λ b b_is. record { whole = b_is.whole; room = b_is.room; limit = b_is.limit; kept = omega arith }) buffers is.buffers_are);
  }

-- zones after a crash
pub memory_crashed : (g : Geometry) (buffers new : List ZoneBuffer) (keep : List ℕ) → IsMemory g buffers → All (IsBuffer g) new
    → map (zone_in g.block) new ≡ zones_crashed (map (zone_in g.block) buffers) keep → IsMemory g new
memory_crashed g buffers new keep is new_are left =
    let image : image_in g new ≡ crashed (image_in g buffers) keep = ap (λ zs. record { geometry = g; zones = zs }) left in
    record {
      valid = subst IsValidImage (sym image) (valid_crash (image_in g buffers) (crashed (image_in g buffers) keep) is.valid (crashed_is_crash (image_in g buffers) keep is.valid));
      buffers_are = new_are;
    }
