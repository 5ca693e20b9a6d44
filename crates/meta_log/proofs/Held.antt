-- What a reader holds of its zone.
use Rattle.std.proofs.Common.{◌≡◌, ℕ, ◌+◌, ◌-◌, ◌*◌, ◌<◌, ◌≤◌, ◌⊎◌, List, ◌++◌, length, take, drop, sym, ap, ◌∙◌, subst, arith}
use Rattle.std.specs.Prelude.{IsTrue}
use Rattle.std.specs.Int.{w32, from_le_bytes}
use Rattle.std.specs.List.{concat}
use Rattle.std.proofs.lemmas.Grind.{common_steps}
use Rattle.std.proofs.lemmas.List.{take-append-le, drop-append-le}
use Rattle.zone_image.specs.declared.Geometry.{Geometry}
use Rattle.zone_image.specs.Image.{Image, is_valid, zone_at}
use Rattle.zone_image.specs.Changes.{bytes_at}
use Rattle.superblock_core.specs.Superblock.{u32_at}
use Rattle.log_model.specs.LogScan.{scan_from}
use Rattle.meta_log.specs.Reader.{ReaderState, IsHeld, IsSamePlace, payload_at, scan_left, unless_over}
use Rattle.meta_log.proofs.Reading.{joined}
use Rattle.meta_log.proofs.Windows.{AreWhole, held_behind, held_blocks, part_taken}

-- a device of a valid geometry has one of two block sizes
pub block_sizes : (g : Geometry) → IsTrue (is_valid g) → (g.block ≡ 512) ⊎ (g.block ≡ 4096)
block_sizes g valid = grind (arith, common_steps)

-- a block has room for a header
pub header_fits : (g : Geometry) → IsTrue (is_valid g) → 8 ≤ g.block
header_fits g valid = grind (arith, common_steps)

-- what is held, at the place of another reader and by another name of the image
pub held_there : (r h : ReaderState) (i j : Image) → IsSamePlace r h → j ≡ i → IsHeld h j → h.held ≡ take (length h.held) (concat (drop r.next (zone_at i r.zone).blocks))
held_there r h i j place same held =
    held
    ∙ ap (λ k. take (length h.held) (concat (drop h.next (zone_at k h.zone).blocks))) same
    ∙ ap (λ z. take (length h.held) (concat (drop h.next (zone_at i z).blocks))) place.zone
    ∙ ap (λ n. take (length h.held) (concat (drop n (zone_at i r.zone).blocks))) place.next

-- the first block that is held is the next one
pub first_held : (block next : ℕ) (held first : List ℕ) (blocks : List (List ℕ)) → AreWhole block blocks → held ≡ take (length held) (concat (drop next blocks)) → block ≤ length held
    → first ≡ take block held → first ≡ concat (take 1 (drop next blocks))
first_held block next held first blocks whole is enough first_is =
    let one : block ≡ 1 * block = omega arith in
    first_is ∙ ap (λ n. take n held) one ∙ held_blocks block next 1 held blocks whole is (omega (arith, enough))

-- the payload that is copied out of what is held
pub copied_is : (block next len count : ℕ) (held : List ℕ) (blocks : List (List ℕ)) → AreWhole block blocks → held ≡ take (length held) (concat (drop next blocks)) → count * block ≤ length held
    → 8 + len ≤ count * block → take len (drop 8 held) ≡ take len (drop 8 (concat (take count (drop next blocks))))
copied_is block next len count held blocks whole is enough room =
    sym (part_taken 8 len (count * block) held room) ∙ ap (λ b. take len (drop 8 b)) (held_blocks block next count held blocks whole is enough)

-- the payload that is put together behind the first block
pub joined_is : (next len count : ℕ) (first bytes : List ℕ) (blocks : List (List ℕ)) → 0 < count → 8 ≤ length first → first ≡ concat (take 1 (drop next blocks))
    → bytes ≡ drop 8 first ++ concat (take (count - 1) (drop (next + 1) blocks)) → take len bytes ≡ take len (drop 8 (concat (take count (drop next blocks))))
joined_is next len count first bytes blocks some room first_is is =
    let rest = concat (take (count - 1) (drop (next + 1) blocks)) in
    ap (take len) (is ∙ sym (drop-append-le 8 first rest room) ∙ ap (λ b. drop 8 (b ++ rest)) first_is ∙ ap (drop 8) (joined blocks next count some))

-- the first number of a record stands in its first block
pub first_number : (next count : ℕ) (first : List ℕ) (blocks : List (List ℕ)) → 0 < count → 4 ≤ length first → first ≡ concat (take 1 (drop next blocks))
    → u32_at 0 first ≡ u32_at 0 (concat (take count (drop next blocks)))
first_number next count first blocks some room first_is =
    let rest = concat (take (count - 1) (drop (next + 1) blocks)) in
    ap (from_le_bytes w32) (sym (take-append-le 4 first rest room)) ∙ ap (λ b. u32_at 0 (b ++ rest)) first_is ∙ ap (u32_at 0) (joined blocks next count some)

-- the payload of the next record, by another reader at the same place
pub payload_there : (r h : ReaderState) (i j : Image) (len count : ℕ) → IsSamePlace r h → j ≡ i → payload_at h j len count ≡ payload_at r i len count
payload_there r h i j len count place same =
    ap (λ k. payload_at h k len count) same
    ∙ ap (λ z. take len (drop 8 (bytes_at i z h.next count))) place.zone
    ∙ ap (λ n. take len (drop 8 (bytes_at i r.zone n count))) place.next

-- the reader behind so many blocks
abbrev pub passed : ReaderState → ℕ → ReaderState
passed h count = record h { next = h.next + count; held = drop (count * h.block_size) h.held }

-- it holds what it held behind them
pub passed_held : (h p : ReaderState) (i : Image) (count : ℕ) → AreWhole h.block_size (zone_at i h.zone).blocks → p ≡ passed h count → IsHeld h i → IsHeld p i
passed_held h p i count whole is held = subst (λ q. IsHeld q i) (sym is) (held_behind h.block_size h.next count h.held (zone_at i h.zone).blocks whole held)

-- what is left to scan behind them is no matter of what is held
pub passed_left : (r h p : ReaderState) (count : ℕ) (blocks : List (List ℕ)) → IsSamePlace r h → p ≡ passed h count → scan_left (record r { next = r.next + count }) blocks ≡ scan_left p blocks
passed_left r h p count blocks place is =
    sym (ap (λ q. scan_left q blocks) is
    ∙ ap (λ n. unless_over h.ended (scan_from h.block_size (n + count) (drop (n + count) blocks))) place.next
    ∙ ap (λ b. unless_over h.ended (scan_from b (r.next + count) (drop (r.next + count) blocks))) place.block_size
    ∙ ap (λ e. unless_over e (scan_from r.block_size (r.next + count) (drop (r.next + count) blocks))) place.ended)
