-- Blocks of a zone, window by window.
use Rattle.std.proofs.Common.{◌≡◌, ℕ, ◌+◌, ◌-◌, ◌<◌, ◌≤◌, List, ◌++◌, take, drop, sym, ◌∙◌, ap, arith}
use Rattle.std.specs.Prelude.{IsTrue}
use Rattle.std.specs.List.{concat}
use Rattle.std.proofs.lemmas.List.Folds.{concat-append}
use Rattle.std.proofs.Common.{take-add, drop-drop}
use Rattle.zone_image.specs.declared.Geometry.{Geometry}
use Rattle.zone_image.specs.Image.{Image, is_valid, zone_at}
use Rattle.zone_image.specs.Changes.{bytes_at}
use Rattle.zoned_device.specs.Window.{window}

-- a device reads some block at once
pub some_window : (g : Geometry) → IsTrue (is_valid g) → 0 < window g
some_window g valid =
    let room : 8 ≤ g.capacity = grind (arith, valid) in
    omega (arith, room)

-- the bytes of blocks that stand one behind the other
pub blocks_join : (i : Image) (zone block first more : ℕ) → bytes_at i zone block first ++ bytes_at i zone (block + first) more ≡ bytes_at i zone block (first + more)
blocks_join i zone block first more =
    let bs : List (List ℕ) = drop block (zone_at i zone).blocks in
    ap (λ (l : List (List ℕ)). concat (take first bs) ++ concat (take more l)) (ap (λ n. drop n (zone_at i zone).blocks) (omega arith) ∙ sym (drop-drop first block (zone_at i zone).blocks))
    ∙ sym (concat-append (take first bs) (take more (drop first bs)))
    ∙ ap concat (sym (take-add first more bs))
