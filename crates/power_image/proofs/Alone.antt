-- The bytes of the zones alone, before and after a write.
use Rattle.std.proofs.Common.{◌≡◌, ℕ, ◌+◌, ◌-◌, ◌*◌, ◌≤◌, List, ◌++◌, length, take, drop, replicate, sym, ◌∙◌, ap, arith, append_assoc, length-append, length-drop}
use Rattle.std.proofs.Math.Seq.{take-append-add, drop-append-add}
use Rattle.std.proofs.lemmas.List.{drop-drop, drop-take, drop-append-le, take-append-le, take-append-drop, take_at, length-replicate, length-take-le}
use Rattle.zone_image.specs.declared.Geometry.{Geometry}
use Rattle.zone_image.specs.Image.{zone_bytes}
use Rattle.image_backend.specs.Contents.{patched, SameOutside}
use Rattle.image_backend.specs.Format.{zones_at as first_zones_at, block_at as first_block_at}
use Rattle.power_image.specs.Layout.{zones_at, block_at}
use Rattle.power_image.specs.Table.{zones_alone}
use Rattle.power_image.specs.State.{SameZones}
use Rattle.power_image.proofs.Bytes.{behind_same, length_patched}

-- the same zones are the same alone
pub alone_same : (g : Geometry) (old new : List ℕ) → SameZones g old new → zones_alone g new ≡ zones_alone g old
alone_same g old new same = ap (λ (l : List ℕ). replicate (first_zones_at g) 0 ++ l) same.zones

-- a write before the zones
pub zones_behind : (g : Geometry) {at count : ℕ} (old new : List ℕ) → at + count ≤ zones_at g → SameOutside at count old new → SameZones g old new
zones_behind g old new before same = record { zones = behind_same same (zones_at g) before; long = same.long }

-- a write behind a front
module _ (front rest piece : List ℕ) (k : ℕ) where
  take_behind : (at : ℕ) → at ≡ length front + k → take at (front ++ rest) ≡ front ++ take k rest
  take_behind at is = ap (λ n. take n (front ++ rest)) is ∙ take-append-add front rest k

  drop_behind : (n m : ℕ) → n ≡ length front + m → drop n (front ++ rest) ≡ drop m rest
  drop_behind n m is = ap (λ n. drop n (front ++ rest)) is ∙ drop-append-add front rest m

  pub patched_behind : (at : ℕ) → at ≡ length front + k → patched at piece (front ++ rest) ≡ front ++ patched k piece rest
  patched_behind at is =
      let last : at + length piece ≡ length front + (k + length piece) = omega (arith, is) in
      ap (λ (l : List ℕ). l ++ piece ++ drop (at + length piece) (front ++ rest)) (take_behind at is)
      ∙ ap (λ (l : List ℕ). (front ++ take k rest) ++ piece ++ l) (drop_behind (at + length piece) (k + length piece) last)
      ∙ ap (λ (l : List ℕ). l ++ drop (k + length piece) rest) (append_assoc front (take k rest) piece)
      ∙ append_assoc front (take k rest ++ piece) (drop (k + length piece) rest)

-- what lies from a place on, after a write behind that place
pub drop_patched : (z k : ℕ) (piece bytes : List ℕ) → z + k + length piece ≤ length bytes → drop z (patched (z + k) piece bytes) ≡ patched k piece (drop z bytes)
drop_patched z k piece bytes fits =
    let short : z + k ≤ length bytes = omega (arith, fits) in
    let long = length-take-le (z + k) bytes short in
    let enough : z ≤ length (take (z + k) bytes) = omega (arith, long) in
    let sum : z + k + length piece ≡ z + (k + length piece) = omega arith in
    ap (drop z) (append_assoc (take (z + k) bytes) piece (drop (z + k + length piece) bytes))
    ∙ drop-append-le z (take (z + k) bytes) (piece ++ drop (z + k + length piece) bytes) enough
    ∙ ap (λ (l : List ℕ). l ++ (piece ++ drop (z + k + length piece) bytes)) (drop-take z k bytes)
    ∙ ap (λ n. take k (drop z bytes) ++ (piece ++ drop n bytes)) sum
    ∙ ap (λ (l : List ℕ). take k (drop z bytes) ++ (piece ++ l)) (sym (drop-drop (k + length piece) z bytes))
    ∙ sym (append_assoc (take k (drop z bytes)) piece (drop (k + length piece) (drop z bytes)))

-- what lies before a place, after a write before that place
pub take_patched : (n k : ℕ) (piece bytes : List ℕ) → k + length piece ≤ n → n ≤ length bytes → take n (patched k piece bytes) ≡ patched k piece (take n bytes)
take_patched n k piece bytes within short =
    let long = length-take-le n bytes short in
    let fits : k + length piece ≤ length (take n bytes) = omega (arith, within, long) in
    let parts : patched k piece bytes ≡ patched k piece (take n bytes) ++ drop n bytes =
    ap (patched k piece) (sym (take-append-drop n bytes))
    ∙ ap (λ (l : List ℕ). l ++ piece ++ drop (k + length piece) (take n bytes ++ drop n bytes)) (take-append-le k (take n bytes) (drop n bytes) (omega (arith, fits)))
    ∙ ap (λ (l : List ℕ). take k (take n bytes) ++ piece ++ l) (drop-append-le (k + length piece) (take n bytes) (drop n bytes) fits)
    ∙ sym (append_assoc (take k (take n bytes) ++ piece) (drop (k + length piece) (take n bytes)) (drop n bytes)) in
    ap (take n) parts ∙ take_at (patched k piece (take n bytes)) (drop n bytes) n (length_patched k piece (take n bytes) fits ∙ long)

-- what stands before the zones where they stand alone
abbrev front : Geometry → List ℕ
front g = replicate (first_zones_at g) 0

alone_length : (g : Geometry) (bytes : List ℕ) → length (zones_alone g bytes) ≡ length (front g) + (length bytes - zones_at g)
alone_length g bytes = length-append (front g) (drop (zones_at g) bytes) ∙ ap (λ n. length (front g) + n) (length-drop (zones_at g) bytes)

module _ (g : Geometry) (zone block : ℕ) where
  -- how far behind the begin of the zones a block stands
  abbrev far : ℕ
  far = zone * zone_bytes g + block * g.block

  first_place : first_block_at g zone block ≡ length (front g) + far
  first_place = omega (arith, length-replicate {A = ℕ} (first_zones_at g) 0)

  -- a block's write
  pub alone_patched : (piece bytes : List ℕ) → block_at g zone block + length piece ≤ length bytes
      → zones_alone g (patched (block_at g zone block) piece bytes) ≡ patched (first_block_at g zone block) piece (zones_alone g bytes)
  alone_patched piece bytes fits =
      ap (λ (l : List ℕ). replicate (first_zones_at g) 0 ++ l) (drop_patched (zones_at g) far piece bytes fits)
      ∙ sym (patched_behind (replicate (first_zones_at g) 0) (drop (zones_at g) bytes) piece far (first_block_at g zone block) first_place)

  -- the bytes from a block on
  pub alone_drop : (bytes : List ℕ) → drop (first_block_at g zone block) (zones_alone g bytes) ≡ drop (block_at g zone block) bytes
  alone_drop bytes =
      drop_behind (replicate (first_zones_at g) 0) (drop (zones_at g) bytes) bytes far (first_block_at g zone block) far first_place
      ∙ drop-drop far (zones_at g) bytes

  -- a block's write that failed
  pub alone_outside : (count : ℕ) (old new : List ℕ) → SameOutside (block_at g zone block) count old new → SameOutside (first_block_at g zone block) count (zones_alone g old) (zones_alone g new)
  alone_outside count old new same = record {
    before =
        take_behind (front g) (drop (zones_at g) new) new far (first_block_at g zone block) first_place
        ∙ ap (λ (l : List ℕ). front g ++ l) (sym (drop-take (zones_at g) far new) ∙ ap (drop (zones_at g)) same.before ∙ drop-take (zones_at g) far old)
        ∙ sym (take_behind (front g) (drop (zones_at g) old) old far (first_block_at g zone block) first_place);
    behind =
        let last : first_block_at g zone block + count ≡ length (front g) + (far + count) = omega (arith, first_place) in
        let sum : zones_at g + (far + count) ≡ block_at g zone block + count = omega arith in
        drop_behind (front g) (drop (zones_at g) new) new far (first_block_at g zone block + count) (far + count) last
        ∙ drop-drop (far + count) (zones_at g) new ∙ ap (λ n. drop n new) sum ∙ same.behind ∙ ap (λ n. drop n old) (sym sum)
        ∙ sym (drop-drop (far + count) (zones_at g) old)
        ∙ sym (drop_behind (front g) (drop (zones_at g) old) old far (first_block_at g zone block + count) (far + count) last);
    long = omega (arith, same.long, alone_length g old, alone_length g new);
  }
