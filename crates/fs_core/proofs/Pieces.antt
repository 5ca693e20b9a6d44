-- The byte of a file, and the rest of the extent that holds it.
use Rattle.std.proofs.Common.{◌≡◌, ℕ, zero, suc, ◌+◌, ◌-◌, ◌*◌, ◌/◌, ◌%◌, ◌<◌, ◌≤◌, Bool, true, false, cond, ◌&&◌, List, [], ◌∷◌, ◌++◌, length, take, drop, nat_lt, nat_le, Option, Some, None, Result, Ok, Err, refl, sym, ◌∙◌, ap, subst, arith}
use Rattle.std.specs.List.{All, concat}
use Rattle.std.specs.Option.{IsSomeAnd, option_and_then}
use Rattle.std.specs.Result.{result_ok}
use Rattle.std.proofs.Math.Nat.{zero-mul, suc-mul}
use Rattle.std.proofs.Math.Seq.{drop-append-add}
use Rattle.std.proofs.lemmas.Bool.{and_parts, ltb-true, ltb-false}
use Rattle.std.proofs.lemmas.Bool.Decides.{nat_tests}
use Rattle.std.proofs.lemmas.List.{drop-take, drop-drop, length-append, length-drop, length-take-le, take-append-le, drop-append-le}
use Rattle.std.proofs.lemmas.List.Elements.{All-head, All-tail, All-nil, All-weaker}
use Rattle.std.proofs.lemmas.Nat.{div-add-mod', div-mul-add, mod-mul-add}
use Rattle.zone_image.specs.declared.Geometry.{Geometry}
use Rattle.zone_image.specs.declared.ZoneInfo.{ZoneInfo}
use Rattle.zone_image.specs.Image.{Image, Zone, zone_at, zone_in, zone_of, offset_of, zone_bytes}
use Rattle.zone_image.specs.Infos.{info_at, IsImage, IsPossible, IsZone}
use Rattle.record_model.specs.declared.types.Extent.{Extent}
use Rattle.log_model.specs.Frames.{extent_bytes, bytes_of}
use Rattle.fs_model.specs.FsState.{TableRow, row_of}
use Rattle.extent_map.specs.Lookups.{AreInRange, EndsInRange, extents_of, located, rest_in, rest_of, shown_rest}
use Rattle.mount_replay.specs.Rules.{IsWrittenExtent}
use Rattle.mount_replay.proofs.FilledLaws.{all_first, all_rest}
use Rattle.mount_replay.proofs.FrameWalks.{written_is}
use Rattle.mount_replay.proofs.WrittenLaws.{device_small, ends_within, in_data_zone, placed_extent}
use Rattle.fs_core.specs.Reading.{IsShown, IsWrittenRow}

at_least : (m n : ℕ) → nat_le m n ≡ true → m ≤ n
at_least m n h = grind (arith, nat_tests)

-- it ends within what is written of its zone
pub ends_written : (g : Geometry) (infos : List ZoneInfo) (x : Extent) → IsWrittenExtent g infos x → offset_of g x.start + x.len ≤ (info_at infos (zone_of g x.start)).written * g.block
ends_written g infos x is =
    let zone = zone_of g x.start in
    let all = and_parts (nat_le 3 zone && nat_lt zone g.zones) (nat_le (offset_of g x.start + x.len) ((info_at infos zone).written * g.block)) is.written in
    at_least (offset_of g x.start + x.len) ((info_at infos zone).written * g.block) all.1

ok_of : {x y : Extent} → ◌≡◌ {A = Result Extent ℕ} (Ok x) (Ok y) → x ≡ y
ok_of is = cc

-- where the rest of an extent lies
record IsRestPlace (g : Geometry) (x : Extent) (k : ℕ) : Type 0 where
  pub zone : zone_of g (x.start + k) ≡ zone_of g x.start
  pub offset : offset_of g (x.start + k) ≡ offset_of g x.start + k

rest_place : (g : Geometry) (infos : List ZoneInfo) (x : Extent) (k : ℕ) → IsPossible g infos → IsWrittenExtent g infos x → k < x.len → IsRestPlace g x k
rest_place g infos x k possible is lt =
    let size : ℕ = zone_bytes g in
    let zone : ℕ = zone_of g x.start in
    let at : ℕ = offset_of g x.start + k in
    let inside : at < size = omega (arith, (in_data_zone g infos x possible is).within, lt) in
    let address : x.start + k ≡ zone * size + at = omega (arith, div-add-mod' x.start size) in
    record {
      zone = ap (λ (n : ℕ). n / size) address ∙ div-mul-add zone size at inside;
      offset = ap (λ (n : ℕ). n % size) address ∙ mod-mul-add zone size at inside;
    }

-- the rest of a written extent is written
rest_written : (g : Geometry) (infos : List ZoneInfo) (x : Extent) (k : ℕ) → IsPossible g infos → IsWrittenExtent g infos x → k < x.len → IsWrittenExtent g infos (rest_of x k)
rest_written g infos x k possible is lt =
    let lies = in_data_zone g infos x possible is in
    let size : ℕ = zone_bytes g in
    placed_extent g infos (zone_of g x.start) (offset_of g x.start + k) (rest_of x k) possible lies.behind_metadata lies.is_zone (omega (arith, div-add-mod' x.start size)) (omega (arith, lt)) (omega (arith, ends_written g infos x is, lt))

-- ---- bytes

module _ (g : Geometry) (infos : List ZoneInfo) (i : Image) (possible : IsPossible g infos) (image : IsImage g infos i) where
  concat_long : (block : ℕ) (bs : List (List ℕ)) → All (λ b. length b ≡ block) bs → length (concat bs) ≡ length bs * block
  concat_long block [] all = sym (zero-mul block)
  concat_long block (b ∷ bs) all =
      omega (arith, length-append b (concat bs), All-head (λ (l : List ℕ). length l ≡ block) b bs all, concat_long block bs (All-tail (λ (l : List ℕ). length l ≡ block) b bs all), suc-mul (length bs) block)

  zone_whole : (zs : List Zone) (n : ℕ) → All (IsZone g) zs → All (λ b. length b ≡ g.block) (zone_in zs n).blocks
  zone_whole [] n each = All-nil (λ (b : List ℕ). length b ≡ g.block)
  zone_whole (z ∷ zs) zero each = (All-head (IsZone g) z zs each).blocks
  zone_whole (z ∷ zs) (suc n) each = zone_whole zs n (All-tail (IsZone g) z zs each)

  -- a written extent has all its bytes
  extent_long : (x : Extent) → IsWrittenExtent g infos x → length (extent_bytes i x) ≡ x.len
  extent_long x is =
      let zone : ℕ = zone_of g x.start in
      let all : List ℕ = concat (zone_at i zone).blocks in
      let lies = in_data_zone g infos x possible is in
      let long : length all ≡ (info_at infos zone).written * g.block =
      concat_long g.block (zone_at i zone).blocks (zone_whole i.zones zone image.zones) ∙ ap (λ (n : ℕ). n * g.block) (sym (written_is g infos i zone possible image lies.is_zone)) in
      ap (λ (h : Geometry). length (take x.len (drop (offset_of h x.start) (concat (zone_at i (zone_of h x.start)).blocks)))) image.shape
      ∙ length-take-le x.len (drop (offset_of g x.start) all) (omega (arith, length-drop (offset_of g x.start) all, long, ends_written g infos x is))

  -- the bytes of the rest of an extent
  rest_bytes : (x : Extent) (k : ℕ) → IsWrittenExtent g infos x → k < x.len → extent_bytes i (rest_of x k) ≡ drop k (extent_bytes i x)
  rest_bytes x k is lt =
      let zone : ℕ = zone_of g x.start in
      let at : ℕ = offset_of g x.start in
      let all : List ℕ = concat (zone_at i zone).blocks in
      let place = rest_place g infos x k possible is lt in
      ap (λ (h : Geometry). take (x.len - k) (drop (offset_of h (x.start + k)) (concat (zone_at i (zone_of h (x.start + k))).blocks))) image.shape
      ∙ ap (λ (n : ℕ). take (x.len - k) (drop (offset_of g (x.start + k)) (concat (zone_at i n).blocks))) place.zone
      ∙ ap (λ (n : ℕ). take (x.len - k) (drop n all)) place.offset
      ∙ ap (take (x.len - k)) (sym (drop-drop k at all))
      ∙ sym (drop-take k (x.len - k) (drop at all))
      ∙ ap (λ (n : ℕ). drop k (take n (drop at all))) (omega (arith, lt))
      ∙ ap (λ (h : Geometry). drop k (take x.len (drop (offset_of h x.start) (concat (zone_at i (zone_of h x.start)).blocks)))) (sym image.shape)

  -- the first bytes from an offset on are those of the rest of the extent that holds it
  pub first_piece : (xs : List Extent) (n offset : ℕ) (rest : Extent) → All (IsWrittenExtent g infos) xs → rest_in offset xs ≡ Ok rest → n ≤ rest.len
      → take n (drop offset (bytes_of i xs)) ≡ take n (extent_bytes i rest)
  first_piece [] n offset rest all is le = cc
  first_piece (x ∷ xs) n offset rest all is le =
      go (nat_lt offset x.len) refl (λ later. first_piece xs n (offset - x.len) rest (All-tail (IsWrittenExtent g infos) x xs all) later le)
    where
      here : IsWrittenExtent g infos x
      here = All-head (IsWrittenExtent g infos) x xs all

      long : length (extent_bytes i x) ≡ x.len
      long = extent_long x here

      go : (c : Bool) → nat_lt offset x.len ≡ c → (rest_in (offset - x.len) xs ≡ Ok rest → take n (drop (offset - x.len) (bytes_of i xs)) ≡ take n (extent_bytes i rest))
          → take n (drop offset (extent_bytes i x ++ bytes_of i xs)) ≡ take n (extent_bytes i rest)
      go true below others =
          let lt : offset < x.len = ltb-true offset x.len below in
          let same : rest_of x offset ≡ rest = ok_of (sym (ap (λ (b : Bool). cond b (Ok (rest_of x offset)) (rest_in (offset - x.len) xs)) below) ∙ is) in
          let size : x.len - offset ≡ rest.len = ap (λ (y : Extent). y.len) same in
          ap (take n) (drop-append-le offset (extent_bytes i x) (bytes_of i xs) (omega (arith, long, lt)))
          ∙ take-append-le n (drop offset (extent_bytes i x)) (bytes_of i xs) (omega (arith, length-drop offset (extent_bytes i x), long, size, le))
          ∙ ap (take n) (sym (rest_bytes x offset here lt))
          ∙ ap (λ (y : Extent). take n (extent_bytes i y)) same
      go false past others =
          let ge : x.len ≤ offset = ltb-false offset x.len past in
          let later : rest_in (offset - x.len) xs ≡ Ok rest = sym (ap (λ (b : Bool). cond b (Ok (rest_of x offset)) (rest_in (offset - x.len) xs)) past) ∙ is in
          ap (λ (k : ℕ). take n (drop k (extent_bytes i x ++ bytes_of i xs))) (omega (arith, long, ge))
          ∙ ap (take n) (drop-append-add (extent_bytes i x) (bytes_of i xs) (offset - x.len))
          ∙ others later

-- it lies in what is written
pub rest_is_written : (g : Geometry) (infos : List ZoneInfo) (xs : List Extent) (offset : ℕ) (rest : Extent) → IsPossible g infos → All (IsWrittenExtent g infos) xs → rest_in offset xs ≡ Ok rest
    → IsWrittenExtent g infos rest
rest_is_written g infos [] offset rest possible all is = cc
rest_is_written g infos (x ∷ xs) offset rest possible all is =
    go (nat_lt offset x.len) refl (λ later. rest_is_written g infos xs (offset - x.len) rest possible (All-tail (IsWrittenExtent g infos) x xs all) later)
  where
    go : (c : Bool) → nat_lt offset x.len ≡ c → (rest_in (offset - x.len) xs ≡ Ok rest → IsWrittenExtent g infos rest) → IsWrittenExtent g infos rest
    go true below others =
        let same : rest_of x offset ≡ rest = ok_of (sym (ap (λ (b : Bool). cond b (Ok (rest_of x offset)) (rest_in (offset - x.len) xs)) below) ∙ is) in
        subst (IsWrittenExtent g infos) same (rest_written g infos x offset possible (All-head (IsWrittenExtent g infos) x xs all) (ltb-true offset x.len below))
    go false past others =
        others (sym (ap (λ (b : Bool). cond b (Ok (rest_of x offset)) (rest_in (offset - x.len) xs)) past) ∙ is)

-- ---- the rows of a table

-- all extents of a file end in range
pub row_in_range : (g : Geometry) (infos : List ZoneInfo) (r : TableRow) → IsPossible g infos → IsWrittenRow g infos r → AreInRange r
row_in_range g infos r possible all =
    let ranged : All EndsInRange (extents_of r) = All-weaker (IsWrittenExtent g infos) EndsInRange (λ x is. in_range x is) (extents_of r) all in
    (all_first EndsInRange r.entry.extents r.unrecorded ranged, all_rest EndsInRange r.entry.extents r.unrecorded ranged)
  where
    in_range : (x : Extent) → IsWrittenExtent g infos x → EndsInRange x
    in_range x is = omega (arith, ends_within g x (in_data_zone g infos x possible is), device_small g possible.valid)

some_extent : {x y : Extent} → ◌≡◌ {A = Option Extent} (Some x) (Some y) → x ≡ y
some_extent is = cc

-- the file of a byte that is shown
pub shown_row : (id count : ℕ) (rows : List TableRow) → IsShown id count rows → (r : TableRow) × (row_of id rows ≡ Some r)
shown_row id count rows shown = go (row_of id rows) refl shown
  where
    go : (o : Option TableRow) → row_of id rows ≡ o → IsSomeAnd o (λ r. count ≤ r.shown) → (r : TableRow) × (row_of id rows ≡ Some r)
    go None is h = absurd h
    go (Some r) is h = (r, is)

pub shown_less : (id count less : ℕ) (rows : List TableRow) → IsShown id count rows → less ≤ count → IsShown id less rows
shown_less id count less rows shown le = go (row_of id rows) shown
  where
    go : (o : Option TableRow) → IsSomeAnd o (λ r. count ≤ r.shown) → IsSomeAnd o (λ r. less ≤ r.shown)
    go None h = absurd h
    go (Some r) h = omega (arith, h, le)

-- the extent that was found is the rest of the one that holds the byte
pub located_rest : (id offset : ℕ) (rows : List TableRow) (r : TableRow) (rest : Extent) → row_of id rows ≡ Some r → located id offset rows ≡ Some rest → rest_in offset (extents_of r) ≡ Ok rest
located_rest id offset rows r rest found is =
    tested (nat_lt offset r.shown) (sym (ap (option_and_then (shown_rest offset)) found) ∙ is)
  where
    got : (o : Result Extent ℕ) → result_ok o ≡ Some rest → o ≡ Ok rest
    got (Ok x) same = ap (λ (y : Extent). Ok y) (some_extent same)
    got (Err e) same = cc

    tested : (c : Bool) → cond c (result_ok (rest_in offset (extents_of r))) None ≡ Some rest → rest_in offset (extents_of r) ≡ Ok rest
    tested true same = got (rest_in offset (extents_of r)) same
    tested false same = cc
