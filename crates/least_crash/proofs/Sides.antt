-- Extents on the two sides of a recovery point: recorded before it or elsewhere, and found behind it.
use Rattle.std.specs.Prelude.{◌≡◌, ◌≢◌, ℕ, ◌+◌, ◌≤◌, Bool, true, false, not, ◌||◌, cond, List, [], ◌∷◌, ◌==◌, refl}
use Rattle.std.proofs.Common.{◌∙◌, ap, sym, arith}
use Rattle.std.proofs.lemmas.Bool.{eqb-true, eqb-false, or_from}
use Rattle.std.specs.List.{AllByRecursion, list_any}
use Rattle.zone_image.specs.declared.Geometry.{Geometry}
use Rattle.zone_image.specs.Image.{Image, zone_of}
use Rattle.zone_image.specs.Infos.{IsValidImage}
use Rattle.record_model.specs.declared.types.Extent.{Extent}
use Rattle.record_model.specs.declared.types.FileEntry.{FileEntry}
use Rattle.log_model.specs.Frames.{no_active, frames_at, rest_at, is_recovery_point, recovered_extents}
use Rattle.log_model.specs.Mounted.{share_a_byte}
use Rattle.crash_cover.specs.SameData.{RecoversElsewhere}
use Rattle.crash_cover.specs.FoundExtents.{IsWrittenIn}
use Rattle.crash_cover.proofs.FoundLaws.{found_is_written}
use Rattle.least_crash.proofs.Apart.{AreApart, IsBounded, ends_before, begins_behind, written_bounded, zones_apart}
use Rattle.least_crash.proofs.FramesApart.{BeginsAt, recovered_begin}
use Rattle.least_crash.proofs.Fronts.{AreWritten}

-- in another zone, or before this address
pub record IsOutside (g : Geometry) (zone start : ℕ) (x : Extent) : Type 0 where
  pub before : zone_of g x.start ≡ zone → x.start + x.len ≤ start
  pub bounded : IsBounded g x

-- in this zone, at or behind this address
pub record IsInside (g : Geometry) (zone start : ℕ) (x : Extent) : Type 0 where
  pub here : zone_of g x.start ≡ zone
  pub behind : start ≤ x.start
  pub bounded : IsBounded g x

-- such two share no byte
module _ (g : Geometry) (zone start : ℕ) where
  outside_inside : (x y : Extent) → IsOutside g zone start x → IsInside g zone start y → share_a_byte x y ≡ false
  outside_inside x y out ins = by (zone_of g x.start == zone) refl
    where
      by : (b : Bool) → (zone_of g x.start == zone) ≡ b → share_a_byte x y ≡ false
      by true h = ends_before x y (let end = out.before (eqb-true (zone_of g x.start) zone h) in omega (arith, end, ins.behind))
      by false h = zones_apart g x y out.bounded ins.bounded (λ same. eqb-false (zone_of g x.start) zone h (same ∙ ins.here))

  inside_outside : (x y : Extent) → IsInside g zone start x → IsOutside g zone start y → share_a_byte x y ≡ false
  inside_outside x y ins out = by (zone_of g y.start == zone) refl
    where
      by : (b : Bool) → (zone_of g y.start == zone) ≡ b → share_a_byte x y ≡ false
      by true h = begins_behind x y (let end = out.before (eqb-true (zone_of g y.start) zone h) in omega (arith, end, ins.behind))
      by false h = zones_apart g x y ins.bounded out.bounded (λ same. eqb-false (zone_of g y.start) zone h (sym same ∙ ins.here))

  pub none_inside : (x : Extent) (ys : List Extent) → IsOutside g zone start x → AllByRecursion (IsInside g zone start) ys → list_any (share_a_byte x) ys ≡ false
  none_inside x [] out ins = refl
  none_inside x (y ∷ ys) out ins = or_from (share_a_byte x y) (list_any (share_a_byte x) ys) (outside_inside x y out ins.0) (none_inside x ys out ins.1)

  pub none_outside : (x : Extent) (ys : List Extent) → IsInside g zone start x → AllByRecursion (IsOutside g zone start) ys → list_any (share_a_byte x) ys ≡ false
  none_outside x [] ins out = refl
  none_outside x (y ∷ ys) ins out = or_from (share_a_byte x y) (list_any (share_a_byte x) ys) (inside_outside x y ins out.0) (none_outside x ys ins out.1)

  pub outside_apart : (xs ys : List Extent) → AllByRecursion (IsOutside g zone start) xs → AllByRecursion (IsInside g zone start) ys → AreApart xs ys
  outside_apart [] ys out ins = tt
  outside_apart (x ∷ xs) ys out ins = (none_inside x ys out.0 ins, outside_apart xs ys out.1 ins)

  pub inside_apart : (xs ys : List Extent) → AllByRecursion (IsInside g zone start) xs → AllByRecursion (IsOutside g zone start) ys → AreApart xs ys
  inside_apart [] ys ins out = tt
  inside_apart (x ∷ xs) ys ins out = (none_outside x ys ins.0 out, inside_apart xs ys ins.1 out)

-- extents that are written, and recorded before the point, lie outside
pub recorded_outside : (i : Image) (zone start : ℕ) (xs : List Extent) → IsValidImage i → AreWritten i xs
    → AllByRecursion (λ x. zone_of i.geometry x.start ≡ zone → x.start + x.len ≤ start) xs → AllByRecursion (IsOutside i.geometry zone start) xs
recorded_outside i zone start [] is written before = tt
recorded_outside i zone start (x ∷ xs) is written before =
    (record { before = before.0; bounded = written_bounded i x is written.0 }, recorded_outside i zone start xs is written.1 before.1)

-- what is found of a file, where its recovery point is set
found_if_set : (unset p sparse : Bool) (P : Extent → Type 0) (frames rest : List Extent)
    → (unset ≡ false → AllByRecursion P (cond (unset || not p) [] (cond sparse frames rest))) → AllByRecursion P (cond (unset || not p) [] (cond sparse frames rest))
found_if_set true p sparse P frames rest h = tt
found_if_set false p sparse P frames rest h = h refl

-- what is found of a file whose point lies elsewhere lies outside
pub found_outside : (i : Image) (zone start : ℕ) (e : FileEntry) → IsValidImage i → RecoversElsewhere (λ n. n == zone) i.geometry e
    → AllByRecursion (IsOutside i.geometry zone start) (recovered_extents i e)
found_outside i zone start e is away =
    found_if_set (e.active == no_active) (is_recovery_point i e.active) e.sparse (IsOutside i.geometry zone start) (frames_at i e.active) (rest_at i e.active)
    (λ set. each (recovered_extents i e) (eqb-false (zone_of i.geometry e.active) zone (away (eqb-false e.active no_active set))) (found_is_written i e is))
  where
    each : (xs : List Extent) → zone_of i.geometry e.active ≢ zone → AllByRecursion (IsWrittenIn i (zone_of i.geometry e.active)) xs → AllByRecursion (IsOutside i.geometry zone start) xs
    each [] other h = tt
    each (x ∷ xs) other h = (
      record { before = λ same. absurd (other (sym h.0.zone ∙ same)); bounded = written_bounded i x is h.0.written },
      each xs other h.1,
    )

-- what is found of the file whose point lies there lies inside
pub found_inside : (k : Image) (zone start : ℕ) (e : FileEntry) → IsValidImage k → zone_of k.geometry start ≡ zone → e.active ≡ start
    → AllByRecursion (IsInside k.geometry zone start) (recovered_extents k e)
found_inside k zone start e is here at =
    each (recovered_extents k e) (found_is_written k e is) (recovered_begin k e)
  where
    each : (xs : List Extent) → AllByRecursion (IsWrittenIn k (zone_of k.geometry e.active)) xs → AllByRecursion (BeginsAt e.active) xs → AllByRecursion (IsInside k.geometry zone start) xs
    each [] h g = tt
    each (x ∷ xs) h g = (
      record {
        here = h.0.zone ∙ ap (zone_of k.geometry) at ∙ here;
        behind = omega (arith, at, g.0);
        bounded = written_bounded k x is h.0.written;
      },
      each xs h.1 g.1,
    )
