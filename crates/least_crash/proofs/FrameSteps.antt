-- A data zone grows behind the recovery point of one file.
use Rattle.std.specs.Prelude.{◌≡◌, ◌≢◌, ℕ, ◌+◌, ◌<◌, ◌≤◌, Bool, true, false, List, [], ◌∷◌, ◌++◌, map, ◌==◌, refl}
use Rattle.std.proofs.Common.{◌∙◌, ap, arith}
use Rattle.std.proofs.lemmas.Bool.{eqb-true, eqb-false}
use Rattle.std.specs.List.{AllByRecursion, list_any}
use Rattle.zone_image.specs.Image.{Image, zone_of}
use Rattle.zone_image.specs.Changes.{appended}
use Rattle.zone_image.specs.Infos.{IsValidImage}
use Rattle.zone_image.proofs.AppendLaws.{WithinAppend, crash-part}
use Rattle.zone_image.proofs.InfoLaws.{some_block}
use Rattle.record_model.specs.declared.types.Extent.{Extent}
use Rattle.record_model.specs.declared.types.FileEntry.{FileEntry}
use Rattle.log_model.specs.FileTable.{Table}
use Rattle.log_model.specs.Frames.{recovered_extents}
use Rattle.log_model.specs.Mounted.{is_written, share_a_byte, overlap, all_extents, recovered_entry}
use Rattle.log_model.specs.TableLaws.{IdsRise}
use Rattle.crash_cover.specs.SameData.{RecoversElsewhere}
use Rattle.least_crash.specs.Recovery.{RecoversTable}
use Rattle.least_crash.specs.DataSteps.{HasNoPoint, GrowsBehindPoint, FrameKeepsRest, FrameMomentRecovers}
use Rattle.least_crash.proofs.Apart.{AreApart, any_both, any_split, all_append, all_split, join_apart, split_apart}
use Rattle.least_crash.proofs.FramesApart.{recovered_apart}
use Rattle.least_crash.proofs.Sides.{IsOutside, none_inside, outside_apart, inside_apart, recorded_outside, found_outside, found_inside}
use Rattle.least_crash.proofs.Fronts.{AreWritten, durable_written}
use Rattle.least_crash.proofs.Appending.{keeps_itself, append_elsewhere, append_least, found_same}
use Rattle.least_crash.proofs.DataSteps.{append_pinned, append_rest, share_nothing, found_alike}
use Rattle.least_crash.proofs.RecoveryLaws.{crash_recovers, mounts_alike, table_at_rest}

-- ids that rise from a number are at least that
above : (from : ℕ) (id : ℕ) (es : Table) → id < from → IdsRise from es → AllByRecursion (λ f. f.id ≢ id) es
above from id [] less h = tt
above from id (e ∷ es) less h = ((λ same. omega (arith, same, less, h.0)), above (e.id + 1) id es (omega (arith, less, h.0)) h.1)

-- an append of these blocks to this zone, in which one file has its point
module _ (i : Image) (zone id start : ℕ) (added : List (List ℕ)) (was : IsValidImage i) (valid : IsValidImage (appended i zone added)) (pos : 0 < i.geometry.block)
    (here : zone_of i.geometry start ≡ zone) where
  abbrev after : Image
  after = appended i zone added

  abbrev Own : Table → Type 0
  Own es = AllByRecursion (λ f. f.id ≡ id → f.active ≡ start) es

  abbrev Others : Table → Type 0
  Others es = AllByRecursion (λ f. f.id ≢ id → RecoversElsewhere (λ n. n == zone) i.geometry f) es

  abbrev Before : List Extent → Type 0
  Before xs = AllByRecursion (λ x. zone_of i.geometry x.start ≡ zone → x.start + x.len ≤ start) xs

  abbrev Outside : List Extent → Type 0
  Outside xs = AllByRecursion (IsOutside i.geometry zone start) xs

  -- no file but this one has its point there
  none_there : (es : Table) → AllByRecursion (λ f. f.id ≢ id) es → Others es → HasNoPoint i zone es
  none_there [] other h = tt
  none_there (f ∷ fs) other h = (h.0 other.0, none_there fs other.1 h.1)

  -- all extents of files with their points elsewhere lie outside
  table_outside : (es : Table) → HasNoPoint i zone es → AreWritten i (all_extents es) → Before (all_extents es) → Outside (all_extents (map (recovered_entry i) es))
  table_outside [] away written before = tt
  table_outside (e ∷ es) away written before =
      let ws = all_split (λ x. is_written i x ≡ true) e.extents (all_extents es) written in
      let bs = all_split (λ x. zone_of i.geometry x.start ≡ zone → x.start + x.len ≤ start) e.extents (all_extents es) before in
      all_append (IsOutside i.geometry zone start) (e.extents ++ recovered_extents i e) (all_extents (map (recovered_entry i) es))
      (all_append (IsOutside i.geometry zone start) e.extents (recovered_extents i e)
      (recorded_outside i zone start e.extents was ws.0 bs.0) (found_outside i zone start e was away.0))
      (table_outside es away.1 ws.1 bs.1)

  -- an extent that is outside, and shares no byte with what was there, shares none with what is there afterwards
  none_grown : (es : Table) (x : Extent) → Own es → Others es → IsOutside i.geometry zone start x
      → list_any (share_a_byte x) (all_extents (map (recovered_entry i) es)) ≡ false
      → list_any (share_a_byte x) (all_extents (map (recovered_entry after) es)) ≡ false
  none_grown [] x own others out h = refl
  none_grown (e ∷ es) x own others out h =
      let parts = any_split x (e.extents ++ recovered_extents i e) (all_extents (map (recovered_entry i) es)) h in
      let file = any_split x e.extents (recovered_extents i e) parts.0 in
      any_both x (e.extents ++ recovered_extents after e) (all_extents (map (recovered_entry after) es))
      (any_both x e.extents (recovered_extents after e) file.0 (found (e.id == id) refl file.1))
      (none_grown es x own.1 others.1 out parts.1)
    where
      found : (b : Bool) → (e.id == id) ≡ b → list_any (share_a_byte x) (recovered_extents i e) ≡ false → list_any (share_a_byte x) (recovered_extents (appended i zone added) e) ≡ false
      found true same was_none =
          none_inside i.geometry zone start x (recovered_extents (appended i zone added) e) out
          (found_inside (appended i zone added) zone start e valid here (own.0 (eqb-true e.id id same)))
      found false other was_none =
          ap (list_any (share_a_byte x)) (found_same (λ n. n == zone) i (appended i zone added) e (append_elsewhere i zone added) (others.0 (eqb-false e.id id other))) ∙ was_none

  -- so do all of them
  apart_grown : (es : Table) (xs : List Extent) → Own es → Others es → Outside xs → AreApart xs (all_extents (map (recovered_entry i) es))
      → AreApart xs (all_extents (map (recovered_entry after) es))
  apart_grown es [] own others out apart = tt
  apart_grown es (x ∷ xs) own others out apart = (none_grown es x own others out.0 apart.0, apart_grown es xs own others out.1 apart.1)

  -- the extents of a file whose point lies elsewhere, and of those behind it
  other_file : (e : FileEntry) (es : Table) → e.id ≢ id → Own (e ∷ es) → Others (e ∷ es) → AreWritten i (all_extents (e ∷ es)) → Before (all_extents (e ∷ es))
      → overlap (all_extents (map (recovered_entry i) (e ∷ es))) ≡ false → overlap (all_extents (map (recovered_entry after) es)) ≡ false
      → overlap (all_extents (map (recovered_entry after) (e ∷ es))) ≡ false
  other_file e es other own others written before h rest =
      let same : recovered_extents after e ≡ recovered_extents i e =
      found_same (λ n. n == zone) i after e (append_elsewhere i zone added) (others.0 other) in
      let mine = e.extents ++ recovered_extents i e in
      let parts = split_apart mine (all_extents (map (recovered_entry i) es)) h in
      let ws = all_split (λ x. is_written i x ≡ true) e.extents (all_extents es) written in
      let bs = all_split (λ x. zone_of i.geometry x.start ≡ zone → x.start + x.len ≤ start) e.extents (all_extents es) before in
      let out = all_append (IsOutside i.geometry zone start) e.extents (recovered_extents i e)
      (recorded_outside i zone start e.extents was ws.0 bs.0) (found_outside i zone start e was (others.0 other)) in
      ap (λ found. overlap ((e.extents ++ found) ++ all_extents (map (recovered_entry after) es))) same
      ∙ join_apart mine (all_extents (map (recovered_entry after) es)) parts.first rest (apart_grown es mine own.1 others.1 out parts.apart)

  -- the extents of the file whose point lies there, and of those behind it
  own_file : (e : FileEntry) (es : Table) → e.id ≡ id → IdsRise (e.id + 1) es → Own (e ∷ es) → Others (e ∷ es) → AreWritten i (all_extents (e ∷ es)) → Before (all_extents (e ∷ es))
      → overlap (all_extents (map (recovered_entry i) (e ∷ es))) ≡ false → overlap (all_extents (map (recovered_entry after) (e ∷ es))) ≡ false
  own_file e es same rise own others written before h =
      let away : HasNoPoint i zone es = none_there es (above (e.id + 1) id es (omega (arith, same)) rise) others.1 in
      let behind : map (recovered_entry after) es ≡ map (recovered_entry i) es = found_alike i zone added es away in
      let parts = split_apart (e.extents ++ recovered_extents i e) (all_extents (map (recovered_entry i) es)) h in
      let mine = split_apart e.extents (recovered_extents i e) parts.first in
      let ws = all_split (λ x. is_written i x ≡ true) e.extents (all_extents es) written in
      let bs = all_split (λ x. zone_of i.geometry x.start ≡ zone → x.start + x.len ≤ start) e.extents (all_extents es) before in
      let found = recovered_extents after e in
      let inside = found_inside after zone start e valid here (own.0 same) in
      let recorded = recorded_outside i zone start e.extents was ws.0 bs.0 in
      let whole : overlap (e.extents ++ found) ≡ false =
      join_apart e.extents found mine.first (recovered_apart after e pos) (outside_apart i.geometry zone start e.extents found recorded inside) in
      let front = first_apart e.extents (recovered_extents i e) (all_extents (map (recovered_entry i) es)) parts.apart in
      let rest = inside_apart i.geometry zone start found (all_extents (map (recovered_entry i) es)) inside (table_outside es away ws.1 bs.1) in
      ap (λ fs. overlap ((e.extents ++ found) ++ all_extents fs)) behind
      ∙ join_apart (e.extents ++ found) (all_extents (map (recovered_entry i) es)) whole parts.rest (both_apart e.extents found (all_extents (map (recovered_entry i) es)) front rest)
    where
      first_apart : (xs ys zs : List Extent) → AreApart (xs ++ ys) zs → AreApart xs zs
      first_apart [] ys zs h = tt
      first_apart (x ∷ xs) ys zs h = (h.0, first_apart xs ys zs h.1)

      both_apart : (xs ys zs : List Extent) → AreApart xs zs → AreApart ys zs → AreApart (xs ++ ys) zs
      both_apart [] ys zs h g = g
      both_apart (x ∷ xs) ys zs h g = (h.0, both_apart xs ys zs h.1 g)

  -- no two extents share a byte afterwards
  grown_apart : (from : ℕ) (es : Table) → IdsRise from es → Own es → Others es → AreWritten i (all_extents es) → Before (all_extents es)
      → overlap (all_extents (map (recovered_entry i) es)) ≡ false → overlap (all_extents (map (recovered_entry after) es)) ≡ false
  grown_apart from [] rise own others written before h = refl
  grown_apart from (e ∷ es) rise own others written before h =
      let ws = all_split (λ x. is_written i x ≡ true) e.extents (all_extents es) written in
      let bs = all_split (λ x. zone_of i.geometry x.start ≡ zone → x.start + x.len ≤ start) e.extents (all_extents es) before in
      let parts = split_apart (e.extents ++ recovered_extents i e) (all_extents (map (recovered_entry i) es)) h in
      by (grown_apart (e.id + 1) es rise.1 own.1 others.1 ws.1 bs.1 parts.rest) (e.id == id) refl
    where
      by : overlap (all_extents (map (recovered_entry (appended i zone added)) es)) ≡ false → (b : Bool) → (e.id == id) ≡ b
          → overlap (all_extents (map (recovered_entry (appended i zone added)) (e ∷ es))) ≡ false
      by rest true same = own_file e es (eqb-true e.id id same) rise.1 own others written before h
      by rest false other = other_file e es (eqb-false e.id id other) own others written before h rest

pub frame_keeps_rest : FrameKeepsRest
frame_keeps_rest i zone id start added log greatest es rest valid data_zone one =
    let apart = grown_apart i zone id start added rest.valid valid (some_block i.geometry rest.valid.possible.valid) one.here 0 es
    (table_at_rest i log greatest es rest).ids one.own one.others (durable_written i i (keeps_itself i rest.valid) (all_extents es) rest.pinned.extents) one.before
    (share_nothing i es rest.pinned.unbroken) in
    record {
      rest = append_rest i zone added log greatest es rest valid data_zone (append_pinned i zone added es valid rest.pinned apart);
      least = append_least i zone added es rest.valid rest.pinned;
    }

pub frame_moment_recovers : FrameMomentRecovers
frame_moment_recovers i j zone id start added log greatest es rest valid data_zone one passed =
    let k = appended i zone added in
    let grows : GrowsBehindPoint i k log greatest es = frame_keeps_rest i zone id start added log greatest es rest valid data_zone one in
    let part : WithinAppend i zone added j = crash-part i j zone passed.count added passed.crash in
    let left : RecoversTable k es part.whole = crash_recovers k part.whole log greatest es grows.rest part.crash in
    record { tree = left.tree; mounts = mounts_alike part.whole j part.same ∙ left.mounts; recovers = left.recovers }
