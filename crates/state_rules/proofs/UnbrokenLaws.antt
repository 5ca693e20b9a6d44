-- A table that keeps the rules breaks none on an image where all that it records is written.
use Rattle.std.specs.Prelude.{◌≡◌, ◌≢◌, ℕ, zero, suc, ◌+◌, ◌*◌, ◌%◌, ◌<◌, ◌≤◌, Bool, true, false, not, ◌&&◌, ◌||◌, cond, List, [], ◌∷◌, ◌++◌, length, map, Option, Some, None, nat_le, nat_lt, ◌==◌, if◌then◌else◌, refl}
use Rattle.std.proofs.Common.{◌∙◌, ap, sym, subst, inl, inr, arith}
use Rattle.std.proofs.lemmas.Bool.{le-leb, lt-ltb, eq-eqb, ne_eqb, eqb-false, and_parts, and_from}
use Rattle.std.specs.List.{AllByRecursion, AllZip, list_any, list_all}
use Rattle.zone_image.specs.Image.{Zone, Image, zone_at, zone_in, zone_of, offset_of}
use Rattle.zone_image.specs.Infos.{IsValidImage}
use Rattle.zone_image.proofs.InfoLaws.{some_block}
use Rattle.record_model.specs.declared.types.Extent.{Extent}
use Rattle.record_model.specs.declared.types.FileEntry.{FileEntry}
use Rattle.log_model.specs.FileTable.{Table}
use Rattle.log_model.specs.Frames.{no_active, frames_at, rest_at, is_recovery_point, recovered_extents}
use Rattle.log_model.specs.Mounted.{is_written, share_a_byte, overlap, all_extents, recovered_entry, has_valid_recovery_point}
use Rattle.log_model.specs.TableLaws.{IdsRise}
use Rattle.fs_model.specs.declared.zones.Owner.{Owner}
use Rattle.fs_model.specs.declared.zones.Owner.TheVariants.{Idle, Writer}
use Rattle.fs_model.specs.ZonePolicy.{is_idle_owner}
use Rattle.fs_model.specs.FsState.{FsState, TableRow, ZoneDescriptor, descriptor_in, working_of, recorded}
use Rattle.fs_model.specs.CrashClauses.{SameZone}
use Rattle.change_records.specs.Recorded.{entries}
use Rattle.change_records.specs.PinnedRows.{AreSomeOf}
use Rattle.change_records.proofs.FewerExtents.{some_apart}
use Rattle.crash_cover.specs.SameData.{RecoversElsewhere}
use Rattle.least_crash.proofs.Apart.{AreApart, any_both, any_split, all_append, all_split, join_apart, split_apart, written_bounded}
use Rattle.least_crash.proofs.FramesApart.{recovered_apart}
use Rattle.least_crash.proofs.Fronts.{AreWritten}
use Rattle.least_crash.proofs.Sides.{IsOutside, none_inside, inside_apart, recorded_outside, found_outside, found_inside}
use Rattle.state_rules.specs.Rules.{owner_in, KeepsRules}
use Rattle.state_rules.specs.Unbroken.{PointLies, HasRecorded, RulesUnbroken}

-- ---- what is found shares no byte with anything

-- what is found of a file counts where its point is set
any_if_set : (unset p sparse : Bool) (t : Extent → Bool) (frames rest : List Extent) → (unset ≡ false → list_any t (cond (unset || not p) [] (cond sparse frames rest)) ≡ false)
    → list_any t (cond (unset || not p) [] (cond sparse frames rest)) ≡ false
any_if_set true p sparse t frames rest h = refl
any_if_set false p sparse t frames rest h = h refl

apart_if_set : (unset p sparse : Bool) (frames rest ys : List Extent) → (unset ≡ false → AreApart (cond (unset || not p) [] (cond sparse frames rest)) ys)
    → AreApart (cond (unset || not p) [] (cond sparse frames rest)) ys
apart_if_set true p sparse frames rest ys h = tt
apart_if_set false p sparse frames rest ys h = h refl

-- apart from joined lists
both_apart : (xs ys zs : List Extent) → AreApart xs zs → AreApart ys zs → AreApart (xs ++ ys) zs
both_apart [] ys zs h g = g
both_apart (x ∷ xs) ys zs h g = (h.0, both_apart xs ys zs h.1 g)

-- the points of files, on an image that is valid
module _ (i : Image) (zones : List ZoneDescriptor) (valid : IsValidImage i) where
  abbrev Points : Table → Table → Type 0
  Points all es = AllByRecursion (λ e. e.active ≢ no_active → PointLies i.geometry zones all e) es

  -- an extent that is written, and ends before the file's point where it lies in its zone
  none_found : (x : Extent) (f : FileEntry) → is_written i x ≡ true → (f.active ≢ no_active → zone_of i.geometry x.start ≡ zone_of i.geometry f.active → x.start + x.len ≤ f.active)
      → list_any (share_a_byte x) (recovered_extents i f) ≡ false
  none_found x f written before =
      any_if_set (f.active == no_active) (is_recovery_point i f.active) f.sparse (share_a_byte x) (frames_at i f.active) (rest_at i f.active)
      (λ set.
      none_inside i.geometry (zone_of i.geometry f.active) f.active x (recovered_extents i f)
      (record { before = before (eqb-false f.active no_active set); bounded = written_bounded i x valid written })
      (found_inside i (zone_of i.geometry f.active) f.active f valid refl refl))

  -- a recorded extent, and all files, each of whose points lies behind it
  none_behind : (x : Extent) (fs : Table) → is_written i x ≡ true → AllByRecursion (λ f. f.active ≢ no_active → zone_of i.geometry x.start ≡ zone_of i.geometry f.active → x.start + x.len ≤ f.active) fs
      → list_any (share_a_byte x) (all_extents fs) ≡ false → list_any (share_a_byte x) (all_extents (map (recovered_entry i) fs)) ≡ false
  none_behind x [] written before h = refl
  none_behind x (f ∷ fs) written before h =
      let parts = any_split x f.extents (all_extents fs) h in
      any_both x (f.extents ++ recovered_extents i f) (all_extents (map (recovered_entry i) fs))
      (any_both x f.extents (recovered_extents i f) parts.0 (none_found x f written before.0)) (none_behind x fs written before.1 parts.1)

  -- so of all extents that a file records
  recorded_apart : (xs : List Extent) (fs : Table) → AreWritten i xs → AllByRecursion (λ x. AllByRecursion (λ f. f.active ≢ no_active → zone_of i.geometry x.start ≡ zone_of i.geometry f.active → x.start + x.len ≤ f.active) fs) xs
      → AreApart xs (all_extents fs) → AreApart xs (all_extents (map (recovered_entry i) fs))
  recorded_apart [] fs written before apart = tt
  recorded_apart (x ∷ xs) fs written before apart =
      (none_behind x fs written.0 before.0 apart.0, recorded_apart xs fs written.1 before.1 apart.1)

  -- the other files lie outside the zone from a point on
  others_outside : (zone start : ℕ) (fs : Table) → AllByRecursion (RecoversElsewhere (λ n. n == zone) i.geometry) fs → AreWritten i (all_extents fs)
      → AllByRecursion (λ y. zone_of i.geometry y.start ≡ zone → y.start + y.len ≤ start) (all_extents fs) → AllByRecursion (IsOutside i.geometry zone start) (all_extents (map (recovered_entry i) fs))
  others_outside zone start [] away written before = tt
  others_outside zone start (f ∷ fs) away written before =
      let ws = all_split (λ x. is_written i x ≡ true) f.extents (all_extents fs) written in
      let bs = all_split (λ x. zone_of i.geometry x.start ≡ zone → x.start + x.len ≤ start) f.extents (all_extents fs) before in
      all_append (IsOutside i.geometry zone start) (f.extents ++ recovered_extents i f) (all_extents (map (recovered_entry i) fs))
      (all_append (IsOutside i.geometry zone start) f.extents (recovered_extents i f)
      (recorded_outside i zone start f.extents valid ws.0 bs.0) (found_outside i zone start f valid away.0))
      (others_outside zone start fs away.1 ws.1 bs.1)

  -- the points of files behind an id lie in other zones
  others_elsewhere : (from id zone : ℕ) (all fs : Table) → id < from → IdsRise from fs → owner_in zones zone ≡ Writer id → Points all fs → AllByRecursion (RecoversElsewhere (λ n. n == zone) i.geometry) fs
  others_elsewhere from id zone all [] less rise owner points = tt
  others_elsewhere from id zone all (f ∷ fs) less rise owner points = (
    (λ set. ne_eqb (zone_of i.geometry f.active) zone
        (λ same. let id_is : f.id ≡ id = ap number (sym (points.0 set).owner ∙ ap (owner_in zones) same ∙ owner) in omega (arith, id_is, less, rise.0))),
    others_elsewhere (f.id + 1) id zone all fs (omega (arith, less, rise.0)) rise.1 owner points.1,
  )
    where
      number : Owner → ℕ
      number (Writer n) = n
      number _ = 0

  -- points that lie behind all that is recorded lie behind a part of it
  points_behind : (e : FileEntry) (es fs : Table) → Points (e ∷ es) fs → Points es fs
  points_behind e es [] h = tt
  points_behind e es (f ∷ fs) h = (
    (λ set.
        let it = h.0 set in record {
          owner = it.owner;
          whole = it.whole;
          behind = (all_split (λ y. zone_of i.geometry y.start ≡ zone_of i.geometry f.active → y.start + y.len ≤ f.active) e.extents (all_extents es) it.behind).1;
          within = it.within;
        }),
    points_behind e es fs h.1,
  )

  -- the extents of a file end before the points of others in their zones
  ends_before_points : (e : FileEntry) (es fs : Table) → Points (e ∷ es) fs
      → AllByRecursion (λ x. AllByRecursion (λ f. f.active ≢ no_active → zone_of i.geometry x.start ≡ zone_of i.geometry f.active → x.start + x.len ≤ f.active) fs) e.extents
  ends_before_points e es [] h = none e.extents
    where
      none : (xs : List Extent) → AllByRecursion (λ x. AllByRecursion (λ (f : FileEntry). f.active ≢ no_active → zone_of i.geometry x.start ≡ zone_of i.geometry f.active → x.start + x.len ≤ f.active) []) xs
      none [] = tt
      none (x ∷ xs) = (tt, none xs)
  ends_before_points e es (f ∷ fs) h =
      each e.extents (ends_before_points e es fs h.1)
      (λ set. (all_split (λ y. zone_of i.geometry y.start ≡ zone_of i.geometry f.active → y.start + y.len ≤ f.active) e.extents (all_extents es) (h.0 set).behind).0)
    where
      each : (xs : List Extent) → AllByRecursion (λ x. AllByRecursion (λ k. k.active ≢ no_active → zone_of i.geometry x.start ≡ zone_of i.geometry k.active → x.start + x.len ≤ k.active) fs) xs
          → (f.active ≢ no_active → AllByRecursion (λ y. zone_of i.geometry y.start ≡ zone_of i.geometry f.active → y.start + y.len ≤ f.active) xs)
          → AllByRecursion (λ x. AllByRecursion (λ k. k.active ≢ no_active → zone_of i.geometry x.start ≡ zone_of i.geometry k.active → x.start + x.len ≤ k.active) (f ∷ fs)) xs
      each [] rest here = tt
      each (x ∷ xs) rest here = (((λ set. (here set).0), rest.0), each xs rest.1 (λ set. (here set).1))

  -- what a file records, and what is found of it
  own_apart : (f : FileEntry) (xs : List Extent) → AreWritten i xs → (f.active ≢ no_active → AllByRecursion (λ y. zone_of i.geometry y.start ≡ zone_of i.geometry f.active → y.start + y.len ≤ f.active) xs)
      → AreApart xs (recovered_extents i f)
  own_apart f [] written before = tt
  own_apart f (x ∷ xs) written before = (none_found x f written.0 (λ set. (before set).0), own_apart f xs written.1 (λ set. (before set).1))

  -- no two extents share a byte, those that are found among them
  found_apart : (from : ℕ) (es : Table) → IdsRise from es → Points es es → AreWritten i (all_extents es) → overlap (all_extents es) ≡ false
      → overlap (all_extents (map (recovered_entry i) es)) ≡ false
  found_apart from [] rise points written apart = refl
  found_apart from (e ∷ es) rise points written apart =
      let pos : 0 < i.geometry.block = some_block i.geometry valid.possible.valid in
      let found = recovered_extents i e in
      let parts = split_apart e.extents (all_extents es) apart in
      let ws = all_split (λ x. is_written i x ≡ true) e.extents (all_extents es) written in
      let rest = found_apart (e.id + 1) es rise.1 (points_behind e es es points.1) ws.1 parts.rest in
      let own = own_apart e e.extents ws.0 (λ set. (all_split (λ y. zone_of i.geometry y.start ≡ zone_of i.geometry e.active → y.start + y.len ≤ e.active) e.extents (all_extents es) (points.0 set).behind).0) in
      let mine = join_apart e.extents found parts.first (recovered_apart i e pos) own in
      let front = recorded_apart e.extents es ws.0 (ends_before_points e es es points.1) parts.apart in
      let behind = apart_if_set (e.active == no_active) (is_recovery_point i e.active) e.sparse (frames_at i e.active) (rest_at i e.active) (all_extents (map (recovered_entry i) es))
      (λ set.
      let it = points.0 (eqb-false e.active no_active set) in
      let zone = zone_of i.geometry e.active in
      inside_apart i.geometry zone e.active found (all_extents (map (recovered_entry i) es))
      (found_inside i zone e.active e valid refl refl)
      (others_outside zone e.active es (others_elsewhere (e.id + 1) e.id zone (e ∷ es) es (omega arith) rise.1 it.owner points.1) ws.1
      (all_split (λ y. zone_of i.geometry y.start ≡ zone → y.start + y.len ≤ e.active) e.extents (all_extents es) it.behind).1)) in
      join_apart (e.extents ++ found) (all_extents (map (recovered_entry i) es)) mine rest (both_apart e.extents found (all_extents (map (recovered_entry i) es)) front behind)

-- ---- points

-- nobody is no writer
idle_other : (id : ℕ) → Idle ≢ Writer id
idle_other id same = cc

-- a zone that somebody holds is there
held_is_there : (zs : List ZoneDescriptor) (n id : ℕ) → owner_in zs n ≡ Writer id → n < length zs
held_is_there [] n id is = absurd (idle_other id is)
held_is_there (z ∷ zs) zero id is = omega arith
held_is_there (z ∷ zs) (suc n) id is = let rest = held_is_there zs n id is in omega (arith, rest)

-- the zone table tells how many blocks a zone has
same_written : (zs : List ZoneDescriptor) (ys : List Zone) (n : ℕ) → n < length zs → AllZip SameZone zs ys → (descriptor_in zs n).info.written ≡ length (zone_in ys n).blocks
same_written [] ys n less h = absurd (omega (arith, less))
same_written (z ∷ zs) [] n less h = absurd h
same_written (z ∷ zs) (y ∷ ys) zero less h = h.0.0
same_written (z ∷ zs) (y ∷ ys) (suc n) less h = same_written zs ys n (omega (arith, less)) h.1

module _ (i : Image) (s : FsState) (rules : KeepsRules s) (has : HasRecorded i s) where
  -- a point that keeps the rules is one of the image
  point_is : (all : Table) (e : FileEntry) → PointLies s.geometry s.zones all e → is_recovery_point i e.active ≡ true
  point_is all e it =
      let g = s.geometry in
      let n = zone_of g e.active in
      let there = held_is_there s.zones n e.id it.owner in
      let low : 3 ≤ n = rules.owners.held n (ap is_idle_owner it.owner) in
      let high : n < g.zones = let count = rules.device.count in omega (arith, there, count) in
      let blocks : (descriptor_in s.zones n).info.written ≡ length (zone_at i n).blocks = same_written s.zones i.zones n there has.zones in
      let end : offset_of g e.active ≤ length (zone_at i n).blocks * g.block = subst (λ c. offset_of g e.active ≤ c * g.block) blocks it.within in
      ap (λ k. nat_le 3 (zone_of k e.active) && nat_lt (zone_of k e.active) k.zones && (offset_of k e.active % k.block == 0)
      && nat_le (offset_of k e.active) (length (zone_at i (zone_of k e.active)).blocks * k.block)) has.geometry
      ∙ and_from (nat_le 3 n && nat_lt n g.zones && (offset_of g e.active % g.block == 0)) (nat_le (offset_of g e.active) (length (zone_at i n).blocks * g.block))
      (and_from (nat_le 3 n && nat_lt n g.zones) (offset_of g e.active % g.block == 0)
      (and_from (nat_le 3 n) (nat_lt n g.zones) (le-leb 3 n low) (lt-ltb n g.zones high)) (eq-eqb (offset_of g e.active % g.block) 0 it.whole))
      (le-leb (offset_of g e.active) (length (zone_at i n).blocks * g.block) end)

  -- so are all
  points_are : (all es : Table) → AllByRecursion (λ e. e.active ≢ no_active → PointLies s.geometry s.zones all e) es → list_all (has_valid_recovery_point i) es ≡ true
  points_are all [] h = refl
  points_are all (e ∷ es) h =
      and_from (has_valid_recovery_point i e) (list_all (has_valid_recovery_point i) es)
      (set_or_not (e.active == no_active) (is_recovery_point i e.active) (λ set. point_is all e (h.0 (eqb-false e.active no_active set)))) (points_are all es h.1)
    where
      set_or_not : (unset p : Bool) → (unset ≡ false → p ≡ true) → unset || p ≡ true
      set_or_not true p f = refl
      set_or_not false p f = f refl

-- what is recorded is some of what is in memory
recorded_some : (rows : List TableRow) → AreSomeOf (all_extents (entries rows)) (all_extents (working_of rows))
recorded_some [] = refl
recorded_some (r ∷ rs) = front r.entry.extents (recorded_some rs)
  where
    skip : (us ys xs : List Extent) → AreSomeOf ys xs → AreSomeOf ys (us ++ xs)
    skip [] ys xs h = h
    skip (u ∷ us) ys xs h = inl (skip us ys xs h)

    front : (es : List Extent) → AreSomeOf (all_extents (entries rs)) (all_extents (working_of rs)) → AreSomeOf (es ++ all_extents (entries rs)) ((es ++ r.unrecorded) ++ all_extents (working_of rs))
    front [] rest = skip r.unrecorded (all_extents (entries rs)) (all_extents (working_of rs)) rest
    front (e ∷ es) rest = inr (es ++ all_extents (entries rs), refl, front es rest)

-- a test that all pass, one by one
each_written : (i : Image) (xs : List Extent) → list_all (is_written i) xs ≡ true → AreWritten i xs
each_written i [] h = tt
each_written i (x ∷ xs) h =
    let parts = and_parts (is_written i x) (list_all (is_written i) xs) h in
    (parts.0, each_written i xs parts.1)

-- the first of three rules that is broken
first_broken : Bool → Bool → Bool → Option ℕ
first_broken written shared valid = if not written then Some 8 else if shared then Some 9 else if not valid then Some 10 else None

pub rules_unbroken : RulesUnbroken
unfolding first_broken
rules_unbroken i s rules points has =
    let es = recorded s in
    let here : AllByRecursion (λ e. e.active ≢ no_active → PointLies i.geometry s.zones es e) es =
    subst (λ g. AllByRecursion (λ e. e.active ≢ no_active → PointLies g s.zones es e) es) (sym has.geometry) points in
    let bare : overlap (all_extents es) ≡ false = some_apart (all_extents (working_of s.rows)) (all_extents es) (recorded_some s.rows) rules.files.apart in
    let apart = found_apart i s.zones has.valid 0 es rules.valid.table.ids here (each_written i (all_extents es) has.written) bare in
    let there = points_are i s rules has es es points in
    ap (λ b. first_broken b (overlap (all_extents (map (recovered_entry i) es))) (list_all (has_valid_recovery_point i) es)) has.written
    ∙ (ap (λ b. first_broken true b (list_all (has_valid_recovery_point i) es)) apart ∙ ap (first_broken true false) there)
