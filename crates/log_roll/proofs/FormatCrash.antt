-- What a crash leaves of a device that is formatted.
use Rattle.std.specs.Prelude.{◌≡◌, ℕ, ◌+◌, ◌-◌, ◌<◌, ◌≤◌, ◌⊎◌, min, false, List, [], ◌∷◌, ◌++◌, drop, length, take, Option, Some, None, refl}
use Rattle.std.proofs.Common.{◌∙◌, ap, sym, subst, inl, inr, ⊎_elim, arith, length-append}
use Rattle.std.proofs.lemmas.Bool.{cases_eq, cases_lt}
use Rattle.std.proofs.lemmas.List.{take_all, take-append-le, length-replicate}
use Rattle.zone_image.specs.declared.Geometry.{Geometry}
use Rattle.zone_image.specs.Image.{Zone, Image, IsCrash, no_zone, zone_at}
use Rattle.zone_image.specs.Changes.{appended, blank, emptied, synced, zone_appended}
use Rattle.zone_image.specs.Infos.{IsValidImage}
use Rattle.zone_image.specs.Moments.{PassedByAppend}
use Rattle.zone_image.proofs.CrashLaws.{crash_before_sync, synced_is_crash, crash-crash}
use Rattle.zone_image.proofs.ImageLaws.{length-change_at}
use Rattle.record_model.specs.Encoding.{payload_of}
use Rattle.record_model.specs.declared.types.Record.TheVariants.{Snapshot}
use Rattle.superblock_core.specs.Superblock.{superblock_bytes}
use Rattle.superblock_core.specs.declared.superblock.Superblock.{Superblock}
use Rattle.log_model.specs.declared.selection.Chosen.{Chosen}
use Rattle.log_model.specs.LogScan.{Scan, blocks_of, record_blocks, scan}
use Rattle.log_model.specs.LogSelection.{LogAt}
use Rattle.log_model.specs.Format.{first_of, is_below, reset_order, sequence_at, sequence_in}
use Rattle.log_model.proofs.CrashLaws.{crashed_zone, take_past}
use Rattle.log_model.proofs.RecordCrash.{take_twice}
use Rattle.log_model.proofs.RecordLaws.{length_record}
use Rattle.log_roll.specs.FormatLeaves.{FormatLeaves, HasLogs}
use Rattle.log_roll.specs.FormatOrder.{AreMetadata}
use Rattle.log_roll.specs.Formatting.{PassedByEmptying, PassedByFirstLog, PassedByFormat}
use Rattle.log_roll.specs.NewLog.{begun}
use Rattle.log_roll.specs.Resets.{CrashesMetadata, emptied_three, emptied_two}
use Rattle.log_roll.proofs.LoneLogs.{IsLone, IsSuperblock, empty_scan, lone_log, lone_part}
use Rattle.log_roll.proofs.SelectedFacts.{Selection, selection_there}
use Rattle.log_roll.proofs.ZoneChanges.{changed_zone, other_zone}
use Rattle.log_roll.proofs.Rolled.{drop_changed}
use Rattle.log_roll.proofs.RollStages.{emptied_zone, rest_emptied, rest_synced, synced_zone, take_none}
use Rattle.log_roll.proofs.RollBase.{emptied_differs}
use Rattle.log_roll.proofs.FormatSelects.{EmptySnapshot, none_in}
use Rattle.log_roll.proofs.SortedResets.{AreSorted, IsLater, reset_order_sorted}
use Rattle.log_roll.proofs.FormatResets.{Empties, LeavesLater, Stands, no_file_system, reset_step}

-- no sequence is below none
below_none : (o : Option ℕ) → is_below o None ≡ false
below_none None = refl
below_none (Some n) = refl

-- the crash of an image with a log that counts
pub crash_is_old : (s : Superblock) (i j : Image) → IsCrash i j → HasLogs i → FormatLeaves s i j
crash_is_old s i j crash logs =
    let there = selection_there j (logs j crash) in
    let it : Selection j there.0 = there.1 in
    inl (record {
      crashed = j;
      crash = crash;
      data_zones = record { geometry = refl; zones = refl };
      log = record { log = it.log; before = it.greatest; after = it.greatest; was = it.selected; is = it.selected };
    })

-- a metadata zone is empty, or as it was
record Keeps (i x : Image) : Type 0 where
  geometry : x.geometry ≡ i.geometry
  each : (m : ℕ) → m < 3 → ((zone_at x m).blocks ≡ []) ⊎ ((zone_at x m).blocks ≡ (zone_at i m).blocks)

-- one zone more is empty
stays_empty : (x : Image) (n m : ℕ) → (zone_at x m).blocks ≡ [] → (zone_at (emptied x n) m).blocks ≡ []
stays_empty x n m none = ⊎_elim
    (λ same. ap (λ k. (zone_at (emptied x n) k).blocks) same ∙ ap (λ (z : Zone). z.blocks) (emptied_zone n x))
    (λ other. ap (λ (z : Zone). z.blocks) (other_zone n m (λ _. no_zone) x other) ∙ none)
    (cases_eq m n)

keeps_emptied : (i x : Image) (n : ℕ) → Keeps i x → Keeps i (emptied x n)
keeps_emptied i x n k = record {
  geometry = k.geometry;
  each =
      λ m less. ⊎_elim
      (λ same. inl (ap (λ p. (zone_at (emptied x n) p).blocks) same ∙ ap (λ (z : Zone). z.blocks) (emptied_zone n x)))
      (λ other. ⊎_elim
      (λ none. inl (stays_empty x n m none))
      (λ was. inr (ap (λ (z : Zone). z.blocks) (other_zone n m (λ _. no_zone) x other) ∙ was))
      (k.each m less))
      (cases_eq m n);
}

keeps_synced : (i : Image) → Keeps i (synced i)
keeps_synced i = record { geometry = refl; each = λ m less. inr (ap (λ (z : Zone). z.blocks) (synced_zone i m)) }

-- a zone that is as it was begins with the same sequence
same_sequence : (i x : Image) (m : ℕ) → x.geometry ≡ i.geometry → (zone_at x m).blocks ≡ (zone_at i m).blocks → sequence_at x m ≡ sequence_at i m
same_sequence i x m shape same =
    ap (λ (g : Geometry). sequence_in (first_of (scan g.block (zone_at x m).blocks).payloads)) shape
    ∙ ap (λ blocks. sequence_in (first_of (scan i.geometry.block blocks).payloads)) same

-- an empty one begins with none
no_sequence : (x : Image) (m : ℕ) → (zone_at x m).blocks ≡ [] → sequence_at x m ≡ None
no_sequence x m none = ap (λ (c : Scan). sequence_in (first_of c.payloads)) (empty_scan x.geometry.block (zone_at x m).blocks none)

-- what is left of two zones in their order is in it
left_later : (i x y : Image) (zone m : ℕ) → Keeps i x → Keeps i y → zone < 3 → m < 3 → IsLater i zone m
    → ((zone_at y m).blocks ≡ []) ⊎ (is_below (sequence_at y m) (sequence_at x zone) ≡ false)
left_later i x y zone m kx ky below less later = ⊎_elim
    (λ none. inl none)
    (λ was. inr (⊎_elim
    (λ none. ap (is_below (sequence_at y m)) (no_sequence x zone none) ∙ below_none (sequence_at y m))
    (λ is. ap (is_below (sequence_at y m)) (same_sequence i x zone kx.geometry is) ∙ (ap (λ o. is_below o (sequence_at i zone)) (same_sequence i y m ky.geometry was) ∙ later))
    (kx.each zone below)))
    (ky.each m less)

empties : (x : Image) (n : ℕ) → n < 3 → Empties n x (emptied x n)
empties x n below = record { metadata = below; differs = emptied_differs n x; none = ap (λ (z : Zone). z.blocks) (emptied_zone n x) }

-- zone 0 alone gets more blocks
lone_appended : (blocks more : List (List ℕ)) (x : Image) → 0 < length x.zones → IsLone 0 blocks x → IsLone 0 (blocks ++ more) (appended x 0 more)
lone_appended blocks more x there is =
    let f : Zone → Zone = zone_appended x.geometry.capacity more in
    record {
      metadata = omega arith;
      here = ap (λ (z : Zone). z.blocks) (changed_zone 0 f x there) ∙ ap (λ bs. bs ++ more) is.here;
      others = λ m less other. ap (λ (z : Zone). z.blocks) (other_zone 0 m f x other) ∙ is.others m less other;
    }

-- an empty device
blank_lone : (g : Geometry) → IsLone 0 [] (blank g)
blank_lone g = record {
  metadata = omega arith;
  here = ap (λ (z : Zone). z.blocks) (none_in g.zones 0);
  others = λ m less other. ap (λ (z : Zone). z.blocks) (none_in g.zones m);
}

module _ (i : Image) (s : Superblock) (first second third : ℕ) (all : AreMetadata first second third) (order : (first ∷ second ∷ third ∷ []) ≡ reset_order i) (valid : IsValidImage i) (logs : HasLogs i) where
  abbrev d : Image
  d = synced i

  abbrev one : Image
  one = emptied (synced i) first

  abbrev two : Image
  two = emptied_two (synced i) first second

  abbrev none : Image
  none = emptied_three (synced i) first second third

  sorted : AreSorted i (first ∷ second ∷ third ∷ [])
  sorted = subst (AreSorted i) (sym order) (reset_order_sorted i)

  crashed : IsCrash i d
  crashed = synced_is_crash i valid

  chosen : (old : Chosen) × Selection d old
  chosen = selection_there d (logs d crashed)

  abbrev log : LogAt
  log = chosen.1.log

  kept_one : Keeps i one
  kept_one = keeps_emptied i d first (keeps_synced i)

  kept_two : Keeps i two
  kept_two = keeps_emptied i one second kept_one

  later_first : LeavesLater first d one
  later_first = record {
    each = λ m less. ⊎_elim
        (λ is. inl (ap (λ n. (zone_at one n).blocks) is ∙ ap (λ (z : Zone). z.blocks) (emptied_zone first d)))
        (λ others. ⊎_elim
        (λ is. left_later i d one first m (keeps_synced i) kept_one all.first_below less (subst (IsLater i first) (sym is) sorted.0.0))
        (λ is. left_later i d one first m (keeps_synced i) kept_one all.first_below less (subst (IsLater i first) (sym is) sorted.0.1.0))
        others)
        (all.all m less);
  }

  later_second : LeavesLater second one two
  later_second = record {
    each = λ m less. ⊎_elim
        (λ is. inl (stays_empty one second m (ap (λ n. (zone_at one n).blocks) is ∙ ap (λ (z : Zone). z.blocks) (emptied_zone first d))))
        (λ others. ⊎_elim
        (λ is. inl (ap (λ n. (zone_at two n).blocks) is ∙ ap (λ (z : Zone). z.blocks) (emptied_zone second one)))
        (λ is. left_later i one two second m kept_one kept_two all.second_below less (subst (IsLater i second) (sym is) sorted.1.0.0))
        others)
        (all.all m less);
  }

  -- all metadata zones are empty
  none_empty : (m : ℕ) → m < 3 → (zone_at none m).blocks ≡ []
  none_empty m less = ⊎_elim
      (λ is. stays_empty two third m (stays_empty one second m (ap (λ n. (zone_at one n).blocks) is ∙ ap (λ (z : Zone). z.blocks) (emptied_zone first d))))
      (λ others. ⊎_elim
      (λ is. stays_empty two third m (ap (λ n. (zone_at two n).blocks) is ∙ ap (λ (z : Zone). z.blocks) (emptied_zone second one)))
      (λ is. ap (λ n. (zone_at none n).blocks) is ∙ ap (λ (z : Zone). z.blocks) (emptied_zone third two))
      others)
      (all.all m less)

  stands_one : Stands log one
  stands_one = reset_step first d one log (empties d first all.first_below) later_first (inl (chosen.1.greatest, chosen.1.selected))

  stands_two : Stands log two
  stands_two = reset_step second one two log (empties one second all.second_below) later_second stands_one

  stands_none : Stands log none
  stands_none = reset_step third two none log (empties two third all.third_below) (record { each = λ m less. inl (none_empty m less) }) stands_two

  -- between the resets
  at_reset : (x j : Image) → Stands log x → x.geometry ≡ i.geometry → IsCrash x x → drop 3 x.zones ≡ drop 3 d.zones → IsCrash x j → FormatLeaves s i j
  at_reset x j stands shape rest data_same crash =
      subst (FormatLeaves s i) (sym (crash-crash x x j rest crash))
      (⊎_elim
      (λ is. inl (record {
        crashed = d;
        crash = crashed;
        data_zones = record { geometry = shape; zones = data_same };
        log = record { log = log; before = chosen.1.greatest; after = is.0; was = chosen.1.selected; is = is.1 };
      }))
      (λ uncounted. inr (inl (no_file_system x uncounted)))
      stands)

  abbrev data_one : drop 3 one.zones ≡ drop 3 d.zones
  data_one = drop_changed 3 first (λ _. no_zone) d.zones all.first_below

  abbrev data_two : drop 3 two.zones ≡ drop 3 d.zones
  data_two = drop_changed 3 second (λ _. no_zone) one.zones all.second_below ∙ data_one

  at_start : (j : Image) → IsCrash d j → FormatLeaves s i j
  at_start j crash = crash_is_old s i j (crash_before_sync i j valid crash) logs

  rest_one : IsCrash one one
  rest_one = rest_emptied d first (rest_synced i)

  rest_two : IsCrash two two
  rest_two = rest_emptied one second rest_one

  at_one : (j : Image) → IsCrash one j → FormatLeaves s i j
  at_one j crash = at_reset one j stands_one refl rest_one data_one crash

  at_two : (j : Image) → IsCrash two j → FormatLeaves s i j
  at_two j crash = at_reset two j stands_two refl rest_two data_two crash

  at_none : (j : Image) → IsCrash none j → FormatLeaves s i j
  at_none j crash =
      at_reset none j stands_none refl (rest_emptied two third rest_two) (drop_changed 3 third (λ _. no_zone) two.zones all.third_below ∙ data_two) crash

  -- a superblock of this device, and an empty snapshot
  module _ (is : IsSuperblock i.geometry (superblock_bytes s) s) (empty : EmptySnapshot i.geometry.block) where
    abbrev superblock : List (List ℕ)
    superblock = record_blocks i.geometry.block (superblock_bytes s)

    abbrev snapshot : List (List ℕ)
    snapshot = record_blocks i.geometry.block (payload_of (Snapshot []))

    -- an image whose only metadata are a part of the new log
    part_leaves : (k : ℕ) (j : Image) → j.geometry ≡ i.geometry → IsLone 0 (take k (superblock ++ snapshot)) j → FormatLeaves s i j
    part_leaves k j shape lone_zone =
        let g : Geometry = j.geometry in
        let is_there : IsSuperblock g (superblock_bytes s) s = subst (λ x. IsSuperblock x (superblock_bytes s) s) (sym shape) is in
        let empty_there : EmptySnapshot g.block = subst (λ (x : Geometry). EmptySnapshot x.block) (sym shape) empty in
        let one_record : List (List ℕ) = record_blocks g.block (superblock_bytes s) in
        let other_record : List (List ℕ) = record_blocks g.block (payload_of (Snapshot [])) in
        let lone_there : IsLone 0 (take k (one_record ++ other_record)) j =
        subst (λ (x : Geometry). IsLone 0 (take k (record_blocks x.block (superblock_bytes s) ++ record_blocks x.block (payload_of (Snapshot [])))) j) (sym shape) lone_zone in
        let size : length (one_record ++ other_record) ≡ blocks_of g.block (length (superblock_bytes s)) + blocks_of g.block (length (payload_of (Snapshot []))) =
        omega (arith, length-append one_record other_record, length_record g.block (superblock_bytes s), length_record g.block (payload_of (Snapshot []))) in
        ⊎_elim
        (λ part. inr (inl (lone_part 0 k j (superblock_bytes s) (payload_of (Snapshot [])) s is_there empty_there.fits part lone_there)))
        (λ whole.
        let filled : take k (one_record ++ other_record) ≡ one_record ++ other_record = take_all k (one_record ++ other_record) (omega (arith, size, whole)) in
        inr (inr (record {
          selected = lone_log 0 j (superblock_bytes s) (payload_of (Snapshot [])) s [] is_there empty_there.fits empty_there.reads (subst (λ bs. IsLone 0 bs j) filled lone_there);
        })))
        (cases_lt k (blocks_of g.block (length (superblock_bytes s)) + blocks_of g.block (length (payload_of (Snapshot [])))))

    -- while the data zones are emptied
    while_emptied : (j : Image) → CrashesMetadata none j → FormatLeaves s i j
    while_emptied j c =
        part_leaves 0 j c.geometry (record {
          metadata = omega arith;
          here = (c.zones 0 (omega arith)).front ∙ take_none (length (zone_at j 0).blocks) (zone_at none 0).blocks (none_empty 0 (omega arith));
          others = λ m less other. (c.zones m less).front ∙ take_none (length (zone_at j m).blocks) (zone_at none m).blocks (none_empty m less);
        })

    -- until all zones are empty
    while_emptying : (j : Image) → PassedByEmptying first second third i j → FormatLeaves s i j
    while_emptying j p = ⊎_elim
        (λ resets. ⊎_elim
        (λ crash. crash_is_old s i j crash logs)
        (λ three. ⊎_elim
        (λ first_reset. ⊎_elim (λ crash. at_start j crash) (λ crash. at_one j crash) first_reset)
        (λ others. ⊎_elim
        (λ second_reset. ⊎_elim (λ crash. at_one j crash) (λ crash. at_two j crash) second_reset)
        (λ third_reset. ⊎_elim (λ crash. at_two j crash) (λ crash. at_none j crash) third_reset)
        others)
        three)
        resets)
        (λ cleared. while_emptied j cleared)
        p

    -- the first blocks of the new log on an empty device
    new_part : (k : ℕ) (x j : Image) → x.geometry ≡ i.geometry → IsLone 0 (take k (superblock ++ snapshot)) x → IsCrash x j → FormatLeaves s i j
    new_part k x j shape lone_zone crash =
        let n : ℕ = length (zone_at j 0).blocks in
        part_leaves (min n k) j (crash.geometry ∙ shape) (record {
          metadata = omega arith;
          here = (crashed_zone x j 0 crash).front ∙ (ap (take n) lone_zone.here ∙ take_twice n k (superblock ++ snapshot));
          others = λ m less other. (crashed_zone x j m crash).front ∙ take_none (length (zone_at j m).blocks) (zone_at x m).blocks (lone_zone.others m less other);
        })

    -- while the new log is written
    while_begun : (j : Image) → 0 < i.geometry.zones → PassedByFirstLog superblock snapshot (blank i.geometry) j → FormatLeaves s i j
    while_begun j some p =
        let b : Image = blank i.geometry in
        let empty_zones : IsLone 0 [] b = blank_lone i.geometry in
        let there : 0 < length b.zones = omega (arith, some, length-replicate i.geometry.zones no_zone) in
        let with_superblock : IsLone 0 superblock (appended b 0 superblock) = lone_appended [] superblock b there empty_zones in
        let still : 0 < length (appended b 0 superblock).zones = omega (arith, there, length-change_at 0 (zone_appended b.geometry.capacity superblock) b.zones) in
        ⊎_elim
        (λ new. ⊎_elim
        (λ superblock_part.
        let part : PassedByAppend b 0 superblock j = superblock_part in
        new_part part.count (appended b 0 (take part.count superblock)) j refl
        (subst (λ bs. IsLone 0 bs (appended b 0 (take part.count superblock))) (sym (take-append-le part.count superblock snapshot part.some)) (lone_appended [] (take part.count superblock) b there empty_zones)) part.crash)
        (λ snapshot_part.
        let part : PassedByAppend (appended b 0 superblock) 0 snapshot j = snapshot_part in
        let past : length superblock ≤ length superblock + part.count = omega arith in
        let rest_count : length superblock + part.count - length superblock ≡ part.count = omega arith in
        new_part (length superblock + part.count) (appended (appended b 0 superblock) 0 (take part.count snapshot)) j refl
        (subst (λ bs. IsLone 0 bs (appended (appended b 0 superblock) 0 (take part.count snapshot)))
        (sym (take_past superblock snapshot (length superblock + part.count) past ∙ ap (λ m. superblock ++ take m snapshot) rest_count))
        (lone_appended superblock (take part.count snapshot) (appended b 0 superblock) still with_superblock)) part.crash)
        new)
        (λ crash. new_part (length (superblock ++ snapshot)) (begun 0 superblock snapshot b) j refl
        (subst (λ bs. IsLone 0 bs (begun 0 superblock snapshot b)) (sym (take_all (length (superblock ++ snapshot)) (superblock ++ snapshot) (omega arith)))
        (lone_appended superblock snapshot (appended b 0 superblock) still with_superblock)) crash)
        p

    -- at every moment of formatting
    pub while_formatted : (j : Image) → 0 < i.geometry.zones → PassedByFormat i.geometry first second third superblock snapshot i j → FormatLeaves s i j
    while_formatted j some p = ⊎_elim (λ before. while_emptying j before) (λ after. while_begun j some after) p
