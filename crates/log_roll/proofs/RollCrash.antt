-- What a crash leaves of a device whose log is rolled.
use Rattle.std.specs.Prelude.{◌≡◌, ◌≢◌, ℕ, zero, suc, ◌+◌, ◌-◌, ◌<◌, ◌≤◌, ◌⊎◌, min, Bool, true, false, cond, List, [], ◌∷◌, ◌++◌, length, map, take, drop, refl}
use Rattle.std.proofs.Common.{◌∙◌, ap, sym, subst, inl, inr, ⊎_elim, arith}
use Rattle.std.specs.List.{AllZip}
use Rattle.std.proofs.lemmas.Bool.{cases_eq, cases_lt}
use Rattle.std.proofs.lemmas.List.{take_all, take-append-le, append-nil}
use Rattle.zone_image.specs.declared.Geometry.{Geometry}
use Rattle.zone_image.specs.Image.{Zone, Image, ZoneCrash, IsCrash, no_zone, zone_at}
use Rattle.zone_image.specs.Changes.{appended, emptied, synced, zone_synced}
use Rattle.zone_image.specs.Infos.{IsValidImage, info_of}
use Rattle.zone_image.specs.Moments.{PassedByAppend}
use Rattle.zone_image.proofs.CrashLaws.{crash_before_sync, synced_is_crash, crash-crash}
use Rattle.record_model.specs.Numbers.{u32}
use Rattle.superblock_core.specs.Superblock.{superblock_bytes}
use Rattle.superblock_core.specs.declared.superblock.Superblock.{Superblock}
use Rattle.log_model.specs.declared.selection.Chosen.{Chosen}
use Rattle.log_model.specs.LogScan.{Scan, blocks_of, record_blocks}
use Rattle.log_model.specs.LogScan.ScanEnd.{Clean}
use Rattle.log_model.specs.ScanLaws.{IsRecordOf}
use Rattle.log_model.specs.LogSelection.{LogAt}
use Rattle.log_model.specs.AppendLaws.{IsSelectedOn, AppendsTo}
use Rattle.log_model.specs.NewLogLaws.{IsNextSuperblock, FillsZone}
use Rattle.log_model.proofs.AppendLaws.{record_behind_selected}
use Rattle.log_model.proofs.NewLogLaws.{part_of_superblock, part_of_snapshot, whole_snapshot}
use Rattle.log_model.proofs.RecordLaws.{length_record}
use Rattle.log_model.proofs.CrashLaws.{crashed_zone, durable_zone_stays, take_past}
use Rattle.log_model.proofs.RecordCrash.{take_twice}
use Rattle.log_roll.specs.Resets.{emptied_two}
use Rattle.log_roll.specs.NewLog.{begun}
use Rattle.log_roll.specs.FormatLeaves.{SameData}
use Rattle.log_roll.specs.RollLeaves.{LeftByRoll, MayEnd, RollLeaves}
use Rattle.log_roll.specs.Rolling.{PassedByOld, PassedByReplace, PassedByRoll, end_blocks, ended, gets_end, next_superblock, next_zone, old_closed, rolled_image, third_zone}
use Rattle.log_roll.proofs.LoneLogs.{IsLone, IsSuperblock}
use Rattle.log_roll.proofs.Closing.{may_end}
use Rattle.log_roll.proofs.SelectedFacts.{Selection, selection_of, selection_there}
use Rattle.log_roll.proofs.ZoneChanges.{other_zone}
use Rattle.log_roll.proofs.Rolled.{drop_changed, image_rolled, next_is_other, other_two}
use Rattle.log_roll.proofs.RollStages.{Stage, Left, emptied_zone, rest_emptied, rest_synced, stage_crash, stage_end, stage_finish, stage_next, stage_started, stage_synced, rest_same, take_none, zip_drop}
use Rattle.log_roll.proofs.RollBase.{Started, can_end_facts, same_selection, selected_at_most, started_selection, synced_selected}
use Rattle.log_roll.proofs.RollSelects.{IsNext, new_log_selected, next_superblock_is, rolled_lone, snapshot_is}

-- the zone behind the next one is another
pub third_is_other : (zone : ℕ) → zone < 3 → third_zone zone ≢ next_zone zone
third_is_other zero below = λ e. cc
third_is_other (suc zero) below = λ e. cc
third_is_other (suc (suc zero)) below = λ e. cc
third_is_other (suc (suc (suc n))) below = absurd (omega arith)

-- a part of one block is none or all
part_of_one : (e : ℕ) (blocks : List (List ℕ)) → length blocks ≡ 1 → (take e blocks ≡ []) ⊎ (take e blocks ≡ blocks)
part_of_one zero blocks one = inl refl
part_of_one (suc e) blocks one = inr (take_all (suc e) blocks (omega arith))

-- the crash of an image with a log that counts
pub crash_is_old : (old : Chosen) (snapshot : List ℕ) (i j : Image) → IsCrash i j → LeftByRoll old snapshot i j
crash_is_old old snapshot i j crash logs =
    let there = selection_there j (logs j crash) in
    let s : Selection j there.0 = there.1 in
    record {
      crashed = j;
      crash = crash;
      data_zones = record { geometry = refl; zones = refl };
      log = inl (record { log = s.log; scan = s.log.scan; before = s.greatest; after = s.greatest; was = s.selected; is = s.selected; payloads = record { payloads = inl refl } });
    }

-- the data zones of a rolled image
rolled_data : (i : Image) (n : ℕ) (blocks : List (List ℕ)) → n < 3 → drop 3 (rolled_image i n blocks).zones ≡ drop 3 (synced i).zones
rolled_data i zero blocks below = refl
rolled_data i (suc zero) blocks below = refl
rolled_data i (suc (suc zero)) blocks below = refl
rolled_data i (suc (suc (suc n))) blocks below = absurd (omega arith)

-- its new log is durable
rolled_durable : (i : Image) (n : ℕ) (blocks : List (List ℕ)) → n < 3 → length (zone_at (rolled_image i n blocks) n).blocks ≤ (zone_at (rolled_image i n blocks) n).kept
rolled_durable i zero blocks below = omega arith
rolled_durable i (suc zero) blocks below = omega arith
rolled_durable i (suc (suc zero)) blocks below = omega arith
rolled_durable i (suc (suc (suc n))) blocks below = absurd (omega arith)

-- what is synced stays so
synced_all : (zs : List Zone) → map zone_synced (map zone_synced zs) ≡ map zone_synced zs
synced_all [] = refl
synced_all (z ∷ zs) = ap (λ ys. zone_synced z ∷ ys) (synced_all zs)

synced_data : (n : ℕ) (zs : List Zone) → map zone_synced (drop n (map zone_synced zs)) ≡ drop n (map zone_synced zs)
synced_data zero zs = synced_all zs
synced_data (suc n) [] = refl
synced_data (suc n) (z ∷ zs) = synced_data n zs

module _ (i : Image) (old : Chosen) (snapshot : List ℕ) (next : IsNext i old snapshot) (valid : IsValidImage i) (long : 2 < length i.zones) (one_block : length (end_blocks i.geometry.block) ≡ 1) where
  abbrev pub d : Image
  d = synced i

  abbrev pub zone : ℕ
  zone = old.zone

  abbrev pub s : Superblock
  s = next_superblock old

  abbrev pub first : List (List ℕ)
  first = record_blocks i.geometry.block (superblock_bytes (next_superblock old))

  abbrev pub second : List (List ℕ)
  second = record_blocks i.geometry.block snapshot

  rest : AllZip ZoneCrash (drop 3 (synced i).zones) (drop 3 (synced i).zones)
  rest = zip_drop 3 (synced i).zones (synced i).zones (rest_synced i).zones

  started : Stage d zone [] [] (emptied_two d (next_zone zone) (third_zone zone))
  started = stage_started i zone next.below long (third_is_other zone next.below)

  crashed_synced : IsCrash i d
  crashed_synced = synced_is_crash i valid

  -- the image after the first sync keeps the old log, with or without an end record, or has the new one
  concluded : (j : Image) (kept : Scan) (after : ℕ) (sel : Selection d old) → SameData d j → MayEnd sel.log.scan.payloads kept.payloads
      → IsSelectedOn j (record { zone = sel.log.zone; superblock = sel.log.superblock; scan = kept }) after → RollLeaves old snapshot i j
  concluded j kept after sel same payloads is = record {
    crashed = d;
    crash = crashed_synced;
    data_zones = same;
    log = inl (record { log = sel.log; scan = kept; before = sel.greatest; after = after; was = sel.selected; is = is; payloads = payloads });
  }

  -- the old log on an image in which no part of the new one stands
  record Base (sel : Selection d old) (left : ℕ) (b : Image) : Type 0 where
    kept : Scan
    payloads : MayEnd sel.log.scan.payloads kept.payloads
    selected : IsSelectedOn b (record { zone = sel.log.zone; superblock = sel.log.superblock; scan = kept }) left

  end_fits : (g : Geometry) → 8 ≤ g.block → IsRecordOf g.block (u32 4)
  end_fits g head = (head, omega arith, omega arith)

  base_of : (e : ℕ) (b : Image) (sel : Selection d old) (started_on : Started d zone sel.log (emptied_two d (next_zone zone) (third_zone zone))) → (e ≡ 0) ⊎ (old.can_end ≡ true)
      → Left d zone (take e (end_blocks i.geometry.block)) [] b → Base sel started_on.left b
  base_of e b sel on may left =
      let two : Image = emptied_two d (next_zone zone) (third_zone zone) in
      let eb : List (List ℕ) = end_blocks i.geometry.block in
      let at : sel.log.zone ≡ zone = ap (λ (c : Chosen). c.zone) sel.told in
      let own : (zone_at two zone).blocks ≡ (zone_at d zone).blocks = started.own ∙ append-nil (zone_at d zone).blocks in
      let none : take e eb ≡ [] → Base sel on.left b =
      λ empty. record {
        kept = sel.log.scan;
        payloads = record { payloads = inl refl };
        selected =
            same_selection two b sel.log on.left left.geometry
            (λ m less. ⊎_elim
            (λ same.
            ap (λ n. (zone_at b n).blocks) same ∙ (left.own ∙ (ap (λ bs. (zone_at d zone).blocks ++ bs) empty ∙ (append-nil (zone_at d zone).blocks ∙ (sym own ∙ ap (λ n. (zone_at two n).blocks) (sym same))))))
            (λ differs. ⊎_elim
            (λ n. ap (λ z. (zone_at b z).blocks) n ∙ (left.next ∙ (sym started.next ∙ ap (λ z. (zone_at two z).blocks) (sym n))))
            (λ t. ap (λ z. (zone_at b z).blocks) t ∙ (left.third ∙ (sym started.third ∙ ap (λ z. (zone_at two z).blocks) (sym t))))
            (other_two zone m next.below less differs))
            (cases_eq m zone))
            on.selected;
      } in
      let whole : (old.can_end ≡ true) → take e eb ≡ eb → Base sel on.left b =
      λ can all.
      let facts = can_end_facts sel.log sel.greatest old sel.told can in
      let appends : AppendsTo sel.log.zone (end_blocks two.geometry.block) two b = record {
        differs = record {
          geometry = left.geometry;
          others =
              λ m less other. ⊎_elim
              (λ n. ap (λ z. (zone_at b z).blocks) n ∙ (left.next ∙ (sym started.next ∙ ap (λ z. (zone_at two z).blocks) (sym n))))
              (λ t. ap (λ z. (zone_at b z).blocks) t ∙ (left.third ∙ (sym started.third ∙ ap (λ z. (zone_at two z).blocks) (sym t))))
              (other_two zone m next.below less (λ same. other (same ∙ sym at)));
        };
        behind =
            ap (λ n. (zone_at b n).blocks) at ∙ (left.own ∙ (ap (λ bs. (zone_at d zone).blocks ++ bs) all
            ∙ (ap (λ bs. bs ++ eb) (sym own) ∙ ap (λ n. (zone_at two n).blocks ++ eb) (sym at))));
      } in
      record {
        kept = record { payloads = sel.log.scan.payloads ++ (length (zone_at two sel.log.zone).blocks, u32 4) ∷ []; end = Clean };
        payloads = record { payloads = inr (facts.1, (length (zone_at two sel.log.zone).blocks, refl)) };
        selected = record_behind_selected two b sel.log on.left (u32 4) on.selected facts.0 (end_fits i.geometry (snapshot_is i old snapshot next).0) appends;
      } in
      ⊎_elim none
      (λ all. ⊎_elim (λ zero_blocks. none (ap (λ n. take n eb) zero_blocks)) (λ can. whole can all) may)
      (part_of_one e eb one_block)

  -- the selection of the image after the first sync
  selection : Selection d old
  selection = selection_of d old (synced_selected i ∙ next.selected)

  on_two : Started d zone selection.log (emptied_two d (next_zone zone) (third_zone zone))
  on_two =
      started_selection d zone selection.log selection.greatest next.below (third_is_other zone next.below) (ap (λ (c : Chosen). c.zone) selection.told) selection.selected started

  -- what a crash leaves, by its blocks
  pub left_is : (e k : ℕ) (j : Image) → Left d zone (take e (end_blocks i.geometry.block)) (take k (first ++ second)) j → (e ≡ 0) ⊎ (old.can_end ≡ true) → RollLeaves old snapshot i j
  left_is e k j left may =
      let n : ℕ = next_zone zone in
      let other = next_is_other zone next.below in
      let b : Image = emptied j n in
      let same_zone : (m : ℕ) → m ≢ n → zone_at b m ≡ zone_at j m = λ m differs. other_zone n m (λ _. no_zone) j differs in
      let on_base : Left d zone (take e (end_blocks i.geometry.block)) [] b = record {
        geometry = left.geometry;
        own = ap (λ (z : Zone). z.blocks) (same_zone zone (λ e. other.0 (sym e))) ∙ left.own;
        next = ap (λ (z : Zone). z.blocks) (emptied_zone n j);
        third = ap (λ (z : Zone). z.blocks) (same_zone (third_zone zone) (third_is_other zone next.below)) ∙ left.third;
        data_zones = drop_changed 3 n (λ _. no_zone) j.zones other.2 ∙ left.data_zones;
      } in
      let base : Base selection on_two.left b = base_of e b selection on_two may on_base in
      let same : SameData d j = record { geometry = left.geometry; zones = left.data_zones } in
      let is : IsSuperblock j.geometry (superblock_bytes s) s = subst (λ g. IsSuperblock g (superblock_bytes s) s) (sym left.geometry) (next_superblock_is i old snapshot next) in
      let fits : IsRecordOf j.geometry.block snapshot = subst (λ (g : Geometry). IsRecordOf g.block snapshot) (sym left.geometry) (snapshot_is i old snapshot next) in
      let greatest : selection.greatest ≡ old.greatest = ap (λ (c : Chosen). c.greatest) selection.told in
      let follows : IsNextSuperblock b on_two.left (superblock_bytes s) s = record {
        fits = is.fits;
        size = is.size;
        reads = is.reads;
        device = is.device;
        above = omega (arith, on_two.own, selected_at_most d selection.log selection.greatest selection.selected, greatest);
      } in
      let block : ℕ = j.geometry.block in
      let one : List (List ℕ) = record_blocks block (superblock_bytes s) in
      let two : List (List ℕ) = record_blocks block snapshot in
      let size : length one ≡ blocks_of block (length (superblock_bytes s)) = length_record block (superblock_bytes s) in
      let size_two : length two ≡ blocks_of block (length snapshot) = length_record block snapshot in
      let new_blocks : take k (first ++ second) ≡ take k (one ++ two) =
      ap (λ (g : Geometry). take k (record_blocks g.block (superblock_bytes s) ++ record_blocks g.block snapshot)) (sym left.geometry) in
      let fills : (blocks : List (List ℕ)) → take k (one ++ two) ≡ blocks → FillsZone n blocks b j =
      λ blocks filled. record {
        metadata = other.2;
        was_empty = ap (λ (z : Zone). z.blocks) (emptied_zone n j);
        differs = record { geometry = refl; others = λ m less differs. sym (ap (λ (z : Zone). z.blocks) (same_zone m differs)) };
        filled = left.next ∙ (new_blocks ∙ filled);
      } in
      let log : LogAt = record { zone = selection.log.zone; superblock = selection.log.superblock; scan = base.kept } in
      ⊎_elim
      (λ front. concluded j base.kept on_two.left selection same base.payloads
      (part_of_superblock b j n k log on_two.left (superblock_bytes s) s base.selected follows (omega (arith, front, size)) (fills (take k one) (take-append-le k one two (omega (arith, front))))))
      (λ past.
      let rest_blocks : take k (one ++ two) ≡ one ++ take (k - length one) two = take_past one two k past in
      ⊎_elim
      (λ part. concluded j base.kept s.sequence selection same base.payloads
      (part_of_snapshot b j n (k - length one) log on_two.left (superblock_bytes s) snapshot s base.selected follows fits (omega (arith, part, size_two)) (fills (one ++ take (k - length one) two) rest_blocks)))
      (λ all. record {
        crashed = d;
        crash = crashed_synced;
        data_zones = same;
        log = inr (
          refl,
          record {
            selected = whole_snapshot b j n log on_two.left (superblock_bytes s) snapshot s next.snapshot_reads.files base.selected follows fits next.snapshot_reads.reads
                (fills (one ++ two) (rest_blocks ∙ ap (λ bs. one ++ bs) (take_all (k - length one) two all)));
          },
        );
      })
      (cases_lt (k - length one) (length two)))
      (cases_lt k (length one))

  -- what a crash leaves of an image of the roll
  pub of_stage : (e k : ℕ) (more new : List (List ℕ)) (x j : Image) → Stage d zone more new x → more ≡ take e (end_blocks i.geometry.block) → new ≡ take k (first ++ second)
      → (e ≡ 0) ⊎ (old.can_end ≡ true) → IsCrash x j → RollLeaves old snapshot i j
  of_stage e k more new x j stage is_end is_new may crash =
      let c = stage_crash d zone next.below rest more new x j stage crash in
      let l : Left d zone (take c.0 more) (take c.1 new) j = c.2 in
      let ends : take c.0 more ≡ take (min c.0 e) (end_blocks i.geometry.block) = ap (take c.0) is_end ∙ take_twice c.0 e (end_blocks i.geometry.block) in
      let news : take c.1 new ≡ take (min c.1 k) (first ++ second) = ap (take c.1) is_new ∙ take_twice c.1 k (first ++ second) in
      left_is (min c.0 e) (min c.1 k) j
      (record {
        geometry = l.geometry;
        own = l.own ∙ ap (λ bs. (zone_at d zone).blocks ++ bs) ends;
        next = l.next ∙ news;
        third = l.third;
        data_zones = l.data_zones;
      })
      (⊎_elim (λ none. inl (omega (arith, none))) (λ can. inr can) may)

  -- when the old log has its end record, or needs none
  record EndStage (x : Image) : Type 0 where
    count : ℕ
    may : (count ≡ 0) ⊎ (old.can_end ≡ true)
    stage : Stage d zone (take count (end_blocks i.geometry.block)) [] x

  ended_as : (t : Bool) → gets_end i.geometry.capacity old.can_end (info_of (zone_at (emptied_two d (next_zone zone) (third_zone zone)) zone)) ≡ t
      → EndStage (cond t (appended (emptied_two d (next_zone zone) (third_zone zone)) zone (end_blocks i.geometry.block)) (emptied_two d (next_zone zone) (third_zone zone)))
  ended_as true test =
      let two : Image = emptied_two d (next_zone zone) (third_zone zone) in
      let eb : List (List ℕ) = end_blocks i.geometry.block in
      record {
        count = 1;
        may = inr (may_end i.geometry.capacity old.can_end (info_of (zone_at two zone)) test);
        stage = subst (λ bs. Stage d zone bs [] (appended two zone eb)) (sym (take_all 1 eb (omega (arith, one_block)))) (stage_end d zone next.below rest eb two started);
      }
  ended_as false test = record { count = 0; may = inl refl; stage = started }

  ended_stage : EndStage (ended old.can_end zone (emptied_two d (next_zone zone) (third_zone zone)))
  ended_stage = ended_as (gets_end i.geometry.capacity old.can_end (info_of (zone_at (emptied_two d (next_zone zone) (third_zone zone)) zone))) refl

  closed_stage : EndStage (old_closed old.can_end zone i)
  closed_stage = record {
    count = ended_stage.count;
    may = ended_stage.may;
    stage = stage_finish d zone next.below rest (take ended_stage.count (end_blocks i.geometry.block)) [] (ended old.can_end zone (emptied_two d (next_zone zone) (third_zone zone))) ended_stage.stage;
  }

  -- with the next zone emptied
  at_first : (j : Image) → IsCrash (emptied d (next_zone zone)) j → RollLeaves old snapshot i j
  at_first j crash =
      let one : Image = emptied d (next_zone zone) in
      let same : j ≡ one = crash-crash one one j (rest_emptied d (next_zone zone) (rest_synced i)) crash in
      subst (RollLeaves old snapshot i) (sym same)
      (concluded one selection.log.scan on_two.one_left selection
      (record { geometry = refl; zones = drop_changed 3 (next_zone zone) (λ _. no_zone) d.zones (next_is_other zone next.below).2 })
      (record { payloads = inl refl }) on_two.one_selected)

  -- with both emptied
  at_started : (j : Image) → IsCrash (emptied_two d (next_zone zone) (third_zone zone)) j → RollLeaves old snapshot i j
  at_started j crash = of_stage 0 0 [] [] (emptied_two d (next_zone zone) (third_zone zone)) j started refl refl (inl refl) crash

  -- while the old log is closed
  while_old : (j : Image) → PassedByOld old.can_end old.zone i j → LeftByRoll old snapshot i j
  while_old j p logs = ⊎_elim
      (λ start. ⊎_elim
      (λ crash. crash_is_old old snapshot i j crash logs)
      (λ resets. ⊎_elim
      (λ first_reset. ⊎_elim (λ crash. crash_is_old old snapshot i j (crash_before_sync i j valid crash) logs) (λ crash. at_first j crash) first_reset)
      (λ second_reset. ⊎_elim (λ crash. at_first j crash) (λ crash. at_started j crash) second_reset)
      resets)
      start)
      (λ close. ⊎_elim
      (λ end. ⊎_elim
      (λ crash. at_started j crash)
      (λ added.
      let part : PassedByAppend (emptied_two d (next_zone zone) (third_zone zone)) zone (end_blocks i.geometry.block) j = added.1 in
      of_stage part.count 0 (take part.count (end_blocks i.geometry.block)) [] (appended (emptied_two d (next_zone zone) (third_zone zone)) zone (take part.count (end_blocks i.geometry.block))) j
      (stage_end d zone next.below rest (take part.count (end_blocks i.geometry.block)) (emptied_two d (next_zone zone) (third_zone zone)) started) refl refl (inr added.0) part.crash)
      end)
      (λ finish. ⊎_elim
      (λ crash. of_stage ended_stage.count 0 (take ended_stage.count (end_blocks i.geometry.block)) [] (ended old.can_end zone (emptied_two d (next_zone zone) (third_zone zone))) j ended_stage.stage refl refl ended_stage.may crash)
      (λ crash. of_stage closed_stage.count 0 (take closed_stage.count (end_blocks i.geometry.block)) [] (old_closed old.can_end zone i) j closed_stage.stage refl refl closed_stage.may crash)
      finish)
      close)
      p

  -- with both records of the new log
  begun_stage : Stage d zone (take closed_stage.count (end_blocks i.geometry.block)) (first ++ second) (begun (next_zone zone) first second (old_closed old.can_end zone i))
  begun_stage =
      let more : List (List ℕ) = take closed_stage.count (end_blocks i.geometry.block) in
      let x : Image = old_closed old.can_end zone i in
      stage_next d zone next.below rest more first second (appended x (next_zone zone) first)
      (stage_next d zone next.below rest more [] first x closed_stage.stage (third_is_other zone next.below)) (third_is_other zone next.below)

  -- after the roll
  after_roll : (j : Image) → length first + length second < i.geometry.capacity → IsCrash (rolled_image i (next_zone zone) (first ++ second)) j → RollLeaves old snapshot i j
  after_roll j room crash =
      let n : ℕ = next_zone zone in
      let x : Image = rolled_image i n (first ++ second) in
      let other = next_is_other zone next.below in
      let was : IsLone n (first ++ second) x = rolled_lone i n (first ++ second) other.2 in
      let is_lone : IsLone n (first ++ second) j = record {
        metadata = other.2;
        here = durable_zone_stays x j n crash (rolled_durable i n (first ++ second) other.2) ∙ was.here;
        others =
            λ m less differs.
            let z : ZoneCrash (zone_at x m) (zone_at j m) = crashed_zone x j m crash in
            z.front ∙ take_none (length (zone_at j m).blocks) (zone_at x m).blocks (was.others m less differs);
      } in
      let data_same : drop 3 x.zones ≡ drop 3 d.zones = rolled_data i n (first ++ second) other.2 in
      record {
        crashed = d;
        crash = crashed_synced;
        data_zones = record {
          geometry = crash.geometry;
          zones = rest_same i.geometry (drop 3 d.zones) (drop 3 j.zones) rest (subst (λ zs. AllZip ZoneCrash zs (drop 3 j.zones)) data_same (zip_drop 3 x.zones j.zones crash.zones));
        };
        log = inr (refl, new_log_selected i old snapshot next n j crash.geometry is_lone);
      }

  -- while the new log is written, and after it
  while_new : (j : Image) → length first + length second < i.geometry.capacity → PassedByReplace zone first second (old_closed old.can_end zone i) j → RollLeaves old snapshot i j
  while_new j room p =
      let n : ℕ = next_zone zone in
      let x : Image = old_closed old.can_end zone i in
      let more : List (List ℕ) = take closed_stage.count (end_blocks i.geometry.block) in
      let apart = third_is_other zone next.below in
      let all : first ++ second ≡ take (length (first ++ second)) (first ++ second) = sym (take_all (length (first ++ second)) (first ++ second) (omega arith)) in
      ⊎_elim
      (λ write. ⊎_elim
      (λ new. ⊎_elim
      (λ superblock.
      let part : PassedByAppend x n first j = superblock in
      of_stage closed_stage.count part.count more (take part.count first) (appended x n (take part.count first)) j
      (stage_next d zone next.below rest more [] (take part.count first) x closed_stage.stage apart) refl
      (sym (take-append-le part.count first second part.some)) closed_stage.may part.crash)
      (λ written.
      let part : PassedByAppend (appended x n first) n second j = written in
      let past : length first ≤ length first + part.count = omega arith in
      let rest_count : length first + part.count - length first ≡ part.count = omega arith in
      of_stage closed_stage.count (length first + part.count) more (first ++ take part.count second) (appended (appended x n first) n (take part.count second)) j
      (stage_next d zone next.below rest more first (take part.count second) (appended x n first) (stage_next d zone next.below rest more [] first x closed_stage.stage apart) apart) refl
      (sym (take_past first second (length first + part.count) past ∙ ap (λ m. first ++ take m second) rest_count)) closed_stage.may part.crash)
      new)
      (λ crash. of_stage closed_stage.count (length (first ++ second)) more (first ++ second) (begun n first second x) j begun_stage refl all closed_stage.may crash)
      write)
      (λ reset. ⊎_elim
      (λ crash. of_stage closed_stage.count (length (first ++ second)) more (first ++ second) (synced (begun n first second x)) j
      (stage_synced d zone next.below rest more (first ++ second) (begun n first second x) begun_stage (synced_data 3 i.zones)) refl all closed_stage.may crash)
      (λ crash. after_roll j room (subst (λ y. IsCrash y j) (image_rolled i old.can_end zone first second next.below long room) crash))
      reset)
      p

  -- at every moment of a roll
  pub while_rolled : (j : Image) → length first + length second < i.geometry.capacity → PassedByRoll old.can_end old.zone first second i j → LeftByRoll old snapshot i j
  while_rolled j room p logs = ⊎_elim (λ before. while_old j before logs) (λ after. while_new j room after) p
