-- The log that is selected while a new one is begun beside it.
use Rattle.std.specs.Prelude.{◌≡◌, ◌≢◌, ℕ, ◌<◌, ◌≤◌, max, Bool, true, false, not, ◌&&◌, cond, List, [], ◌∷◌, Option, Some, None, Result, Ok, Err, filter, refl}
use Rattle.std.proofs.Common.{◌∙◌, ap, sym, ⊎_elim, arith}
use Rattle.zone_image.specs.Image.{Zone, Image, no_zone, zone_at}
use Rattle.zone_image.specs.Changes.{emptied, synced}
use Rattle.record_model.specs.FieldDecoding.{◌>>=◌}
use Rattle.log_model.specs.declared.selection.Chosen.{Chosen}
use Rattle.log_model.specs.declared.selection.Refusal.{Refusal}
use Rattle.log_model.specs.LogScan.{Scan, ScanEnd, scan, is_clean, has_end}
use Rattle.log_model.specs.LogScan.ScanEnd.{Clean, Torn, Bad}
use Rattle.log_model.specs.LogSelection.{LogAt, log_of_zone, add_log, has_snapshot, counts, newest, undamaged, greatest_sequence, select_among, select_log, selected_log, scans_of, chosen_of}
use Rattle.log_model.specs.AppendLaws.{IsSelectedOn, DiffersIn}
use Rattle.log_model.proofs.NewLogLaws.{other_may_be_reset}
use Rattle.log_model.proofs.SelectionLaws.{undamaged_is, newest_sequence, sequence_of}
use Rattle.log_model.proofs.SelectedLog.{Selected, selected_from, ok_is}
use Rattle.log_roll.specs.Resets.{emptied_two}
use Rattle.log_roll.specs.Rolling.{next_zone, third_zone}
use Rattle.log_roll.proofs.LoneLogs.{IsLone, select_lone, scans_lone}
use Rattle.log_roll.proofs.Rolled.{next_is_other, other_two}
use Rattle.log_roll.proofs.RollStages.{Stage, emptied_zone, synced_zone}
use Rattle.log_roll.proofs.ZoneChanges.{other_zone}

-- images with the same metadata have the same scans
pub same_scans : (i j : Image) → j.geometry ≡ i.geometry → ((m : ℕ) → m < 3 → (zone_at j m).blocks ≡ (zone_at i m).blocks) → scans_of j ≡ scans_of i
same_scans i j shape same =
    λ k. scan (shape k).block (same 0 (omega arith) k) ∷ scan (shape k).block (same 1 (omega arith) k) ∷ scan (shape k).block (same 2 (omega arith) k) ∷ []

-- and the same selection
pub same_selection : (i j : Image) (log : LogAt) (greatest : ℕ) → j.geometry ≡ i.geometry → ((m : ℕ) → m < 3 → (zone_at j m).blocks ≡ (zone_at i m).blocks)
    → IsSelectedOn i log greatest → IsSelectedOn j log greatest
same_selection i j log greatest shape same h = ap (λ g. select_log g (scans_of j)) shape ∙ (ap (select_log i.geometry) (same_scans i j shape same) ∙ h)

-- a sync changes no selection
pub synced_selected : (i : Image) → selected_log (synced i) ≡ selected_log i
synced_selected i =
    ap (λ scans. select_log i.geometry scans >>= (λ l. Ok (chosen_of l))) (same_scans i (synced i) refl (λ m less. ap (λ (z : Zone). z.blocks) (synced_zone i m)))

-- a reset of one zone
pub emptied_differs : (n : ℕ) (i : Image) → DiffersIn n i (emptied i n)
emptied_differs n i = record { geometry = refl; others = λ m less other. ap (λ (z : Zone). z.blocks) (other_zone n m (λ _. no_zone) i other) }

-- a log with a number
abbrev numbered : ℕ → LogAt → Result (LogAt × ℕ) Refusal
numbered n log = Ok (log, n)

-- the same log, whatever is found of it
abbrev given : LogAt → Bool → Result LogAt Refusal
given log there = Ok log

-- one log more, or none, as it is the one of lone scans
snapshot_given : (r : Result Bool Refusal) (l log : LogAt) (n left : ℕ) → ((r >>= given l) >>= numbered n) ≡ Ok (log, left) → (l ≡ log) × (n ≡ left)
snapshot_given (Ok there) l log n left h = let pair : ◌≡◌ {A = LogAt × ℕ} (l, n) (log, left) = ok_is h in (ap (λ (p : LogAt × ℕ). p.0) pair, ap (λ (p : LogAt × ℕ). p.1) pair)
snapshot_given (Err why) l log n left h = cc

counted : (b : Bool) (l log : LogAt) (left : ℕ) → (undamaged (newest (cond b (l ∷ []) [])) >>= numbered (max l.superblock.sequence 0)) ≡ Ok (log, left)
    → (l ≡ log) × (max l.superblock.sequence 0 ≡ left)
counted true l log left h = snapshot_given (has_snapshot l) l log (max l.superblock.sequence 0) left h
counted false l log left h = cc

found : (r : Result (Option LogAt) Refusal) (log : LogAt) (left : ℕ) → ((r >>= (λ o. Ok (add_log o []))) >>= select_among) ≡ Ok (log, left) → left ≡ log.superblock.sequence
found (Err why) log left h = cc
found (Ok None) log left h = cc
found (Ok (Some l)) log left h =
    let is = counted (counts l) l log left h in
    omega (arith, is.1, ap (λ (x : LogAt). x.superblock.sequence) is.0)

-- where one zone alone has records, the greatest sequence is that of the log
pub lone_greatest : (zone : ℕ) (blocks : List (List ℕ)) (j : Image) (log : LogAt) (left : ℕ) → IsLone zone blocks j → IsSelectedOn j log left → left ≡ log.superblock.sequence
lone_greatest zone blocks j log left is h =
    let c : Scan = scan j.geometry.block blocks in
    found (log_of_zone j.geometry zone c c.payloads c.end) log left (sym (select_lone j.geometry zone c is.metadata) ∙ (sym (ap (select_log j.geometry) (scans_lone zone blocks j is)) ∙ h))

-- with or without a log, the sequences of the others stay below
greatest_either : (b : Bool) (kept : List LogAt) (log : LogAt) (n : ℕ) → greatest_sequence kept ≤ n → greatest_sequence (cond b (log ∷ kept) kept) ≤ max log.superblock.sequence n
greatest_either true kept log n h = omega arith
greatest_either false kept log n h = omega arith

greatest_filter : (logs : List LogAt) → greatest_sequence (filter counts logs) ≤ greatest_sequence logs
greatest_filter [] = omega arith
greatest_filter (log ∷ logs) = greatest_either (counts log) (filter counts logs) log (greatest_sequence logs) (greatest_filter logs)

-- the selected log's sequence isn't above the greatest
pub selected_at_most : (i : Image) (log : LogAt) (greatest : ℕ) → IsSelectedOn i log greatest → log.superblock.sequence ≤ greatest
selected_at_most i log greatest h =
    let s : Selected i.geometry (scans_of i) log greatest = selected_from i.geometry (scans_of i) log greatest h in
    let is : newest (filter counts s.logs) ≡ Some log = undamaged_is (newest (filter counts s.logs)) log s.current in
    let own : log.superblock.sequence ≡ greatest_sequence (filter counts s.logs) = sym (ap sequence_of is) ∙ newest_sequence (filter counts s.logs) in
    omega (arith, own, greatest_filter s.logs, s.highest)

-- the log that may end has no end yet, and ends clean
pub can_end_facts : (log : LogAt) (greatest : ℕ) (old : Chosen) → chosen_of (log, greatest) ≡ old → old.can_end ≡ true → (log.scan.end ≡ Clean) × (has_end log.scan.payloads ≡ false)
can_end_facts log greatest old told can = both (log.scan.end) (has_end log.scan.payloads) (ap (λ (c : Chosen). c.can_end) told ∙ can)
  where
    both : (e : ScanEnd) (b : Bool) → (is_clean e && not b) ≡ true → (e ≡ Clean) × (b ≡ false)
    both Clean false h = (refl, refl)
    both Clean true h = cc
    both (Torn block) b h = cc
    both (Bad block len stored computed) b h = cc

-- the selection after the other two zones were emptied
pub record Started (d : Image) (zone : ℕ) (log : LogAt) (x : Image) : Type 0 where
  pub one_left : ℕ
  pub one_selected : IsSelectedOn (emptied d (next_zone zone)) log one_left
  pub left : ℕ
  pub selected : IsSelectedOn x log left
  pub own : left ≡ log.superblock.sequence

pub started_selection : (d : Image) (zone : ℕ) (log : LogAt) (greatest : ℕ) → zone < 3 → third_zone zone ≢ next_zone zone → log.zone ≡ zone → IsSelectedOn d log greatest
    → Stage d zone [] [] (emptied_two d (next_zone zone) (third_zone zone)) → Started d zone log (emptied_two d (next_zone zone) (third_zone zone))
started_selection d zone log greatest below apart at h stage =
    let other = next_is_other zone below in
    let one : Image = emptied d (next_zone zone) in
    let two : Image = emptied one (third_zone zone) in
    let first = other_may_be_reset d one (next_zone zone) log greatest h other.2 (λ e. other.0 (sym e ∙ at)) (emptied_differs (next_zone zone) d) (ap (λ (z : Zone). z.blocks) (emptied_zone (next_zone zone) d)) in
    let second = other_may_be_reset one two (third_zone zone) log first.0 first.1 other.3 (λ e. other.1 (sym e ∙ at)) (emptied_differs (third_zone zone) one) (ap (λ (z : Zone). z.blocks) (emptied_zone (third_zone zone) one)) in
    let is_lone : IsLone zone (zone_at two zone).blocks two = record {
      metadata = below;
      here = refl;
      others =
          λ m less differs. ⊎_elim
          (λ e. ap (λ n. (zone_at two n).blocks) e ∙ stage.next)
          (λ e. ap (λ n. (zone_at two n).blocks) e ∙ stage.third)
          (other_two zone m below less differs);
    } in
    record {
      one_left = first.0;
      one_selected = first.1;
      left = second.0;
      selected = second.1;
      own = lone_greatest zone (zone_at two zone).blocks two log second.0 is_lone second.1;
    }
