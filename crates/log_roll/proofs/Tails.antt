-- What stands behind the records that were read.
use Rattle.std.proofs.Common.{◌≡◌, ℕ, zero, suc, ◌+◌, ◌-◌, ◌<◌, ◌≤◌, Bool, true, false, not, List, length, drop, refl, sym, ap, ◌∙◌, arith, length-drop}
use Rattle.std.specs.Prelude.{◌&&◌, ◌||◌, Option, Some, None, Result}
use Rattle.log_model.specs.declared.selection.Refusal.{Refusal}
use Rattle.std.specs.Str.{bytes_eq}
use Rattle.record_model.specs.Numbers.{u32}
use Rattle.record_model.specs.Decoding.{record_of}
use Rattle.log_model.specs.LogScan.{Item, Scan, ScanEnd, first_item, has_end, is_clean, scan_after, scan_from, scan_within, with_payload}
use Rattle.log_model.specs.LogScan.Item.{NoMore, Unfinished, Wrong, Whole}
use Rattle.log_model.specs.LogScan.ScanEnd.{Clean, Torn, Bad}
use Rattle.log_model.specs.LogSelection.{is_snapshot}
use Rattle.meta_log.specs.Reader.{ReaderState, scan_left, unless_over}
use Rattle.log_roll.specs.declared.summary.LogRest.{LogRest}
use Rattle.log_roll.specs.Records.{log_end_of}
use Rattle.log_roll.specs.Summaries.{end_seen, is_clean_end, rest_with, unless_bad}
use Rattle.log_roll.specs.Rests.{rest_of, tail_of}

-- no more payloads than one more than those behind the first
few_after : (at : ℕ) (i : Item) (others : ℕ → Scan) (k : ℕ) → ((n : ℕ) → length (others n).payloads ≤ k) → length (scan_after at i others).payloads ≤ suc k
few_after at NoMore others k few = omega arith
few_after at Unfinished others k few = omega arith
few_after at (Wrong len stored computed) others k few = omega arith
few_after at (Whole count payload) others k few = let rest : length (others count).payloads ≤ k = few count in omega arith

-- a scan has no more payloads than its bound
few_within : (k block at : ℕ) (blocks : List (List ℕ)) → length (scan_within k block at blocks).payloads ≤ k
unfolding scan_within
few_within zero block at blocks = omega arith
few_within (suc k) block at blocks = few_after at (first_item block blocks) _ k (λ count. few_within k block (at + count) (drop count blocks))

-- what is left to scan, whether or not the end was found
few_unless : (ended : Option ScanEnd) (rest : Scan) (k : ℕ) → length rest.payloads ≤ k → length (unless_over ended rest).payloads ≤ k
few_unless None rest k few = few
few_unless (Some end) rest k few = omega arith

-- a reader has no more payloads before it than the zone has blocks
pub few_left : (s : ReaderState) (blocks : List (List ℕ)) → length (scan_left s blocks).payloads ≤ length blocks
few_left s blocks =
    let behind : length (drop s.next blocks) ≤ length blocks = omega (arith, length-drop s.next blocks) in
    let few : length (scan_from s.block_size s.next (drop s.next blocks)).payloads ≤ length (drop s.next blocks) = few_within (length (drop s.next blocks)) s.block_size s.next (drop s.next blocks) in
    few_unless s.ended (scan_from s.block_size s.next (drop s.next blocks)) (length blocks) (omega arith)

-- so much of a scan was read: whether an end record was seen, what is left, and more than how many records that is
pub record IsReadTo (whole : Scan) (seen : Bool) (rest : Scan) (left : ℕ) : Type 0 where
  pub end : whole.end ≡ rest.end
  pub has_end : has_end whole.payloads ≡ (seen || has_end rest.payloads)
  pub room : length rest.payloads < left

-- nothing was read
pub nothing_read : (s : Scan) (written : ℕ) → length s.payloads ≤ written → IsReadTo s false s (written + 1)
nothing_read s written few = record { end = refl; has_end = refl; room = omega arith }

-- tests in another order
or_grouped : (a b c : Bool) → (a || (b || c)) ≡ ((a || b) || c)
or_grouped true b c = refl
or_grouped false b c = refl

-- either way round
or_turned : (a b : Bool) → (a || b) ≡ (b || a)
or_turned true true = refl
or_turned true false = refl
or_turned false true = refl
or_turned false false = refl

-- one more record was read
pub more_read : (whole rest behind : Scan) (seen : Bool) (left block : ℕ) (bytes : List ℕ) → IsReadTo whole seen rest left → rest ≡ with_payload block bytes behind
    → IsReadTo whole (end_seen seen bytes) behind (left - 1)
more_read whole rest behind seen left block bytes read is =
    let count : length rest.payloads ≡ suc (length behind.payloads) = ap (λ (s : Scan). length s.payloads) is in
    let room : length rest.payloads < left = read.room in
    record {
      end = read.end ∙ ap (λ (s : Scan). s.end) is;
      has_end = read.has_end ∙ (ap (λ (s : Scan). seen || has_end s.payloads) is ∙ or_grouped seen (bytes_eq bytes (u32 4)) (has_end behind.payloads));
      room = omega arith;
    }

-- a clean end is one
clean_is : (e : ScanEnd) → is_clean_end (log_end_of e) ≡ is_clean e
clean_is Clean = refl
clean_is (Torn block) = refl
clean_is (Bad block len stored computed) = refl

-- what stands behind a superblock, of these
abbrev rest : Result Bool Refusal → Bool → LogRest
rest snapshot can_end = record { snapshot = snapshot; can_end = can_end }

-- behind a superblock stands a second payload, and a tail
pub rest_behind : (zone block : ℕ) (bytes : List ℕ) (whole behind : Scan) → whole ≡ with_payload block bytes behind → rest_with zone block bytes (tail_of behind) ≡ rest_of zone whole
rest_behind zone block bytes whole behind is =
    let there = unless_bad zone (log_end_of behind.end) (is_snapshot zone block (record_of bytes)) in
    ap (λ b. rest there (b && not (has_end behind.payloads || bytes_eq bytes (u32 4)))) (clean_is behind.end)
    ∙ (ap (λ b. rest there (is_clean behind.end && not b)) (or_turned (has_end behind.payloads) (bytes_eq bytes (u32 4)))
    ∙ ap (rest_of zone) (sym is))
