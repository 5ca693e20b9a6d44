-- A scan, record by record.
use Rattle.std.proofs.Common.{◌≡◌, ℕ, ◌+◌, ◌<◌, ◌≤◌, List, [], ◌∷◌, length, drop, refl, sym, ap, ◌∙◌, arith, length-drop}
use Rattle.log_model.specs.LogScan.{Item, Scan, first_item, scan_after, scan_from, scan_within, with_payload}
use Rattle.log_model.specs.LogScan.Item.{NoMore, Unfinished, Wrong, Whole}
use Rattle.std.specs.Prelude.{Option, Some, None}
use Rattle.log_model.specs.LogScan.{ScanEnd}
use Rattle.log_model.specs.LogScan.ScanEnd.{Clean, Torn, Bad}
use Rattle.meta_log.specs.declared.item.LogEnd.{LogEnd}
use Rattle.meta_log.specs.declared.item.LogEnd.TheVariants as log_end
use Rattle.meta_log.specs.declared.item.Found.TheVariants as found
use Rattle.meta_log.specs.declared.item.LogItem.{LogItem}
use Rattle.meta_log.specs.Ends.{scan_end}
use Rattle.meta_log.specs.Reader.{ReaderState, IsPlaced, end_item, first_of, scan_left, unless_over, with_item}
use Rattle.log_model.proofs.LogScanLaws.{same_bound, whole_count}
use Rattle.std.proofs.lemmas.List.{drop-drop}

-- the bound on the records behind the first is no matter
same_behind : (block at : ℕ) (x : List ℕ) (xs : List (List ℕ)) → 0 < block → (item : Item) → first_item block (x ∷ xs) ≡ item
    → scan_after at item (λ count. scan_within (length xs) block (at + count) (drop count (x ∷ xs))) ≡ scan_after at item (λ count. scan_from block (at + count) (drop count (x ∷ xs)))
same_behind block at x xs positive NoMore is = refl
same_behind block at x xs positive Unfinished is = refl
same_behind block at x xs positive (Wrong len stored computed) is = refl
same_behind block at x xs positive (Whole count payload) is =
    let some = (whole_count block count payload (x ∷ xs) positive is).0 in
    let left : length (drop count (x ∷ xs)) ≤ length xs = omega (arith, length-drop count (x ∷ xs), some) in
    ap (with_payload at payload) (same_bound (length xs) (length (drop count (x ∷ xs))) block (at + count) (drop count (x ∷ xs)) positive left (omega arith))

-- the scan of blocks is their first record, and the scan of those behind it
pub scan_step : (block at : ℕ) (xs : List (List ℕ)) → 0 < block → scan_from block at xs ≡ scan_after at (first_item block xs) (λ count. scan_from block (at + count) (drop count xs))
unfolding scan_within first_item
scan_step block at [] positive = refl
scan_step block at (x ∷ xs) positive = same_behind block at x xs positive (first_item block (x ∷ xs)) refl

-- behind a whole record the scan goes on
pub scan_whole : (block next count : ℕ) (payload : List ℕ) (blocks : List (List ℕ)) → 0 < block → first_item block (drop next blocks) ≡ Whole count payload
    → scan_from block next (drop next blocks) ≡ with_payload next payload (scan_from block (next + count) (drop (next + count) blocks))
scan_whole block next count payload blocks positive is =
    scan_step block next (drop next blocks) positive
    ∙ ap (λ item. scan_after next item (λ n. scan_from block (next + n) (drop n (drop next blocks)))) is
    ∙ ap (λ rest. with_payload next payload (scan_from block (next + count) rest)) (drop-drop count next blocks)

-- a scan that ends here has no payload
pub scan_ended : (block next : ℕ) (item : Item) (blocks : List (List ℕ)) → 0 < block → first_item block (drop next blocks) ≡ item
    → scan_from block next (drop next blocks) ≡ scan_after next item (λ n. scan_from block (next + n) (drop n (drop next blocks)))
scan_ended block next item blocks positive is =
    scan_step block next (drop next blocks) positive ∙ ap (λ i. scan_after next i (λ n. scan_from block (next + n) (drop n (drop next blocks)))) is

-- what is left behind a whole record
pub left_behind : (s : ReaderState) (blocks : List (List ℕ)) (count : ℕ) (payload : List ℕ) → 0 < s.block_size → s.ended ≡ None → first_item s.block_size (drop s.next blocks) ≡ Whole count payload
    → scan_left s blocks ≡ with_payload s.next payload (scan_left (record s { next = s.next + count }) blocks)
left_behind s blocks count payload positive going is =
    ap (λ e. unless_over e (scan_from s.block_size s.next (drop s.next blocks))) going
    ∙ scan_whole s.block_size s.next count payload blocks positive is
    ∙ ap (λ e. with_payload s.next payload (unless_over e (scan_from s.block_size (s.next + count) (drop (s.next + count) blocks)))) (sym going)

-- the scan of what is left, where it ends
ends_here : (next : ℕ) (end : LogEnd) (others : ℕ → Scan) → IsPlaced next (found.End end) → scan_after next (first_of (found.End end)) others ≡ record { payloads = []; end = scan_end end }
ends_here next log_end.Clean others placed = refl
ends_here next (log_end.Torn block) others placed = ap (λ b. record { payloads = []; end = Torn b }) (sym placed)
ends_here next (log_end.Bad block len stored computed) others placed = ap (λ b. record { payloads = []; end = Bad b len stored computed }) (sym placed)

-- an end is an item that nothing is left behind
end_of_item : (e : ScanEnd) (rest : Scan) → with_item (end_item e) rest ≡ record { payloads = []; end = e }
end_of_item Clean rest = refl
end_of_item (Torn block) rest = refl
end_of_item (Bad block len stored computed) rest = refl

-- what is left where the scan ends
pub left_ended : (s : ReaderState) (blocks : List (List ℕ)) (end : LogEnd) (item : LogItem) (rest : Scan) → 0 < s.block_size → s.ended ≡ None
    → first_item s.block_size (drop s.next blocks) ≡ first_of (found.End end) → IsPlaced s.next (found.End end) → item ≡ end_item (scan_end end) → scan_left s blocks ≡ with_item item rest
left_ended s blocks end item rest positive going is placed item_is =
    ap (λ e. unless_over e (scan_from s.block_size s.next (drop s.next blocks))) going
    ∙ scan_ended s.block_size s.next (first_of (found.End end)) blocks positive is
    ∙ ends_here s.next end (λ n. scan_from s.block_size (s.next + n) (drop n (drop s.next blocks))) placed
    ∙ sym (ap (λ i. with_item i rest) item_is ∙ end_of_item (scan_end end) rest)

-- an option that has no value
pub none_from : {A : Type 0} (o : Option A) → ((x : A) → o ≡ Some x → ⊥) → o ≡ None
none_from None never = refl
none_from (Some x) never = absurd (never x refl)
