-- The selection of a log after a change in one metadata zone.
use Rattle.std.specs.Prelude.{◌≡◌, ◌≢◌, ℕ, ◌+◌, ◌<◌, false, List, [], ◌∷◌, ◌++◌, length, Option, Some, None, Ok, refl}
use Rattle.std.proofs.Common.{◌∙◌, ap, sym, arith}
use Rattle.zone_image.specs.declared.Geometry.{Geometry}
use Rattle.record_model.specs.FieldDecoding.{◌>>=◌}
use Rattle.log_model.specs.LogScan.{Scan}
use Rattle.log_model.specs.ScanLaws.{is_bad}
use Rattle.log_model.specs.LogSelection.{LogAt, log_of_zone, logs_from, add_log, twin, current_log, greatest_sequence, select_among, select_log}
use Rattle.log_model.specs.LogChangeLaws.{no_records, TornZoneIsAsEmpty, OtherZoneMayBeEmptied, BegunLogIsPassedOver, CompleteLogIsSelected}
use Rattle.log_model.proofs.SelectionLaws.{skipped_zone_has_no_log, passed_over_may_go, newest_is_selected, other_may_go, greatest_append}
use Rattle.log_model.proofs.TwinLaws.{fewer_have_no_twin, higher_has_no_twin}
use Rattle.log_model.proofs.SelectedLog.{Selected, LogsAround, selected_from, selected_is, logs_joined, logs_split, log_zone, ok_is}

-- zones in front of which one has no log
skipped_behind : (g : Geometry) (zone : ℕ) (before after : List Scan) (c : Scan) → c.payloads ≡ [] → is_bad c.end ≡ false
    → logs_from g zone (before ++ c ∷ after) ≡ logs_from g zone (before ++ no_records ∷ after)
skipped_behind g zone [] after c none ok =
    skipped_zone_has_no_log g zone c after none ok ∙ sym (skipped_zone_has_no_log g zone no_records after refl refl)
skipped_behind g zone (b ∷ before) after c none ok =
    ap (λ rest. log_of_zone g zone b b.payloads b.end >>= (λ log. rest >>= (λ others. Ok (add_log log others)))) (skipped_behind g (zone + 1) before after c none ok)

pub torn_zone_is_as_empty : TornZoneIsAsEmpty
unfolding select_log
torn_zone_is_as_empty g before after c none ok = ap (λ found. found >>= select_among) (skipped_behind g 0 before after c none ok)

-- without one log, another one than the selected, the selection stays
selected_without : (front back : List LogAt) (here : Option LogAt) (log : LogAt) (n : ℕ) → ((x : LogAt) → here ≡ Some x → x.zone ≡ n) → log.zone ≢ n
    → twin [] (front ++ add_log here back) ≡ None → current_log (front ++ add_log here back) ≡ Ok log
    → (twin [] (front ++ back) ≡ None) × (current_log (front ++ back) ≡ Ok log)
selected_without front back None log n at away apart is = (apart, is)
selected_without front back (Some x) log n at away apart is =
    (fewer_have_no_twin front back x apart, other_may_go front back x log is (λ same. away (sym (ap (λ l. l.zone) same) ∙ at x refl)))

pub other_zone_may_be_emptied : OtherZoneMayBeEmptied
other_zone_may_be_emptied g before after c log selects away =
    let old : Selected g (before ++ c ∷ after) log selects.0 = selected_from g (before ++ c ∷ after) log selects.0 selects.1 in
    let split = logs_split g 0 (length before) before after c old.logs (omega arith) old.found in
    let around : LogsAround g 0 (length before) before after split.0 old.logs = split.2 in
    let kept = selected_without around.front around.back split.0 log (length before)
    (λ x is. log_zone g (length before) c c.payloads c.end x (split.1 ∙ ap Ok is)) away
    (ap (twin []) around.all ∙ old.apart) (ap current_log around.all ∙ old.current) in (
      greatest_sequence (around.front ++ around.back),
      selected_is g (before ++ no_records ∷ after) log _ (record {
        logs = around.front ++ around.back;
        found = logs_joined g 0 (length before) before after no_records None around.front around.back (omega arith) around.fronts refl around.backs;
        apart = kept.0;
        current = kept.1;
        highest = refl;
      }),
    )

-- the logs about an empty zone, and what is selected of them
record AroundEmpty (g : Geometry) (before after : List Scan) (log : LogAt) (greatest : ℕ) : Type 0 where
  front : List LogAt
  back : List LogAt
  fronts : logs_from g 0 before ≡ Ok front
  backs : logs_from g (length before + 1) after ≡ Ok back
  apart : twin [] (front ++ back) ≡ None
  current : current_log (front ++ back) ≡ Ok log
  highest : greatest_sequence (front ++ back) ≡ greatest

-- a selection about an empty zone, taken apart
around_empty : (g : Geometry) (before after : List Scan) (log : LogAt) (greatest : ℕ) → select_log g (before ++ no_records ∷ after) ≡ Ok (log, greatest)
    → AroundEmpty g before after log greatest
around_empty g before after log greatest selects =
    let old : Selected g (before ++ no_records ∷ after) log greatest = selected_from g (before ++ no_records ∷ after) log greatest selects in
    let split = logs_split g 0 (length before) before after no_records old.logs (omega arith) old.found in
    let around : LogsAround g 0 (length before) before after split.0 old.logs = split.2 in
    let all : around.front ++ around.back ≡ old.logs = ap (λ o. around.front ++ add_log o around.back) (ok_is split.1) ∙ around.all in
    record {
      front = around.front;
      back = around.back;
      fronts = around.fronts;
      backs = around.backs;
      apart = ap (twin []) all ∙ old.apart;
      current = ap current_log all ∙ old.current;
      highest = ap greatest_sequence all ∙ old.highest;
    }

-- a new log of a higher sequence, whichever log is selected then
with_new_log : (g : Geometry) (before after : List Scan) (begun : Scan) (log new it : LogAt) (greatest : ℕ) (a : AroundEmpty g before after log greatest)
    → log_of_zone g (length before) begun begun.payloads begun.end ≡ Ok (Some new) → greatest < new.superblock.sequence
    → current_log (a.front ++ new ∷ a.back) ≡ Ok it → select_log g (before ++ begun ∷ after) ≡ Ok (it, new.superblock.sequence)
with_new_log g before after begun log new it greatest a begins above is =
    selected_is g (before ++ begun ∷ after) it new.superblock.sequence (record {
      logs = a.front ++ new ∷ a.back;
      found = logs_joined g 0 (length before) before after begun (Some new) a.front a.back (omega arith) a.fronts begins a.backs;
      apart = higher_has_no_twin a.front a.back new a.apart (omega (arith, a.highest));
      current = is;
      highest = omega (arith, a.highest, greatest_append a.front a.back, greatest_append a.front (new ∷ a.back));
    })

pub begun_log_is_passed_over : BegunLogIsPassedOver
begun_log_is_passed_over g before after begun log new greatest selects begins above uncounted =
    let a : AroundEmpty g before after log greatest = around_empty g before after log greatest selects in
    with_new_log g before after begun log new log greatest a begins above (passed_over_may_go a.front a.back new uncounted ∙ a.current)

pub complete_log_is_selected : CompleteLogIsSelected
complete_log_is_selected g before after complete log new greatest selects begins above there =
    let a : AroundEmpty g before after log greatest = around_empty g before after log greatest selects in
    with_new_log g before after complete log new new greatest a begins above (newest_is_selected a.front a.back new there (omega (arith, a.highest)))
