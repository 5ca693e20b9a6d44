-- A log with one record more, replayed.
use Rattle.std.specs.Prelude.{◌≡◌, ℕ, false, List, [], ◌∷◌, ◌++◌, Result, Ok, Err}
use Rattle.std.proofs.Common.{◌∙◌, ap, sym}
use Rattle.std.proofs.lemmas.Bool.{or_parts, both_ways, false_from_ne_true}
use Rattle.std.specs.Str.{bytes_eq}
use Rattle.record_model.specs.Numbers.{u32}
use Rattle.record_model.specs.FieldDecoding.{◌>>=◌}
use Rattle.record_model.specs.Decoding.{record_of}
use Rattle.record_model.specs.declared.types.Record.{Record}
use Rattle.record_model.specs.declared.fault.DecodeFault.{DecodeFault}
use Rattle.log_model.specs.LogScan.{has_end}
use Rattle.log_model.specs.FileTable.{Table, decoded, placed, next_table, is_end, after_record, replay_from, replay_log}
use Rattle.log_model.specs.ReplayLaws.{AddedRecordIsReplayed}
use Rattle.log_model.proofs.SelectedLog.{went_on, ok_is}
use Rattle.log_model.proofs.EndRecord.{end_payload}

-- what is decoded was read
pub decoded_is : (at : ℕ) (read : Result Record DecodeFault) (r : Record) → placed at (decoded read) ≡ Ok r → read ≡ Ok r
decoded_is at (Ok x) r h = ap (λ y. Ok y) (ok_is h)
decoded_is at (Err fault) r h = cc

-- a payload that isn't an end record decodes to no end
no_end : (payload : List ℕ) (r : Record) → record_of payload ≡ Ok r → bytes_eq payload (u32 4) ≡ false → is_end r ≡ false
no_end payload r is other =
    false_from_ne_true (is_end r)
    (λ e. both_ways (bytes_eq payload (u32 4)) other (ap (λ p. bytes_eq p (u32 4)) (end_payload payload r is e)))

-- the last record of a log
last_record : (at : ℕ) (payload : List ℕ) (r : Record) (es next : Table) → record_of payload ≡ Ok r → after_record r es ≡ Ok next
    → replay_from false es ((at, payload) ∷ []) ≡ Ok next
last_record at payload r es next is after =
    ap (λ read. placed at (decoded read) >>= (λ x. placed at (next_table false x es) >>= (λ t. replay_from (is_end x) t []))) is
    ∙ ap (λ t. placed at t >>= (λ u. replay_from (is_end r) u [])) after

-- a log without an end record, from a table on, and one record more
added_from : (payloads : List (ℕ × List ℕ)) (at : ℕ) (payload : List ℕ) (r : Record) (before es next : Table) → replay_from false before payloads ≡ Ok es
    → has_end payloads ≡ false → record_of payload ≡ Ok r → after_record r es ≡ Ok next → replay_from false before (payloads ++ (at, payload) ∷ []) ≡ Ok next
added_from [] at payload r before es next h none is after =
    ap (λ t. replay_from false t ((at, payload) ∷ [])) (ok_is h) ∙ last_record at payload r es next is after
added_from (p ∷ ps) at payload r before es next h none is after =
    let parts = or_parts (bytes_eq p.1 (u32 4)) (has_end ps) none in
    let first = went_on (placed p.0 (decoded (record_of p.1))) (λ x. placed p.0 (next_table false x before) >>= (λ t. replay_from (is_end x) t ps)) es h in
    let step = went_on (placed p.0 (after_record first.0 before)) (λ t. replay_from (is_end first.0) t ps) es first.2 in
    let other : is_end first.0 ≡ false = no_end p.1 first.0 (decoded_is p.0 (record_of p.1) first.0 first.1) parts.0 in
    let behind : replay_from false step.0 ps ≡ Ok es = ap (λ b. replay_from b step.0 ps) (sym other) ∙ step.2 in
    ap (λ read. read >>= (λ x. placed p.0 (next_table false x before) >>= (λ t. replay_from (is_end x) t (ps ++ (at, payload) ∷ [])))) first.1
    ∙ (ap (λ t. t >>= (λ u. replay_from (is_end first.0) u (ps ++ (at, payload) ∷ []))) step.1
    ∙ (ap (λ b. replay_from b step.0 (ps ++ (at, payload) ∷ [])) other ∙ added_from ps at payload r step.0 es next behind parts.1 is after))

pub added_record_is_replayed : AddedRecordIsReplayed
unfolding replay_log
added_record_is_replayed payloads at payload r es next h none is after = added_from payloads at payload r [] es next h none is after
