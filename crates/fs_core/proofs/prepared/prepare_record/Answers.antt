use Rattle.std.proofs.Common.{◌≤◌, List, ℕ, length, ◌∙◌, sym, subst}
use Rattle.fs_core.proofs.StoredLog.{some_bytes}
use Rattle.fs_core.proofs.prepared.prepare_record.Goals as goal

pub new-requires-clause-some : goal.new-requires-clause-some
new-requires-clause-some c =
    subst (λ (bytes : List ℕ). 1 ≤ length bytes) (sym (c.items.ensures ∙ c.in_ok-payload.ensures.written)) (some_bytes c.args.record.now)
