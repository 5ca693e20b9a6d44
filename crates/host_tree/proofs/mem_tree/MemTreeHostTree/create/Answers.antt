use Rattle.std.proofs.Common.{◌≡◌, false, subst, sym, ◌∙◌}
use Rattle.host_tree.specs.MemTreeState.{MemTreeState, is_next_listed}
use Rattle.host_tree.proofs.mem_tree.MemTreeHostTree.create.Goals as goal

pub returns-then-is_err-clause-listed : goal.returns-then-is_err-clause-listed
returns-then-is_err-clause-listed c =
    let asked = subst (λ (s : MemTreeState). c.begins_failing.result ≡ is_next_listed s) c.self.view_is c.begins_failing.ensures.answer in
    let passes : is_next_listed c.args.self.now ≡ false = sym asked ∙ c.if-begins_failing.false in
    (λ e. absurd (cc e), λ listed. absurd (cc (listed, passes)))

pub returns-clause-listed : goal.returns-clause-listed
returns-clause-listed c =
    let asked = subst (λ (s : MemTreeState). c.begins_failing.result ≡ is_next_listed s) c.self.view_is c.begins_failing.ensures.answer in
    let passes : is_next_listed c.args.self.now ≡ false = sym asked ∙ c.if-begins_failing.false in
    (λ e. absurd (cc e), λ listed. absurd (cc (listed, passes)))
