use Rattle.std.proofs.Common.{◌∙◌, ap}
use Rattle.zoned_device.specs.CallState.{CallState}
use Rattle.zoned_device.proofs.DeviceCalls.{quiet_began, quiet_leaves}
use Rattle.zoned_device.proofs.mem_zones.MemZones.begin.Goals as goal

pub invariant_of-self : goal.invariant_of-self
invariant_of-self c = quiet_began c.args.self.now c.self.inside.record c.self.inside.calls c.count_fault.new.self c.self.view_is c.self.invariant c.begin-fault.ensures.within
    (ap (λ (k : CallState). k.tick) c.count_fault.ensures ∙ ap (λ (k : CallState). k.tick) c.begin-fault.ensures.counted)

pub invariant_of-self-else-is_some : goal.invariant_of-self-else-is_some
invariant_of-self-else-is_some c = quiet_began c.args.self.now c.self.inside.record c.self.inside.calls c.begin-fault.new.self c.self.view_is c.self.invariant c.begin-fault.ensures.within
    (ap (λ (k : CallState). k.tick) c.begin-fault.ensures.counted)

pub returns-then-is_some-clause-passes : goal.returns-then-is_some-clause-passes
returns-then-is_some-clause-passes c = quiet_leaves c.args.self.now c.self.inside.record c.self.inside.calls c.count_fault.new.self c.self.view_is c.self.invariant c.begin-fault.ensures.within
    (ap (λ (k : CallState). k.tick) c.count_fault.ensures ∙ ap (λ (k : CallState). k.tick) c.begin-fault.ensures.counted)

pub returns-else-is_some-clause-passes : goal.returns-else-is_some-clause-passes
returns-else-is_some-clause-passes c = quiet_leaves c.args.self.now c.self.inside.record c.self.inside.calls c.begin-fault.new.self c.self.view_is c.self.invariant c.begin-fault.ensures.within
    (ap (λ (k : CallState). k.tick) c.begin-fault.ensures.counted)
