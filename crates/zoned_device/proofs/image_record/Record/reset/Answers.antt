use Rattle.std.proofs.Common.{[], sym, ◌∙◌, ap, refl, arith}
use Rattle.std.proofs.lemmas.List.{append-nil}
use Rattle.zoned_device.specs.declared.step.Step.{Step}
use Rattle.zoned_device.specs.declared.step.Kind.TheVariants as kind
use Rattle.zoned_device.specs.Content.{Reset, with_change}
use Rattle.zoned_device.specs.Record.{content_in}
use Rattle.zoned_device.proofs.Records.{content_after_step, record_after_step, room_for_step}
use Rattle.zoned_device.proofs.image_record.Record.reset.Goals as goal

pub invariant_of-self : goal.invariant_of-self
invariant_of-self c =
    let r = c.self.inside in
    let s : Step = record { tick = c.args.tick; zone = c.args.zone; kind = kind.Reset } in
    let room = room_for_step c.args.self.now (content_in r.standing r.start r.steps.items r.bytes.items) 0 c.self.view_is (sym c.has_room.ensures ∙ c.if-not-has_room.false) in
    record_after_step r.standing r.start r.steps.items _ r.bytes.items _ c.self.invariant s (Reset c.args.zone) [] r.bytes.items (sym (append-nil r.bytes.items)) refl c.reset.new.self c.reset.ensures
    c.push_reserved.new.self.items c.push_reserved.ensures.items _ _ (omega (arith, c.push_reserved.ensures.capacity)) (omega arith) tt room.0 room.1

pub returns-clause-content : goal.returns-clause-content
returns-clause-content c =
    let r = c.self.inside in
    let s : Step = record { tick = c.args.tick; zone = c.args.zone; kind = kind.Reset } in
    content_after_step r.standing r.start r.steps.items _ r.bytes.items _ c.self.invariant s (Reset c.args.zone) [] r.bytes.items (sym (append-nil r.bytes.items)) refl c.reset.new.self c.reset.ensures
    c.push_reserved.new.self.items c.push_reserved.ensures.items refl
    ∙ ap (with_change c.args.tick (Reset c.args.zone)) c.self.view_is
