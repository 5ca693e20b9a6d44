use Rattle.std.proofs.Common.{◌≡◌, ◌+◌, ◌/◌, ◌%◌, ◌++◌, length, nat_lt, nat_le, ◌&&◌, sym, ◌∙◌, ap, subst, arith, rules, if◌then◌else◌}
use Rattle.zone_image.specs.declared.Geometry.{Geometry}
use Rattle.zone_image.specs.Changes.{blocks_in}
use Rattle.zoned_device.specs.declared.step.Step.{Step}
use Rattle.zoned_device.specs.declared.step.Kind.TheVariants as kind
use Rattle.zoned_device.specs.Content.{Content, Append, with_change, most_changes, most_bytes}
use Rattle.zoned_device.specs.Record.{content_in}
use Rattle.zoned_device.proofs.Records.{content_after_step, record_after_step, room_for_step, appended_step, appended_within, written_bytes}
use Rattle.zoned_device.proofs.image_record.Record.append.Goals as goal

pub returns-then-not-has_room-clause-answer : goal.returns-then-not-has_room-clause-answer
returns-then-not-has_room-clause-answer c =
    let d = c.args.self.now in
    let size = written_bytes d.standing.geometry c.args.zone c.args.bytes.now c.requires.whole in
    sym c.if-not-has_room.true ∙ c.has_room.ensures ∙ ap (λ n. nat_lt d.changes most_changes && nat_le (d.bytes + n) (most_bytes d.standing.geometry)) size

pub returns-clause-answer : goal.returns-clause-answer
returns-clause-answer c =
    let d = c.args.self.now in
    let size = written_bytes d.standing.geometry c.args.zone c.args.bytes.now c.requires.whole in
    sym c.if-not-has_room.false ∙ c.has_room.ensures ∙ ap (λ n. nat_lt d.changes most_changes && nat_le (d.bytes + n) (most_bytes d.standing.geometry)) size

pub invariant_of-self : goal.invariant_of-self
invariant_of-self c =
    let r = c.self.inside in
    let g = r.standing.geometry in
    let bytes = c.args.bytes.now in
    let whole = subst (λ (d : Content). length bytes % d.standing.geometry.block ≡ 0) (sym c.self.view_is) c.requires.whole in
    let room = room_for_step c.args.self.now (content_in r.standing r.start r.steps.items r.bytes.items) (length bytes) c.self.view_is (sym c.has_room.ensures ∙ c.if-not-has_room.false) in
    let fits = c.extend_from_slice.ensures.succeeds (omega (arith, room.1, c.self.invariant.room_for_bytes)) in
    let longer : c.extend_from_slice.new.self.items ≡ r.bytes.items ++ bytes = c.extend_from_slice.ensures.items ∙ ap (λ ok. if ok then r.bytes.items ++ bytes else r.bytes.items) fits in
    let begins : length r.bytes.items ≡ c.len-from.result = search rules in
    let counts = ap (λ (h : Geometry). length bytes / h.block) c.geometry.ensures.geometry in
    let from = c.len-from.result in
    let count = length bytes / c.geometry.result.block in
    let s : Step = record { tick = c.args.tick; zone = c.args.zone; kind = kind.Append from count } in
    let step = appended_step g c.args.zone from count r.bytes.items bytes c.extend_from_slice.new.self.items longer begins counts in
    let within = appended_within g c.args.zone from count r.bytes.items bytes c.extend_from_slice.new.self.items longer begins counts whole in
    record_after_step r.standing r.start r.steps.items _ r.bytes.items _ c.self.invariant s (Append c.args.zone (blocks_in g bytes)) bytes c.extend_from_slice.new.self.items longer step
    c.append.new.self c.append.ensures c.push_reserved.new.self.items c.push_reserved.ensures.items _ _
    (omega (arith, c.push_reserved.ensures.capacity)) (omega (arith, c.extend_from_slice.ensures.capacity)) within room.0 room.1

pub returns-clause-content : goal.returns-clause-content
returns-clause-content c =
    let r = c.self.inside in
    let g = r.standing.geometry in
    let bytes = c.args.bytes.now in
    let whole = subst (λ (d : Content). length bytes % d.standing.geometry.block ≡ 0) (sym c.self.view_is) c.requires.whole in
    let room = room_for_step c.args.self.now (content_in r.standing r.start r.steps.items r.bytes.items) (length bytes) c.self.view_is (sym c.has_room.ensures ∙ c.if-not-has_room.false) in
    let fits = c.extend_from_slice.ensures.succeeds (omega (arith, room.1, c.self.invariant.room_for_bytes)) in
    let longer : c.extend_from_slice.new.self.items ≡ r.bytes.items ++ bytes = c.extend_from_slice.ensures.items ∙ ap (λ ok. if ok then r.bytes.items ++ bytes else r.bytes.items) fits in
    let begins : length r.bytes.items ≡ c.len-from.result = search rules in
    let counts = ap (λ (h : Geometry). length bytes / h.block) c.geometry.ensures.geometry in
    let from = c.len-from.result in
    let count = length bytes / c.geometry.result.block in
    let s : Step = record { tick = c.args.tick; zone = c.args.zone; kind = kind.Append from count } in
    let step = appended_step g c.args.zone from count r.bytes.items bytes c.extend_from_slice.new.self.items longer begins counts in
    content_after_step r.standing r.start r.steps.items _ r.bytes.items _ c.self.invariant s (Append c.args.zone (blocks_in g bytes)) bytes c.extend_from_slice.new.self.items longer step
    c.append.new.self c.append.ensures c.push_reserved.new.self.items c.push_reserved.ensures.items (written_bytes g c.args.zone bytes whole)
    ∙ ap (λ (d : Content). with_change c.args.tick (Append c.args.zone (blocks_in d.standing.geometry bytes)) d) c.self.view_is
