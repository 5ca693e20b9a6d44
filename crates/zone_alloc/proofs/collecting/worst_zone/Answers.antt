use Rattle.std.proofs.Common.{◌≡◌, ℕ, ◌+◌, ◌-◌, ◌<◌, length, filter, sym, ◌∙◌, ap, arith}
use Rattle.fs_model.specs.ZonePolicy.{least, lesser}
use Rattle.zone_alloc.specs.Destinations.{live_percent, is_eligible}
use Rattle.zone_alloc.proofs.ZoneWalks.{zones_from, zone_here, filter-passes, filter-fails, filter-end}
use Rattle.zone_alloc.proofs.collecting.worst_zone.Goals as goal

pub loop-i-init : goal.loop-i-init
loop-i-init c =
    let key = live_percent c.args.destinations.now.capacity in
    (c.requires.metadata, sym (ap (least key) (filter-end (is_eligible c.args.threshold c.args.destinations.now) c.args.zones.now (length c.args.zones.now) (omega arith))))

pub loop-i-preserved-then-is_eligible : goal.loop-i-preserved-then-is_eligible
loop-i-preserved-then-is_eligible c =
    let zs = c.args.zones.now in
    let key = live_percent c.args.destinations.now.capacity in
    let test = is_eligible c.args.threshold c.args.destinations.now in
    let i : ℕ = c.loop-i.i - 1 in
    let in_range : i < length zs = omega arith in
    let next : i + 1 ≡ c.loop-i.i = omega arith in
    let rest = ap (λ (n : ℕ). lesser key (zone_here zs i) (least key (filter test (zones_from n zs)))) next in
    let kept = ap (least key) (filter-passes test zs i in_range (sym c.is_eligible.ensures ∙ c.if-is_eligible.true)) in
    (omega arith, c.worse.ensures ∙ ap (lesser key (zone_here zs i)) c.loop-i.invariant.1 ∙ sym rest ∙ sym kept)

pub loop-i-preserved : goal.loop-i-preserved
loop-i-preserved c =
    let zs = c.args.zones.now in
    let key = live_percent c.args.destinations.now.capacity in
    let test = is_eligible c.args.threshold c.args.destinations.now in
    let i : ℕ = c.loop-i.i - 1 in
    let in_range : i < length zs = omega arith in
    let next : i + 1 ≡ c.loop-i.i = omega arith in
    let rest = ap (λ (n : ℕ). least key (filter test (zones_from n zs))) next in
    let kept = ap (least key) (filter-fails test zs i in_range (sym c.is_eligible.ensures ∙ c.if-is_eligible.false)) in
    (omega arith, c.loop-i.invariant.1 ∙ sym rest ∙ sym kept)
