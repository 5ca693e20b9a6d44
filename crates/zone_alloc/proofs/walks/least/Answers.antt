use Rattle.std.proofs.Common.{◌≡◌, ℕ, ◌+◌, ◌-◌, ◌<◌, length, filter, sym, ◌∙◌, ap, arith}
use Rattle.fs_model.specs.ZonePolicy.{least, lesser}
use Rattle.zone_alloc.specs.ZoneTests.{is_wanted, numbered_key}
use Rattle.zone_alloc.proofs.ZoneWalks.{zones_from, zone_here, filter-passes, filter-fails, filter-end}
use Rattle.zone_alloc.proofs.walks.least.Goals as goal

pub loop-i-init : goal.loop-i-init
loop-i-init c =
    (c.requires.metadata, sym (ap (least (numbered_key c.args.key)) (filter-end (is_wanted c.args.test) c.args.zones.now (length c.args.zones.now) (omega arith))))

pub loop-i-preserved-then-passes : goal.loop-i-preserved-then-passes
loop-i-preserved-then-passes c =
    let zs = c.args.zones.now in
    let i : ℕ = c.loop-i.i - 1 in
    let in_range : i < length zs = omega arith in
    let next : i + 1 ≡ c.loop-i.i = omega arith in
    let rest = ap (λ (n : ℕ). lesser (numbered_key c.args.key) (zone_here zs i) (least (numbered_key c.args.key) (filter (is_wanted c.args.test) (zones_from n zs)))) next in
    let kept = ap (least (numbered_key c.args.key)) (filter-passes (is_wanted c.args.test) zs i in_range (sym c.passes.ensures ∙ c.if-passes.true)) in
    (omega arith, c.lesser-best.ensures ∙ ap (lesser (numbered_key c.args.key) (zone_here zs i)) c.loop-i.invariant.1 ∙ sym rest ∙ sym kept)

pub loop-i-preserved : goal.loop-i-preserved
loop-i-preserved c =
    let zs = c.args.zones.now in
    let i : ℕ = c.loop-i.i - 1 in
    let in_range : i < length zs = omega arith in
    let next : i + 1 ≡ c.loop-i.i = omega arith in
    let rest = ap (λ (n : ℕ). least (numbered_key c.args.key) (filter (is_wanted c.args.test) (zones_from n zs))) next in
    let kept = ap (least (numbered_key c.args.key)) (filter-fails (is_wanted c.args.test) zs i in_range (sym c.passes.ensures ∙ c.if-passes.false)) in
    (omega arith, c.loop-i.invariant.1 ∙ sym rest ∙ sym kept)

pub returns : goal.returns
returns c =
    let ends : c.loop-i.i ≡ 3 = omega arith in
    c.loop-i.invariant.1 ∙ ap (λ (n : ℕ). least (numbered_key c.args.key) (filter (is_wanted c.args.test) (zones_from n c.args.zones.now))) ends
