use Rattle.std.proofs.Common.{◌≡◌, ℕ, ◌+◌, ◌-◌, ◌<◌, max, length, cond, sym, ◌∙◌, ap, arith}
use Rattle.zone_alloc.specs.Destinations.{room_bound}
use Rattle.fs_model.specs.ZonePolicy.{room_of}
use Rattle.zone_alloc.proofs.ZoneWalks.{zones_from, zone_here, zones_from-step, zones_from-end}
use Rattle.zone_alloc.proofs.collecting.room_bound.Goals as goal

pub loop-i-init : goal.loop-i-init
loop-i-init c = (c.requires, sym (ap (room_bound c.args.capacity) (zones_from-end c.args.zones.now (length c.args.zones.now) (omega arith))))

pub loop-i-preserved-then-is_idle_active : goal.loop-i-preserved-then-is_idle_active
loop-i-preserved-then-is_idle_active c =
    let zs = c.args.zones.now in
    let cap : ℕ = c.args.capacity in
    let i : ℕ = c.loop-i.i - 1 in
    let in_range : i < length zs = omega arith in
    let next : i + 1 ≡ c.loop-i.i = omega arith in
    let step = ap (room_bound cap) (zones_from-step zs i in_range) in
    let active = sym c.is_idle_active.ensures ∙ c.if-is_idle_active.true in
    let here = ap (λ b. cond b (max (room_of cap (zone_here zs i).1 + 1) (room_bound cap (zones_from (i + 1) zs))) (room_bound cap (zones_from (i + 1) zs))) active in
    let rest = ap (λ (n : ℕ). max (room_of cap (zone_here zs i).1 + 1) (room_bound cap (zones_from n zs))) next in
    let room : c.from.result + 1 ≡ room_of cap (zone_here zs i).1 + 1 = ap (λ (n : ℕ). n + 1) (c.from.ensures ∙ c.room_of.ensures.exact) in
    let greatest = c.max-bound.ensures ∙ ap (λ (n : ℕ). max n c.loop-i.bound) room ∙ ap (max (room_of cap (zone_here zs i).1 + 1)) c.loop-i.invariant.1 in
    (omega arith, greatest ∙ sym rest ∙ sym here ∙ sym step)

pub loop-i-preserved : goal.loop-i-preserved
loop-i-preserved c =
    let zs = c.args.zones.now in
    let cap : ℕ = c.args.capacity in
    let i : ℕ = c.loop-i.i - 1 in
    let in_range : i < length zs = omega arith in
    let next : i + 1 ≡ c.loop-i.i = omega arith in
    let step = ap (room_bound cap) (zones_from-step zs i in_range) in
    let active = sym c.is_idle_active.ensures ∙ c.if-is_idle_active.false in
    let here = ap (λ b. cond b (max (room_of cap (zone_here zs i).1 + 1) (room_bound cap (zones_from (i + 1) zs))) (room_bound cap (zones_from (i + 1) zs))) active in
    let rest = ap (λ (n : ℕ). room_bound cap (zones_from n zs)) next in
    (omega arith, c.loop-i.invariant.1 ∙ sym rest ∙ sym here ∙ sym step)
