use Rattle.std.proofs.Common.{◌<◌, length, sym, ◌∙◌, arith}
use Rattle.zone_image.specs.Image.{zone_of}
use Rattle.mount_replay.proofs.EnteringLaws.{not_lowered, is_lowered, idle_still, lower_entered}
use Rattle.mount_replay.proofs.filling.enter_extent.Goals as goal

pub returns-then-not-is_lower-clause-starts : goal.returns-then-not-is_lower-clause-starts
returns-then-not-is_lower-clause-starts c =
    not_lowered c.args.extent.start c.zone_of-zone.result (zone_of c.args.geometry.now c.args.extent.start) c.args.starts.now c.zone_of-zone.ensures (sym c.is_lower.ensures ∙ c.if-not-is_lower.true)

pub set_hint-requires-clause-idle : goal.set_hint-requires-clause-idle
set_hint-requires-clause-idle c =
    idle_still c.args.geometry.now c.args.starts.now c.args.zones.now c.live_add.new.self c.args.extent c.zone_of-zone.result c.requires.marks c.zone_of-zone.ensures
    (omega (arith, c.zone_of-zone.ensures, c.requires.lies.is_zone)) c.live_add.ensures

pub returns-clause-starts : goal.returns-clause-starts
returns-clause-starts c =
    let within : c.zone_of-zone.result < length c.args.starts.now = omega (arith, c.zone_of-zone.ensures, c.requires.lies.is_zone, c.requires.marks.all_starts) in
    is_lowered c.args.extent.start c.zone_of-zone.result (zone_of c.args.geometry.now c.args.extent.start) c.args.starts.now c.zone_of-zone.ensures within (sym c.is_lower.ensures ∙ c.if-not-is_lower.false)

pub returns-clause-zones : goal.returns-clause-zones
returns-clause-zones c =
    lower_entered c.args.geometry.now c.args.hint c.args.extent c.args.starts.now c.args.zones.now c.live_add.new.self c.set_hint.new.self c.zone_of-zone.result c.requires.marks c.zone_of-zone.ensures
    (sym c.is_lower.ensures ∙ c.if-not-is_lower.false) c.live_add.ensures c.set_hint.ensures
