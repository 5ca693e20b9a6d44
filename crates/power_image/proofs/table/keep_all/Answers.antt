use Rattle.std.proofs.Common.{get_or, false, arith}
use Rattle.std.proofs.lemmas.List.{get_or_default}
use Rattle.std.proofs.lemmas.List.Edits.{map_over_more}
use Rattle.power_image.specs.declared.table.Zone.{Zone}
use Rattle.power_image.specs.Table.{zone_kept}
use Rattle.power_image.proofs.table.keep_all.Goals as goal

abbrev no_zone : Zone
no_zone = record { written = 0; kept = 0; sealed = false }

pub loop-zone-preserved : goal.loop-zone-preserved
loop-zone-preserved c =
    let zones = c.loop-zone.zones in
    let at = c.loop-zone.zone-index in
    map_over_more zone_kept c.args.zones.now zones at (get_or zones at no_zone) (omega arith) c.loop-zone.invariant (get_or_default zones at no_zone (get_or zones at no_zone) (omega arith))
