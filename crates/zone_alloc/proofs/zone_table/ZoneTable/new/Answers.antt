use Rattle.std.proofs.Common.{map, sym, ◌∙◌, ap, subst}
use Rattle.zone_alloc.specs.ZoneTableState.{IsZoneTable, unused_state}
use Rattle.zone_alloc.proofs.TableLaws.{unused_table}
use Rattle.zone_alloc.proofs.zone_table.ZoneTable.new.Goals as goal

pub invariant_of-result : goal.invariant_of-result
invariant_of-result c =
    let made = c.in_ok-unused_zones.ensures ∙ ap (map unused_state) c.deref.ensures.value in
    subst (λ zs. IsZoneTable c.args.geometry.now zs) (sym made) (unused_table c.args.geometry.now c.args.infos.items c.requires)
