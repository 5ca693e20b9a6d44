use Rattle.std.proofs.Common.{◌≤◌, sym, ◌∙◌, ap, subst, arith}
use Rattle.fs_model.specs.VictimPolicy.{resettable}
use Rattle.zone_alloc.specs.ZoneTableState.{ZoneTableState, IsZoneTable}
use Rattle.zone_alloc.specs.NamedZones.{IsLowestResettable}
use Rattle.zone_alloc.proofs.SpaceLaws.{some_zones}
use Rattle.zone_alloc.proofs.NamedLaws.{lowest_is}
use Rattle.zone_alloc.proofs.zone_table.ZoneTable.resettable.Goals as goal

pub returns-clause-lowest : goal.returns-clause-lowest
returns-clause-lowest c =
    let t = c.args.self.now in
    let table : IsZoneTable t.geometry t.zones = subst (λ (s : ZoneTableState). IsZoneTable s.geometry s.zones) c.self.view_is c.self.invariant in
    let exact = c.resettable_zone.ensures ∙ ap resettable c.deref.ensures.value ∙ ap (λ (s : ZoneTableState). resettable s.zones) c.self.view_is in
    let some : 3 ≤ t.geometry.zones = omega (arith, some_zones t.geometry table.valid) in
    subst (λ r. IsLowestResettable t r) (sym exact) (lowest_is t table.count some)
