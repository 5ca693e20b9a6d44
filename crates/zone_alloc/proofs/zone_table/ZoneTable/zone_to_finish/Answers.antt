use Rattle.std.proofs.Common.{sym, ◌∙◌, ap, subst}
use Rattle.zone_alloc.specs.Finishing.{zone_to_finish, NamesActiveZone}
use Rattle.zone_alloc.specs.ZoneTableState.{ZoneTableState, IsZoneTable}
use Rattle.zone_alloc.proofs.FinishLaws.{finish_is}
use Rattle.zone_alloc.proofs.zone_table.ZoneTable.zone_to_finish.Goals as goal

pub returns-clause-active : goal.returns-clause-active
returns-clause-active c =
    let t = c.args.self.now in
    let table : IsZoneTable t.geometry t.zones = subst (λ (s : ZoneTableState). IsZoneTable s.geometry s.zones) c.self.view_is c.self.invariant in
    let exact =
    c.zone_to_finish.ensures
    ∙ ap (zone_to_finish c.self.inside.geometry) c.deref.ensures.value
    ∙ ap (λ (s : ZoneTableState). zone_to_finish s.geometry s.zones) c.self.view_is in
    subst (λ r. NamesActiveZone t r) (sym exact) (finish_is t table.valid table.count)
