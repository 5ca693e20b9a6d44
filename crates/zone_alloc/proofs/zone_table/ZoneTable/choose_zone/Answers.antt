use Rattle.std.proofs.Common.{sym, ◌∙◌, ap, subst}
use Rattle.fs_model.specs.ZonePolicy.{choose_zone}
use Rattle.zone_alloc.specs.ZoneTableState.{ZoneTableState, IsZoneTable}
use Rattle.zone_alloc.specs.NamedZones.{NamesIdleZones}
use Rattle.zone_alloc.proofs.NamedLaws.{choice_names}
use Rattle.zone_alloc.proofs.zone_table.ZoneTable.choose_zone.Goals as goal

pub returns-clause-idle : goal.returns-clause-idle
returns-clause-idle c =
    let t = c.args.self.now in
    let table : IsZoneTable t.geometry t.zones = subst (λ (s : ZoneTableState). IsZoneTable s.geometry s.zones) c.self.view_is c.self.invariant in
    let exact =
    c.chosen_zone.ensures
    ∙ ap (λ zs. choose_zone c.self.inside.geometry c.self.inside.collect zs c.args.hint) c.deref.ensures.value
    ∙ ap (λ (s : ZoneTableState). choose_zone s.geometry s.collect s.zones c.args.hint) c.self.view_is in
    subst (λ r. NamesIdleZones t r) (sym exact) (choice_names t c.args.hint table.count)
