use Rattle.std.proofs.Common.{◌<◌, length, sym, ◌∙◌, ap, arith}
use Rattle.zone_alloc.specs.ZoneTableState.{ZoneTableState, state_at, with_state}
use Rattle.zone_alloc.proofs.TableLaws.{set_state}
use Rattle.zone_alloc.proofs.zone_table.ZoneTable.set.Goals as goal

pub returns : goal.returns
returns c = λ f made.
    let inside : ZoneTableState = record { geometry = c.self.inside.geometry; collect = c.self.inside.collect; zones = c.self.inside.zones.items } in
    let in_range : c.args.zone < length inside.zones = omega (arith, c.self.invariant.count, ap (λ (t : ZoneTableState). t.geometry.zones) c.self.view_is, c.requires.is_zone) in
    set_state inside c.args.zone c.args.state in_range f (made ∙ ap (λ (t : ZoneTableState). f (state_at t c.args.zone)) (sym c.self.view_is))
    ∙ ap (λ (t : ZoneTableState). with_state t c.args.zone f) c.self.view_is
