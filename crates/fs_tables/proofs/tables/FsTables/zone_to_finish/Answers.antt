use Rattle.std.proofs.Common.{◌≡◌, ◌≤◌, ℕ, ◌∙◌, Option, Some, None, sym, ap, subst}
use Rattle.std.specs.Prelude.{MatchOption}
use Rattle.zone_image.specs.declared.Geometry.{Geometry}
use Rattle.zone_image.specs.Infos.{active_zones}
use Rattle.zone_alloc.specs.Finishing.{NamesActiveZone, zone_to_finish, idle_actives}
use Rattle.fs_tables.specs.MountedTables.{MountedTables, state_from}
use Rattle.fs_tables.specs.Steps.{infos_in}
use Rattle.fs_tables.specs.Tokens.{FinishesNone, FinishesZone}
use Rattle.fs_tables.proofs.TokenLaws.{finishes_none, finishes_zone}
use Rattle.fs_tables.proofs.tables.FsTables.zone_to_finish.Goals as goal

pub returns : goal.returns
returns c =
    let t = c.self.inside in
    let s = state_from t.geometry t.log t.files t.zones in
    let allowed : active_zones (infos_in s) ≤ s.geometry.active_limit =
    subst (λ (m : MountedTables). active_zones (infos_in m.state) ≤ m.state.geometry.active_limit) (sym c.self.view_is) c.requires in
    let Named : Option ℕ → Type 0 = λ o. zone_to_finish t.zones.geometry t.zones.zones ≡ o → NamesActiveZone t.zones o → MatchOption o (FinishesNone s) (FinishesZone s) in
    let named : (o : Option ℕ) → Named o = λ o. elim o as Named [
      | None ↦ λ exact other. finishes_none s c.self.invariant.sound allowed
          (λ all. other (ap idle_actives c.self.invariant.counted ∙ all ∙ sym (ap (λ (g : Geometry). g.active_limit) c.self.invariant.same_geometry)))
      | Some zone ↦ λ exact is. finishes_zone s c.self.invariant.sound allowed t.zones c.self.invariant.counted c.self.invariant.same_geometry zone exact is
    ] in
    subst (λ (m : MountedTables). MatchOption c.zone_to_finish.result (FinishesNone m.state) (FinishesZone m.state)) c.self.view_is
    (named c.zone_to_finish.result (sym c.zone_to_finish.ensures.exact) c.zone_to_finish.ensures.active)
