use Rattle.std.proofs.Common.{◌≡◌, ℕ, ◌∙◌, [], Option, Some, None, sym, ap, subst}
use Rattle.std.specs.Prelude.{MatchOption}
use Rattle.fs_model.specs.VictimPolicy.{resettable}
use Rattle.fs_model.specs.LogSteps.{resettable_zones}
use Rattle.zone_alloc.specs.NamedZones.{IsLowestResettable}
use Rattle.fs_tables.specs.Dead.{IsNextReset}
use Rattle.fs_tables.specs.MountedTables.{MountedTables, state_from}
use Rattle.fs_tables.proofs.ResetLaws.{none_left, next_reset}
use Rattle.fs_tables.proofs.tables.FsTables.resettable.Goals as goal

pub returns : goal.returns
returns c =
    let t = c.self.inside in
    let s = state_from t.geometry t.log t.files t.zones in
    let Named : Option ℕ → Type 0 = λ o. resettable t.zones.zones ≡ o → IsLowestResettable t.zones o → MatchOption o (resettable_zones s ≡ []) (IsNextReset s) in
    let named : (o : Option ℕ) → Named o = λ o. elim o as Named [
      | None ↦ λ exact lowest. none_left s (sym (ap resettable c.self.invariant.counted) ∙ exact)
      | Some zone ↦ λ exact lowest. next_reset s c.self.invariant.sound t.zones c.self.invariant.counted c.self.invariant.same_geometry zone exact lowest.0
    ] in
    subst (λ (m : MountedTables). MatchOption c.resettable.result (resettable_zones m.state ≡ []) (IsNextReset m.state)) c.self.view_is
    (named c.resettable.result (sym c.resettable.ensures.exact) c.resettable.ensures.lowest)
