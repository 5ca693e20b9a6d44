use Rattle.std.proofs.Common.{ℕ, ◌<◌, ◌≤◌, ◌++◌, [], ◌∷◌, length, take, sym, ◌∙◌, ap, arith}
use Rattle.std.proofs.lemmas.List.{take_more, take_all}
use Rattle.zone_image.proofs.ReadLaws.{reads_on}
use Rattle.zone_image.specs.declared.Geometry.{Geometry}
use Rattle.zone_image.specs.Infos.{no_info, info_at}
use Rattle.mount_replay.proofs.infos.zone_infos.Goals as goal

pub returns-in_err-push_info-clause-device : goal.returns-in_err-push_info-clause-device
returns-in_err-push_info-clause-device g c = reads_on g.met.D.ZonedDevice.moments c.loop-zone.invariant.0 c.in_err-push_info.ensures.device

pub loop-zone-preserved : goal.loop-zone-preserved
loop-zone-preserved g c =
    let D = g.D.ZonedDevice in
    let infos = D.infos c.args.dev.now in
    let n : ℕ = c.loop-zone.zone in
    let shape = ap (λ (s : Geometry). s.zones) c.requires.same_geometry in
    let lt : n < length infos = omega (arith, c.loop-zone-test.true, shape, (g.met.D.ZonedDevice.possible c.args.dev.now c.requires.is_known).count) in (
      reads_on g.met.D.ZonedDevice.moments c.loop-zone.invariant.0 c.in_ok-push_info.ensures.device,
      omega (arith, c.loop-zone.invariant.1, c.in_ok-push_info.ensures.cause.never_falls),
      c.in_ok-push_info.ensures.pushed
          ∙ ap (λ l. l ++ info_at (D.infos c.loop-zone.dev) n ∷ []) c.loop-zone.invariant.2
          ∙ ap (λ l. take n infos ++ info_at l n ∷ []) c.loop-zone.invariant.0.same_infos
          ∙ sym (take_more infos n no_info lt),
    )

pub returns-clause-infos : goal.returns-clause-infos
returns-clause-infos g c =
    let D = g.D.ZonedDevice in
    let infos = D.infos c.args.dev.now in
    let shape = ap (λ (s : Geometry). s.zones) c.requires.same_geometry in
    let past : length infos ≤ c.loop-zone.zone = omega (arith, c.loop-zone-test.false, shape, (g.met.D.ZonedDevice.possible c.args.dev.now c.requires.is_known).count) in
    c.loop-zone.invariant.2 ∙ take_all c.loop-zone.zone infos past
