use Rattle.std.proofs.Common.{refl, ◌∙◌, ap, sym, subst}
use Rattle.fs_model.specs.FsState.{FsState, recorded}
use Rattle.zoned_device.proofs.DeviceLaws.{done_as, done_then, nothing_done}
use Rattle.change_steps.specs.Resetting.{IsResetting}
use Rattle.change_steps.proofs.ResetLaws.{resets_begin, resets_go_on}
use Rattle.change_cover.specs.Rests.{Stands}
use Rattle.change_cover.specs.SameTrees.{MountsTheSame}
use Rattle.change_cover.proofs.SameTreeLaws.{crash_mounts_the_same}
use Rattle.change_cover.proofs.FollowLaws.{follows_itself}
use Rattle.fs_core.specs.DeadZones.{is_free}
use Rattle.log_store.proofs.OtherData.{others_of_both, others_of_fewer}
use Rattle.fs_core.proofs.ResetDead.{follows_then, others_stay}
use Rattle.fs_core.proofs.dead_zones.reset_dead_zones.Goals as goal

pub loop-zone-init : goal.loop-zone-init
loop-zone-init g c =
    let D = g.D.ZonedDevice in
    let dev = c.args.dev.now in
    let s = c.args.tables.now.state in
    record {
      way = resets_begin s;
      told = c.requires.told;
      shape = c.requires.same_geometry;
      stands = λ told stands. follows_itself (D.image dev) s stands;
      device =
          nothing_done g.met.D.ZonedDevice.moments dev (λ j. Stands (D.image dev) s → MountsTheSame (D.image dev) j) c.requires.is_known
          (λ j crash stands. crash_mounts_the_same (D.image dev) j s stands crash);
      kept = record { numbers = λ n data_zone other. refl; blocks = λ told n data_zone other. refl };
      writes = λ can. can;
    }

pub loop-zone-preserved : goal.loop-zone-preserved
loop-zone-preserved g c =
    let D = g.D.ZonedDevice in
    let dev = c.args.dev.now in
    let s = c.args.tables.now.state in
    let t = c.loop-zone.tables.state in
    let zone = c.in-Some.zone in
    let inv = c.loop-zone.invariant in
    let next = c.in-Some.ensures in
    let made = c.in-Ok.ensures in
    record {
      way = subst (λ u. IsResetting s u) (sym made.state) (resets_go_on s t zone next.rest next.first next.left inv.way);
      told = made.told;
      shape = made.device.same_geometry ∙ inv.shape ∙ sym (ap (λ (u : FsState). u.geometry) made.state);
      stands = λ told stands. let before = inv.stands told stands in
          follows_then (D.image dev) (D.image c.loop-zone.dev) (D.image c.reset_dead.new.dev) s t c.reset_dead.new.tables.state before (made.stands told before.stands);
      device =
          done_as g.met.D.ZonedDevice.moments ⊥ (λ j. Stands (D.image dev) s → MountsTheSame (D.image dev) j)
          (done_then g.met.D.ZonedDevice.moments (λ j. Stands (D.image dev) s → MountsTheSame (D.image dev) j) inv.device (λ none. none) made.device (λ j told p. p)
          (λ j told mounts stands tree h. let before = inv.stands told stands in mounts before.stands tree (before.mounts tree h)))
          (λ failed. cc) (λ none. absurd none) (λ j told p. p);
      kept = others_of_both inv.kept (others_of_fewer (is_free s.geometry (recorded s)) (others_stay s t zone inv.way next) made.kept);
      writes = λ can. made.writes (inv.writes can);
    }

pub returns-in-Err-clause-device : goal.returns-in-Err-clause-device
returns-in-Err-clause-device g c =
    let D = g.D.ZonedDevice in
    let dev = c.args.dev.now in
    let s = c.args.tables.now.state in
    let inv = c.loop-zone.invariant in
    done_then g.met.D.ZonedDevice.moments (λ j. Stands (D.image dev) s → MountsTheSame (D.image dev) j) inv.device (λ none. none) c.in-Err.ensures.device (λ j told p. p)
    (λ j told mounts stands tree h. let before = inv.stands told stands in mounts before.stands tree (before.mounts tree h))

pub returns-in-Err-clause-kept : goal.returns-in-Err-clause-kept
returns-in-Err-clause-kept g c =
    let s = c.args.tables.now.state in
    let inv = c.loop-zone.invariant in
    others_of_both inv.kept (others_of_fewer (is_free s.geometry (recorded s)) (others_stay s c.loop-zone.tables.state c.in-Some.zone inv.way c.in-Some.ensures) c.in-Err.ensures.kept)
