use Rattle.std.proofs.Common.{◌≡◌, ◌∙◌, inr, subst, sym}
use Rattle.zone_image.specs.declared.Geometry.{Geometry}
use Rattle.zone_image.specs.Moments.{PassedByAppend}
use Rattle.log_roll.specs.Rolling.{PassedByEnd, end_blocks, ended}
use Rattle.zoned_device.proofs.DeviceLaws.{done_as}
use Rattle.log_roll.proofs.Blanking.{ok_then}
use Rattle.log_roll.proofs.Closing.{may_end, told_info, ended_true, ended_false}
use Rattle.log_roll.proofs.KeptData.{kept_same}
use Rattle.log_roll.proofs.log_end.end_with.Goals as goal

pub returns-then-gets_end-clause-image : goal.returns-then-gets_end-clause-image
returns-then-gets_end-clause-image g c =
    let D = g.D.ZonedDevice in
    let dev = c.args.dev.now in
    let m = g.met.D.ZonedDevice in
    ok_then _ (D.tells → D.image c.write_record.new.dev ≡ ended c.args.can_end c.args.zone (D.image dev)) c.write_record.result c.write_record.ensures.image
    (λ made told. made told ∙ sym (ended_true c.args.geometry.now (D.image dev) c.args.can_end c.args.zone c.args.info
    ((m.told dev told c.requires.is_known).shape ∙ sym c.requires.same_geometry)
    (told_info (D.geometry dev) (D.infos dev) (D.image dev) c.args.zone (m.possible dev c.requires.is_known) (m.told dev told c.requires.is_known) c.requires.is_zone ∙ sym c.requires.told)
    (sym c.gets_end.ensures ∙ c.if-gets_end.true)))

pub returns-clause-image : goal.returns-clause-image
returns-clause-image g c = λ told.
    let D = g.D.ZonedDevice in
    let dev = c.args.dev.now in
    let m = g.met.D.ZonedDevice in
    sym (ended_false c.args.geometry.now (D.image dev) c.args.can_end c.args.zone c.args.info
    ((m.told dev told c.requires.is_known).shape ∙ sym c.requires.same_geometry)
    (told_info (D.geometry dev) (D.infos dev) (D.image dev) c.args.zone (m.possible dev c.requires.is_known) (m.told dev told c.requires.is_known) c.requires.is_zone ∙ sym c.requires.told)
    (sym c.gets_end.ensures ∙ c.if-gets_end.false))

pub returns-then-gets_end-clause-device : goal.returns-then-gets_end-clause-device
returns-then-gets_end-clause-device g c =
    let D = g.D.ZonedDevice in
    let m = g.met.D.ZonedDevice in
    let dev = c.args.dev.now in
    done_as m.moments _ (PassedByEnd c.args.can_end c.args.zone (D.image dev)) c.write_record.ensures.device (λ f. f) (λ f. f)
    (λ j told passed. inr (
      may_end c.args.geometry.now.capacity c.args.can_end c.args.info (sym c.gets_end.ensures ∙ c.if-gets_end.true),
      subst (λ (s : Geometry). PassedByAppend (D.image dev) c.args.zone (end_blocks s.block) j) (c.requires.same_geometry ∙ sym (m.told dev told c.requires.is_known).shape) passed,
    ))

pub returns-clause-data_kept : goal.returns-clause-data_kept
returns-clause-data_kept g c = λ below. kept_same c.args.dev.now
