use Rattle.std.proofs.Common.{sym, ◌∙◌}
use Rattle.zone_image.proofs.MomentLaws.{weaker}
use Rattle.making_cmd.specs.NewFs.{LeavesOldOrNewFs, superblock_for}
use Rattle.making_cmd.proofs.FsMoments.{format_leaves}
use Rattle.making_cmd.proofs.file_system.write_fs.Goals as goal

pub returns-in-Ok-clause-any_moment : goal.returns-in-Ok-clause-any_moment
returns-in-Ok-clause-any_moment g c =
    let D = g.D.ZonedDevice in
    let dev = c.args.dev.now in
    let superblock = superblock_for c.args.settings.now c.args.random in
    weaker g.met.D.ZonedDevice.moments (LeavesOldOrNewFs superblock (D.image dev)) c.format.ensures.device.passes
    (λ j told left. format_leaves superblock c.args.geometry.now c.args.geometry.now c.new_superblock-superblock.result (D.image dev) j c.new_superblock-superblock.ensures
    (c.requires.same_geometry ∙ sym (g.met.D.ZonedDevice.told dev told c.requires.is_known).shape) left)
