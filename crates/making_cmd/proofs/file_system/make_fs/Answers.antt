use Rattle.zone_image.proofs.MomentLaws.{goes_on}
use Rattle.making_cmd.specs.NewFs.{LeavesOldOrNewFs, superblock_for}
use Rattle.making_cmd.proofs.FsMoments.{crash_leaves, leaves_read}
use Rattle.making_cmd.proofs.file_system.make_fs.Goals as goal

pub returns-in_err-write_fs-clause-any_moment : goal.returns-in_err-write_fs-clause-any_moment
returns-in_err-write_fs-clause-any_moment g c =
    let D = g.D.ZonedDevice in
    let dev = c.args.dev.now in
    let superblock = superblock_for c.args.settings.now c.args.random in
    goes_on g.met.D.ZonedDevice.moments (LeavesOldOrNewFs superblock (D.image dev)) c.shape_to_format.ensures.any_moment c.write_fs.ensures.any_moment
    (λ j told crash. crash_leaves superblock (D.image dev) j crash)
    (λ j told left. leaves_read superblock (D.image dev) (D.image c.shape_to_format.new.dev) j (c.shape_to_format.ensures.same_image told) left)

pub returns-in-Ok-write_all-clause-any_moment : goal.returns-in-Ok-write_all-clause-any_moment
returns-in-Ok-write_all-clause-any_moment g c =
    let D = g.D.ZonedDevice in
    let dev = c.args.dev.now in
    let superblock = superblock_for c.args.settings.now c.args.random in
    goes_on g.met.D.ZonedDevice.moments (LeavesOldOrNewFs superblock (D.image dev)) c.shape_to_format.ensures.any_moment c.write_fs.ensures.any_moment
    (λ j told crash. crash_leaves superblock (D.image dev) j crash)
    (λ j told left. leaves_read superblock (D.image dev) (D.image c.shape_to_format.new.dev) j (c.shape_to_format.ensures.same_image told) left)

pub returns-clause-any_moment : goal.returns-clause-any_moment
returns-clause-any_moment g c =
    let D = g.D.ZonedDevice in
    let dev = c.args.dev.now in
    let superblock = superblock_for c.args.settings.now c.args.random in
    goes_on g.met.D.ZonedDevice.moments (LeavesOldOrNewFs superblock (D.image dev)) c.shape_to_format.ensures.any_moment c.write_fs.ensures.any_moment
    (λ j told crash. crash_leaves superblock (D.image dev) j crash)
    (λ j told left. leaves_read superblock (D.image dev) (D.image c.shape_to_format.new.dev) j (c.shape_to_format.ensures.same_image told) left)
