use Rattle.std.proofs.Common.{List, ◌∙◌, ap, sym, subst}
use Rattle.std.specs.List.{All}
use Rattle.zone_image.specs.declared.Geometry.{Geometry}
use Rattle.zone_image.specs.declared.ZoneInfo.{ZoneInfo}
use Rattle.zone_image.specs.Image.{IsCrash}
use Rattle.zone_image.proofs.MomentLaws.{goes_on}
use Rattle.log_model.specs.Mounted.{all_extents}
use Rattle.fs_model.specs.FsState.{recorded, state_in}
use Rattle.mount_replay.specs.Rules.{IsWrittenExtent}
use Rattle.fs_core.proofs.Reasons.{reason_from, rose_later}
use Rattle.fs_core.proofs.mount.parts_of.Goals as goal

pub returns-in-Err-read_tables-clause-refused : goal.returns-in-Err-read_tables-clause-refused
returns-in-Err-read_tables-clause-refused g c =
    let D = g.D.ZonedDevice in
    let before = c.args.dev.now in
    let probed = c.shape_of.new.dev in
    reason_from (state_in (D.image probed)) (state_in (D.image before)) c.in-Err-read_tables.why
    (λ rose. rose_later (D.faults before) (D.faults probed) (D.faults c.read_tables.new.dev) c.shape_of.ensures.never_falls rose)
    (λ told gone. absurd gone)
    (λ told there gone. c.in-Ok.ensures.there told gone)
    (λ told w none. ap state_in (sym (c.shape_of.ensures.same_image told)) ∙ none)
    c.in-Err-read_tables.ensures.refused

pub returns-in-Ok-vec-clause-any_moment : goal.returns-in-Ok-vec-clause-any_moment
returns-in-Ok-vec-clause-any_moment g c =
    let D = g.D.ZonedDevice in
    goes_on g.met.D.ZonedDevice.moments (IsCrash (D.image c.args.dev.now)) c.shape_of.ensures.any_moment c.read_tables.ensures.device.passes
    (λ j told crash. crash) (λ j told crash. subst (λ i. IsCrash i j) (c.shape_of.ensures.same_image told) crash)

pub returns-in-Err-vec-clause-any_moment : goal.returns-in-Err-vec-clause-any_moment
returns-in-Err-vec-clause-any_moment g c =
    let D = g.D.ZonedDevice in
    goes_on g.met.D.ZonedDevice.moments (IsCrash (D.image c.args.dev.now)) c.shape_of.ensures.any_moment c.read_tables.ensures.device.passes
    (λ j told crash. crash) (λ j told crash. subst (λ i. IsCrash i j) (c.shape_of.ensures.same_image told) crash)

pub returns-in-Ok-vec-clause-written : goal.returns-in-Ok-vec-clause-written
returns-in-Ok-vec-clause-written g c =
    let t = c.in-Ok-read_tables.tables.state in
    let D = g.D.ZonedDevice in
    subst (λ (s : Geometry). All (IsWrittenExtent s (D.infos c.read_tables.new.dev)) (all_extents (recorded t))) (sym c.in-Ok-read_tables.ensures.geometry)
    (subst (λ (l : List ZoneInfo). All (IsWrittenExtent c.in-Ok.geometry l) (all_extents (recorded t))) (sym c.read_tables.ensures.device.same_infos) c.in-Ok-read_tables.ensures.written)
