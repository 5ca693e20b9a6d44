use Rattle.std.proofs.Common.{◌≡◌, ◌⊎◌, false, sym, ◌∙◌, ap, subst}
use Rattle.std.specs.Prelude.{IsErrOf, OnOk}
use Rattle.zone_image.specs.Image.{Image, IsCrash}
use Rattle.zone_image.specs.Moments.{LeavesOnly}
use Rattle.log_model.specs.FileTree.Change.{Rename}
use Rattle.log_model.specs.Mounted.{tree_of}
use Rattle.fs_model.specs.declared.error.FsError.TheVariants.{DevFault}
use Rattle.fs_model.specs.FsState.{recorded}
use Rattle.fs_model.specs.TreeSteps.{rename}
use Rattle.fs_core.specs.Beginning.{stopped_by}
use Rattle.fs_core.specs.Changing.{LeavesAfter, LeavesBoth}
use Rattle.fs_core.specs.FsValue.{FsValue}
use Rattle.fs_core.proofs.FsChanges.{any_moment, mounted_running, mounted_so, same_bytes, standing, stands_now, still_mounted}
use Rattle.fs_core.proofs.Refusals.{ok_gives}
use Rattle.fs_core.proofs.file_system.Fs.rename.Goals as goal

pub invariant_of-self : goal.invariant_of-self
invariant_of-self g c =
    let is = c.self.inside in
    let writes = ap (λ (f : FsValue g.row.D.Denot). f.writing) c.self.view_is ∙ c.requires.writing in
    let call = c.rename_name-answer in
    let mounted = mounted_running is.tables.state is.dev is.writing is.stopped writes c.if-self.false c.self.invariant.0 in (
      mounted_so call.new.tables.state call.new.dev is.writing c.stops-self-inside.result (stopped_by false call.result) writes c.stops-self-inside.ensures
          (still_mounted (rename c.args.old.now c.args.new) (Rename c.args.old.now c.args.new) is.dev call.new.dev is.tables.state call.new.tables.state call.result mounted c.valid.ensures.sound.settled call.ensures),
      c.self.invariant.1 ∙ sym (ap (λ h. h.block) call.ensures.shape),
    )

pub returns-clause-bytes : goal.returns-clause-bytes
returns-clause-bytes g c =
    let D = g.D.ZonedDevice in
    let is = c.self.inside in
    let writes = ap (λ (f : FsValue g.row.D.Denot). f.writing) c.self.view_is ∙ c.requires.writing in
    let call = c.rename_name-answer in
    let t = call.new.tables.state in
    let mounted = mounted_running is.tables.state is.dev is.writing is.stopped writes c.if-self.false c.self.invariant.0 in
    subst (λ (f : FsValue g.row.D.Denot). D.tells → tree_of (D.image call.new.dev) (recorded t) ≡ tree_of (D.image f.device) (recorded t)) c.self.view_is
    (same_bytes (rename c.args.old.now c.args.new) (Rename c.args.old.now c.args.new) is.dev call.new.dev is.tables.state t call.result g.met.D.ZonedDevice.told mounted call.ensures)

pub returns-clause-any_moment : goal.returns-clause-any_moment
returns-clause-any_moment g c =
    let D = g.D.ZonedDevice in
    let is = c.self.inside in
    let writes = ap (λ (f : FsValue g.row.D.Denot). f.writing) c.self.view_is ∙ c.requires.writing in
    let call = c.rename_name-answer in
    let mounted = mounted_running is.tables.state is.dev is.writing is.stopped writes c.if-self.false c.self.invariant.0 in
    subst (λ (f : FsValue g.row.D.Denot). LeavesOnly D.tick D.since f.device call.new.dev (λ j. f.stopped ≡ false → LeavesBoth (D.image f.device) f.state (Rename c.args.old.now c.args.new) j)) c.self.view_is
    (any_moment g.met.D.ZonedDevice.moments (rename c.args.old.now c.args.new) (Rename c.args.old.now c.args.new) is.dev call.new.dev is.tables.state call.new.tables.state call.result mounted c.valid.ensures.sound.settled call.ensures is.stopped)

pub returns-clause-stands : goal.returns-clause-stands
returns-clause-stands g c =
    let D = g.D.ZonedDevice in
    let is = c.self.inside in
    let writes = ap (λ (f : FsValue g.row.D.Denot). f.writing) c.self.view_is ∙ c.requires.writing in
    let call = c.rename_name-answer in
    let mounted = mounted_running is.tables.state is.dev is.writing is.stopped writes c.if-self.false c.self.invariant.0 in
    subst (λ (f : FsValue g.row.D.Denot). D.tells → (j : Image) → IsCrash (D.image call.new.dev) j → f.stopped ≡ false → LeavesBoth (D.image f.device) f.state (Rename c.args.old.now c.args.new) j) c.self.view_is
    (standing (rename c.args.old.now c.args.new) (Rename c.args.old.now c.args.new) is.dev call.new.dev is.tables.state call.new.tables.state call.result mounted c.valid.ensures.sound.settled call.ensures is.stopped)

pub returns-clause-done : goal.returns-clause-done
returns-clause-done g c =
    let D = g.D.ZonedDevice in
    let is = c.self.inside in
    let writes = ap (λ (f : FsValue g.row.D.Denot). f.writing) c.self.view_is ∙ c.requires.writing in
    let call = c.rename_name-answer in
    let mounted = mounted_running is.tables.state is.dev is.writing is.stopped writes c.if-self.false c.self.invariant.0 in
    subst (λ (f : FsValue g.row.D.Denot). OnOk call.result (D.tells → LeavesAfter (D.image f.device) f.state (Rename c.args.old.now c.args.new) (D.image call.new.dev))) c.self.view_is
    (ok_gives _ (D.tells → LeavesAfter (D.image is.dev) is.tables.state (Rename c.args.old.now c.args.new) (D.image call.new.dev)) call.result call.ensures.done
    (λ leaves says. leaves says (stands_now is.tables.state is.dev mounted c.valid.ensures.sound.settled says)))

pub returns-clause-failed : goal.returns-clause-failed
returns-clause-failed g c =
    let D = g.D.ZonedDevice in
    let is = c.self.inside in
    let writes = ap (λ (f : FsValue g.row.D.Denot). f.writing) c.self.view_is ∙ c.requires.writing in
    let call = c.rename_name-answer in
    let t = call.new.tables.state in
    let mounted = mounted_running is.tables.state is.dev is.writing is.stopped writes c.if-self.false c.self.invariant.0 in
    subst (λ (f : FsValue g.row.D.Denot). IsErrOf call.result DevFault → D.tells → (t ≡ f.state) ⊎ LeavesAfter (D.image f.device) f.state (Rename c.args.old.now c.args.new) (D.image call.new.dev)) c.self.view_is
    (λ fault says. call.ensures.failed fault says (stands_now is.tables.state is.dev mounted c.valid.ensures.sound.settled says))
