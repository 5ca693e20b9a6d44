use Rattle.std.proofs.Common.{◌≡◌, ℕ, ◌≤◌, false, sym, ◌∙◌, ap, subst}
use Rattle.std.specs.Prelude.{All}
use Rattle.zone_image.specs.Image.{Image, IsCrash, zone_at}
use Rattle.zone_image.specs.Moments.{LeavesOnly}
use Rattle.zone_image.proofs.MomentLaws.{weaker}
use Rattle.log_model.specs.Mounted.{all_extents, tree_of}
use Rattle.fs_model.specs.FsState.{recorded}
use Rattle.mount_replay.specs.Rules.{IsWrittenExtent}
use Rattle.change_cover.specs.SameTrees.{MountsTheSame}
use Rattle.change_cover.proofs.SameTreeLaws.{crash_mounts_the_same}
use Rattle.fs_core.specs.Beginning.{LeftByBeginning}
use Rattle.fs_core.specs.DeadZones.{is_free}
use Rattle.fs_core.specs.FsValue.{FsValue}
use Rattle.fs_core.proofs.HeldBytes.{bytes_still, held_after}
use Rattle.fs_core.proofs.file_system.Fs.mount_write.Goals as goal

pub invariant_of-self : goal.invariant_of-self
invariant_of-self g c =
    let D = g.D.ZonedDevice in
    let is = c.self.inside in
    let t = c.begin_to_write.new.tables.state in
    let held = c.self.invariant.0.held in
    let made = c.in-Ok-begin_to_write.ensures in (
      record {
        held = record {
          is_known = made.device.still_known;
          same_geometry = made.device.same_geometry ∙ (held.same_geometry ∙ sym made.shape);
          written = held_after is.tables.state t (D.infos is.dev) (D.infos c.begin_to_write.new.dev) held.written made.shape made.extents made.kept.written;
          told = λ running. made.told;
        };
        reads = λ idle. cc;
        writes = λ writing running. made.writes;
        rests = λ writing running told. (made.stands told).rests;
      },
      c.self.invariant.1 ∙ sym (ap (λ h. h.block) made.shape),
    )

pub returns-in-Ok-begin_to_write-clause-bytes : goal.returns-in-Ok-begin_to_write-clause-bytes
returns-in-Ok-begin_to_write-clause-bytes g c =
    let D = g.D.ZonedDevice in
    let m = g.met.D.ZonedDevice in
    let is = c.self.inside in
    let new = c.begin_to_write.new.dev in
    let s = is.tables.state in
    let t = c.begin_to_write.new.tables.state in
    let held = c.self.invariant.0.held in
    let made = c.in-Ok-begin_to_write.ensures in
    subst (λ (f : FsValue g.row.D.Denot). D.tells → tree_of (D.image new) (recorded t) ≡ tree_of (D.image f.device) (recorded t)) c.self.view_is
    (λ told.
    let old_image = m.told is.dev told held.is_known in
    let shape = old_image.shape ∙ held.same_geometry in
    bytes_still (D.image is.dev) (D.image new) (D.infos is.dev) (recorded t) (recorded s)
    ((m.told new told made.device.still_known).shape ∙ (made.device.same_geometry ∙ sym old_image.shape))
    (subst (λ h. All (IsWrittenExtent h (D.infos is.dev)) (all_extents (recorded s))) (sym shape) held.written) made.extents
    (subst (λ h. (n : ℕ) → 3 ≤ n → is_free h (recorded s) n ≡ false → (zone_at (D.image new) n).blocks ≡ (zone_at (D.image is.dev) n).blocks) (sym shape) (made.kept.blocks told)))

pub returns-in-Ok-begin_to_write-clause-any_moment :
    goal.returns-in-Ok-begin_to_write-clause-any_moment
returns-in-Ok-begin_to_write-clause-any_moment g c =
    let D = g.D.ZonedDevice in
    let is = c.self.inside in
    subst (λ (f : FsValue g.row.D.Denot). LeavesOnly D.tick D.since f.device c.begin_to_write.new.dev (λ j. f.stopped ≡ false → LeftByBeginning (D.image f.device) j)) c.self.view_is
    (weaker g.met.D.ZonedDevice.moments (λ j. is.stopped ≡ false → LeftByBeginning (D.image is.dev) j) c.in-Ok-begin_to_write.ensures.device.passes (λ j told left running. left))

pub returns-in-Ok-begin_to_write-clause-stands : goal.returns-in-Ok-begin_to_write-clause-stands
returns-in-Ok-begin_to_write-clause-stands g c =
    let D = g.D.ZonedDevice in
    subst (λ (f : FsValue g.row.D.Denot). D.tells → (j : Image) → IsCrash (D.image c.begin_to_write.new.dev) j → f.stopped ≡ false → LeftByBeginning (D.image f.device) j) c.self.view_is
    (λ told j crash running. c.in-Ok-begin_to_write.ensures.device.stands told j crash)

pub returns-in-Ok-begin_to_write-clause-tree : goal.returns-in-Ok-begin_to_write-clause-tree
returns-in-Ok-begin_to_write-clause-tree g c =
    let D = g.D.ZonedDevice in
    let new = c.begin_to_write.new.dev in
    let made = c.in-Ok-begin_to_write.ensures in
    subst (λ (f : FsValue g.row.D.Denot). D.tells → (j : Image) → IsCrash (D.image new) j → MountsTheSame (D.image f.device) j) c.self.view_is
    (λ told j crash t mounts. crash_mounts_the_same (D.image new) j c.begin_to_write.new.tables.state (made.stands told) crash t (made.alike told t mounts))

pub invariant_of-self-in-Err-begin_to_write : goal.invariant_of-self-in-Err-begin_to_write
invariant_of-self-in-Err-begin_to_write g c =
    let D = g.D.ZonedDevice in
    let is = c.self.inside in
    let t = c.begin_to_write.new.tables.state in
    let held = c.self.invariant.0.held in
    let made = c.in-Err-begin_to_write.ensures in (
      record {
        held = record {
          is_known = made.device.still_known;
          same_geometry = made.device.same_geometry ∙ (held.same_geometry ∙ sym made.shape);
          written = held_after is.tables.state t (D.infos is.dev) (D.infos c.begin_to_write.new.dev) held.written made.shape made.extents made.kept.written;
          told = λ running. cc;
        };
        reads = λ idle running. cc;
        writes = λ writing running. cc;
        rests = λ writing running. cc;
      },
      c.self.invariant.1 ∙ sym (ap (λ h. h.block) made.shape),
    )

pub returns-clause-bytes : goal.returns-clause-bytes
returns-clause-bytes g c =
    let D = g.D.ZonedDevice in
    let m = g.met.D.ZonedDevice in
    let is = c.self.inside in
    let new = c.begin_to_write.new.dev in
    let s = is.tables.state in
    let t = c.begin_to_write.new.tables.state in
    let held = c.self.invariant.0.held in
    let made = c.in-Err-begin_to_write.ensures in
    subst (λ (f : FsValue g.row.D.Denot). D.tells → tree_of (D.image new) (recorded t) ≡ tree_of (D.image f.device) (recorded t)) c.self.view_is
    (λ told.
    let old_image = m.told is.dev told held.is_known in
    let shape = old_image.shape ∙ held.same_geometry in
    bytes_still (D.image is.dev) (D.image new) (D.infos is.dev) (recorded t) (recorded s)
    ((m.told new told made.device.still_known).shape ∙ (made.device.same_geometry ∙ sym old_image.shape))
    (subst (λ h. All (IsWrittenExtent h (D.infos is.dev)) (all_extents (recorded s))) (sym shape) held.written) made.extents
    (subst (λ h. (n : ℕ) → 3 ≤ n → is_free h (recorded s) n ≡ false → (zone_at (D.image new) n).blocks ≡ (zone_at (D.image is.dev) n).blocks) (sym shape) (made.kept.blocks told)))

pub returns-clause-any_moment : goal.returns-clause-any_moment
returns-clause-any_moment g c =
    let D = g.D.ZonedDevice in
    let is = c.self.inside in
    subst (λ (f : FsValue g.row.D.Denot). LeavesOnly D.tick D.since f.device c.begin_to_write.new.dev (λ j. f.stopped ≡ false → LeftByBeginning (D.image f.device) j)) c.self.view_is
    (weaker g.met.D.ZonedDevice.moments (λ j. is.stopped ≡ false → LeftByBeginning (D.image is.dev) j) c.in-Err-begin_to_write.ensures.device.passes (λ j told left running. left))

pub returns-clause-stands : goal.returns-clause-stands
returns-clause-stands g c =
    let D = g.D.ZonedDevice in
    subst (λ (f : FsValue g.row.D.Denot). D.tells → (j : Image) → IsCrash (D.image c.begin_to_write.new.dev) j → f.stopped ≡ false → LeftByBeginning (D.image f.device) j) c.self.view_is
    (λ told j crash running. c.in-Err-begin_to_write.ensures.device.stands told j crash)
