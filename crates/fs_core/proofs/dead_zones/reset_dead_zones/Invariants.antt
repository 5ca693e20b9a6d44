use Rattle.std.proofs.Common.{◌≡◌, length}
use Rattle.fs_model.specs.FsState.{recorded}
use Rattle.fs_model.specs.LogSteps.{resettable_zones}
use Rattle.zoned_device.specs.DeviceSteps.{ChangesDevice}
use Rattle.zoned_device.specs.OtherData.{KeepsOtherData}
use Rattle.change_steps.specs.Resetting.{IsResetting}
use Rattle.change_cover.specs.Rests.{Stands}
use Rattle.change_cover.specs.SameTrees.{MountsTheSame}
use Rattle.fs_tables.specs.Steps.{infos_in}
use Rattle.change_cover.specs.Following.{Follows}
use Rattle.fs_core.specs.FsValue.{CanWrite}
use Rattle.fs_core.specs.DeadZones.{is_free}
use Rattle.fs_core.proofs.dead_zones.reset_dead_zones.Given as goal

abbrev pub invariant-loop-zone : goal.invariant-loop-zone
invariant-loop-zone g l =
    let D = g.D.ZonedDevice in
    let s = l.fn.tables.state in
    record {
      way : IsResetting s l.tables.state;
      told : infos_in l.tables.state ≡ D.infos l.dev;
      shape : D.geometry l.dev ≡ l.tables.state.geometry;
      stands : D.tells → Stands (D.image l.fn.dev) s → Follows (D.image l.fn.dev) (D.image l.dev) s l.tables.state;
      device : ChangesDevice D.known D.geometry D.tells D.image D.tick D.since D.faults D.failed_changes l.fn.dev l.dev ⊥ (λ j. Stands (D.image l.fn.dev) s → MountsTheSame (D.image l.fn.dev) j);
      kept : KeepsOtherData D.infos D.tells D.image (is_free s.geometry (recorded s)) l.fn.dev l.dev;
      writes : CanWrite s → CanWrite l.tables.state;
    }

abbrev pub decreases-loop-zone : goal.decreases-loop-zone
decreases-loop-zone g l = length (resettable_zones l.tables.state)
