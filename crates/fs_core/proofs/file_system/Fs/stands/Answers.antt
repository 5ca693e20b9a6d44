use Rattle.std.proofs.Common.{true, false, subst}
use Rattle.std.specs.Prelude.{◌≡◌}
use Rattle.change_cover.specs.Rests.{Stands}
use Rattle.fs_core.specs.FsValue.{FsValue}
use Rattle.fs_core.proofs.file_system.Fs.stands.Goals as goal

pub returns : goal.returns
returns g c =
    let D = g.D.ZonedDevice in
    let mounted = c.self.invariant.0 in
    subst (λ (f : FsValue g.row.D.Denot). f.writing ≡ true → f.stopped ≡ false → D.tells → Stands (D.image f.device) f.state) c.self.view_is
    (λ writing running told.
    record { rests = mounted.rests writing running told; shown = c.valid.ensures.sound.settled; points = (mounted.writes writing running).points })
