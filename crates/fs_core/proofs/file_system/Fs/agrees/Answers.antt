use Rattle.std.proofs.Common.{subst, false}
use Rattle.std.specs.Prelude.{◌≡◌}
use Rattle.fs_model.specs.CrashClauses.{Agrees}
use Rattle.fs_core.specs.FsValue.{FsValue}
use Rattle.fs_core.proofs.Agreeing.{agrees_with}
use Rattle.fs_core.proofs.file_system.Fs.agrees.Goals as goal

pub returns : goal.returns
returns g c =
    let D = g.D.ZonedDevice in
    let m = g.met.D.ZonedDevice in
    let is = c.self.inside in
    let mounted = c.self.invariant.0 in
    subst (λ (f : FsValue g.row.D.Denot). f.stopped ≡ false → D.tells → Agrees f.state (D.image f.device)) c.self.view_is
    (λ running told.
    agrees_with is.writing (D.geometry is.dev) (D.infos is.dev) (D.image is.dev) is.tables.state (m.told is.dev told mounted.held.is_known)
    mounted.held.same_geometry (mounted.held.told running) (λ idle. mounted.reads idle running told) (λ writing. mounted.rests writing running told))
