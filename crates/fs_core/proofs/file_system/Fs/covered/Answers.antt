use Rattle.std.proofs.Common.{sym, ◌∙◌, ap, subst}
use Rattle.zone_image.specs.Image.{IsCrash}
use Rattle.fs_model.specs.CrashClauses.{IsCovered}
use Rattle.change_cover.proofs.CoveredLaws.{rest_is_covered}
use Rattle.fs_core.specs.FsValue.{FsValue}
use Rattle.fs_core.proofs.file_system.Fs.covered.Goals as goal

pub returns : goal.returns
returns g c =
    let D = g.D.ZonedDevice in
    let m = g.met.D.ZonedDevice in
    let is = c.self.inside in
    let mounted = c.self.invariant.0 in
    let writing = ap (λ (f : FsValue g.row.D.Denot). f.writing) c.self.view_is ∙ c.requires.writing in
    let running = ap (λ (f : FsValue g.row.D.Denot). f.stopped) c.self.view_is ∙ c.requires.running in
    subst (λ (f : FsValue g.row.D.Denot). D.tells → IsCovered (IsCrash (D.image f.device)) f.state (D.image f.device)) c.self.view_is
    (λ told.
    let image = m.told is.dev told mounted.held.is_known in
    rest_is_covered (D.image is.dev) is.tables.state
    (record { rests = mounted.rests writing running told; shown = c.valid.ensures.sound.settled; points = (mounted.writes writing running).points })
    (sym (image.shape ∙ mounted.held.same_geometry)) (mounted.held.told running ∙ sym image.told))
