use Rattle.std.proofs.Common.{Err, sym, subst}
use Rattle.log_model.specs.FileTree.Change.{Link}
use Rattle.fs_model.specs.declared.error.FsError.TheVariants.{NoMemory}
use Rattle.fs_model.specs.TreeSteps.{link}
use Rattle.change_steps.specs.NameChanges.{link_demand}
use Rattle.fs_core.specs.Changing.{MakesChange}
use Rattle.fs_core.proofs.AskedChanges.{memory_wanting}
use Rattle.fs_core.proofs.Links.{link_asked, link_update}
use Rattle.fs_core.proofs.MadeChanges.{nothing_made}
use Rattle.fs_core.proofs.linking.store_link.Goals as goal

pub returns-in-Err-clause-failed : goal.returns-in-Err-clause-failed
returns-in-Err-clause-failed g c =
    let refused = c.in-Err.ensures.refused in
    nothing_made g.met.D.ZonedDevice.moments (link c.args.old.now c.args.new) (Link c.args.old.now c.args.new) c.args.dev.now c.args.tables.now.state c.in-Err.why c.requires.is_known refused.steps refused.early

pub returns-in-Err-prepare_link-clause-failed : goal.returns-in-Err-prepare_link-clause-failed
returns-in-Err-prepare_link-clause-failed g c =
    let D = g.D.ZonedDevice in
    let s = c.args.tables.now.state in
    let old = c.args.old.now in
    let new = c.args.new in
    let dev = c.args.dev.now in
    let may = c.in-Ok.ensures.granted in
    subst (λ u. MakesChange D.known D.geometry D.infos D.tells D.image D.tick D.since D.faults D.failed_changes (link old new) (Link old new) dev dev s u (Err NoMemory)) (sym c.prepare_link.ensures.state)
    (memory_wanting g.met.D.ZonedDevice.moments g.met.D.ZonedDevice.told (link old new) tt s (link_demand s may.row new) (Link old new) (link_update may.row new) dev
    (link_asked s old new c.valid.ensures c.requires.can_write may) c.requires.is_known)
