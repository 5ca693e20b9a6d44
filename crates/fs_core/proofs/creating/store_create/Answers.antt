use Rattle.std.proofs.Common.{◌+◌, Err, sym, subst}
use Rattle.log_model.specs.FileTree.Change.{Create}
use Rattle.fs_model.specs.declared.error.FsError.TheVariants.{NoMemory}
use Rattle.fs_model.specs.TreeSteps.{create}
use Rattle.change_steps.specs.NameChanges.{create_demand}
use Rattle.fs_core.specs.Changing.{MakesChange}
use Rattle.fs_core.proofs.AskedChanges.{memory_wanting}
use Rattle.fs_core.proofs.Creations.{InRange, create_asked, ids_within, next_update}
use Rattle.fs_core.proofs.MadeChanges.{nothing_made}
use Rattle.fs_core.proofs.creating.store_create.Goals as goal

pub returns-in-Err-clause-failed : goal.returns-in-Err-clause-failed
returns-in-Err-clause-failed g c =
    let s = c.args.tables.now.state in
    let refused = c.in-Err.ensures.refused c.args.hint c.args.time in
    nothing_made g.met.D.ZonedDevice.moments (create c.args.name c.args.hint c.args.sparse c.args.time) (Create c.args.name (s.greatest + 1) c.args.hint c.args.sparse c.args.time) c.args.dev.now s c.in-Err.why
    c.requires.is_known refused.steps refused.early

pub returns-in-Err-prepare_create-clause-failed : goal.returns-in-Err-prepare_create-clause-failed
returns-in-Err-prepare_create-clause-failed g c =
    let D = g.D.ZonedDevice in
    let s = c.args.tables.now.state in
    let name = c.args.name in
    let hint = c.args.hint in
    let sparse = c.args.sparse in
    let time = c.args.time in
    let dev = c.args.dev.now in
    let ids = ids_within s _ _ c.files.ensures.files c.files.ensures.greatest c.valid-2.ensures.table in
    let range : InRange hint time = record { hint_range = c.requires.hint; time_range = c.ranges.time.fits } in
    subst (λ u. MakesChange D.known D.geometry D.infos D.tells D.image D.tick D.since D.faults D.failed_changes (create name hint sparse time) (Create name (s.greatest + 1) hint sparse time) dev dev s u (Err NoMemory)) (sym c.prepare_create.ensures.state)
    (memory_wanting g.met.D.ZonedDevice.moments g.met.D.ZonedDevice.told (create name hint sparse time) (s.greatest + 1) s (create_demand s name hint sparse time) (Create name (s.greatest + 1) hint sparse time)
    (next_update s name hint sparse time) dev (create_asked s name hint sparse time c.valid.ensures ids c.requires.can_write range (c.in-Ok.ensures.granted hint time)) c.requires.is_known)

pub prepare_create-requires-clause-may : goal.prepare_create-requires-clause-may
prepare_create-requires-clause-may g c = c.in-Ok.ensures.granted c.args.hint c.args.time
