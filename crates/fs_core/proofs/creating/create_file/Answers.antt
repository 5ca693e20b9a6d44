use Rattle.std.proofs.Common.{◌+◌, refl, sym, ◌∙◌}
use Rattle.log_model.specs.FileTree.Change.{Create}
use Rattle.fs_model.specs.TreeSteps.{create}
use Rattle.fs_core.proofs.MadeChanges.{all_made, partly_reset}
use Rattle.fs_core.proofs.creating.create_file.Goals as goal

pub reset_dead_zones-requires-clause-same_geometry : goal.reset_dead_zones-requires-clause-same_geometry
reset_dead_zones-requires-clause-same_geometry g c =
    let stored = c.in-Ok.ensures.stored in
    stored.device.same_geometry ∙ c.requires.same_geometry ∙ sym stored.shape

pub returns-in-Ok-reset_dead_zones : goal.returns-in-Ok-reset_dead_zones
returns-in-Ok-reset_dead_zones g c =
    let done = c.in-Ok-reset_dead_zones.ensures in
    all_made g.met.D.ZonedDevice.moments (create c.args.name c.args.hint c.args.sparse c.args.time) c.in-Ok.id (Create c.args.name (c.args.tables.now.state.greatest + 1) c.args.hint c.args.sparse c.args.time) c.args.dev.now c.store_create.new.dev c.reset_dead_zones.new.dev
    c.args.tables.now.state c.store_create.new.tables.state c.reset_dead_zones.new.tables.state _ (λ failed. cc) c.in-Ok.ensures.stored
    done.way done.none_left done.device done.kept done.told done.writes done.stands

pub returns-in-Err-reset_dead_zones : goal.returns-in-Err-reset_dead_zones
returns-in-Err-reset_dead_zones g c =
    let failed = c.in-Err-reset_dead_zones.ensures in
    partly_reset g.met.D.ZonedDevice.moments (create c.args.name c.args.hint c.args.sparse c.args.time) c.in-Ok.id (Create c.args.name (c.args.tables.now.state.greatest + 1) c.args.hint c.args.sparse c.args.time) c.args.dev.now c.store_create.new.dev c.reset_dead_zones.new.dev
    c.args.tables.now.state c.store_create.new.tables.state c.reset_dead_zones.new.tables.state _ refl c.in-Ok.ensures.stored
    failed.way failed.device failed.kept
