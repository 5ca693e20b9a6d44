use Rattle.std.proofs.Common.{◌∙◌, sym, subst}
use Rattle.zone_image.specs.declared.Geometry.{Geometry}
use Rattle.zone_image.specs.Infos.{IsPossible}
use Rattle.fs_core.proofs.ReplayedTables.{are_mounted, infos_of_descriptors, told_state}
use Rattle.fs_core.proofs.tables.tables_of.Goals as goal

pub returns-in-Ok-clause-mounted : goal.returns-in-Ok-clause-mounted
returns-in-Ok-clause-mounted g c =
    let D = g.D.ZonedDevice in
    let dev = c.args.dev.now in
    let e = c.in-Ok.ensures in
    are_mounted c.args.geometry.now (D.infos dev) c.args.log.now c.in-Ok.mounted.files c.in-Ok.mounted.zones
    (subst (λ (s : Geometry). IsPossible s (D.infos dev)) (sym c.requires.same_geometry) (g.met.D.ZonedDevice.possible dev c.requires.is_known))
    (record {
      settled = e.settled;
      shape = e.shape;
      collect = e.collect ∙ c.collects.ensures;
      told = e.infos;
      states = e.states;
      written = e.written;
      writable = e.writable;
      short = e.short;
      metadata = c.requires.is_metadata;
      flags = c.requires.known_flags;
    })

pub returns-in-Ok-clause-told : goal.returns-in-Ok-clause-told
returns-in-Ok-clause-told g c = infos_of_descriptors c.in-Ok.mounted.zones.zones ∙ c.in-Ok.ensures.infos

pub returns-in-Ok-clause-state : goal.returns-in-Ok-clause-state
returns-in-Ok-clause-state g c = λ told.
    told_state (g.D.ZonedDevice.image c.args.dev.now) c.args.geometry.now c.collects.result c.args.log.now c.in-Ok.mounted.files c.in-Ok.mounted.zones (c.in-Ok.ensures.tables told) c.in-Ok.ensures.shape (c.requires.selected told)
