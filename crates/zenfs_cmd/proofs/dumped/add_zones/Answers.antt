use Rattle.std.proofs.Common.{ℕ, ◌<◌, ◌≤◌, ◌++◌, length, ap, ◌∙◌, arith}
use Rattle.std.specs.Prelude.{flat_map}
use Rattle.zone_image.specs.declared.Geometry.{Geometry}
use Rattle.zone_alloc.proofs.ZoneWalks.{zones_from}
use Rattle.fs_report.specs.DumpState.{zone_part}
use Rattle.zenfs_cmd.proofs.DumpWalks.{zones_end, zones_go_on}
use Rattle.zenfs_cmd.proofs.dumped.add_zones.Goals as goal

pub loop-zone-preserved : goal.loop-zone-preserved
loop-zone-preserved c =
    let zs = c.args.zones.now.zones in
    let same = ap (λ (g : Geometry). g.zones) c.geometry-geometry.ensures.value in
    let within : c.loop-zone.zone < length zs = omega (arith, c.loop-zone-test.true, same, c.geometry-geometry.ensures.table.count) in (
      c.add_zone.ensures.files ∙ c.loop-zone.invariant.0,
      zones_go_on c.loop-zone.dump.zones c.add_zone.new.self.zones (c.args.dump.now.zones ++ flat_map zone_part (zones_from 0 zs)) zs c.loop-zone.zone c.state.result.now within
          c.state.ensures.value c.in_ok-add_zone.ensures.added c.loop-zone.invariant.1,
    )

pub returns-clause-zones : goal.returns-clause-zones
returns-clause-zones c =
    let zs = c.args.zones.now.zones in
    let same = ap (λ (g : Geometry). g.zones) c.geometry-geometry.ensures.value in
    let past : length zs ≤ c.loop-zone.zone = omega (arith, c.loop-zone-test.false, same, c.geometry-geometry.ensures.table.count) in
    zones_end c.args.dump.now.zones c.loop-zone.dump.zones zs c.loop-zone.zone past c.loop-zone.invariant.1
