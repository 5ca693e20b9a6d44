use Rattle.std.proofs.Common.{[], ◌++◌, map, ap, ◌∙◌}
use Rattle.std.specs.Prelude.{filter}
use Rattle.std.specs.List.{enumerate_from}
use Rattle.fs_model.specs.FsState.{recorded, zone_states}
use Rattle.command_model.specs.DumpText.{dump_zone, is_dumped}
use Rattle.zenfs_cmd.proofs.DumpWalks.{dump_of_parts}
use Rattle.zenfs_cmd.proofs.dump.text_in.Goals as goal

pub returns : goal.returns
returns g c =
    let s = c.args.fs.now.state in
    c.in_ok-text.ensures
    ∙ dump_of_parts c.add_zones.new.dump.files c.add_zones.new.dump.zones (recorded s) (zone_states s)
    (c.in_ok-add_zones.ensures.files ∙ c.in_ok-dump.ensures.files)
    (c.in_ok-add_zones.ensures.zones
    ∙ ap (λ before. before ++ map dump_zone (filter is_dumped (enumerate_from 0 c.zones.result.now.zones))) c.in_ok-dump.ensures.zones
    ∙ ap (λ zs. map dump_zone (filter is_dumped (enumerate_from 0 zs))) c.zones.ensures.zones)
