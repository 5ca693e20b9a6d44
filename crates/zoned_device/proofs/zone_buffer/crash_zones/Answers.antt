use Rattle.std.proofs.Common.{◌≡◌, ◌<◌, List, length, map, set, get_or, sym, ◌∙◌, ap, arith}
use Rattle.std.proofs.lemmas.List.{map-set, length-map, get_or-map}
use Rattle.std.proofs.lemmas.List.Elements.{All-set}
use Rattle.zone_image.specs.Image.{Zone, no_zone}
use Rattle.zone_image.specs.Changes.{zone_crashed}
use Rattle.zoned_device.specs.Memory.{zone_in, IsBuffer}
use Rattle.zoned_device.proofs.ZoneLists.{crash_first, crash_here, crash_more, crash_all}
use Rattle.zoned_device.proofs.zone_buffer.crash_zones.Goals as goal

pub loop-i-preserved : goal.loop-i-preserved
loop-i-preserved c =
    let g = c.args.geometry.now in
    let at = c.loop-i.i in
    let keep = c.args.keep.now in
    let before = map (zone_in g.block) c.args.zones.now in
    let old = get_or c.loop-i.zones at c.index-zones-i.result in
    let in_range : at < length c.loop-i.zones = omega arith in
    let here : zone_in g.block old ≡ get_or before at no_zone =
    sym (get_or-map (zone_in g.block) c.loop-i.zones at c.index-zones-i.result no_zone in_range)
    ∙ ap (λ (l : List Zone). get_or l at no_zone) c.loop-i.invariant.done ∙ crash_here at before keep in
    let new = c.crash.ensures.zone ∙ ap (λ z. zone_crashed z (get_or keep at 0)) here in
    record {
      buffers = All-set (IsBuffer g) c.loop-i.zones at c.crash.new.self c.crash.ensures.buffer c.loop-i.invariant.buffers;
      done = map-set (zone_in g.block) c.loop-i.zones at c.crash.new.self
          ∙ ap (λ (l : List Zone). set l at (zone_in g.block c.crash.new.self)) c.loop-i.invariant.done
          ∙ ap (set (crash_first at before keep) at) new
          ∙ crash_more at before keep (omega (arith, length-map c.args.zones.now (zone_in g.block)));
    }

pub returns-clause-left : goal.returns-clause-left
returns-clause-left c =
    let g = c.args.geometry.now in
    let before = map (zone_in g.block) c.args.zones.now in
    let end : c.loop-i.i ≡ length before = omega (arith, length-map c.args.zones.now (zone_in g.block)) in
    c.loop-i.invariant.done ∙ ap (λ n. crash_first n before c.args.keep.now) end ∙ crash_all before c.args.keep.now
