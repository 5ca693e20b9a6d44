use Rattle.std.proofs.Common.{◌<◌, List, length, map, set, sym, ◌∙◌, ap, arith}
use Rattle.std.proofs.lemmas.List.{map-set, length-map, get_or-map}
use Rattle.std.proofs.lemmas.List.Elements.{All-set}
use Rattle.zone_image.specs.Image.{Zone, no_zone}
use Rattle.zoned_device.specs.Memory.{zone_in, IsBuffer}
use Rattle.zoned_device.proofs.ZoneLists.{copy_more}
use Rattle.zoned_device.proofs.zone_buffer.copy_zones.Goals as goal

pub loop-i-preserved : goal.loop-i-preserved
loop-i-preserved c =
    let g = c.args.geometry.now in
    let at = c.loop-i.i in
    let from = map (zone_in g.block) c.args.others.now in
    let to = map (zone_in g.block) c.args.zones.now in
    let other = c.index-others-i.result in
    let in_others : at < length c.args.others.now = omega arith in
    let here = c.copy_from.ensures.zone ∙ ap (zone_in g.block) c.index-others-i.is ∙ sym (get_or-map (zone_in g.block) c.args.others.now at other no_zone in_others) in
    record {
      buffers = All-set (IsBuffer g) c.loop-i.zones at c.copy_from.new.self c.copy_from.ensures.buffer c.loop-i.invariant.buffers;
      done = map-set (zone_in g.block) c.loop-i.zones at c.copy_from.new.self
          ∙ ap (λ (l : List Zone). set l at (zone_in g.block c.copy_from.new.self)) c.loop-i.invariant.done
          ∙ copy_more from to at (zone_in g.block c.copy_from.new.self) (omega (arith, length-map c.args.others.now (zone_in g.block))) (omega (arith, length-map c.args.zones.now (zone_in g.block))) here;
    }
