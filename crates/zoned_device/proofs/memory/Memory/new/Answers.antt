use Rattle.std.proofs.Common.{◌≡◌, sym, ap, subst}
use Rattle.zone_image.specs.Changes.{blank}
use Rattle.zone_image.specs.Infos.{IsValidImage}
use Rattle.zone_image.proofs.InfoLaws.{valid_blank}
use Rattle.zoned_device.specs.Memory.{image_in}
use Rattle.zoned_device.proofs.memory.Memory.new.Goals as goal

pub invariant_of-result : goal.invariant_of-result
invariant_of-result c =
    let g = c.args.geometry.now in
    let new : image_in g c.in_ok-empty_zones.field-0.items ≡ blank g = ap (λ zs. record { geometry = g; zones = zs }) c.in_ok-empty_zones.ensures.empty in
    record {
      valid = subst IsValidImage (sym new) (valid_blank g c.requires);
      buffers_are = c.in_ok-empty_zones.ensures.buffers;
    }
