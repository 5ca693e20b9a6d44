use Rattle.std.proofs.Common.{◌∙◌, ap}
use Rattle.zone_image.specs.Infos.{infos_of}
use Rattle.zone_image.proofs.InfoLaws.{infos-blank}
use Rattle.zoned_device.specs.Content.{Content}
use Rattle.zoned_device.proofs.mem_zones.MemZonesZonedDevice.make.Goals as goal

pub returns-clause-empty : goal.returns-clause-empty
returns-clause-empty c = ap (λ (d : Content). infos_of d.standing) c.in_ok-new.ensures ∙ infos-blank c.args.shape.now
