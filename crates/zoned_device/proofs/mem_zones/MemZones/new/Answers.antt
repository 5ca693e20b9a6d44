use Rattle.std.proofs.Common.{sym, subst}
use Rattle.zone_image.proofs.InfoLaws.{valid_blank}
use Rattle.zoned_device.specs.Content.{IsValidContent}
use Rattle.zoned_device.proofs.mem_zones.MemZones.new.Goals as goal

pub returns-clause-known : goal.returns-clause-known
returns-clause-known c = subst IsValidContent (sym c.in_ok-new.ensures) (record { standing = valid_blank c.args.geometry c.requires; moments = tt })
