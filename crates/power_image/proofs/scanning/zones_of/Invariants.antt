use Rattle.std.proofs.Common.{◌≡◌, map, take}
use Rattle.image_backend.specs.Table.{slot_of}
use Rattle.power_image.specs.Descriptors.{told}
use Rattle.power_image.specs.Table.{numbers_of}
use Rattle.power_image.proofs.scanning.zones_of.Given as goal

-- the zones of the descriptors before the index
abbrev pub invariant-loop-descriptor : goal.invariant-loop-descriptor
invariant-loop-descriptor l = map numbers_of l.zones.items ≡ map slot_of (map told (take l.descriptor-index l.descriptors))
