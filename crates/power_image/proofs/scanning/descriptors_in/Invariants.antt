use Rattle.std.proofs.Common.{◌≡◌, map, true}
use Rattle.std.specs.List.{list_all}
use Rattle.zone_image.specs.Changes.{chunks}
use Rattle.power_image.specs.Descriptors.{is_descriptor, said_in}
use Rattle.power_image.proofs.scanning.descriptors_in.Given as goal

-- the descriptors so far are right, and say what is kept
abbrev pub invariant-loop-zone : goal.invariant-loop-zone
invariant-loop-zone l = record {
  found : l.descriptors.items ≡ map said_in (chunks 32 l.zone l.bytes);
  all : list_all (is_descriptor l.geometry) (chunks 32 l.zone l.bytes) ≡ true;
}
