use Rattle.std.proofs.Common.{◌≡◌, true}
use Rattle.std.specs.List.{list_all}
use Rattle.zone_image.specs.Changes.{chunks}
use Rattle.image_backend.specs.Format.{is_descriptor}
use Rattle.image_backend.specs.Table.{slots_of}
use Rattle.image_backend.proofs.scanning.slots_in.Given as goal

-- the descriptors so far are possible, and the slots say what they say
abbrev pub invariant-loop-zone : goal.invariant-loop-zone
invariant-loop-zone l = record {
  found : l.slots.items ≡ slots_of (chunks 8 l.zone l.bytes);
  all : list_all (is_descriptor l.geometry) (chunks 8 l.zone l.bytes) ≡ true;
}
