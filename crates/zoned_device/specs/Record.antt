-- How the changes of an image are kept in memory.
use Rattle.std.specs.Prelude.{◌≡◌, ℕ, ◌+◌, ◌*◌, ◌≤◌, List, [], ◌∷◌, length, drop, All}
use Rattle.zone_image.specs.Image.{Image}
use Rattle.zone_image.specs.Changes.{chunks}
use Rattle.zoned_device.specs.declared.step.Step.{Step}
use Rattle.zoned_device.specs.declared.step.Kind.{Kind}
use Rattle.zoned_device.specs.declared.step.Kind.TheVariants as kind
use Rattle.zoned_device.specs.Content.{Change, Append, Finish, Reset, Sync, Event, Content, after, most_changes, most_bytes}

-- the change that a step keeps; the written bytes stand in a buffer
abbrev pub kind_change : ℕ → List ℕ → ℕ → Kind → Change
kind_change block bytes zone (kind.Append from count) = Append zone (chunks block count (drop from bytes))
kind_change block bytes zone kind.Finish = Finish zone
kind_change block bytes zone kind.Reset = Reset zone
kind_change block bytes zone kind.Sync = Sync

abbrev pub change_of : ℕ → List ℕ → Step → Change
change_of block bytes s = kind_change block bytes s.zone s.kind

-- the image after some steps
abbrev pub replayed : ℕ → List ℕ → Image → List Step → Image
replayed block bytes i [] = i
replayed block bytes i (s ∷ ss) = replayed block bytes (after (change_of block bytes s) i) ss

-- the events of some steps
abbrev pub events_of : ℕ → List ℕ → Image → List Step → List Event
events_of block bytes i [] = []
events_of block bytes i (s ∷ ss) =
    record { tick = s.tick; image = i; change = change_of block bytes s } ∷ events_of block bytes (after (change_of block bytes s) i) ss

-- the buffer has the bytes of a step
abbrev pub IsWithin : ℕ → ℕ → Kind → Type 0
IsWithin block size (kind.Append from count) = from + count * block ≤ size
IsWithin block size kind.Finish = Unit {0}
IsWithin block size kind.Reset = Unit {0}
IsWithin block size kind.Sync = Unit {0}

-- what the parts of a record in memory stand for
abbrev pub content_in : Image → Image → List Step → List ℕ → Content
content_in standing start steps bytes = record {
  standing = standing;
  events = events_of standing.geometry.block bytes start steps;
  changes = length steps;
  bytes = length bytes;
}

-- the steps lead from the start to the image that stands, and there is memory for as many as are promised
pub record IsRecord (standing start : Image) (steps : List Step) (steps_room : ℕ) (bytes : List ℕ) (bytes_room : ℕ) : Type 0 where
  pub replay : replayed standing.geometry.block bytes start steps ≡ standing
  pub shape : start.geometry ≡ standing.geometry
  pub within : All (λ s. IsWithin standing.geometry.block (length bytes) s.kind) steps
  pub room_for_steps : most_changes ≤ steps_room
  pub room_for_bytes : most_bytes standing.geometry ≤ bytes_room
  pub few : length steps ≤ most_changes
  pub small : length bytes ≤ most_bytes standing.geometry
