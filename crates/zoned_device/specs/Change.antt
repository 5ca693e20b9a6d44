-- What the calls of a device do to its image.
use Rattle.std.specs.Prelude.{ℕ, ◌*◌, List, length}
use Rattle.zone_image.specs.declared.Geometry.{Geometry}
use Rattle.zone_image.specs.Image.{Image, IsCrash}
use Rattle.zone_image.specs.Changes.{appended, finished, emptied, synced}
use Rattle.zone_image.specs.Moments.{PassedByAppend, PassedByFinish, PassedByReset}

-- what a changing call does: to a zone, or to all
pub data Change : Type 0 where
  Append : ℕ → List (List ℕ) → Change
  Finish : ℕ → Change
  Reset : ℕ → Change
  Sync : Change

-- a call looks at the image, makes one, or changes it
pub data Call : Type 0 where
  Looking : Call
  Making : Geometry → Call
  Changing : Change → Call

-- the image after a change
abbrev pub after : Change → Image → Image
after (Append zone added) i = appended i zone added
after (Finish zone) i = finished i zone
after (Reset zone) i = emptied i zone
after Sync i = synced i

-- what a crash within a change of this image may leave
abbrev pub Passes : Change → Image → Image → Type 0
Passes (Append zone added) i j = PassedByAppend i zone added j
Passes (Finish zone) i j = PassedByFinish i zone j
Passes (Reset zone) i j = PassedByReset i zone j
Passes Sync i j = IsCrash i j

-- the bytes that a change writes
abbrev pub written_by : Geometry → Change → ℕ
written_by g (Append zone added) = length added * g.block
written_by g (Finish zone) = 0
written_by g (Reset zone) = 0
written_by g Sync = 0
