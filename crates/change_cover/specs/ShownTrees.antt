-- The tree that a state shows, where its image is at rest.
use Rattle.std.specs.Prelude.{◌≡◌}
use Rattle.zone_image.specs.Image.{Image, IsCrash}
use Rattle.log_model.specs.Mounted.{MountsTo, tree_of}
use Rattle.fs_model.specs.FsState.{FsState, recorded}
use Rattle.fs_model.specs.CrashClauses.{shown_tree}
use Rattle.change_cover.specs.Rests.{AreShown, Rests, Stands}

-- what is shown is what is recorded
abbrev pub RestShowsRecorded : Type 0
RestShowsRecorded = (i : Image) (s : FsState) → Rests i s → AreShown s.rows → shown_tree i s ≡ tree_of i (recorded s)

-- where no file has a recovery point the image mounts to it
abbrev pub RestMountsShown : Type 0
RestMountsShown = (i : Image) (s : FsState) → Stands i s → MountsTo i (shown_tree i s)

-- so does whatever a crash leaves of the image
abbrev pub CrashMountsShown : Type 0
CrashMountsShown = (i j : Image) (s : FsState) → Stands i s → IsCrash i j → MountsTo j (shown_tree i s)
