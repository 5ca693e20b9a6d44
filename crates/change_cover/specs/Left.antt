-- What a crash leaves of an image, as trees.
use Rattle.std.specs.Prelude.{List, [], ◌∷◌, ◌++◌, Any}
use Rattle.zone_image.specs.Image.{Image, IsCrash}
use Rattle.log_model.specs.FileTree.{Tree, Change, RecoversTo, apply, bytes_in}
use Rattle.log_model.specs.Mounted.{MountsTo}
use Rattle.fs_model.specs.FsState.{FsState, TableRow, recorded}
use Rattle.fs_model.specs.CrashClauses.{shown_tree}
use Rattle.crash_cover.specs.Recovery.{RecoversTable}
use Rattle.change_records.specs.Recorded.{entries}
use Rattle.change_cover.specs.Rests.{AreShown, Rests, Stands}
use Rattle.change_cover.specs.NameChanges.{ChangesNames}
use Rattle.change_cover.specs.SameTrees.{MountsTheSame}

-- j mounts to what a crash leaves of one of these trees; no file has more bytes than the image i had
abbrev pub IsLeftOf : Image → List Tree → Image → Type 0
IsLeftOf i trees j = (w : Tree) → MountsTo i w → (t : Tree) × MountsTo j t × Any (λ tree. RecoversTo t tree (λ id. bytes_in id w)) trees

-- what a crash may leave of the recorded table is left of the tree that is shown
abbrev pub RecoveredIsLeft : Type 0
RecoveredIsLeft = (i j : Image) (s : FsState) → Rests i s → AreShown s.rows → RecoversTable i (recorded s) j → IsLeftOf i (shown_tree i s ∷ []) j

-- so is a crash of the image
abbrev pub CrashIsLeft : Type 0
CrashIsLeft = (i j : Image) (s : FsState) → Rests i s → AreShown s.rows → IsCrash i j → IsLeftOf i (shown_tree i s ∷ []) j

-- what a crash may leave of the table after a change of names is left of the tree after the change
abbrev pub ChangedIsLeft : Type 0
ChangedIsLeft = (i j : Image) (s : FsState) (c : Change) (after : List TableRow) → Stands i s → ChangesNames c s.rows after
    → RecoversTable i (entries after) j → IsLeftOf i (apply c (shown_tree i s) ∷ []) j

-- what is left of some trees is left of more
abbrev pub LeftOfMore : Type 0
LeftOfMore = (i j : Image) (front trees back : List Tree) → IsLeftOf i trees j → IsLeftOf i (front ++ trees ++ back) j

-- what is left of an image is left of one that mounts to the same tree
abbrev pub LeftOfSame : Type 0
LeftOfSame = (i k j : Image) (trees : List Tree) → MountsTheSame i k → IsLeftOf k trees j → IsLeftOf i trees j

-- an image that mounts to the same tree is left of the tree that is shown
abbrev pub SameTreeIsLeft : Type 0
SameTreeIsLeft = (i j : Image) (s : FsState) → Stands i s → MountsTheSame i j → IsLeftOf i (shown_tree i s ∷ []) j
