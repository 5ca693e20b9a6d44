-- What a crash leaves of a command that changes the tree: the tree after a prefix of its changes.
use Rattle.std.specs.Prelude.{◌⊎◌, List}
use Rattle.zone_image.specs.Image.{Image, IsCrash}
use Rattle.log_model.specs.FileTree.{Tree, Change, SameButTimes}
use Rattle.log_model.specs.Mounted.{MountsTo}
use Rattle.command_model.specs.TreeCommands.{IsPrefixState}

-- a tree that a crash of the image leaves, but for times
abbrev pub IsCrashTree : Image → Tree → Type 0
IsCrashTree i tree = (k : Image) × IsCrash i k × (old : Tree) × MountsTo k old × SameButTimes old tree

-- a tree after a prefix of the changes, but for times
abbrev pub IsPrefixTree : List Change → Tree → Tree → Type 0
IsPrefixTree changes before tree = (stage : Tree) × IsPrefixState changes before stage × SameButTimes stage tree

-- whatever might be left mounts to what a crash of the image at entry might have left, or to a prefix of the planned changes
abbrev pub CoversCommand : (Image → Type 0) → Image → Tree → List Change → Type 0
CoversCommand might entry before changes =
    (j : Image) → might j → (tree : Tree) × MountsTo j tree × (IsCrashTree entry tree ⊎ IsPrefixTree changes before tree)
