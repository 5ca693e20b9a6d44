-- What a command changes in the state of a file system that is mounted.
use Rattle.std.specs.Prelude.{◌≡◌, Bool, true, false, List, [], ◌∷◌, Option, Some, None, Result, Ok, if◌then◌else◌}
use Rattle.zone_image.specs.Image.{Image}
use Rattle.log_model.specs.FileTree.{Change}
use Rattle.log_model.specs.FileTree.Change.{Link, Rename, Unlink}
use Rattle.fs_model.specs.declared.error.FsError.{FsError}
use Rattle.fs_model.specs.FsState.{FsState, state_in}
use Rattle.fs_model.specs.Trace.{done}
use Rattle.fs_model.specs.LogSteps.{FsAction, NoValue}
use Rattle.fs_model.specs.TreeSteps.{link, rename, delete}
use Rattle.fs_model.specs.Check.{checked_change}
use Rattle.command_model.specs.CommandLine.{Command}
use Rattle.command_model.specs.CommandLine.Command.{MakeImage, MakeFs, LinkFile, RenameFile, DeleteFile}
use Rattle.command_model.specs.Options.{Word}

-- the command mounts the file system of the image
abbrev pub mounts : Command → Bool
mounts (MakeImage at g over) = false
mounts (MakeFs at aux threshold collect over) = false
mounts _ = true

-- the command changes names
abbrev pub changes_names : Command → Bool
changes_names (LinkFile at old new) = true
changes_names (RenameFile at old new) = true
changes_names (DeleteFile at name) = true
changes_names _ = false

-- its change of names
abbrev pub action_of : Command → FsAction NoValue
action_of (LinkFile at old new) = link old new
action_of (RenameFile at old new) = rename old new
action_of (DeleteFile at name) = delete name
action_of _ = done tt

-- the changes of the tree that it makes
abbrev pub changes_of : Command → List Change
changes_of (LinkFile at old new) = Link old new ∷ []
changes_of (RenameFile at old new) = Rename old new ∷ []
changes_of (DeleteFile at name) = Unlink name ∷ []
changes_of _ = []

-- its change, judged before anything is written; a command that changes no name does nothing
unfoldable pub planned : Command → FsAction NoValue
planned c = if changes_names c then checked_change (action_of c) else done tt

-- the name that a change looks up
abbrev pub source_of : Command → Option Word
source_of (LinkFile at old new) = Some old
source_of (RenameFile at old new) = Some old
source_of (DeleteFile at name) = Some name
source_of _ = None

-- the name that it gives
abbrev pub target_of : Command → Option Word
target_of (LinkFile at old new) = Some new
target_of (RenameFile at old new) = Some new
target_of _ = None

-- the image mounts, and this is what the command's change then answers
pub record Answers (c : Command) (i : Image) (answer : Result NoValue FsError) : Type 0 where
  pub state : FsState
  pub mounted : state_in i ≡ Ok state
  pub answered : (planned c state).answer ≡ answer
