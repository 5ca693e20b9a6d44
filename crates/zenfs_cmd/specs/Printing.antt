-- What the commands print.
use Rattle.std.specs.Prelude.{◌≡◌, ⊤, ℕ, List, [], ◌++◌, Option, Some, None, IsSome, IfSome, option_map}
use Rattle.std.specs.Result.{result_ok}
use Rattle.zone_image.specs.Image.{Image}
use Rattle.fs_model.specs.FsState.{FsState, recorded, state_in, zone_states}
use Rattle.fs_model.specs.ZonePolicy.{space}
use Rattle.command_model.specs.CommandLine.{Command}
use Rattle.command_model.specs.CommandLine.Command.{MakeImage, MakeFs, ListFiles, ShowSpace, Dump, ShowInfo, LinkFile, RenameFile, DeleteFile}
use Rattle.command_model.specs.Options.{Word}
use Rattle.command_model.specs.DumpText.{dump_text}
use Rattle.command_model.specs.ReportTexts.{df_text, info_text, list_text, made_fs_text, made_image_text}
use Rattle.fs_report.specs.declared.cause.Cause.{Cause}
use Rattle.fs_report.specs.declared.cause.Cause.TheVariants.{OutputFault}
use Rattle.fs_report.specs.Written.{AddsFront}

-- a text of the state that an image mounts to
abbrev pub text_of_state : (FsState → List ℕ) → Image → Option (List ℕ)
text_of_state text i = option_map text (result_ok (state_in i))

-- the list of the files, or of the names under a prefix
abbrev pub listed_text : Option Word → Image → Option (List ℕ)
listed_text prefix i = text_of_state (λ s. list_text (recorded s) prefix) i

-- the lines on space
abbrev pub space_text : Image → Option (List ℕ)
space_text i = text_of_state (λ s. df_text s.geometry (space s.geometry (zone_states s))) i

-- the dump of the files and the zones
abbrev pub dumped_text : Image → Option (List ℕ)
dumped_text i = text_of_state (λ s. dump_text (recorded s) (zone_states s)) i

-- the lines on the superblock of the log that counts
abbrev pub shown_text : Image → Option (List ℕ)
shown_text i = text_of_state (λ s. info_text s.log.superblock) i

-- what a command prints over an image
abbrev pub output_text : Command → Image → Option (List ℕ)
output_text (MakeImage at g over) i = Some (made_image_text g)
output_text (MakeFs at aux threshold collect over) i = Some (made_fs_text i.geometry)
output_text (ListFiles at prefix) i = listed_text prefix i
output_text (ShowSpace at) i = space_text i
output_text (Dump at) i = dumped_text i
output_text (ShowInfo at) i = shown_text i
output_text (LinkFile at old new) i = Some []
output_text (RenameFile at old new) i = Some []
output_text (DeleteFile at name) i = Some []
output_text _ i = None

-- nothing is printed before any refusal but that of the output
abbrev pub IsSilent : Cause → Type 0 → Type 0
IsSilent OutputFault quiet = ⊤
IsSilent _ quiet = quiet

-- the text stands behind what was printed before
abbrev pub IsPrinted : Option (List ℕ) → List ℕ → List ℕ → Type 0
IsPrinted wanted old new = IfSome wanted (λ text. new ≡ old ++ text) × IsSome wanted

-- first bytes of the text stand behind what was printed before
abbrev pub IsPrintedInPart : Option (List ℕ) → List ℕ → List ℕ → Type 0
IsPrintedInPart wanted old new = IfSome wanted (λ text. AddsFront old text new) × IsSome wanted

-- the output failed: its count rose, all that the command leaves is there, and first bytes of its text are printed
abbrev pub IsCutShort : (rose : Type 0) → (leaves : Command → Type 0) → (tells : Type 0) → (old new : List ℕ) → Image → Command → Type 0
IsCutShort rose leaves tells old new i c = rose × leaves c × (tells → IsPrintedInPart (output_text c i) old new)
