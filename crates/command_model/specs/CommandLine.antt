-- Command lines: which words are a command, and its values.
use Rattle.std.specs.Prelude.{ℕ, Bool, List, [], ◌∷◌, codes, Option, Some, None, if◌then◌else◌}
use Rattle.std.specs.Str.{bytes_eq}
use Rattle.record_model.specs.Name.{is_name}
use Rattle.zone_image.specs.declared.Geometry.{Geometry}
use Rattle.log_model.specs.Format.{is_aux_path}
use Rattle.command_model.specs.Options.{Word, Setting, Shape, ◌>>=◌, only_if, number_of, number_up_to, is_set, value_in, settings_of}

-- a command with its values; which names and geometries are right is asked later
pub data Command : Type 0 where
  MakeImage : (image : Word) → (geometry : Geometry) → (force : Bool) → Command
  MakeFs : (image aux_path : Word) → (finish_threshold : ℕ) → (collect force : Bool) → Command
  ListFiles : (image : Word) → (prefix : Option Word) → Command
  ShowSpace : (image : Word) → Command
  Dump : (image : Word) → Command
  ShowInfo : (image : Word) → Command
  Backup : (image directory : Word) → (prefix : Option Word) → Command
  Restore : (image directory : Word) → (prefix : Option Word) → Command
  LinkFile : (image source target : Word) → Command
  RenameFile : (image source target : Word) → Command
  DeleteFile : (image path : Word) → Command

-- what the first word stands for
pub data Verb : Type 0 where
  Mkimage : Verb
  Mkfs : Verb
  List_ : Verb
  Df : Verb
  Dump_ : Verb
  Info : Verb
  Backup_ : Verb
  Restore_ : Verb
  Link_ : Verb
  Rename_ : Verb
  Delete_ : Verb

-- the command of a first word
abbrev pub verb_of : Word → Option Verb
verb_of w =
    if bytes_eq w (codes "mkimage") then Some Mkimage else if bytes_eq w (codes "mkfs") then Some Mkfs
    else if bytes_eq w (codes "list") then Some List_ else if bytes_eq w (codes "df") then Some Df
    else if bytes_eq w (codes "dump") then Some Dump_ else if bytes_eq w (codes "fs-info") then Some Info
    else if bytes_eq w (codes "backup") then Some Backup_ else if bytes_eq w (codes "restore") then Some Restore_
    else if bytes_eq w (codes "link") then Some Link_ else if bytes_eq w (codes "rename") then Some Rename_
    else if bytes_eq w (codes "delete") then Some Delete_ else None

-- the names of options
abbrev pub image : Word
image = codes "--image"

-- where a file is, or a host directory
abbrev pub path : Word
path = codes "--path"

-- overwrites what is there
abbrev pub force : Word
force = codes "--force"

-- the file that is linked or renamed
abbrev pub src_file : Word
src_file = codes "--src_file"

-- its new name
abbrev pub dst_file : Word
dst_file = codes "--dst_file"

-- the five numbers of a geometry
abbrev pub geometry_options : List Word
geometry_options = codes "--block" ∷ codes "--zone_blocks" ∷ codes "--capacity" ∷ codes "--zones" ∷ codes "--active" ∷ []

-- the options of a command
abbrev pub shape_of : Verb → Shape
shape_of Mkimage = record { required = image ∷ geometry_options; optional = []; flags = force ∷ [] }
shape_of Mkfs = record {
  required = image ∷ codes "--aux_path" ∷ [];
  optional = codes "--finish_threshold" ∷ [];
  flags = force ∷ codes "--enable_gc" ∷ [];
}
shape_of List_ = record { required = image ∷ []; optional = path ∷ []; flags = [] }
shape_of Backup_ = record { required = image ∷ path ∷ []; optional = codes "--backup_path" ∷ []; flags = [] }
shape_of Restore_ = record { required = image ∷ path ∷ []; optional = codes "--restore_path" ∷ []; flags = [] }
shape_of Link_ = record { required = image ∷ src_file ∷ dst_file ∷ []; optional = []; flags = [] }
shape_of Rename_ = record { required = image ∷ src_file ∷ dst_file ∷ []; optional = []; flags = [] }
shape_of Delete_ = record { required = image ∷ path ∷ []; optional = []; flags = [] }
shape_of _ = record { required = image ∷ []; optional = []; flags = [] }

-- the geometry that five options state, right or not
abbrev pub geometry_in : List Setting → Option Geometry
geometry_in ss = do
  block ← number_of (codes "--block") ss
  zone_blocks ← number_of (codes "--zone_blocks") ss
  capacity ← number_of (codes "--capacity") ss
  zones ← number_of (codes "--zones") ss
  active ← number_of (codes "--active") ss
  Some (record { block = block; zone_blocks = zone_blocks; capacity = capacity; zones = zones; active_limit = active })

-- a finish threshold, and 0 where none is set
abbrev pub threshold_in : Option Word → Option ℕ
threshold_in None = Some 0
threshold_in (Some w) = number_up_to 100 w

-- a command of this kind with these settings
abbrev pub command_with : Verb → List Setting → Option Command
command_with Mkimage ss = do
  at ← value_in image ss
  g ← geometry_in ss
  Some (MakeImage at g (is_set force ss))
command_with Mkfs ss = do
  at ← value_in image ss
  aux ← value_in (codes "--aux_path") ss
  right ← only_if (is_aux_path aux) aux
  threshold ← threshold_in (value_in (codes "--finish_threshold") ss)
  Some (MakeFs at right threshold (is_set (codes "--enable_gc") ss) (is_set force ss))
command_with List_ ss = value_in image ss >>= (λ at. Some (ListFiles at (value_in path ss)))
command_with Df ss = value_in image ss >>= (λ at. Some (ShowSpace at))
command_with Dump_ ss = value_in image ss >>= (λ at. Some (Dump at))
command_with Info ss = value_in image ss >>= (λ at. Some (ShowInfo at))
command_with Backup_ ss = do
  at ← value_in image ss
  dir ← value_in path ss
  Some (Backup at dir (value_in (codes "--backup_path") ss))
command_with Restore_ ss = do
  at ← value_in image ss
  dir ← value_in path ss
  Some (Restore at dir (value_in (codes "--restore_path") ss))
command_with Link_ ss = do
  at ← value_in image ss
  old ← value_in src_file ss
  new ← value_in dst_file ss
  Some (LinkFile at old new)
command_with Rename_ ss = do
  at ← value_in image ss
  old ← value_in src_file ss
  new ← value_in dst_file ss
  Some (RenameFile at old new)
command_with Delete_ ss = do
  at ← value_in image ss
  name ← value_in path ss
  Some (DeleteFile at name)

-- the command of some words, or none
unfoldable pub command : List Word → Option Command
command [] = None
command (w ∷ ws) = verb_of w >>= (λ verb. settings_of (shape_of verb) ws >>= command_with verb)

-- the image that a command names
abbrev pub image_of : Command → Word
image_of (MakeImage at g over) = at
image_of (MakeFs at aux threshold collect over) = at
image_of (ListFiles at prefix) = at
image_of (ShowSpace at) = at
image_of (Dump at) = at
image_of (ShowInfo at) = at
image_of (Backup at dir prefix) = at
image_of (Restore at dir prefix) = at
image_of (LinkFile at old new) = at
image_of (RenameFile at old new) = at
image_of (DeleteFile at name) = at

-- the image that some words name
abbrev pub image_path : List Word → Option Word
image_path ws = command ws >>= (λ c. Some (image_of c))

-- the names of the file system that a command has, in the order in which they are tested
abbrev pub names_of : Command → List Word
names_of (ListFiles at (Some prefix)) = prefix ∷ []
names_of (Backup at dir (Some prefix)) = prefix ∷ []
names_of (Restore at dir (Some prefix)) = prefix ∷ []
names_of (LinkFile at old new) = old ∷ new ∷ []
names_of (RenameFile at old new) = old ∷ new ∷ []
names_of (DeleteFile at name) = name ∷ []
names_of _ = []

-- the first of some words that isn't a name
abbrev pub first_bad_name : List Word → Option Word
first_bad_name [] = None
first_bad_name (w ∷ ws) = if is_name w then first_bad_name ws else Some w

-- the first name of a command that isn't one
unfoldable pub bad_name_of : Command → Option Word
bad_name_of c = first_bad_name (names_of c)
