-- Command lines and scripts, computed.
use Rattle.std.specs.Prelude.{◌≡◌, ℕ, ◌+◌, ◌*◌, ◌-◌, ◌^◌, true, false, List, [], ◌∷◌, ◌++◌, codes, map, Some, None, Ok, Err, refl}
use Rattle.command_model.specs.Opened.{naming}
use Rattle.std.specs.Fmt.{digits}
use Rattle.zone_image.specs.Image.{is_valid}
use Rattle.fs_model.specs.declared.operations.Op.TheVariants as ops
use Rattle.command_model.specs.Options.{number_in}
use Rattle.command_model.specs.CommandLine.{command, image_path, bad_name_of}
use Rattle.command_model.specs.CommandLine.Command.{MakeImage, MakeFs, ListFiles, Backup, RenameFile}
use Rattle.command_model.specs.LoadLine.{Lines, load_command, script_path, load_image}
use Rattle.command_model.specs.Script.{script}
use Rattle.command_model.specs.GeneratedScript.{file_lines, lines_of_files}

-- numbers: zero, the greatest, one above it, a leading zero, none
zero_read : number_in (codes "0") ≡ Some 0
zero_read = refl

-- the greatest number
greatest_read : number_in (codes "4294967295") ≡ Some (2 ^ 32 - 1)
greatest_read = refl

-- one above it
above_greatest : number_in (codes "4294967296") ≡ None
above_greatest = refl

-- a zero in front
leading_zero : number_in (codes "07") ≡ None
leading_zero = refl

-- no digit at all
no_digits : number_in [] ≡ None
no_digits = refl

-- an option in one word, and in two
list_read : command (codes "list" ∷ codes "--image=i" ∷ []) ≡ Some (ListFiles (codes "i") None)
unfolding command
list_read = refl

-- a name and its value in two words each
list_in_two : command (codes "list" ∷ codes "--path" ∷ codes "db" ∷ codes "--image" ∷ codes "i" ∷ []) ≡ Some (ListFiles (codes "i") (Some (codes "db")))
unfolding command
list_in_two = refl

-- what is refused: no image, an empty one, one twice, a word too many, a value that begins with a hyphen
no_image : command (codes "list" ∷ []) ≡ None
unfolding command
no_image = refl

-- a value of no bytes
empty_image : command (codes "list" ∷ codes "--image=" ∷ []) ≡ None
unfolding command
empty_image = refl

-- one option twice
image_twice : command (codes "list" ∷ codes "--image=i" ∷ codes "--image=i" ∷ []) ≡ None
unfolding command
image_twice = refl

-- a value without an option
word_too_many : command (codes "list" ∷ codes "--image=i" ∷ codes "x" ∷ []) ≡ None
unfolding command
word_too_many = refl

-- a value that begins with a hyphen, in a word of its own
hyphen_value : command (codes "list" ∷ codes "--image" ∷ codes "-i" ∷ []) ≡ None
unfolding command
hyphen_value = refl

-- in one word a value may begin with a hyphen, and have equals signs
joined_value : command (codes "list" ∷ codes "--image=-i=j" ∷ []) ≡ Some (ListFiles (codes "-i=j") None)
unfolding command
joined_value = refl

-- a flag has no value, and an option of another command isn't one of this
flag_with_value : command (codes "mkfs" ∷ codes "--image=i" ∷ codes "--aux_path=/aux" ∷ codes "--force=1" ∷ []) ≡ None
unfolding command
flag_with_value = refl

-- a flag, and a threshold that isn't set
mkfs_read : command (codes "mkfs" ∷ codes "--enable_gc" ∷ codes "--image=i" ∷ codes "--aux_path=/aux" ∷ []) ≡ Some (MakeFs (codes "i") (codes "/aux") 0 true false)
unfolding naming command
mkfs_read = refl

-- a threshold above a hundred
threshold_above : command (codes "mkfs" ∷ codes "--image=i" ∷ codes "--aux_path=/aux" ∷ codes "--finish_threshold=101" ∷ []) ≡ None
unfolding naming command
threshold_above = refl

-- five numbers of any size make a command; whether they are a geometry is asked later
mkimage_read : command (codes "mkimage" ∷ codes "--image=i" ∷ codes "--block=1024" ∷ codes "--zone_blocks=16" ∷ codes "--capacity=16" ∷ codes "--zones=32" ∷ codes "--active=6" ∷ [])
    ≡ Some (MakeImage (codes "i") (record { block = 1024; zone_blocks = 16; capacity = 16; zones = 32; active_limit = 6 }) false)
unfolding command
mkimage_read = refl

-- a block of that size is none
wrong_block : is_valid (record { block = 1024; zone_blocks = 16; capacity = 16; zones = 32; active_limit = 6 }) ≡ false
wrong_block = refl

-- the image is told where the words are a command
image_told : map image_path ((codes "df" ∷ codes "--image=i" ∷ []) ∷ (codes "df" ∷ []) ∷ []) ≡ Some (codes "i") ∷ None ∷ []
unfolding command
image_told = refl

-- the source of a rename is judged before its target
bad_source_first : bad_name_of (RenameFile (codes "i") (codes "a/") (codes "/b")) ≡ Some (codes "a/")
unfolding naming bad_name_of
bad_source_first = refl

-- a host directory is no name of the file system
any_directory : bad_name_of (Backup (codes "i") (codes "/tmp//x/") None) ≡ None
unfolding bad_name_of
any_directory = refl

-- a command that isn't there
unknown_command : command (codes "check" ∷ codes "--image=i" ∷ []) ≡ None
unfolding command
unknown_command = refl

-- a load has a script or a number, and not both
load_read : load_command (codes "--script=s" ∷ codes "--image=i" ∷ []) ≡ Some (record { image = codes "i"; lines = Lines.FromFile (codes "s") })
unfolding load_command
load_read = refl

-- a number is no path
load_generated : script_path (codes "--generate=7" ∷ codes "--image=i" ∷ []) ≡ None
unfolding load_command
load_generated = refl

-- both at once
load_both : load_image (codes "--script=s" ∷ codes "--generate=7" ∷ codes "--image=i" ∷ []) ≡ None
unfolding load_command
load_both = refl

-- ---- scripts

-- texts, each with a newline at its end
abbrev pub lines : List (List ℕ) → List ℕ
lines [] = []
lines (t ∷ ts) = t ++ 10 ∷ lines ts

-- one job
abbrev pub six_lines : List ℕ
six_lines = lines (codes "1 open a 0 b" ∷ codes "1 append 5 104" ∷ codes "1 sync" ∷ codes "1 read a" ∷ codes "1 close" ∷ codes "1 delete b" ∷ [])

-- its lines
script_read : script six_lines ≡ Ok (
    (record { job = 1; op = ops.Open (codes "a") 0 false }) ∷ (record { job = 1; op = ops.Append 5 104 })
    ∷ (record { job = 1; op = ops.Sync }) ∷ (record { job = 1; op = ops.Read (codes "a") })
    ∷ (record { job = 1; op = ops.Close }) ∷ (record { job = 1; op = ops.Delete (codes "b") }) ∷ [])
unfolding naming script
script_read = refl

-- an empty script is right
empty_script : script [] ≡ Ok []
unfolding script
empty_script = refl

-- wrong lines: two spaces, a job of 0, a count above its limit, no newline
two_spaces : script (lines (codes "1 sync" ∷ codes "1  sync" ∷ [])) ≡ Err 2
unfolding naming script
two_spaces = refl

-- a job of no number
job_zero : script (lines (codes "0 sync" ∷ [])) ≡ Err 1
unfolding naming script
job_zero = refl

-- too many bytes
count_above : script (lines (codes "1 append 65537 0" ∷ [])) ≡ Err 1
unfolding naming script
count_above = refl

-- a last line without its newline
no_newline : script (lines (codes "1 sync" ∷ []) ++ codes "1 close") ≡ Err 2
unfolding naming script
no_newline = refl

-- the first wrong line counts, also before a last line without its newline
first_wrong : script (lines (codes "1 sync x" ∷ []) ++ codes "1 close") ≡ Err 1
unfolding naming script
first_wrong = refl

-- ---- made scripts

-- the lines of one file and one word: hint 3, sparse, three appends, a delete
made_lines : file_lines 6 (1 + 2 * 2 ^ 16 + 9 * 2 ^ 24) ≡ lines (codes "1 open g6 3 s" ∷ codes "1 append 10 6" ∷ codes "1 append 10 6" ∷ codes "1 append 10 6" ∷ codes "1 sync" ∷ codes "1 close" ∷ codes "1 delete g2" ∷ [])
unfolding digits
made_lines = refl

-- the lines of the first two files of seed 7
seed_seven : lines_of_files 2 1 7 ≡ lines (
    codes "2 open g1 3 b" ∷ codes "2 append 1114 1" ∷ codes "2 append 1114 1" ∷ codes "2 append 1114 1" ∷ codes "2 sync" ∷ codes "2 close"
    ∷ codes "1 open g2 0 b" ∷ codes "1 append 2037 2" ∷ codes "1 sync" ∷ codes "1 close" ∷ [])
unfolding digits
seed_seven = refl
