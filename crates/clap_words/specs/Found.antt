-- What clap found, as settings.
use Rattle.std.specs.Prelude.{List, [], ◌∷◌, Option, Some, None, Bool, false, codes, if◌then◌else◌}
use Rattle.std.specs.Option.{option_map_or}
use Rattle.std.specs.Str.{bytes_eq}
use Rattle.clap.specs.Words.{Row, first_of, found_of, rows_of}
use Rattle.clap.specs.declared.parser.matches.ArgMatches.{ArgMatches}
use Rattle.command_model.specs.Options.{Word, Setting}
use Rattle.clap_words.specs.Told.{dashed}

-- an option before others, where it has a value
abbrev pub with_value : Word → Option Word → List Setting → List Setting
with_value name None rest = rest
with_value name (Some v) rest = record { name = dashed name; value = Some v } ∷ rest

-- the options of these names that have values, before others
abbrev pub values_found : List Word → List Row → List Setting → List Setting
values_found [] rows rest = rest
values_found (name ∷ names) rows rest = with_value name (first_of name rows) (values_found names rows rest)

-- a flag that was given has the value `true`
abbrev pub is_flagged : Word → List Row → Bool
is_flagged name rows = option_map_or (λ v. bytes_eq v (codes "true")) (first_of name rows) false

-- a flag before others, where it was given
abbrev pub with_flag : Word → Bool → List Setting → List Setting
with_flag name given rest = if given then record { name = dashed name; value = None } ∷ rest else rest

-- the flags of these names that were given
abbrev pub flags_found : List Word → List Row → List Setting
flags_found [] rows = []
flags_found (name ∷ names) rows = with_flag name (is_flagged name rows) (flags_found names rows)

-- all options with values, of all commands
abbrev pub value_names : List Word
value_names =
    codes "image" ∷ codes "path" ∷ codes "backup_path" ∷ codes "restore_path" ∷ codes "src_file" ∷ codes "dst_file"
    ∷ codes "aux_path" ∷ codes "finish_threshold" ∷ codes "block" ∷ codes "zone_blocks" ∷ codes "capacity" ∷ codes "zones"
    ∷ codes "active" ∷ []

-- all flags
abbrev pub flag_names : List Word
flag_names = codes "force" ∷ codes "enable_gc" ∷ []

-- the settings in some rows of clap
unfoldable pub settings_found : List Row → List Setting
settings_found rows = values_found value_names rows (flags_found flag_names rows)

-- the settings that clap found
abbrev pub settings_in : ArgMatches → List Setting
settings_in m = settings_found (rows_of (found_of m))
