-- A dump as it is built.
use Rattle.std.specs.Prelude.{ℕ, List, [], ◌∷◌, ◌++◌, codes, if◌then◌else◌}
use Rattle.fs_model.specs.declared.zones.ZoneState.{ZoneState}
use Rattle.command_model.specs.DumpText.{dump_zone, is_dumped, json_array, json_field, json_object}

-- the texts of its files and of its zones so far
pub record DumpState : Type 0 where
  pub files : List (List ℕ)
  pub zones : List (List ℕ)

-- the text of a dump of files and zones with these texts
unfoldable pub text_of_parts : List (List ℕ) → List (List ℕ) → List ℕ
text_of_parts files zones =
    json_object (json_field (codes "files") (json_array files) ∷ json_field (codes "zones") (json_array zones) ∷ []) ++ 10 ∷ []

-- the part of a zone with its number: none where it has neither a block nor a seal
abbrev pub zone_part : ℕ × ZoneState → List (List ℕ)
zone_part z = if is_dumped z then dump_zone z ∷ [] else []
