-- Data zones in which no file has anything.
use Rattle.std.specs.Prelude.{ℕ, Bool, not, ◌==◌}
use Rattle.std.specs.List.{list_any}
use Rattle.zone_image.specs.declared.Geometry.{Geometry}
use Rattle.zone_image.specs.Image.{zone_of}
use Rattle.log_model.specs.FileTable.{Table}
use Rattle.log_model.specs.Mounted.{all_extents}

-- no extent of the table lies in this zone
abbrev pub is_free : Geometry → Table → ℕ → Bool
is_free g es zone = not (list_any (λ x. zone_of g x.start == zone) (all_extents es))
