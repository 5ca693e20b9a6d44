-- Data zones that are reset while the image is at rest.
use Rattle.std.specs.Prelude.{ℕ, ◌==◌}
use Rattle.zone_image.specs.Image.{Image}
use Rattle.log_model.specs.LogSelection.{LogAt}
use Rattle.log_model.specs.FileTable.{Table}
use Rattle.crash_cover.specs.SameData.{Avoids}
use Rattle.crash_cover.specs.AtRest.{IsAtRest}
use Rattle.crash_cover.specs.Recovery.{RecoversTable}

-- the image is at rest as it was, where the table has nothing in this zone
abbrev pub RestsWithoutZone : ℕ → Image → Image → Type 0
RestsWithoutZone zone i j = (log : LogAt) (greatest : ℕ) (es : Table) → IsAtRest i log greatest es → Avoids (λ n. n == zone) i.geometry es → IsAtRest j log greatest es

-- what a crash may leave of the table, where it has nothing in this zone
abbrev pub LeftByReset : ℕ → Image → Image → Type 0
LeftByReset zone i j = (log : LogAt) (greatest : ℕ) (es : Table) → IsAtRest i log greatest es → Avoids (λ n. n == zone) i.geometry es → RecoversTable i es j
