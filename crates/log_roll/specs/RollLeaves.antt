-- What a crash leaves of a device whose log is rolled.
use Rattle.std.specs.Prelude.{◌≡◌, ℕ, ◌⊎◌, false, List, [], ◌∷◌, ◌++◌}
use Rattle.zone_image.specs.Image.{Image, IsCrash}
use Rattle.zone_image.specs.Changes.{synced}
use Rattle.record_model.specs.Numbers.{u32}
use Rattle.log_model.specs.declared.selection.Chosen.{Chosen}
use Rattle.log_model.specs.LogScan.{Scan, has_end}
use Rattle.log_model.specs.LogSelection.{LogAt}
use Rattle.log_model.specs.AppendLaws.{IsSelectedOn}
use Rattle.log_roll.specs.FormatLeaves.{HasLogs, HasNewLog, SameData}
use Rattle.log_roll.specs.Rolling.{next_superblock, next_zone}

-- the same payloads, or one end record behind them where they have none
pub record MayEnd (before after : List (ℕ × List ℕ)) : Type 0 where
  pub payloads : (after ≡ before) ⊎ ((has_end before ≡ false) × ((block : ℕ) × (after ≡ before ++ (block, u32 4) ∷ [])))

-- the log that counts is that of the same zone, with the same payloads, behind which an end record may stand
pub record KeepsLog (i j : Image) : Type 0 where
  pub log : LogAt
  pub scan : Scan
  pub before : ℕ
  pub after : ℕ
  pub was : IsSelectedOn i log before
  pub is : IsSelectedOn j (record { zone = log.zone; superblock = log.superblock; scan = scan }) after
  pub payloads : MayEnd log.scan.payloads scan.payloads

-- The data zones are those of a crash of the image, and so is the log; or the new log counts, and nothing of the image is lost.
pub record RollLeaves (old : Chosen) (snapshot : List ℕ) (i j : Image) : Type 0 where
  pub crashed : Image
  pub crash : IsCrash i crashed
  pub data_zones : SameData crashed j
  pub log : KeepsLog crashed j ⊎ ((crashed ≡ synced i) × HasNewLog (next_zone old.zone) (next_superblock old) snapshot j)

-- what a crash leaves where each crash of the image has a log that counts
abbrev pub LeftByRoll : Chosen → List ℕ → Image → Image → Type 0
LeftByRoll old snapshot i j = HasLogs i → RollLeaves old snapshot i j
