-- Steps from one image at rest to the next, in which a data zone grows.
use Rattle.std.specs.Prelude.{◌≡◌, ◌≢◌, ℕ, ◌+◌, ◌≤◌, List, ◌==◌}
use Rattle.std.specs.List.{AllByRecursion}
use Rattle.zone_image.specs.declared.Geometry.{Geometry}
use Rattle.zone_image.specs.Image.{Image, zone_of}
use Rattle.zone_image.specs.Changes.{appended}
use Rattle.zone_image.specs.Infos.{IsValidImage}
use Rattle.zone_image.specs.Moments.{PassedByAppend}
use Rattle.log_model.specs.LogSelection.{LogAt}
use Rattle.log_model.specs.FileTable.{Table}
use Rattle.log_model.specs.Mounted.{all_extents}
use Rattle.crash_cover.specs.SameData.{RecoversElsewhere}
use Rattle.crash_cover.specs.AtRest.{IsAtRest}
use Rattle.least_crash.specs.Recovery.{found_tree, least_tree, RecoversTable}

-- no recovery point of the table lies in this zone
abbrev pub HasNoPoint : Image → ℕ → Table → Type 0
HasNoPoint i zone es = AllByRecursion (RecoversElsewhere (λ n. n == zone) i.geometry) es

-- blocks that nobody finds: the table is at rest, and reads the same, on the standing image and where a crash loses the most
pub record GrowsUnseen (i k : Image) (log : LogAt) (greatest : ℕ) (es : Table) : Type 0 where
  pub rest : IsAtRest k log greatest es
  pub standing : found_tree k es ≡ found_tree i es
  pub least : least_tree k es ≡ least_tree i es

-- an append to a data zone without recovery points
abbrev pub AppendKeepsRest : Type 0
AppendKeepsRest = (i : Image) (zone : ℕ) (added : List (List ℕ)) (log : LogAt) (greatest : ℕ) (es : Table) → IsAtRest i log greatest es
    → IsValidImage (appended i zone added) → 3 ≤ zone → HasNoPoint i zone es → GrowsUnseen i (appended i zone added) log greatest es

-- a crash within it
abbrev pub AppendMomentRecovers : Type 0
AppendMomentRecovers = (i j : Image) (zone : ℕ) (added : List (List ℕ)) (log : LogAt) (greatest : ℕ) (es : Table) → IsAtRest i log greatest es
    → IsValidImage (appended i zone added) → 3 ≤ zone → HasNoPoint i zone es → PassedByAppend i zone added j → RecoversTable i es j

-- one file alone has its recovery point in this zone, here, at or behind each extent that is recorded there
pub record HasOnePoint (g : Geometry) (zone id start : ℕ) (es : Table) : Type 0 where
  pub here : zone_of g start ≡ zone
  pub own : AllByRecursion (λ f. f.id ≡ id → f.active ≡ start) es
  pub others : AllByRecursion (λ f. f.id ≢ id → RecoversElsewhere (λ n. n == zone) g f) es
  pub before : AllByRecursion (λ x. zone_of g x.start ≡ zone → x.start + x.len ≤ start) (all_extents es)

-- blocks that at most one file finds: the table is at rest, and reads the same where a crash loses the most
pub record GrowsBehindPoint (i k : Image) (log : LogAt) (greatest : ℕ) (es : Table) : Type 0 where
  pub rest : IsAtRest k log greatest es
  pub least : least_tree k es ≡ least_tree i es

-- an append to the zone of a sparse file's frames
abbrev pub FrameKeepsRest : Type 0
FrameKeepsRest = (i : Image) (zone id start : ℕ) (added : List (List ℕ)) (log : LogAt) (greatest : ℕ) (es : Table) → IsAtRest i log greatest es
    → IsValidImage (appended i zone added) → 3 ≤ zone → HasOnePoint i.geometry zone id start es → GrowsBehindPoint i (appended i zone added) log greatest es

-- a crash within it: at most the bytes that stand after all of it, and at least what durable blocks had before
abbrev pub FrameMomentRecovers : Type 0
FrameMomentRecovers = (i j : Image) (zone id start : ℕ) (added : List (List ℕ)) (log : LogAt) (greatest : ℕ) (es : Table) → IsAtRest i log greatest es
    → IsValidImage (appended i zone added) → 3 ≤ zone → HasOnePoint i.geometry zone id start es → PassedByAppend i zone added j
    → RecoversTable (appended i zone added) es j
