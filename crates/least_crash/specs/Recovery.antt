-- The tree that a crash leaves of an image at rest, with what is found again in durable blocks.
use Rattle.std.specs.Prelude.{◌⊎◌, ℕ, List, map}
use Rattle.zone_image.specs.Image.{Image, IsCrash}
use Rattle.zone_image.specs.Changes.{appended}
use Rattle.zone_image.specs.Infos.{IsValidImage}
use Rattle.zone_image.specs.Moments.{PassedByAppend}
use Rattle.record_model.specs.declared.types.Record.{Record}
use Rattle.log_model.specs.LogScan.{record_blocks}
use Rattle.log_model.specs.LogSelection.{LogAt}
use Rattle.log_model.specs.FileTable.{Table}
use Rattle.log_model.specs.FileTree.{Tree, RecoversTo}
use Rattle.log_model.specs.Mounted.{MountsTo, recovered_entry, tree_of}
use Rattle.crash_cover.specs.AtRest.{IsAtRest, AddsRecord}
use Rattle.crash_cover.specs.Pinned.{IsPinned}
use Rattle.crash_cover.specs.Recovery.{standing_bytes}
use Rattle.least_crash.specs.Least.{least_crash}

-- a table with what is found of its files, as a tree
abbrev pub found_tree : Image → Table → Tree
found_tree i es = tree_of i (map (recovered_entry i) es)

-- the tree that the crash which loses the most leaves of a table
abbrev pub least_tree : Image → Table → Tree
least_tree i es = found_tree (least_crash i) es

-- an image mounts to what a crash may leave of a table: what durable blocks have, and of sparse files at most what stood
pub record RecoversTable (i : Image) (es : Table) (j : Image) : Type 0 where
  pub tree : Tree
  pub mounts : MountsTo j tree
  pub recovers : RecoversTo tree (least_tree i es) (standing_bytes i es)

-- whatever a crash leaves of an image at rest
abbrev pub CrashRecovers : Type 0
CrashRecovers = (i j : Image) (log : LogAt) (greatest : ℕ) (es : Table) → IsAtRest i log greatest es → IsCrash i j → RecoversTable i es j

-- a crash within the append of a record to the log of an image at rest: the table before it, or the one after it
abbrev pub RecordMomentRecovers : Type 0
RecordMomentRecovers = (i j : Image) (log : LogAt) (greatest : ℕ) (payload : List ℕ) (r : Record) (es next : Table) → IsAtRest i log greatest es
    → AddsRecord i log payload r es next → IsPinned i next → IsValidImage (appended i log.zone (record_blocks i.geometry.block payload))
    → PassedByAppend i log.zone (record_blocks i.geometry.block payload) j → RecoversTable i es j ⊎ RecoversTable i next j
