-- The tree that is shown where the image is at rest.
use Rattle.std.specs.Prelude.{◌≡◌, drop, map, Ok}
use Rattle.std.proofs.Common.{◌∙◌, ap, sym}
use Rattle.zone_image.specs.Image.{Image}
use Rattle.log_model.specs.FileTable.{Table}
use Rattle.log_model.specs.Mounted.{recovered_entry, tree_of}
use Rattle.log_model.proofs.ReplayedSizes.{replayed_sizes_are_right}
use Rattle.fs_model.specs.FsState.{recorded}
use Rattle.fs_model.specs.CrashClauses.{shown_file}
use Rattle.crash_cover.proofs.RestLaws.{rest_mounts, crash_at_rest_mounts}
use Rattle.change_cover.specs.Rests.{HaveNoPoints}
use Rattle.change_cover.specs.ShownTrees.{RestShowsRecorded, RestMountsShown, CrashMountsShown}
use Rattle.change_cover.proofs.ByteCounts.{shown_rows, unbroken_written}
use Rattle.change_cover.proofs.DurableBytes.{crash_tree}
use Rattle.change_cover.proofs.NoPoints.{table_itself}

pub rest_shows_recorded : RestShowsRecorded
rest_shows_recorded i s rests shown =
    ap (map (shown_file i)) shown
    ∙ shown_rows i (recorded s) rests.rest.valid (unbroken_written i (recorded s) rests.rest.pinned.unbroken)
    (replayed_sizes_are_right (drop 1 rests.log.scan.payloads) (recorded s) rests.rest.table.table)

-- the tree that mounts, where nothing is found again
mounted_itself : (i : Image) (es : Table) → HaveNoPoints es → tree_of i (map (recovered_entry i) es) ≡ tree_of i es
mounted_itself i es points = ap (tree_of i) (table_itself i es points)

pub rest_mounts_shown : RestMountsShown
rest_mounts_shown i s stands =
    let rests = stands.rests in
    (rest_mounts i rests.log rests.greatest (recorded s) rests.rest).tree
    ∙ ap (λ t. Ok t) (mounted_itself i (recorded s) stands.points ∙ sym (rest_shows_recorded i s rests stands.shown))

pub crash_mounts_shown : CrashMountsShown
crash_mounts_shown i j s stands crash =
    let rests = stands.rests in
    (crash_at_rest_mounts i j rests.log rests.greatest (recorded s) rests.rest crash).1.tree
    ∙ ap (λ t. Ok t)
    (mounted_itself j (recorded s) stands.points ∙ crash_tree i j (recorded s) rests.rest.valid crash rests.rest.pinned.extents ∙ sym (rest_shows_recorded i s rests stands.shown))
