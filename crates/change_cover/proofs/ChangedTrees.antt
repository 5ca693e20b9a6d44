-- The tree that is shown after a change of names.
use Rattle.std.specs.Prelude.{◌≡◌, false, List}
use Rattle.std.proofs.Common.{◌∙◌, ap, sym, subst}
use Rattle.zone_image.specs.Image.{Image}
use Rattle.log_model.specs.FileTree.{RecoversTo, apply, bytes_in}
use Rattle.log_model.specs.Mounted.{tree_of}
use Rattle.fs_model.specs.FsState.{FsState, TableRow}
use Rattle.fs_model.specs.CrashClauses.{shown_tree}
use Rattle.crash_cover.proofs.RestLaws.{avoids_nothing}
use Rattle.change_records.specs.Recorded.{entries}
use Rattle.change_cover.specs.Rests.{Stands}
use Rattle.change_cover.specs.SameTrees.{KeepsBlocks}
use Rattle.change_cover.specs.Stored.{IsChange, ChangeIsShown, LeftAfterChange}
use Rattle.log_model.specs.FileTree.{Change}
use Rattle.record_model.specs.declared.types.Record.{Record}
use Rattle.change_cover.proofs.ByteCounts.{unbroken_written}
use Rattle.change_cover.proofs.LeftTrees.{change_accepts, from_one, of_one}
use Rattle.change_cover.proofs.SameTreeLaws.{tree_kept}
use Rattle.change_cover.proofs.ShownTrees.{rest_shows_recorded, rest_mounts_shown}

-- the rows after the change are the same tree on the image before it
shown_before : (i j : Image) (s next : FsState) (c : Change) (r : Record) (after : List TableRow) → Stands i s → IsChange s c r after → Stands j next → next.rows ≡ after
    → KeepsBlocks (λ _. false) i j → shown_tree j next ≡ tree_of i (entries after)
shown_before i j s next c r after here is there rows keeps =
    rest_shows_recorded j next there.rests there.shown
    ∙ (ap (λ rs. tree_of j (entries rs)) rows
    ∙ tree_kept (λ _. false) i j keeps (entries after) (unbroken_written i (entries after) (is.adds.pinned i here.rests.rest.pinned).unbroken) (avoids_nothing i (entries after)).extents)

pub change_is_shown : ChangeIsShown
change_is_shown i j s next c r after here is there rows keeps =
    shown_before i j s next c r after here is there rows keeps
    ∙ (is.names.changed i ∙ ap (apply c) (sym (rest_shows_recorded i s here.rests here.shown)))

pub left_after_change : LeftAfterChange
left_after_change i j k s next c r after here is there rows keeps left w mounts =
    let found = left (shown_tree j next) (rest_mounts_shown j next there) in
    let few = from_one (λ tree. RecoversTo found.0 tree (λ id. bytes_in id (shown_tree j next))) (shown_tree j next) found.2 in
    let same = subst (λ tree. RecoversTo found.0 tree (λ id. bytes_in id tree)) (shown_before i j s next c r after here is there rows keeps) few in
    (found.0, found.1, of_one (λ tree. RecoversTo found.0 tree (λ id. bytes_in id w)) (apply c (shown_tree i s)) (change_accepts i s c after found.0 w here is.names mounts same))
