use Rattle.std.proofs.Common.{◌≡◌, ℕ, ◌+◌, ◌++◌, [], ◌∷◌, take, sum_by, sym, ◌∙◌, ap, subst, arith}
use Rattle.std.specs.List.{All}
use Rattle.std.proofs.lemmas.List.{take_more}
use Rattle.record_model.specs.declared.types.Extent.{Extent}
use Rattle.record_model.specs.declared.types.FileEntry.{FileEntry}
use Rattle.log_model.specs.FileTable.{size_of}
use Rattle.fs_model.specs.FsState.{touched}
use Rattle.zone_alloc.specs.ZoneTableState.{IsInDataZone}
use Rattle.mount_replay.specs.Filling.{Entered, marked_all}
use Rattle.mount_replay.proofs.EnteringLaws.{file_more}
use Rattle.mount_replay.proofs.FilledLaws.{all_of_file, file_fits}
use Rattle.mount_replay.proofs.filling.enter_files.Goals as goal

pub enter_extents-requires-clause-lie : goal.enter_extents-requires-clause-lie
enter_extents-requires-clause-lie c =
    let e : FileEntry = c.file-item.result in
    subst (All (IsInDataZone c.args.geometry.now)) (sym (c.items.ensures ∙ ap (λ (f : FileEntry). f.extents) c.file-item.is))
    (all_of_file (IsInDataZone c.args.geometry.now) c.args.files.now c.loop-file.file-index e c.loop-file-test.true c.requires.lie)

pub enter_extents-requires-clause-blocks : goal.enter_extents-requires-clause-blocks
enter_extents-requires-clause-blocks c =
    let w : Extent → ℕ = touched c.args.geometry.now.block in
    let here = ap (sum_by w) (c.items.ensures ∙ ap (λ (f : FileEntry). f.extents) c.file-item.is) in
    omega (arith, here, c.loop-file.invariant.blocks, file_fits w c.args.files.now c.loop-file.file-index c.file-item.result c.loop-file-test.true, c.requires.blocks)

pub enter_extents-requires-clause-bytes : goal.enter_extents-requires-clause-bytes
enter_extents-requires-clause-bytes c =
    let w : Extent → ℕ = λ x. x.len in
    let here = ap (sum_by w) (c.items.ensures ∙ ap (λ (f : FileEntry). f.extents) c.file-item.is) in
    omega (arith, here, c.loop-file.invariant.bytes, file_fits w c.args.files.now c.loop-file.file-index c.file-item.result c.loop-file-test.true, c.requires.bytes)

pub loop-file-preserved : goal.loop-file-preserved
loop-file-preserved c =
    let g = c.args.geometry.now in
    let es = c.args.files.now in
    let i : ℕ = c.loop-file.file-index in
    let e : FileEntry = c.file-item.result in
    let more : take (i + 1) es ≡ take i es ++ e ∷ [] = take_more es i e c.loop-file-test.true ∙ ap (λ (f : FileEntry). take i es ++ f ∷ []) (sym c.file-item.is) in
    file_more g es i e c.args.starts.now c.loop-file.starts c.enter_extents.new.starts c.args.zones.now c.loop-file.zones c.enter_extents.new.zones more c.loop-file.invariant
    (subst (λ xs. Entered g (λ n m. marked_all g n e.hint xs m) (sum_by (touched g.block) xs) (size_of xs) c.loop-file.starts c.loop-file.zones c.enter_extents.new.starts c.enter_extents.new.zones) c.items.ensures c.enter_extents.ensures)
