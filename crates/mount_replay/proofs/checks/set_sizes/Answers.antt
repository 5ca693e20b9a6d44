use Rattle.std.proofs.Common.{◌≡◌, ℕ, ◌<◌, length, get_or, set, ◌∙◌, ap, arith}
use Rattle.std.proofs.lemmas.List.{get_or_default}
use Rattle.std.proofs.lemmas.List.Edits.{map_over_more}
use Rattle.record_model.specs.declared.types.Extent.{Extent}
use Rattle.record_model.specs.declared.types.FileEntry.{FileEntry}
use Rattle.log_model.specs.FileTable.{Table, size_of}
use Rattle.mount_replay.specs.Recovering.{sized}
use Rattle.mount_replay.proofs.FilledLaws.{file_fits}
use Rattle.mount_replay.proofs.FoundLaws.{next_unchanged}
use Rattle.mount_replay.proofs.checks.set_sizes.Goals as goal

pub set_size-requires : goal.set_size-requires
set_size-requires c =
    let xs = c.args.files.now in
    let i : ℕ = c.loop-i.i in
    let d : FileEntry = c.index-files-i.result in
    let lt : i < length xs = c.loop-i-test.true in
    let here : get_or c.loop-i.files i d ≡ get_or xs i d = ap (λ (es : Table). get_or es i d) c.loop-i.invariant ∙ next_unchanged sized xs i d lt in
    let same : size_of (get_or c.loop-i.files i d).extents ≡ size_of (get_or xs i d).extents = ap (λ (e : FileEntry). size_of e.extents) here in
    omega (arith, same, file_fits (λ (x : Extent). x.len) xs i d lt, c.requires)

pub loop-i-preserved : goal.loop-i-preserved
loop-i-preserved c =
    let xs = c.args.files.now in
    let ys = c.loop-i.files in
    let i : ℕ = c.loop-i.i in
    let x : FileEntry = get_or ys i c.index-files-i.result in
    let lt : i < length ys = omega (arith, c.loop-i-test.true, c.loop-i.auto.files) in
    ap (set ys i) c.set_size.ensures ∙ map_over_more sized xs ys i x c.loop-i-test.true c.loop-i.invariant (get_or_default ys i c.index-files-i.result x lt)
