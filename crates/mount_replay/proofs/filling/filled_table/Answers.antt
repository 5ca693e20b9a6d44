use Rattle.std.proofs.Common.{sum_by, refl, ◌∙◌, arith, rules}
use Rattle.log_model.specs.FileTable.{size_of}
use Rattle.log_model.specs.Mounted.{all_extents}
use Rattle.fs_model.specs.FsState.{touched}
use Rattle.zone_alloc.proofs.TableLaws.{none_live_in}
use Rattle.mount_replay.proofs.EnteringLaws.{touched_sum}
use Rattle.mount_replay.proofs.FilledLaws.{unused_marks, filled_is}
use Rattle.mount_replay.proofs.FrameWalks.{block_positive}
use Rattle.mount_replay.proofs.filling.filled_table.Goals as goal

pub enter_files-requires-clause-marks : goal.enter_files-requires-clause-marks
enter_files-requires-clause-marks c =
    unused_marks c.args.geometry.now c.args.collect c.args.infos.items c.deref_mut.result.now c.in_ok-zones.zones c.requires.possible.count
    (c.deref_mut.ensures.value ∙ c.in_ok-starts.ensures.items_if_clones_equal (λ y same. search rules)) c.in_ok-zones.ensures

pub enter_files-requires-clause-blocks : goal.enter_files-requires-clause-blocks
enter_files-requires-clause-blocks c =
    let g = c.args.geometry.now in
    omega (
      arith,
      none_live_in (λ z. z.live) (λ info. refl) g c.args.collect c.args.infos.items c.in_ok-zones.zones c.in_ok-zones.ensures,
      touched_sum g (all_extents c.args.files.now) (block_positive g c.requires.possible.valid) c.requires.lie,
      c.requires.fits,
    )

pub enter_files-requires-clause-bytes : goal.enter_files-requires-clause-bytes
enter_files-requires-clause-bytes c =
    let g = c.args.geometry.now in
    omega (arith, none_live_in (λ z. z.live_bytes) (λ info. refl) g c.args.collect c.args.infos.items c.in_ok-zones.zones c.in_ok-zones.ensures, c.requires.fits)

pub returns : goal.returns
returns c =
    let g = c.args.geometry.now in
    let es = c.args.files.now in
    filled_is g c.args.collect c.args.infos.items es (sum_by (touched g.block) (all_extents es)) (size_of (all_extents es)) c.deref_mut.result.now c.enter_files.new.starts c.in_ok-zones.zones c.enter_files.new.zones c.requires.possible.count
    (c.deref_mut.ensures.value ∙ c.in_ok-starts.ensures.items_if_clones_equal (λ y same. search rules)) c.in_ok-zones.ensures c.enter_files.ensures
