use Rattle.std.proofs.Common.{◌≡◌, length, ap, arith}
use Rattle.record_model.specs.Encoding.{payload_of}
use Rattle.record_model.specs.declared.types.Record.TheVariants.{Snapshot}
use Rattle.log_model.specs.Headroom.{change_need}
use Rattle.log_model.specs.LogScan.{blocks_of}
use Rattle.fs_tables.proofs.blocks.change_need.Goals as goal

pub returns : goal.returns
unfolding change_need
returns c = λ es snap.
    let block = c.args.block in
    let whole : blocks_of block c.args.snapshot ≡ blocks_of block (length (payload_of (Snapshot es))) = ap (blocks_of block) snap in
    omega (arith, whole)
