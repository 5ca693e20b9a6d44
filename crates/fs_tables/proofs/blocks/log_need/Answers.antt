use Rattle.std.proofs.Common.{◌≡◌, ◌≤◌, length, max, ap, sym, ◌∙◌, arith}
use Rattle.record_model.specs.Encoding.{payload_of}
use Rattle.record_model.specs.declared.types.Record.TheVariants.{Snapshot}
use Rattle.log_model.specs.Headroom.{greatest_blocks, log_need}
use Rattle.log_model.specs.LogScan.{blocks_of}
use Rattle.extent_map.proofs.LengthLaws.{greatest_in_blocks}
use Rattle.fs_tables.proofs.blocks.log_need.Goals as goal

pub returns : goal.returns
unfolding log_need
returns c = λ es snap long.
    let block = c.args.block in
    let enough : 8 ≤ block = omega arith in
    let great : greatest_blocks block es ≡ max 1 (blocks_of block c.args.longest) = greatest_in_blocks block es enough ∙ ap (λ n. max 1 (blocks_of block n)) (sym long) in
    let whole : blocks_of block c.args.snapshot ≡ blocks_of block (length (payload_of (Snapshot es))) = ap (blocks_of block) snap in
    omega (arith, great, whole)
