use Rattle.std.proofs.Common.{◌≡◌, ap, ◌∙◌, arith}
use Rattle.log_model.specs.Headroom.{blocks_of_record, change_need, log_need}
use Rattle.log_model.specs.LogScan.{blocks_of}
use Rattle.fs_tables.proofs.blocks.need_of.Goals as goal

pub returns-clause-blocks : goal.returns-clause-blocks
returns-clause-blocks c = λ r after l. c.blocks_of-blocks.ensures.blocks ∙ ap (blocks_of c.args.block) l.change

pub returns-clause-need : goal.returns-clause-need
returns-clause-need c = λ es after r before l.
    let block = c.args.block in
    let blocks : c.blocks_of-blocks.result ≡ blocks_of_record block r = c.blocks_of-blocks.ensures.blocks ∙ ap (blocks_of block) l.change in
    let whole : c.log_need-after.result ≡ log_need block after = c.log_need-after.ensures after l.snapshot l.longest in
    let change : c.change_need.result ≡ change_need block es (blocks_of_record block r) = c.change_need.ensures es before ∙ ap (change_need block es) blocks in
    omega (arith, whole, change)
