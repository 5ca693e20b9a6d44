use Rattle.std.proofs.Common.{◌∙◌, arith}
use Rattle.fs_core.proofs.NewLogs.{few_blocks, payload_fits}
use Rattle.fs_core.proofs.beginning.settle.Goals as goal

pub log_blocks-blocks-requires-clause-room : goal.log_blocks-blocks-requires-clause-room
log_blocks-blocks-requires-clause-room g c =
    let s = c.args.tables.now.state in
    let sound = c.valid.ensures.sound in
    let fits = payload_fits s c.geometry.result c.items.result.now sound c.requires.may c.geometry.ensures.value (c.items.ensures ∙ c.requires.ready.payload) in
    omega (arith, fits, few_blocks s sound)

pub settle_tables-requires-clause-room : goal.settle_tables-requires-clause-room
settle_tables-requires-clause-room g c =
    let s = c.args.tables.now.state in
    let fits = payload_fits s c.geometry.result c.items.result.now c.valid.ensures.sound c.requires.may c.geometry.ensures.value (c.items.ensures ∙ c.requires.ready.payload) in
    omega (arith, fits, c.log_blocks-blocks.ensures)

pub returns-in-Ok-clause-stands : goal.returns-in-Ok-clause-stands
returns-in-Ok-clause-stands g c = λ told. c.in-Ok.ensures.stands told c.settle_tables.new.tables.state c.settle_tables.ensures.becomes
