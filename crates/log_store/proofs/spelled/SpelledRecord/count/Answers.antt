use Rattle.std.proofs.Common.{ap, length, sym, ◌∙◌}
use Rattle.zone_image.proofs.BlockLaws.{length-chunks}
use Rattle.log_store.specs.Spelled.{SpelledBlocks}
use Rattle.log_store.proofs.spelled.SpelledRecord.count.Goals as goal

pub returns-clause-exact : goal.returns-clause-exact
returns-clause-exact c =
    let r = c.self.inside in
    sym (length-chunks r.block r.count r.bytes) ∙ ap (λ (s : SpelledBlocks). length s.blocks) c.self.view_is
