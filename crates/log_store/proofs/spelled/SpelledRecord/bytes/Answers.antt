use Rattle.std.proofs.Common.{◌≡◌, ◌*◌, ap, length, sym, subst, ◌∙◌}
use Rattle.zone_image.specs.Changes.{chunks}
use Rattle.zone_image.proofs.BlockLaws.{length-chunks}
use Rattle.log_store.specs.Spelled.{SpelledBlocks}
use Rattle.log_store.proofs.spelled.SpelledRecord.bytes.Goals as goal

pub returns-clause-whole : goal.returns-clause-whole
returns-clause-whole c =
    let r = c.self.inside in
    subst (λ (s : SpelledBlocks). length c.items.result.now ≡ length s.blocks * s.block) c.self.view_is
    (ap (λ bs. length bs) c.items.ensures ∙ (c.self.invariant.1 ∙ ap (λ n. n * r.block) (sym (length-chunks r.block r.count r.bytes))))

pub returns-clause-blocks : goal.returns-clause-blocks
returns-clause-blocks c =
    let r = c.self.inside in
    subst (λ (s : SpelledBlocks). chunks s.block (length s.blocks) c.items.result.now ≡ s.blocks) c.self.view_is
    (ap (λ n. chunks r.block n c.items.result.now) (length-chunks r.block r.count r.bytes) ∙ ap (λ bs. chunks r.block r.count bs) c.items.ensures)
