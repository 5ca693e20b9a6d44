use Rattle.std.proofs.Common.{ℕ, ◌+◌, ◌-◌, ◌%◌, ◌∙◌, ap, inr}
use Rattle.extent_reader.proofs.BlockBytes.{to_the_end}
use Rattle.extent_reader.proofs.zones.begun_part.Goals as goal

pub returns-else-len-left-clause-then_whole : goal.returns-else-len-left-clause-then_whole
returns-else-len-left-clause-then_whole c =
    let block : ℕ = c.args.geometry.now.block in
    inr (ap (λ (n : ℕ). (c.args.place.offset + n) % block) (ap (λ (n : ℕ). n - c.args.place.offset % c.from.result) c.from-2.ensures ∙ ap (λ (n : ℕ). block - c.args.place.offset % n) c.from.ensures)
    ∙ to_the_end c.args.place.offset block c.requires)
