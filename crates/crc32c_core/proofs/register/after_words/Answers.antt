use Rattle.std.proofs.Common.{ap, sym, ◌∙◌, ◌*◌, ◌+◌, ◌-◌, take, drop}
use Rattle.crc32c_core.specs.Register.{register_after}
use Rattle.crc32c_core.proofs.Lookups.{register_after-nil}
use Rattle.crc32c_core.proofs.Pieces.{register_after-word_more}
use Rattle.crc32c_core.proofs.register.after_words.Goals as goal

pub loop-i-init : goal.loop-i-init
loop-i-init c = sym (register_after-nil c.args.register)

pub loop-i-preserved : goal.loop-i-preserved
loop-i-preserved c =
    c.after_eight-register.ensures
    ∙ ap (λ r. register_after r (take (8 * c.loop-i.i + 8 - 8 * c.loop-i.i) (drop (8 * c.loop-i.i) c.args.words.now))) c.loop-i.invariant
    ∙ sym (register_after-word_more c.args.register c.args.words.now c.loop-i.i)
