use Rattle.std.proofs.lemmas.Bool.{false≢true}
use Rattle.superblock_core.proofs.IdentifierText.{no_identifier}
use Rattle.superblock_core.proofs.identifier.from_text.Goals as goal

pub returns-in-Err : goal.returns-in-Err
returns-in-Err c = no_identifier c.args.text.now c.requires (λ u is. absurd (false≢true (c.in-Err.ensures.ok.1 (u, is))))
