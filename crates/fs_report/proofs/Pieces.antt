-- Texts that grow piece by piece.
use Rattle.std.proofs.Common.{◌≡◌, ℕ, List, ◌++◌, ap, ◌∙◌}
use Rattle.std.specs.Int.{w128, to_be_bytes}
use Rattle.uuid.specs.Text.{hyphenated_text, lower}
use Rattle.superblock_core.specs.Superblock.{uuid_text}

-- two pieces behind a text
pub two_more : (old a b mid new : List ℕ) → mid ≡ old ++ a → new ≡ mid ++ b → new ≡ old ++ a ++ b
two_more old a b mid new first second = second ∙ ap (λ t. t ++ b) first

-- the text of the bytes of a number is the identifier's
pub written_identifier : (id : ℕ) (bytes text : List ℕ) → text ≡ hyphenated_text lower bytes → bytes ≡ to_be_bytes w128 id → text ≡ uuid_text id
unfolding uuid_text
written_identifier id bytes text is of = is ∙ ap (hyphenated_text lower) of
