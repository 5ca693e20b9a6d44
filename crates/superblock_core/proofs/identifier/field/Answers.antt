use Rattle.std.proofs.Common.{rules, ◌∙◌, sym, ap, length}
use Rattle.superblock_core.proofs.IdentifierText.{length-uuid_text, padded-text, written-text}
use Rattle.superblock_core.proofs.identifier.field.Goals as goal

pub copy_from_slice-requires : goal.copy_from_slice-requires
copy_from_slice-requires c =
    let text = written-text c.args.id _ _ c.encode_lower-text.ensures.text (c.hyphenated.ensures ∙ c.from_u128.ensures) in
    sym (ap length (c.as_bytes.ensures.value ∙ text) ∙ length-uuid_text c.args.id)

pub returns-clause-text : goal.returns-clause-text
returns-clause-text c =
    let text = written-text c.args.id _ _ c.encode_lower-text.ensures.text (c.hyphenated.ensures ∙ c.from_u128.ensures) in
    padded-text c.args.id c.copy_from_slice.new.self (search rules)
