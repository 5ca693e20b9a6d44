use Rattle.std.proofs.Common.{◌-◌, ◌∷◌, length, map, take, drop, sym, ◌∙◌, ap, arith}
use Rattle.std.specs.Prelude.{string_bytes}
use Rattle.command_model.specs.Options.{Word}
use Rattle.command_words.specs.Shapes.{verb_meant}
use Rattle.command_words.proofs.SplitLaws.{first_word, command_of_words}
use Rattle.command_words.proofs.reading.command_of.Goals as goal

pub returns-in_ok-verb-in-len1-up : goal.returns-in_ok-verb-in-len1-up
returns-in_ok-verb-in-len1-up c =
    let words = c.args.words.now in
    let rest = map string_bytes (take (length words - 1) (drop 1 words)) in
    let first = ap string_bytes (sym c.word-item.is) ∙ sym c.as_str.ensures.value in
    c.command_after.ensures
    ∙ sym (command_of_words (map string_bytes words) c.as_str.result.now rest (verb_meant c.in_ok-verb-in-len1-up.verb)
    (first_word string_bytes words c.word-item.result (omega (arith, c.in-len1-up.len_at_least)) ∙ ap (λ (w : Word). w ∷ rest) first) c.in_ok-verb-in-len1-up.ensures)
