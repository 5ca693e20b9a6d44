-- Texts that are written piece by piece.
use Rattle.std.proofs.Common.{◌≡◌, ℕ, ◌+◌, ◌-◌, List, ◌++◌, length, take, drop, ap, sym, ◌∙◌, append_assoc}
use Rattle.std.proofs.lemmas.List.{take_rest}
use Rattle.std.proofs.Math.Seq.{take-add}

-- first bytes of what is left, behind the first bytes of a text
pub front_more : (old so_far new text : List ℕ) (at n : ℕ) → so_far ≡ old ++ take at text → new ≡ so_far ++ take n (take (length text - at) (drop at text)) → new ≡ old ++ take (at + n) text
front_more old so_far new text at n is more =
    more
    ∙ ap (λ rest. so_far ++ take n rest) (take_rest text at)
    ∙ ap (λ front. front ++ take n (drop at text)) is
    ∙ append_assoc old (take at text) (take n (drop at text))
    ∙ ap (λ rest. old ++ rest) (sym (take-add at n text))
