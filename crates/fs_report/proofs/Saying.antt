-- What is said piece by piece, as one text.
use Rattle.std.specs.Prelude.{◌≡◌, ℕ, List, ◌++◌}
use Rattle.std.proofs.Common.{◌∙◌, ap, sym, append_assoc}

-- a text, and another behind it
pub said : (w0 w1 w2 a b : List ℕ) → w1 ≡ w0 ++ a → w2 ≡ w1 ++ b → w2 ≡ w0 ++ (a ++ b)
said w0 w1 w2 a b e f = f ∙ ap (λ w. w ++ b) e ∙ append_assoc w0 a b

-- a text, and two others behind it
pub said_two : (w0 w1 w2 a b c : List ℕ) → w1 ≡ w0 ++ a → w2 ≡ w1 ++ (b ++ c) → w2 ≡ w0 ++ (a ++ b ++ c)
said_two w0 w1 w2 a b c e f = said w0 w1 w2 a (b ++ c) e f ∙ ap (λ x. w0 ++ x) (sym (append_assoc a b c))
