-- Numbers to the right in twelve places.
use Rattle.std.proofs.Common.{◌≡◌, ℕ, ◌-◌, ◌^◌, lit<, false, List, [], ◌∷◌, ◌++◌, length, ap, ◌∙◌, refl, arith, suc, zero, append-nil}
use Rattle.std.specs.Prelude.{replicate, encode_utf8}
use Rattle.std.specs.List.{repeat}
use Rattle.std.specs.Fmt.{padded_integral, format_spec, char_count}
use Rattle.std.proofs.lemmas.Str.{encode_ascii}

-- a space
space : encode_utf8 32 ≡ 32 ∷ []
space = encode_ascii 32 (lit< tt)

-- so many spaces
spaces : (n : ℕ) → repeat n (encode_utf8 32) ≡ replicate n 32
spaces zero = refl
spaces (suc n) = ap (λ s. s ++ repeat n (encode_utf8 32)) space ∙ ap (λ s. 32 ∷ s) (spaces n)

-- no spaces
no_spaces : (n : ℕ) → repeat (n - n) (encode_utf8 32) ≡ []
no_spaces n = let none : n - n ≡ 0 = omega arith in rw none refl

-- what stands before and behind the digits
padded_by : (p : ℕ) (xs : List ℕ) → (repeat p (encode_utf8 32) ++ [] ++ [] ++ []) ++ (xs ++ repeat (p - p) (encode_utf8 32)) ≡ replicate p 32 ++ xs
padded_by p xs = simp (spaces p, no_spaces p, append-nil) refl

pub padded_right : (xs : List ℕ) → padded_integral (format_spec 32 3 0 12 (2 ^ 64 - 1)) false [] xs ≡ replicate (12 - length xs) 32 ++ xs
unfolding padded_integral char_count
padded_right xs = let none : 12 - length xs - 0 - 0 ≡ 12 - length xs = omega arith in padded_by (12 - length xs - 0 - 0) xs ∙ ap (λ p. replicate p 32 ++ xs) none
