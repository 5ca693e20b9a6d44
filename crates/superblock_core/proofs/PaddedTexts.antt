-- A field of text that is read as it was written.
use Rattle.std.proofs.Common.{◌≡◌, ℕ, suc, ◌-◌, Bool, true, false, not, ◌&&◌, List, [], ◌∷◌, ◌++◌, length, replicate, Some, None, nat_lt, ◌==◌, if◌then◌else◌, refl, ap, ◌∙◌, arith, length-append}
use Rattle.std.proofs.lemmas.Bool.Decides.{nat_tests}
use Rattle.std.specs.Str.{is_utf8}
use Rattle.std.specs.List.{list_all, prefix_len, position}
use Rattle.std.proofs.Math.Seq.{take-append_seam}
use Rattle.record_model.specs.Name.{is_printable, is_text}
use Rattle.superblock_core.specs.Text.{padded, text_in, FitsField}
use Rattle.superblock_core.proofs.Fields.{text_in-at}

both_true : (a b : Bool) → (a && b) ≡ true → (a ≡ true) × (b ≡ true)
both_true true b h = (refl, h)
both_true false b h = absurd (cc)

not_zero : (b : ℕ) → is_printable b ≡ true → (b == 0) ≡ false
not_zero b h = grind (arith, nat_tests)

-- printable bytes are no zeros: the first zero is behind them
prefix_len-printable : (text back : List ℕ) → list_all is_printable text ≡ true → prefix_len (λ b. not (b == 0)) (text ++ 0 ∷ back) ≡ length text
prefix_len-printable [] back printable = refl
prefix_len-printable (b ∷ text) back printable =
    let parts = both_true (is_printable b) (list_all is_printable text) printable in
    let first = not_zero b parts.0 in
    let rest = prefix_len-printable text back parts.1 in
    rw first (omega (arith, rest))

position-padded : (text back : List ℕ) → list_all is_printable text ≡ true → position (λ b. b == 0) (text ++ 0 ∷ back) ≡ Some (length text)
position-padded text back printable =
    let end = prefix_len-printable text back printable in
    let within : nat_lt (length text) (length (text ++ 0 ∷ back)) ≡ true = grind (arith, nat_tests, length-append text (0 ∷ back)) in
    ap (λ k. if nat_lt k (length (text ++ 0 ∷ back)) then Some k else None) end
    ∙ ap (λ (b : Bool). if b then Some (length text) else None) within

pub text_in-padded : (n : ℕ) (text : List ℕ) → FitsField n text → text_in (padded n text) ≡ Some text
text_in-padded n text fits =
    let zeros : n - length text ≡ suc (n - length text - 1) = omega (arith, fits.room) in
    let field : padded n text ≡ text ++ 0 ∷ replicate (n - length text - 1) 0 = ap (λ k. text ++ replicate k 0) zeros in
    let seam = take-append_seam text (0 ∷ replicate (n - length text - 1) 0) in
    let printable = (both_true (is_utf8 text) (list_all is_printable text) fits.text).1 in
    ap text_in field
    ∙ text_in-at (text ++ 0 ∷ replicate (n - length text - 1) 0) (length text) true (position-padded text (replicate (n - length text - 1) 0) printable)
    (ap is_text seam ∙ fits.text)
    ∙ ap Some seam
