-- Fields of text, and the tests of text.
use Rattle.std.proofs.Common.{◌≡◌, ℕ, ◌<◌, Bool, true, false, ◌&&◌, List, ◌++◌, length, take, drop, replicate, Some, None, IsTrue, position, ◌==◌, if◌then◌else◌, refl, sym, ap, subst, ◌∙◌}
use Rattle.std.proofs.Math.Seq.{take-append_seam, take-length}
use Rattle.std.proofs.lemmas.List.{drop-replicate}
use Rattle.std.specs.Option.{option_and_then}
use Rattle.std.specs.List.{list_all}
use Rattle.std.specs.Str.{IsUtf8, is_utf8}
use Rattle.std.proofs.lemmas.Str.{IsUtf8-from_is_utf8, is_utf8-from_IsUtf8}
use Rattle.record_model.specs.Name.{is_printable, is_text}
use Rattle.superblock_core.specs.Text.{padded, text_of, text_in, FitsField}

-- bytes that are text by their coding are text by their values
pub is_text-of_utf8 : (bytes : List ℕ) (printable : Bool) → IsUtf8 bytes → printable ≡ list_all is_printable bytes → printable ≡ is_text bytes
is_text-of_utf8 bytes printable utf8 is = is ∙ ap (λ b. b && list_all is_printable bytes) (sym (is_utf8-from_IsUtf8 bytes utf8))

false_from : (b : Bool) → (b ≡ true → ⊥) → false ≡ b
false_from true h = absurd (h refl)
false_from false h = refl

pub is_text-of_no_utf8 : (bytes : List ℕ) → ¬ (IsUtf8 bytes) → false ≡ is_text bytes
is_text-of_no_utf8 bytes none =
    ap (λ b. b && list_all is_printable bytes) (false_from (is_utf8 bytes) (λ is. none (IsUtf8-from_is_utf8 bytes is)))

pub text_in-at : (field : List ℕ) (end : ℕ) (text : Bool) → position (λ b. b == 0) field ≡ Some end → is_text (take end field) ≡ text
    → text_in field ≡ (if text then Some (take end field) else None)
text_in-at field end text at is =
    ap (λ o. option_and_then (λ e. text_of (take e field)) o) at ∙ ap (λ b. if b then Some (take end field) else None) is

pub text_in-none : (field : List ℕ) → position (λ b. b == 0) field ≡ None → text_in field ≡ None
text_in-none field at = ap (λ o. option_and_then (λ e. text_of (take e field)) o) at

-- a field as it is made: the text, and then zeros
pub padded-of_text : (n : ℕ) (text : List ℕ) → FitsField n text
    → (length text ≡ length (take (length text) (text ++ drop (length text) (replicate n 0))))
    × (text ++ drop (length text) (replicate n 0) ≡ padded n (take (length text) (text ++ drop (length text) (replicate n 0))))
    × FitsField n (take (length text) (text ++ drop (length text) (replicate n 0)))
padded-of_text n text fits =
    let seam : take (length text) (text ++ drop (length text) (replicate n 0)) ≡ text = take-append_seam text (drop (length text) (replicate n 0)) in
    let field : text ++ drop (length text) (replicate n 0) ≡ padded n text = ap (λ zeros. text ++ zeros) (drop-replicate (length text) n 0) in
    (ap length (sym seam), field ∙ ap (padded n) (sym seam), subst (FitsField n) (sym seam) fits)

-- a text of the language is text, if it has no control character
pub is_text-of_str : (bytes : List ℕ) → IsUtf8 bytes → list_all is_printable bytes ≡ true → IsTrue (is_text bytes)
is_text-of_str bytes utf8 printable = sym (sym printable ∙ is_text-of_utf8 bytes (list_all is_printable bytes) utf8 refl)

first_true : (a b : Bool) → IsTrue (a && b) → a ≡ true
first_true true b h = refl
first_true false b h = h

-- text is text of the language
pub utf8-of_text : (bytes : List ℕ) → IsTrue (is_text bytes) → IsUtf8 bytes
utf8-of_text bytes text = IsUtf8-from_is_utf8 bytes (first_true (is_utf8 bytes) (list_all is_printable bytes) text)

-- printable text of the language fits a field that is longer
pub FitsField-of_str : (n : ℕ) (bytes text : List ℕ) → bytes ≡ text → IsUtf8 bytes → length text < n → list_all is_printable text ≡ true → FitsField n bytes
FitsField-of_str n bytes text same utf8 short printable = record {
  text = is_text-of_str bytes utf8 (ap (list_all is_printable) same ∙ printable);
  room = subst (λ (l : List ℕ). length l < n) (sym same) short;
}

-- a list that is taken whole
pub taken_whole : (xs : List ℕ) (n : ℕ) → length xs ≡ n → xs ≡ take n xs
taken_whole xs n is = sym (ap (λ k. take k xs) (sym is) ∙ take-length xs)
