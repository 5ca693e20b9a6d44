-- The test answers true exactly where the bytes are text.
use Rattle.std.proofs.Common.{◌≡◌, ℕ, Bool, true, false, List, Result, Ok, Err, MatchResult, refl, sym, ◌∙◌}
use Rattle.std.specs.Result.{is_ok}
use Rattle.std.specs.Str.{IsUtf8, is_utf8}
use Rattle.std.proofs.lemmas.Str.{IsUtf8-from_is_utf8, is_utf8-from_IsUtf8}
use Rattle.record_model.proofs.name.is_utf8.Goals as goal

false_from : (b : Bool) → (b ≡ true → ⊥) → false ≡ b
false_from true h = absurd (h refl)
false_from false h = refl

is_ok_of : {T E : Type 0} (bytes : List ℕ) (P : T → Type 0) (Q : E → Type 0) (r : Result T E)
    → MatchResult r (λ x. P x × IsUtf8 bytes) (λ e. ¬ (IsUtf8 bytes) × Q e) → is_ok r ≡ is_utf8 bytes
is_ok_of bytes P Q (Ok x) h = sym (is_utf8-from_IsUtf8 bytes h.1)
is_ok_of bytes P Q (Err e) h = false_from (is_utf8 bytes) (λ is. h.0 (IsUtf8-from_is_utf8 bytes is))

pub returns : goal.returns
returns c = c.is_ok.ensures.value ∙ is_ok_of _ _ _ _ c.from_utf8.ensures.cases
