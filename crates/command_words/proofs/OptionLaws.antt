-- One option more behind others.
use Rattle.std.proofs.Common.{◌≡◌, Bool, true, false, cond, List, [], ◌∷◌, ◌++◌, Option, None, refl}
use Rattle.std.specs.Prelude.{◌||◌}
use Rattle.std.specs.Str.{bytes_eq}
use Rattle.command_model.specs.Options.{Word, Setting, is_set, value_in}

first_of : (b set : Bool) (mine rest more : Option Word) → rest ≡ cond set mine more → (first : Option Word) → cond b first rest ≡ cond (b || set) (cond b first mine) more
first_of true set mine rest more is first = refl
first_of false set mine rest more is first = is

-- the value of an option that was given before, or of the last
pub value_push : (name : Word) (xs : List Setting) (s : Setting) → value_in name (xs ++ s ∷ []) ≡ cond (is_set name xs) (value_in name xs) (cond (bytes_eq s.name name) s.value None)
value_push name [] s = refl
value_push name (x ∷ xs) s =
    first_of (bytes_eq x.name name) (is_set name xs) (value_in name xs) (value_in name (xs ++ s ∷ [])) (cond (bytes_eq s.name name) s.value None) (value_push name xs s) x.value
