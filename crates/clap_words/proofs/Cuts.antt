-- How clap cuts the words of options.
use Rattle.std.proofs.Common.{◌≡◌, ◌∙◌, ℕ, zero, suc, ◌==◌, Bool, true, false, cond, not, ◌&&◌, [], ◌∷◌, ◌++◌, Option, Some, None, refl, ap, subst, bytes_eq, arith}
use Rattle.std.proofs.lemmas.Bool.Decides.{nat_tests}
use Rattle.clap.proofs.CutLemmas.{Lacks}
use Rattle.clap.proofs.LexerLemmas.{name_and_value-at, name_and_value-without}
use Rattle.clap.specs.Lexer.{has_byte, long_of, short_of}
use Rattle.command_model.specs.Options.{Word, Setting, Shape, ◌>>=◌, only_if, before_equals, after_equals, some_value, own_value, takes_value, setting, joined}
use Rattle.clap_words.specs.Told.{dashed}
use Rattle.clap_words.proofs.Lookups.{is_plain_name}
use Rattle.clap_words.proofs.Lookups.{or_parts}

lacks : (name : Word) → has_byte 61 name ≡ false → Lacks 61 name
lacks [] h i lt = absurd (omega arith)
lacks (x ∷ xs) h zero lt =
    let two = or_parts (x == 61) (has_byte 61 xs) h in
    λ e. let bad : (61 == 61) ≡ false = subst (λ (n : ℕ). (n == 61) ≡ false) e two.0 in cc
lacks (x ∷ xs) h (suc i) lt = lacks xs (or_parts (x == 61) (has_byte 61 xs) h).1 i (omega arith)

pub not_true : (b : Bool) → not b ≡ true → b ≡ false
not_true true h = cc
not_true false h = refl

-- a name alone
pub long_name : (name : Word) → is_plain_name name ≡ true → long_of (dashed name) ≡ Some (name, None)
long_name [] plain = cc
long_name (x ∷ xs) plain = ap (λ (p : Word × Option Word). Some p) (name_and_value-without (x ∷ xs) (lacks (x ∷ xs) (not_true (has_byte 61 (x ∷ xs)) plain)))

-- a name and a value behind an equals sign
pub long_joined : (name v : Word) → is_plain_name name ≡ true → long_of (dashed (name ++ 61 ∷ v)) ≡ Some (name, Some v)
long_joined [] v plain = cc
long_joined (x ∷ xs) v plain = ap (λ (p : Word × Option Word). Some p) (name_and_value-at (x ∷ xs) v (lacks (x ∷ xs) (not_true (has_byte 61 (x ∷ xs)) plain)))

-- neither is two hyphens alone
pub more_than_dashes : (name : Word) → is_plain_name name ≡ true → bytes_eq (dashed name) (45 ∷ 45 ∷ []) ≡ false
more_than_dashes [] plain = cc
more_than_dashes (x ∷ xs) plain = refl

pub joined_more : (name v : Word) → bytes_eq (dashed (name ++ 61 ∷ v)) (45 ∷ 45 ∷ []) ≡ false
joined_more [] v = refl
joined_more (x ∷ xs) v = refl

-- a word is what stands before its first equals sign, the sign and the rest
pub rejoined : (w v : Word) → after_equals w ≡ Some v → w ≡ before_equals w ++ 61 ∷ v
rejoined [] v h = cc
rejoined (b ∷ bs) v h = by (b == 61) refl h (rejoined bs v)
  where
    by : (t : Bool) → (b == 61) ≡ t → cond t (Some bs) (after_equals bs) ≡ Some v → (after_equals bs ≡ Some v → bs ≡ before_equals bs ++ 61 ∷ v)
        → b ∷ bs ≡ cond t [] (b ∷ before_equals bs) ++ 61 ∷ v
    by true e h more = let same : b ≡ 61 = grind (arith, nat_tests) in cc
    by false e h more = ap (λ (l : Word). b ∷ l) (more h)

-- a value of its own word is no option
pub record IsOwn (v value : Word) : Type 0 where
  pub same : v ≡ value
  pub dashes : bytes_eq v (45 ∷ 45 ∷ []) ≡ false
  pub long : long_of v ≡ None
  pub short : short_of v ≡ None

pub own : (v value : Word) → own_value v ≡ Some value → IsOwn v value
own [] value h = cc
own (b ∷ bs) value h = by (b == 45) refl h
  where
    by : (t : Bool) → (b == 45) ≡ t → cond t None (Some (b ∷ bs)) ≡ Some value → IsOwn (b ∷ bs) value
    by true e h = cc
    by false e h = record {
      same = cc;
      dashes = ap (λ (t : Bool). t && bytes_eq bs (45 ∷ [])) e;
      long = rw e refl;
      short = rw e refl;
    }

-- ---- values that are there

pub bound : {A B : Type 0} (o : Option A) (f : A → Option B) (y : B) → (o >>= f) ≡ Some y → (x : A) × (o ≡ Some x) × (f x ≡ Some y)
bound None f y h = cc
bound (Some x) f y h = (x, refl, h)

pub guarded : {A : Type 0} (b : Bool) (x y : A) → only_if b x ≡ Some y → (b ≡ true) × (x ≡ y)
guarded true x y h = (refl, cc)
guarded false x y h = cc

some_is : (v value : Word) → some_value v ≡ Some value → v ≡ value
some_is [] value h = cc
some_is (b ∷ bs) value h = cc

-- an option with its value in one word
pub record IsJoined (shape : Shape) (w : Word) (s : Setting) : Type 0 where
  pub value : Word
  pub whole : w ≡ before_equals w ++ 61 ∷ value
  pub takes : takes_value shape (before_equals w) ≡ true
  pub is : record { name = before_equals w; value = Some value } ≡ s

pub cut_joined : (shape : Shape) (w : Word) (s : Setting) → joined shape w ≡ Some s → IsJoined shape w s
cut_joined shape w s h =
    let a = bound (after_equals w) (λ v. some_value v >>= (λ value. setting shape (before_equals w) value)) s h in
    let b = bound (some_value a.0) (λ value. setting shape (before_equals w) value) s a.2 in
    let one : Setting = record { name = before_equals w; value = Some b.0 } in
    let g = guarded (takes_value shape (before_equals w)) one s b.2 in
    let same = some_is a.0 b.0 b.1 in
    record {
      value = b.0;
      whole = rejoined w b.0 (a.1 ∙ ap (λ (v : Word). Some v) same);
      takes = g.0;
      is = g.1;
    }
