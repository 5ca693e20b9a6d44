-- Words that our own test accepts, in clap's walk.
use Rattle.std.proofs.Common.{◌≡◌, ◌∙◌, Bool, true, false, cond, not, List, [], ◌∷◌, ◌++◌, map, Some, None, refl, sym, ap, subst, bytes_eq}
use Rattle.std.specs.List.{list_all}
use Rattle.std.proofs.lemmas.List.Folds.{list_any-append}
use Rattle.clap.specs.Walk.{Held, Rule, nothing_held, reacted}
use Rattle.clap.specs.Walk.Waiting.{idle, option}
use Rattle.command_model.specs.Options.{Word, Setting, Shape, ◌>>=◌, only_if, before_equals, own_value, is_one_of, is_set, takes_value, setting, joined, one_word, add_setting, settings_from, settings_of}
use Rattle.clap_words.specs.Told.{dashed}
use Rattle.clap_words.proofs.Lookups.{is_plain_name}
use Rattle.clap_words.proofs.Lookups.{passes_named, told, told_flag, told_value, undashed}
use Rattle.clap_words.proofs.Cuts.{bound, cut_joined, guarded, own, not_true}
use Rattle.clap_words.proofs.Walks.{Goes, Meets, goes_on, no_words}
use Rattle.clap_words.proofs.Steps.{Fits, filled_up, flag_fits, flag_meets, flagged, joined_fits, joined_meets, name_meets, value_fits, value_meets, valued, waiting}

-- the names are those of a command's options
pub record IsTold (shape : Shape) (values flags : List Word) : Type 0 where
  pub values_are : map dashed values ≡ shape.required ++ shape.optional
  pub flags_are : map dashed flags ≡ shape.flags
  pub plain_values : list_all is_plain_name values ≡ true
  pub plain_flags : list_all is_plain_name flags ≡ true
  pub apart : list_all (λ f. not (is_one_of values f)) flags ≡ true

same_some : {A : Type 0} (x y : A) → Some x ≡ Some y → x ≡ y
same_some x y e = cc

module _ (shape : Shape) (values flags : List Word) (t : IsTold shape values flags) where
  abbrev c : List Rule
  c = told values flags

  pub takes_is : (w : Word) → takes_value shape w ≡ is_one_of (map dashed values) w
  takes_is w = sym (list_any-append (λ n. bytes_eq n w) shape.required shape.optional) ∙ ap (λ (ns : List Word). is_one_of ns w) (sym t.values_are)

  -- clap takes the words, and holds the settings behind them
  abbrev pub Reaches : Held → List Word → List Setting → Type 0
  Reaches h ws ss = (h2 : Held) × Goes c h idle ws h2 × Fits values flags h2 ss

  abbrev Takes : Held → Word → List Setting → Type 0
  Takes h w ss = (h2 : Held) × Meets c h idle w h2 idle × Fits values flags h2 ss

  module _ (seen : List Setting) (h : Held) (fits : Fits values flags h seen) where
    flag_one : (w : Word) (s : Setting) → is_one_of shape.flags w ≡ true → record { name = w; value = None } ≡ s → is_set s.name seen ≡ false → Takes h w (seen ++ s ∷ [])
    flag_one w s f e once =
        let u = undashed flags w (ap (λ (ns : List Word). is_one_of ns w) t.flags_are ∙ f) in
        let name : Word = u.0 in
        let absent = not_true (is_one_of values name) (passes_named (λ f. not (is_one_of values f)) flags name t.apart u.2) in
        let plain = passes_named is_plain_name flags name t.plain_flags u.2 in
        let same : flagged name ≡ s = ap (λ (n : Word). flag_setting n) (sym u.1) ∙ e in
        let free : is_set (dashed name) seen ≡ false = ap (λ (x : Setting). is_set x.name seen) same ∙ once in
        let meets = flag_meets values flags seen h fits name plain free absent u.2 in
        let fits2 = flag_fits values flags seen h fits name plain free absent u.2 in
        let h2 : Held = reacted c (told_flag name) [] h in
        (h2, subst (λ (x : Word). Meets c h idle x h2 idle) (sym u.1) meets, subst (λ (x : Setting). Fits values flags h2 (seen ++ x ∷ [])) same fits2)
      where
        flag_setting : Word → Setting
        flag_setting n = record { name = n; value = None }

    joined_one : (w : Word) (s : Setting) → joined shape w ≡ Some s → is_set s.name seen ≡ false → Takes h w (seen ++ s ∷ [])
    joined_one w s e once =
        let j = cut_joined shape w s e in
        let u = undashed values (before_equals w) (sym (takes_is (before_equals w)) ∙ j.takes) in
        let name : Word = u.0 in
        let v : Word = j.value in
        let plain = passes_named is_plain_name values name t.plain_values u.2 in
        let whole : w ≡ dashed (name ++ 61 ∷ v) = j.whole ∙ ap (λ (b : Word). b ++ 61 ∷ v) u.1 in
        let same : valued name v ≡ s = ap (λ (n : Word). value_setting n v) (sym u.1) ∙ j.is in
        let free : is_set (dashed name) seen ≡ false = ap (λ (x : Setting). is_set x.name seen) same ∙ once in
        let meets = joined_meets values flags seen h fits name plain free v u.2 in
        let fits2 = joined_fits values flags seen h fits name plain free v u.2 in
        let h2 : Held = reacted c (told_value name) (v ∷ []) h in
        (h2, subst (λ (x : Word). Meets c h idle x h2 idle) (sym whole) meets, subst (λ (x : Setting). Fits values flags h2 (seen ++ x ∷ [])) same fits2)
      where
        value_setting : Word → Word → Setting
        value_setting n v = record { name = n; value = Some v }

    one : (w : Word) (s : Setting) → one_word shape w ≡ Some s → is_set s.name seen ≡ false → Takes h w (seen ++ s ∷ [])
    one w s e once = by (is_one_of shape.flags w) refl e
      where
        by : (b : Bool) → is_one_of shape.flags w ≡ b → cond b (Some (record { name = w; value = None })) (joined shape w) ≡ Some s → Takes h w (seen ++ s ∷ [])
        by true f e = flag_one w s f (same_some (record { name = w; value = None }) s e) once
        by false f e = joined_one w s e once

    -- an option that isn't there yet
    added : (s : Setting) (more : List Setting) → add_setting seen s ≡ Some more → (is_set s.name seen ≡ false) × (seen ++ s ∷ [] ≡ more)
    added s more e =
        let g = guarded (not (is_set s.name seen)) (seen ++ s ∷ []) more e in
        (not_true (is_set s.name seen) g.0, g.1)

    after_one : (w : Word) (rest : List Word) (ss : List Setting) (s : Setting) (more : List Setting) → one_word shape w ≡ Some s → add_setting seen s ≡ Some more
        → ((h1 : Held) → Fits values flags h1 more → Reaches h1 rest ss) → Reaches h (w ∷ rest) ss
    after_one w rest ss s more e a next =
        let two = added s more a in
        let m = one w s e two.0 in
        let r = next m.0 (subst (Fits values flags m.0) two.1 m.2) in
        (r.0, goes_on c h m.0 idle idle w m.1 rest r.0 r.1, r.2)

    after_two : (w v : Word) (rest : List Word) (ss : List Setting) (value : Word) (more : List Setting) → takes_value shape w ≡ true → own_value v ≡ Some value
        → add_setting seen (record { name = w; value = Some value }) ≡ Some more → ((h1 : Held) → Fits values flags h1 more → Reaches h1 rest ss) → Reaches h (w ∷ v ∷ rest) ss
    after_two w v rest ss value more takes owned a next =
        let o = own v value owned in
        let two = added (record { name = w; value = Some value }) more a in
        let u = undashed values w (sym (takes_is w) ∙ takes) in
        let name : Word = u.0 in
        let plain = passes_named is_plain_name values name t.plain_values u.2 in
        let free : is_set (dashed name) seen ≡ false = ap (λ (x : Word). is_set x seen) (sym u.1) ∙ two.0 in
        let now : seen ++ valued name v ∷ [] ≡ more = ap (λ (n : Word). seen ++ value_setting n v ∷ []) (sym u.1) ∙ ap (λ (x : Word). seen ++ value_setting w x ∷ []) o.same ∙ two.1 in
        let h1 : Held = waiting values flags seen h fits name plain free v u.2 in
        let h2 : Held = filled_up values flags seen h fits name plain free v u.2 in
        let r = next h2 (subst (Fits values flags h2) now (value_fits values flags seen h fits name plain free v u.2)) in
        let second = goes_on c h1 h2 (option name) idle v (value_meets values flags seen h fits name plain free v u.2 value o) rest r.0 r.1 in
        let first = subst (λ (x : Word). Meets c h idle x h1 (option name)) (sym u.1) (name_meets values flags seen h fits name plain free v u.2) in
        (r.0, goes_on c h h1 idle (option name) w first (v ∷ rest) r.0 second, r.2)
      where
        value_setting : Word → Word → Setting
        value_setting n v = record { name = n; value = Some v }

  -- what the words behind the first one come to
  abbrev Rest : List Word → Type 0
  Rest ws = (seen ss : List Setting) (h : Held) → Fits values flags h seen → settings_from shape seen ws ≡ Some ss → Reaches h ws ss

  many_one : (w v : Word) (ws : List Word) (seen ss : List Setting) (h : Held) → Fits values flags h seen → Rest (v ∷ ws)
      → (one_word shape w >>= (λ s. add_setting seen s >>= (λ more. settings_from shape more (v ∷ ws)))) ≡ Some ss → Reaches h (w ∷ v ∷ ws) ss
  many_one w v ws seen ss h fits rest e =
      let a = bound (one_word shape w) (λ s. add_setting seen s >>= (λ more. settings_from shape more (v ∷ ws))) ss e in
      let b = bound (add_setting seen a.0) (λ more. settings_from shape more (v ∷ ws)) ss a.2 in
      after_one seen h fits w (v ∷ ws) ss a.0 b.0 a.1 b.1 (λ h1 f. rest b.0 ss h1 f b.2)

  many_two : (w v : Word) (ws : List Word) (seen ss : List Setting) (h : Held) → Fits values flags h seen → Rest ws → takes_value shape w ≡ true
      → (own_value v >>= (λ value. setting shape w value >>= (λ s. add_setting seen s >>= (λ more. settings_from shape more ws)))) ≡ Some ss → Reaches h (w ∷ v ∷ ws) ss
  many_two w v ws seen ss h fits rest takes e =
      let a = bound (own_value v) (λ value. setting shape w value >>= (λ s. add_setting seen s >>= (λ more. settings_from shape more ws))) ss e in
      let b = bound (setting shape w a.0) (λ s. add_setting seen s >>= (λ more. settings_from shape more ws)) ss a.2 in
      let one : Setting = record { name = w; value = Some a.0 } in
      let g = guarded (takes_value shape w) one b.0 b.1 in
      let d = bound (add_setting seen b.0) (λ more. settings_from shape more ws) ss b.2 in
      after_two seen h fits w v ws ss a.0 d.0 takes a.1 (ap (add_setting seen) g.1 ∙ d.1) (λ h1 f. rest d.0 ss h1 f d.2)

  pub reached : (ws : List Word) (seen ss : List Setting) (h : Held) → Fits values flags h seen → settings_from shape seen ws ≡ Some ss → Reaches h ws ss
  reached [] seen ss h fits e = (h, no_words c h, subst (Fits values flags h) (same_some seen ss e) fits)
  reached (w ∷ []) seen ss h fits e =
      let a = bound (one_word shape w) (add_setting seen) ss e in
      after_one seen h fits w [] ss a.0 ss a.1 a.2 (λ h1 f. (h1, no_words c h1, f))
  reached (w ∷ v ∷ ws) seen ss h fits e = by (takes_value shape w) refl e (reached ws) (reached (v ∷ ws))
    where
      by : (b : Bool) → takes_value shape w ≡ b
          → cond b (own_value v >>= (λ value. setting shape w value >>= (λ s. add_setting seen s >>= (λ more. settings_from shape more ws)))) (one_word shape w >>= (λ s. add_setting seen s >>= (λ more. settings_from shape more (v ∷ ws)))) ≡ Some ss
          → Rest ws → Rest (v ∷ ws) → Reaches h (w ∷ v ∷ ws) ss
      by true takes e rest more = many_two w v ws seen ss h fits rest takes e
      by false takes e rest more = many_one w v ws seen ss h fits more e

  nothing_fits : Fits values flags nothing_held []
  nothing_fits = record { passes = refl; rows = refl; right = tt }

  -- all of a command's words
  pub all_reached : (ws : List Word) (ss : List Setting) → settings_of shape ws ≡ Some ss → Reaches nothing_held ws ss
  all_reached ws ss e =
      let a = bound (settings_from shape [] ws) (λ settings. only_if (list_all (λ n. is_set n settings) shape.required) settings) ss e in
      let g = guarded (list_all (λ n. is_set n a.0) shape.required) a.0 ss a.2 in
      reached ws [] ss nothing_held nothing_fits (a.1 ∙ ap (λ (l : List Setting). Some l) g.1)
