use Rattle.std.proofs.Common.{◌≡◌, ◌∙◌, Option, List, ℕ, Some, None, false, codes, option_map, sym, ap, bytes_eq}
use Rattle.std.specs.Option.{option_map_or}
use Rattle.clap.proofs.WalkLemmas.{first_value-rows}
use Rattle.clap.specs.Words.{first_of, found_of, rows_of}
use Rattle.clap_words.proofs.Findings.{flag_found}
use Rattle.clap_words.proofs.found.is_given.Goals as goal

pub returns-in-Some : goal.returns-in-Some
returns-in-Some c =
    let f = found_of c.args.found.now in
    let is : first_of c.args.name.now (rows_of f) ≡ Some c.in-Some.text.now = sym (first_value-rows f c.args.name.now) ∙ sym c.get_str.ensures ∙ ap (λ o. option_map (λ s. s.now) o) c.in-Some.is in
    c.eq.ensures
    ∙ sym (flag_found (rows_of f) c.args.name.now c.requires.other c.requires.flag ∙ ap (λ (o : Option (List ℕ)). option_map_or (λ v. bytes_eq v (codes "true")) o false) is)

pub returns-in-None : goal.returns-in-None
returns-in-None c =
    let f = found_of c.args.found.now in
    let is : first_of c.args.name.now (rows_of f) ≡ None = sym (first_value-rows f c.args.name.now) ∙ sym c.get_str.ensures ∙ ap (λ o. option_map (λ s. s.now) o) c.in-None.is in
    sym (flag_found (rows_of f) c.args.name.now c.requires.other c.requires.flag ∙ ap (λ (o : Option (List ℕ)). option_map_or (λ v. bytes_eq v (codes "true")) o false) is)
