use Rattle.std.proofs.Common.{map, string_bytes}
use Rattle.clap.proofs.WalkLemmas.{both}
use Rattle.clap.specs.Simple.{argument_words, built, is_simple}
use Rattle.clap.specs.Takes.{built_takes}
use Rattle.clap.specs.Walk.{nothing_held}
use Rattle.clap.specs.Words.{app_of}
use Rattle.clap_words.proofs.parser.matches_in.Goals as goal

pub returns-in-Ok : goal.returns-in-Ok
returns-in-Ok c =
    let app = app_of c.args.parser in
    let simple = both (is_simple app) (built_takes (built app) nothing_held (argument_words app (map string_bytes c.args.words.now))) c.requires in
    (c.in-Ok.ensures.matches simple.0).0
