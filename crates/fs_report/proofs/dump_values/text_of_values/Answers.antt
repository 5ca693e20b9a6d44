use Rattle.std.proofs.Common.{◌++◌, [], ◌∷◌, ◌∙◌, ap, map}
use Rattle.serde_json.specs.View.{view}
use Rattle.serde_json.specs.Written.{compact_text, has_float}
use Rattle.fs_report.specs.DumpState.{text_of_parts}
use Rattle.fs_report.proofs.DumpTexts.{whole_alike, whole_without_floats}
use Rattle.fs_report.proofs.dump_values.text_of_values.Goals as goal

pub returns : goal.returns
unfolding text_of_parts
returns c =
    let files = map view c.args.files.items in
    let zones = map view c.args.zones.items in
    c.from_vec.ensures
    ∙ c.in_ok-line_of.ensures (ap has_float c.in_ok-value.ensures ∙ whole_without_floats files zones c.requires.files c.requires.zones)
    ∙ ap (λ t. t ++ 10 ∷ []) (ap compact_text c.in_ok-value.ensures ∙ whole_alike files zones)
