use Rattle.std.proofs.Common.{◌≡◌, true, false, ◌||◌, sym, ap, ◌∙◌}
use Rattle.log_model.specs.FileTable.{is_among}
use Rattle.std.specs.List.{list_any}
use Rattle.record_codec.specs.NameSets.{has_name}
use Rattle.extent_map.proofs.NameSetLaws.{none_more, repeat_found, set_more}
use Rattle.extent_map.proofs.repeated_names.repeats_name.Goals as goal

pub returns-then-has_any : goal.returns-then-has_any
returns-then-has_any c =
    let e = c.index-files-files.result in
    let found : list_any (has_name c.loop-i.seen) e.names ≡ true =
    sym (ap (list_any (has_name c.loop-i.seen)) c.items-names.ensures) ∙ sym c.has_any.ensures ∙ c.if-has_any.true in
    sym (repeat_found c.loop-i.i c.args.files.now e c.loop-i.seen c.loop-i-test.true c.index-files-files.is c.loop-i.invariant.1 found)

pub loop-i-preserved : goal.loop-i-preserved
loop-i-preserved c =
    let e = c.index-files-files.result in
    let none : list_any (has_name c.loop-i.seen) e.names ≡ false =
    sym (ap (list_any (has_name c.loop-i.seen)) c.items-names.ensures) ∙ sym c.has_any.ensures ∙ c.if-has_any.false in (
      none_more c.loop-i.i c.args.files.now e c.loop-i.seen c.loop-i-test.true c.index-files-files.is c.loop-i.invariant.1 none c.loop-i.invariant.0,
      λ name.
          set_more c.loop-i.i c.args.files.now e c.loop-i.seen c.add_names.new.seen name c.loop-i-test.true c.index-files-files.is (c.loop-i.invariant.1 name)
          (c.in_ok-add_names.ensures name ∙ ap (λ ns. is_among ns name || has_name c.loop-i.seen name) c.items-names.ensures),
    )
