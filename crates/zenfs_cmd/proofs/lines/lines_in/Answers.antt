use Rattle.std.proofs.Common.{◌<◌, ◌-◌, ◌^◌, ap, map, sym, arith}
use Rattle.std.specs.Prelude.{flat_map}
use Rattle.command_model.specs.ReportTexts.{listed_names}
use Rattle.extent_map.specs.Records.{recorded_of}
use Rattle.fs_report.specs.Lines.{listed_of}
use Rattle.zenfs_cmd.proofs.RisingIds.{all_left, first_has_id, walk_ends, walk_goes_on}
use Rattle.zenfs_cmd.proofs.lines.lines_in.Goals as goal
use Rattle.zenfs_cmd.proofs.lines.lines_in.Goals.{in-Some+in_ok-push_lines+then-file, in_default}

pub loop-file-init : goal.loop-file-init
loop-file-init c = λ rise ids. let es = recorded_of c.args.files.now.rows in rw c.new-lines.ensures.items (ap (flat_map listed_names) (all_left es))

pub loop-file-preserved : goal.loop-file-preserved
loop-file-preserved c = λ rise ids.
    let es = recorded_of c.args.files.now.rows in
    walk_goes_on listed_names (map listed_of c.loop-file.lines.items) (map listed_of c.push_lines.new.lines.items) (flat_map listed_names es) c.loop-file.from es c.in-Some.file.now
    rise (sym (c.in-Some.ensures.first rise)) c.in_ok-push_lines.ensures (c.loop-file.invariant rise ids)

pub returns : goal.returns
returns c = λ rise ids.
    let es = recorded_of c.args.files.now.rows in
    elim c.match-file_from.branch [
      | in-Some+in_ok-push_lines+then-file w ↦
          let less : w.in-Some.file.now.id < 2 ^ 64 - 1 = first_has_id c.loop-file.from es w.in-Some.file.now ids (sym (w.in-Some.ensures.first rise)) in
          absurd (omega (arith, less, w.if-file.true))
      | in_default w ↦
          rw w.lines-is (walk_ends listed_names (map listed_of c.loop-file.lines.items) (flat_map listed_names es) c.loop-file.from es
          (sym (w.in_default.ensures.first rise)) (c.loop-file.invariant rise ids))
    ]
