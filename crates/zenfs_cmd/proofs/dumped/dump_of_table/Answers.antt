use Rattle.std.proofs.Common.{◌<◌, ◌-◌, ◌^◌, ◌++◌, ◌∙◌, ap, sym, arith}
use Rattle.std.specs.Prelude.{flat_map}
use Rattle.extent_map.specs.Records.{recorded_of}
use Rattle.zenfs_cmd.proofs.DumpWalks.{file_part, file_parts}
use Rattle.zenfs_cmd.proofs.RisingIds.{all_left, first_has_id, walk_ends, walk_goes_on}
use Rattle.zenfs_cmd.proofs.dumped.dump_of_table.Goals as goal
use Rattle.zenfs_cmd.proofs.dumped.dump_of_table.Goals.{in-Some+in_ok-add_file+then-file, in_default}

pub loop-file-init : goal.loop-file-init
loop-file-init c = (
  c.new-dump.ensures.zones,
  λ rise ids. let es = recorded_of c.args.files.now.rows in rw c.new-dump.ensures.files (ap (flat_map file_part) (all_left es)),
)

pub loop-file-preserved : goal.loop-file-preserved
loop-file-preserved c = (
  c.add_file.ensures.zones ∙ c.loop-file.invariant.0,
  λ rise ids.
      let es = recorded_of c.args.files.now.rows in
      walk_goes_on file_part c.loop-file.dump.files c.add_file.new.self.files (flat_map file_part es) c.loop-file.from es c.in-Some.file.now
      rise (sym (c.in-Some.ensures.first rise)) c.in_ok-add_file.ensures.added (c.loop-file.invariant.1 rise ids),
)

pub returns-clause-files : goal.returns-clause-files
returns-clause-files c = λ rise ids.
    let es = recorded_of c.args.files.now.rows in
    elim c.match-file_from.branch [
      | in-Some+in_ok-add_file+then-file w ↦
          let less : w.in-Some.file.now.id < 2 ^ 64 - 1 = first_has_id c.loop-file.from es w.in-Some.file.now ids (sym (w.in-Some.ensures.first rise)) in
          absurd (omega (arith, less, w.if-file.true))
      | in_default w ↦
          rw w.dump-is (walk_ends file_part c.loop-file.dump.files (flat_map file_part es) c.loop-file.from es
          (sym (w.in_default.ensures.first rise)) (c.loop-file.invariant.1 rise ids) ∙ file_parts es)
    ]
