use Rattle.std.proofs.Common.{map}
use Rattle.std.proofs.lemmas.Result.{IfOk-weaker}
use Rattle.command_model.specs.DumpText.{dump_file}
use Rattle.zenfs_cmd.proofs.RisingIds.{walk_of_files}
use Rattle.zenfs_cmd.proofs.dumped.dump_of_files.Goals as goal

pub returns-clause-files : goal.returns-clause-files
returns-clause-files g c =
    let sound = c.sound.ensures in
    IfOk-weaker c.dump_of_table.result _ _ (λ dump all. walk_of_files (map dump_file) dump.files c.args.fs.now.state.rows c.files.result.now.rows c.files.ensures.files sound.table.ids sound.sound.writable all) c.dump_of_table.ensures.files
