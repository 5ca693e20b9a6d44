use Rattle.std.proofs.Common.{map}
use Rattle.std.proofs.lemmas.Result.{IfOk-weaker}
use Rattle.std.specs.Prelude.{flat_map}
use Rattle.command_model.specs.ReportTexts.{listed_names}
use Rattle.fs_report.specs.Lines.{listed_of}
use Rattle.zenfs_cmd.proofs.RisingIds.{walk_of_files}
use Rattle.zenfs_cmd.proofs.lines.lines_of.Goals as goal

pub returns : goal.returns
returns g c =
    let sound = c.sound.ensures in
    IfOk-weaker c.lines_in.result _ _ (λ lines all. walk_of_files (flat_map listed_names) (map listed_of lines.items) c.args.fs.now.state.rows c.files.result.now.rows c.files.ensures.files sound.table.ids sound.sound.writable all) c.lines_in.ensures
