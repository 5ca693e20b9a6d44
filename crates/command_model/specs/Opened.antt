-- What a computed example opens: the name of one of these stands for all that is on its line.
use Rattle.std.specs.Prelude.{List, ℕ}
use Rattle.std.specs.Str.{is_utf8, chars}
use lib.Utf8
use Rattle.std.specs.Fmt.{digits}
use Rattle.record_model.specs.Name.{is_name}
use Rattle.uuid.specs.Text.{by_index}
use Rattle.superblock_core.specs.Superblock.{uuid_text}
use Rattle.fs_model.specs.LogSteps.{NoValue}
use Rattle.fs_model.specs.Turn.{LockAction}
use Rattle.fs_model.specs.Opened.{collecting}
use Rattle.command_model.specs.TreeCommands.{planned_layout}
use Rattle.command_model.specs.Backup.{hints_of, files_to_restore}
use Rattle.command_model.specs.RestorePlan.{restore_plan}
use Rattle.command_model.specs.ReportTexts.{list_text, df_text, info_text}
use Rattle.command_model.specs.DumpText.{dump_text}
use Rattle.command_model.specs.RefusalTexts.{refusal_text}

-- a command's layout, down to the steps of the file system
unfoldable pub laying_out : LockAction NoValue → LockAction NoValue
unfolding collecting planned_layout
laying_out m = m

-- names, down to their characters
unfoldable pub naming : List ℕ → List ℕ
unfolding is_name is_utf8 chars Utf8.encode
naming bytes = bytes

-- what a restore reads, down to the names of files
unfoldable pub restoring : List ℕ → List ℕ
unfolding naming restore_plan files_to_restore hints_of
restoring bytes = bytes

-- texts, down to the digits of their numbers
unfoldable pub printing : List ℕ → List ℕ
unfolding digits uuid_text by_index list_text df_text info_text dump_text refusal_text
printing text = text
