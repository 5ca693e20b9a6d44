use Rattle.std.proofs.Common.{◌≡◌, Some, None, option_map, get_or, ap, ◌∙◌}
use Rattle.record_model.specs.declared.types.FileEntry.{FileEntry}
use Rattle.log_model.specs.FileTable.{file_of}
use Rattle.fs_model.specs.FsState.{TableRow}
use Rattle.extent_map.specs.Records.{recorded_of}
use Rattle.extent_map.proofs.ApplyLaws.{file_recorded, replace_unknown, replace_known}
use Rattle.extent_map.proofs.SettingLaws.{no_row}
use Rattle.extent_map.proofs.apply.replace.Goals as goal

pub returns-in-None-clause-refused : goal.returns-in-None-clause-refused
returns-in-None-clause-refused c =
    let rows = c.args.rows.now.items in
    let entry = c.args.entry.now in
    let absent = rw c.deref.ensures.value at c.in-None.ensures.absent in
    let none : file_of entry.id (recorded_of rows) ≡ None = file_recorded entry.id rows ∙ ap (option_map (λ (r : TableRow). r.entry)) absent in
    replace_unknown entry (recorded_of rows) none

pub returns-in-Some-clause-made : goal.returns-in-Some-clause-made
returns-in-Some-clause-made c =
    let rows = c.args.rows.now.items in
    let entry = c.args.entry.now in
    let file : FileEntry = (get_or rows c.in-Some.at no_row).entry in
    let found = rw c.deref.ensures.value at (c.in-Some.ensures.row no_row) in
    let some : file_of entry.id (recorded_of rows) ≡ Some file = file_recorded entry.id rows ∙ ap (option_map (λ (r : TableRow). r.entry)) found in
    rw (replace_known entry file (recorded_of rows) some) c.put_whole.ensures.made

pub returns-in-Some-clause-refused : goal.returns-in-Some-clause-refused
returns-in-Some-clause-refused c =
    let rows = c.args.rows.now.items in
    let entry = c.args.entry.now in
    let file : FileEntry = (get_or rows c.in-Some.at no_row).entry in
    let found = rw c.deref.ensures.value at (c.in-Some.ensures.row no_row) in
    let some : file_of entry.id (recorded_of rows) ≡ Some file = file_recorded entry.id rows ∙ ap (option_map (λ (r : TableRow). r.entry)) found in
    rw (replace_known entry file (recorded_of rows) some) c.put_whole.ensures.refused
