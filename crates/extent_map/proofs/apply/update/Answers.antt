use Rattle.std.proofs.Common.{◌≡◌, not, Ok, Some, None, option_map, get_or, ap, ◌∙◌}
use Rattle.record_model.specs.declared.types.FileEntry.{FileEntry}
use Rattle.log_model.specs.FileTable.{file_of, grown, has_right_size, set_entry, unless_broken}
use Rattle.fs_model.specs.FsState.{TableRow}
use Rattle.extent_map.specs.Applying.{IsRefused}
use Rattle.extent_map.specs.Records.{recorded_of}
use Rattle.extent_map.proofs.ApplyLaws.{file_recorded, update_new, update_known}
use Rattle.extent_map.proofs.SettingLaws.{made_at, no_row, refused_at}
use Rattle.extent_map.proofs.apply.update.Goals as goal

-- no file of the id
pub returns-in-None-clause-made : goal.returns-in-None-clause-made
returns-in-None-clause-made c =
    let rows = c.args.rows.now.items in
    let entry = c.args.entry.now in
    let absent = rw c.deref.ensures.value at c.in-None.ensures.absent in
    let none : file_of entry.id (recorded_of rows) ≡ None = file_recorded entry.id rows ∙ ap (option_map (λ (r : TableRow). r.entry)) absent in
    rw (update_new entry (recorded_of rows) none) c.put_new.ensures.made

pub returns-in-None-clause-refused : goal.returns-in-None-clause-refused
returns-in-None-clause-refused c =
    let rows = c.args.rows.now.items in
    let entry = c.args.entry.now in
    let absent = rw c.deref.ensures.value at c.in-None.ensures.absent in
    let none : file_of entry.id (recorded_of rows) ≡ None = file_recorded entry.id rows ∙ ap (option_map (λ (r : TableRow). r.entry)) absent in
    rw (update_new entry (recorded_of rows) none) c.put_new.ensures.refused

-- a file that grows
pub returns-in-Some-clause-made : goal.returns-in-Some-clause-made
returns-in-Some-clause-made c =
    let rows = c.args.rows.now.items in
    let entry = c.args.entry.now in
    let file : FileEntry = (get_or rows c.in-Some.at no_row).entry in
    let found = rw c.deref.ensures.value at (c.in-Some.ensures.row no_row) in
    let some : file_of entry.id (recorded_of rows) ≡ Some file = file_recorded entry.id rows ∙ ap (option_map (λ (r : TableRow). r.entry)) found in
    rw (update_known entry file (recorded_of rows) some)
    (made_at c.grow_row.result (λ (d : TableRow).
    unless_broken (not (has_right_size (grown (Some (get_or rows c.in-Some.at d).entry) entry))) 5 (set_entry (grown (Some (get_or rows c.in-Some.at d).entry) entry) (recorded_of rows))
    ≡ Ok (recorded_of c.grow_row.new.rows.items)) c.grow_row.ensures.made)

pub returns-in-Some-clause-refused : goal.returns-in-Some-clause-refused
returns-in-Some-clause-refused c =
    let rows = c.args.rows.now.items in
    let entry = c.args.entry.now in
    let file : FileEntry = (get_or rows c.in-Some.at no_row).entry in
    let found = rw c.deref.ensures.value at (c.in-Some.ensures.row no_row) in
    let some : file_of entry.id (recorded_of rows) ≡ Some file = file_recorded entry.id rows ∙ ap (option_map (λ (r : TableRow). r.entry)) found in
    rw (update_known entry file (recorded_of rows) some)
    (refused_at c.grow_row.result (λ (d : TableRow). IsRefused
    (unless_broken (not (has_right_size (grown (Some (get_or rows c.in-Some.at d).entry) entry))) 5 (set_entry (grown (Some (get_or rows c.in-Some.at d).entry) entry) (recorded_of rows))))
    c.grow_row.ensures.refused)
