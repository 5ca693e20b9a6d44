-- Worked cases of commands, computed.
use Rattle.std.specs.Prelude.{◌≡◌, ℕ, zero, suc, ◌+◌, ◌*◌, ◌-◌, ◌^◌, true, false, List, [], ◌∷◌, ◌++◌, replicate, map, codes, Some, None, Ok, Err, Result, refl}
use Rattle.command_model.specs.Opened.{laying_out, restoring, printing}
use Rattle.fs_model.specs.declared.zones.Owner.TheVariants.{Idle}
use Rattle.fs_model.specs.declared.error.FsError.{FsError}
use Rattle.fs_model.specs.declared.error.FsError.TheVariants.{NotFound, SequenceEnd, IdsEnd, NoSpace}
use Rattle.fs_model.specs.FsState.{FsState, ZoneDescriptor, TableRow, working, zone_states}
use Rattle.fs_model.specs.Trace.{Trace}
use Rattle.fs_model.specs.LogSteps.{NoValue}
use Rattle.fs_model.specs.Turn.{LockState}
use Rattle.fs_model.specs.FsState.{descriptor_at}
use Rattle.fs_model.specs.StepExamples.{superblock, g}
use Rattle.command_model.specs.TreeCommands.{planned_layout, TreeCommand, RestoreFile, planned_changes}
use Rattle.log_model.specs.FileTree.{Tree, apply}
use Rattle.command_model.specs.Backup.{HostEntry, RestoresBackup, backup_files, files_to_restore, hints_of, hints_path, clash_in}
use Rattle.command_model.specs.RestorePlan.{restore_plan}
use Rattle.command_model.specs.RefusalTexts.{Cause}
use Rattle.command_model.specs.ReportTexts.{list_text}
use Rattle.command_model.specs.DumpText.{dump_text}
use Rattle.fs_model.specs.StepExamples.{zone, formatted, locked, extents, written}

-- one file of five bytes
abbrev hello : List RestoreFile
hello = (record { name = codes "a.txt"; hint = 0; sparse = false; bytes = codes "hello" }) ∷ []

-- its extent
restored_hello : extents (planned_layout (TreeCommand.RestoreFiles hello) 7 (locked formatted)).last.fs ≡ ((record { start = 24576; len = 5 }) ∷ []) ∷ []
unfolding laying_out
restored_hello = refl

-- the blocks of the first zones: a log of five, and one block of data
restored_zones : written (planned_layout (TreeCommand.RestoreFiles hello) 7 (locked formatted)).last.fs ≡ 0 ∷ 5 ∷ 0 ∷ 1 ∷ 0 ∷ []
unfolding laying_out
restored_zones = refl

-- the state after it, at a time of its own
abbrev hello_laid_out : FsState
hello_laid_out = (planned_layout (TreeCommand.RestoreFiles hello) 1700000000 (locked formatted)).last.fs

-- its list
hello_listed : list_text (working hello_laid_out) None ≡ codes "           5" ++ 9 ∷ codes "1700000000" ++ 9 ∷ codes "a.txt" ++ 10 ∷ []
unfolding printing laying_out
hello_listed = refl

-- its dump
hello_dumped : dump_text (working hello_laid_out) (zone_states hello_laid_out) ≡ codes "{\"files\":[{\"extents\":[{\"len\":5,\"start\":24576}],\"hint\":0,\"id\":1,\"names\":[\"a.txt\"],\"size\":5,\"sparse\":false,\"time\":1700000000}],\"zones\":[{\"live\":0,\"sealed\":false,\"written\":5,\"zone\":1},{\"live\":1,\"sealed\":false,\"written\":1,\"zone\":3}]}" ++ 10 ∷ []
unfolding printing laying_out
hello_dumped = refl

-- a tree with two names of one file, saved and restored under a prefix
abbrev example_tree : Tree
example_tree =
    (record { id = 1; names = codes "db/a" ∷ codes "x" ∷ []; bytes = 1 ∷ 2 ∷ []; hint = 2; time = 7; sparse = true })
    ∷ (record { id = 4; names = codes "db/b" ∷ codes "db/c" ∷ []; bytes = []; hint = 0; time = 7; sparse = false }) ∷ []

-- what is saved and restored is what stood there
saved_and_restored : RestoresBackup example_tree (Some (codes "db"))
unfolding backup_files files_to_restore hints_of planned_changes apply
saved_and_restored = refl

-- what a backup writes: the files in byte order, and their hints at the end
saved_files : backup_files example_tree (Some (codes "db"))
    ≡ (record { path = codes "a"; bytes = 1 ∷ 2 ∷ [] }) ∷ (record { path = codes "b"; bytes = [] }) ∷ (record { path = codes "c"; bytes = [] })
    ∷ (record { path = hints_path; bytes = codes "2 s a" ++ 10 ∷ codes "0 b b" ++ 10 ∷ codes "0 b c" ++ 10 ∷ [] }) ∷ []
unfolding backup_files
saved_files = refl

-- host files, of which one has no line in the hints file
abbrev host_files : List HostEntry
host_files =
    (record { path = codes "a"; bytes = 7 ∷ [] }) ∷ (record { path = codes "b"; bytes = [] })
    ∷ (record { path = hints_path; bytes = codes "3 s b" ++ 10 ∷ codes "1 b x" ++ 10 ∷ [] }) ∷ []

-- without a line a file has no hint and isn't sparse; a line without a file has no effect
files_restored : restore_plan [] (Some (codes "db")) host_files
    ≡ Ok ((record { name = codes "db/a"; hint = 0; sparse = false; bytes = 7 ∷ [] }) ∷ (record { name = codes "db/b"; hint = 3; sparse = true; bytes = [] }) ∷ [])
unfolding restoring
files_restored = refl

-- a host file whose path makes no name, and a hints file with a wrong line
abbrev bad_files : List HostEntry
bad_files = (record { path = codes "a//b"; bytes = [] }) ∷ (record { path = hints_path; bytes = codes "9 b a" ++ 10 ∷ [] }) ∷ []

-- the name is told first
bad_name_first : restore_plan [] None bad_files ≡ Err (Cause.BadName (codes "a//b"))
unfolding restoring
bad_name_first = refl

-- and of names the prefix
bad_prefix_first : restore_plan [] (Some (codes "..")) bad_files ≡ Err (Cause.BadName (codes ".."))
unfolding restoring
bad_prefix_first = refl

-- then the hints file
bad_hints_before_existing : restore_plan example_tree None ((record { path = codes "x"; bytes = [] }) ∷ (record { path = hints_path; bytes = codes "9 b a" ++ 10 ∷ [] }) ∷ []) ≡ Err (Cause.BadHints 1)
unfolding restoring
bad_hints_before_existing = refl

-- then a file that is there
existing_file : restore_plan example_tree None ((record { path = codes "x"; bytes = [] }) ∷ []) ≡ Err (Cause.NameExists (codes "x"))
unfolding restoring
existing_file = refl

-- the states passed
abbrev states_passed : Trace LockState NoValue → List LockState
states_passed r = r.passed

-- a name that isn't there is told before anything is written
delete_absent : (planned_layout (TreeCommand.DeleteName (codes "x")) 7 (locked formatted)) ≡ record { passed = states_passed (planned_layout (TreeCommand.DeleteName (codes "x")) 7 (locked formatted)); last = locked formatted; answer = Err NotFound }
unfolding laying_out
delete_absent = refl

-- ---- refusals of commands

-- what a command answers
abbrev answer_of : TreeCommand → FsState → Result NoValue FsError
answer_of c s = (planned_layout c 7 (locked s)).answer

-- an empty file in a table
abbrev empty_row : ℕ → List ℕ → TableRow
empty_row id name = record {
  entry = record { id = id; size = 0; hint = 0; time = 7; active = 2 ^ 64 - 1; sparse = false; extents = []; names = name ∷ [] };
  unrecorded = [];
  shown = 0;
}

-- a log whose sequence is at its end, and a file
abbrev at_end : FsState
at_end = record formatted { rows = empty_row 1 (codes "a") ∷ []; greatest = 1; log = record (formatted.log) { greatest = 2 ^ 32 - 1 } }

-- a deletion that would have to roll
delete_at_end : answer_of (TreeCommand.DeleteName (codes "a")) at_end ≡ Err SequenceEnd
unfolding laying_out
delete_at_end = refl

-- a name that isn't there is told first
delete_absent_at_end : answer_of (TreeCommand.DeleteName (codes "x")) at_end ≡ Err NotFound
unfolding laying_out
delete_absent_at_end = refl

-- a file of these bytes to restore
abbrev one_file : List ℕ → List RestoreFile
one_file bytes = (record { name = codes "new"; hint = 0; sparse = false; bytes = bytes }) ∷ []

-- the greatest id is used
abbrev last_id : FsState
last_id = record formatted { rows = empty_row (2 ^ 64 - 2) (codes "a") ∷ []; greatest = 2 ^ 64 - 2 }

-- no id is left for one more file
restore_past_ids : answer_of (TreeCommand.RestoreFiles (one_file [])) last_id ≡ Err IdsEnd
unfolding laying_out
restore_past_ids = refl

-- a file that fills a data zone
abbrev full_row : ℕ → TableRow
full_row id = record {
  entry = record { id = id; size = 8192; hint = 0; time = 7; active = 2 ^ 64 - 1; sparse = false; extents = (record { start = (2 + id) * 8192; len = 8192 }) ∷ []; names = ((96 + id) ∷ []) ∷ [] };
  unrecorded = [];
  shown = 8192;
}

-- so many of them
abbrev full_rows : ℕ → ℕ → List TableRow
full_rows zero id = []
full_rows (suc n) id = full_row id ∷ full_rows n (id + 1)

-- a full zone
abbrev full : ZoneDescriptor
full = record { info = record { written = 16; sealed = true }; owner = Idle; hint = 0 }

-- all data zones are full
abbrev no_room : FsState
no_room = record formatted { zones = zone 7 ∷ zone 0 ∷ zone 0 ∷ replicate 29 full; rows = full_rows 29 1; greatest = 29 }

-- a byte more finds no zone
restore_without_space : answer_of (TreeCommand.RestoreFiles (one_file (7 ∷ []))) no_room ≡ Err NoSpace
unfolding laying_out
restore_without_space = refl

-- the sizes shown of a state's files
abbrev sizes : FsState → List ℕ
sizes s = map (λ r. r.shown) s.rows

-- the new name stands, with no bytes
left_without_space : sizes (planned_layout (TreeCommand.RestoreFiles (one_file (7 ∷ []))) 7 (locked no_room)).last.fs ≡ replicate 29 8192 ++ 0 ∷ []
unfolding laying_out
left_without_space = refl

-- the first block of a zone is a file
abbrev small_row : ℕ → TableRow
small_row id = record (full_row id) { entry = record ((full_row id).entry) { size = 512; extents = (record { start = (2 + id) * 8192; len = 512 }) ∷ [] }; shown = 512 }

-- one empty zone, two zones with little that is live, and all others full; collection is on
abbrev littered : FsState
littered = record formatted {
  zones = zone 7 ∷ zone 0 ∷ zone 0 ∷ replicate 24 full ++ zone 0 ∷ replicate 4 full;
  rows = full_rows 22 1 ++ small_row 23 ∷ small_row 24 ∷ full_rows 4 26;
  greatest = 29;
  log = record (formatted.log) { superblock = record (superblock g) { flags = 1 } };
}

-- the first byte finds no space; the collection is settled, and the byte goes into a zone that it emptied
settled_restore : answer_of (TreeCommand.RestoreFiles (one_file (7 ∷ []))) littered ≡ Ok tt
unfolding laying_out
settled_restore = refl

-- the live blocks went into the empty zone
settled_zones : map (λ n. (descriptor_at (planned_layout (TreeCommand.RestoreFiles (one_file (7 ∷ []))) 7 (locked littered)).last.fs n).info.written) (25 ∷ 26 ∷ 27 ∷ []) ≡ 1 ∷ 0 ∷ 2 ∷ []
unfolding laying_out
settled_zones = refl

-- ---- backups that clash

-- a tree with these names
abbrev named : List (List ℕ) → Tree
named names = (record { id = 1; names = names; bytes = []; hint = 0; time = 7; sparse = false }) ∷ []

-- a name that is another's directory
clash_told : clash_in (named (codes "b" ∷ codes "a/b" ∷ codes "a" ∷ [])) None ≡ Some (codes "a")
unfolding clash_in
clash_told = refl

-- the hints file
clash_with_hints : clash_in (named (codes "d/write_lifetime_hints.dat" ∷ codes "c" ∷ [])) (Some (codes "d")) ≡ Some hints_path
unfolding clash_in
clash_with_hints = refl

-- no clash
no_clash : clash_in (named (codes "ab" ∷ codes "a" ∷ [])) None ≡ None
unfolding clash_in
no_clash = refl

-- a hint above its limit, a path twice, no newline
hint_above : hints_of (codes "9 b a" ++ 10 ∷ []) ≡ Err 1
unfolding hints_of
hint_above = refl

-- a path that has two lines
path_twice : hints_of (codes "1 b a" ++ 10 ∷ codes "0 s a" ++ 10 ∷ []) ≡ Err 2
unfolding hints_of
path_twice = refl

-- a last line without its newline
hints_without_newline : hints_of (codes "1 b a") ≡ Err 1
unfolding hints_of
hints_without_newline = refl
