-- Printed texts, computed.
use Rattle.std.specs.Prelude.{◌≡◌, ℕ, ◌-◌, ◌^◌, true, false, List, [], ◌∷◌, ◌++◌, codes, flat_map, map, replicate, Some, None, Result, Ok, Err, refl}
use Rattle.command_model.specs.Opened.{naming, printing}
use Rattle.record_model.specs.declared.fault.Why.TheVariants as fault
use Rattle.log_model.specs.declared.selection.DamageWhy.TheVariants as why
use Rattle.log_model.specs.declared.selection.Refusal.TheVariants as refusals
use Rattle.log_model.specs.Format.{new_superblock}
use Rattle.log_model.specs.FileTable.{Table}
use Rattle.fs_model.specs.declared.zones.ZoneState.{ZoneState}
use Rattle.fs_model.specs.declared.zones.Owner.TheVariants.{Idle}
use Rattle.fs_model.specs.ZonePolicy.{space}
use Rattle.fs_model.specs.StepExamples.{g}
use Rattle.command_model.specs.ReportTexts.{list_text, df_text, info_text, made_image_text, made_fs_text}
use Rattle.command_model.specs.DumpText.{dump_text, json_string}
use Rattle.command_model.specs.RefusalTexts.{Cause, damage_text, refusal_text, status_of}
use Rattle.fs_model.specs.declared.error.FsError.TheVariants.{NotFound, DevFault, NoMemory, Stopped}
use Rattle.fs_model.specs.declared.operations.Reply.TheVariants as replies
use Rattle.command_model.specs.Script.{Line, script}
use Rattle.command_model.specs.LoadSummary.{summary_text, load_status}
use Rattle.log_model.specs.FileTree.{Tree}
use Rattle.fs_model.specs.LegalExamples.{one_job}
use Rattle.command_model.specs.LineExamples.{six_lines, lines}

-- one file of five bytes
abbrev one_file : Table
one_file = (record { id = 1; size = 5; hint = 0; time = 1700000000; active = 2 ^ 64 - 1; sparse = false; extents = (record { start = 24576; len = 5 }) ∷ []; names = codes "a.txt" ∷ [] }) ∷ []

-- a zone with so many blocks, of which so many are live
abbrev zone : ℕ → ℕ → ℕ → ZoneState
zone written live live_bytes = record { info = record { written = written; sealed = false }; owner = Idle; hint = 0; live = live; live_bytes = live_bytes }

-- the zones of its image
abbrev its_zones : List ZoneState
its_zones = zone 0 0 0 ∷ zone 5 0 0 ∷ zone 0 0 0 ∷ zone 1 1 5 ∷ replicate 28 (zone 0 0 0)

-- its list
one_listed : list_text one_file None ≡ codes "           5" ++ 9 ∷ codes "1700000000" ++ 9 ∷ codes "a.txt" ++ 10 ∷ []
unfolding printing
one_listed = refl

-- a prefix that it doesn't have
none_listed : list_text one_file (Some (codes "a.txt")) ≡ []
unfolding printing
none_listed = refl

-- its figures
one_df : df_text g (space g its_zones) ≡ lines (codes "Free: 237056" ∷ codes "Used: 5" ∷ codes "Reclaimable: 0" ∷ codes "Space amplification: 0%" ∷ [])
unfolding printing space
one_df = refl

-- its dump
one_dumped : dump_text one_file its_zones ≡ codes "{\"files\":[{\"extents\":[{\"len\":5,\"start\":24576}],\"hint\":0,\"id\":1,\"names\":[\"a.txt\"],\"size\":5,\"sparse\":false,\"time\":1700000000}],\"zones\":[{\"live\":0,\"sealed\":false,\"written\":5,\"zone\":1},{\"live\":1,\"sealed\":false,\"written\":1,\"zone\":3}]}" ++ 10 ∷ []
unfolding printing
one_dumped = refl

-- a name with a quote and a backslash
escaped : json_string (34 ∷ 92 ∷ 47 ∷ []) ≡ 34 ∷ 92 ∷ 34 ∷ 92 ∷ 92 ∷ 47 ∷ 34 ∷ []
escaped = refl

-- the superblock of a new file system
new_info : info_text (new_superblock g 0 (codes "/aux") 0 false) ≡ lines (
    codes "Magic: 5a454e46" ∷ codes "UUID: 00000000-0000-4000-8000-000000000000" ∷ codes "Sequence: 1" ∷ codes "Version: 2"
    ∷ codes "Flags: 0" ∷ codes "Block size: 512" ∷ codes "Zone size: 16" ∷ codes "Zone count: 32" ∷ codes "Finish threshold: 0"
    ∷ codes "Auxiliary path: /aux" ∷ codes "ZenFS version: profile-2" ∷ [])
unfolding printing
new_info = refl

-- what the making commands print
fs_made : made_fs_text g ≡ lines (codes "ZenFS file system created. Free space: 237568 bytes" ∷ [])
unfolding printing
fs_made = refl

-- a device
image_made : made_image_text g ≡ lines (codes "image created: 32 zones of 8192 bytes" ∷ [])
unfolding printing
image_made = refl

-- refusals
twin_text : refusal_text (codes "zenfs") (Cause.NoMount (refusals.Damaged (record { zone = 1; block = 0; why = why.Twin 4 }))) ≡ lines (codes "zenfs: damaged: zone 1 block 0: two logs of sequence 4" ∷ [])
unfolding printing
twin_text = refl

-- a record's fault
fault_line : refusal_text (codes "zenfs") (Cause.NoMount (refusals.Damaged (record { zone = 0; block = 2; why = why.Decode (record { at = 0; why = fault.Tag 9 }) }))) ≡ lines (codes "zenfs: damaged: zone 0 block 2: record tag 9 at 0" ∷ [])
unfolding printing
fault_line = refl

-- a checksum, in eight digits each
sum_text : refusal_text (codes "zenfs") (Cause.NoMount (refusals.Damaged (record { zone = 0; block = 2; why = why.Sum 0xC78AB0E5 7 }))) ≡ lines (codes "zenfs: damaged: zone 0 block 2: checksum stored c78ab0e5 computed 00000007" ∷ [])
unfolding printing
sum_text = refl

-- its status
damaged_status : status_of (Cause.NoMount (refusals.Damaged (record { zone = 0; block = 2; why = why.NoLength }))) ≡ 5
unfolding printing status_of
damaged_status = refl

-- another version, another device
version_text : refusal_text (codes "zenfs") (Cause.NoMount (refusals.Unsupported 0 3 0)) ≡ lines (codes "zenfs: zone 0: unsupported version 3 flags 0" ∷ [])
unfolding printing
version_text = refl

-- another number of zones
differs_text : refusal_text (codes "zenfs") (Cause.NoMount (refusals.Differs 0 512 16 64)) ≡ lines (codes "zenfs: zone 0: superblock states block 512 zone 16 count 64" ∷ [])
unfolding printing
differs_text = refl

-- every other refusal of the utility
abbrev other_causes : List Cause
other_causes =
    Cause.Words ∷ Cause.DeviceFault ∷ Cause.HostFault ∷ Cause.OutputFault ∷ Cause.OutOfMemory
    ∷ Cause.NotAnImage ∷ Cause.ImageExists ∷ Cause.BadGeometry ∷ Cause.FsExists 0 ∷ Cause.NoMount refusals.NoFileSystem
    ∷ Cause.BadName (codes "a//b") ∷ Cause.Clash (codes "a") ∷ Cause.BadHints 1
    ∷ Cause.NotFound (codes "x") ∷ Cause.NameExists (codes "c")
    ∷ Cause.IdsEnd ∷ Cause.SequenceEnd ∷ Cause.MetaFull 9 8 ∷ Cause.NoSpace ∷ []

-- their texts
other_texts : flat_map (refusal_text (codes "zenfs")) other_causes ≡ lines (
    codes "zenfs: bad command line" ∷ codes "zenfs: device fault" ∷ codes "zenfs: host fault" ∷ codes "zenfs: output fault" ∷ codes "zenfs: out of memory"
    ∷ codes "zenfs: not a zoned image" ∷ codes "zenfs: image exists" ∷ codes "zenfs: bad geometry" ∷ codes "zenfs: file system exists in zone 0" ∷ codes "zenfs: no file system"
    ∷ codes "zenfs: a//b: bad name" ∷ codes "zenfs: a: clashes in the backup" ∷ codes "zenfs: hints line 1"
    ∷ codes "zenfs: x: not found" ∷ codes "zenfs: c: exists"
    ∷ codes "zenfs: file ids at their end" ∷ codes "zenfs: sequence at its end" ∷ codes "zenfs: metadata full: 9 of 8 blocks" ∷ codes "zenfs: no space" ∷ [])
unfolding printing
other_texts = refl

-- their exit statuses
other_statuses : map status_of other_causes ≡ 2 ∷ 3 ∷ 3 ∷ 3 ∷ 4 ∷ replicate 14 1
unfolding status_of
other_statuses = refl

-- the refusals of the load program alone
load_texts : flat_map (refusal_text (codes "zenload")) (Cause.ScriptFault ∷ Cause.ScriptTooLong ∷ Cause.BadScript 2 ∷ Cause.TooManyJobs 2 1 ∷ [])
    ≡ lines (codes "zenload: script fault" ∷ codes "zenload: script too long" ∷ codes "zenload: script line 2" ∷ codes "zenload: 2 jobs, at most 1" ∷ [])
unfolding printing
load_texts = refl

-- their exit statuses
load_statuses : map status_of (Cause.ScriptFault ∷ Cause.ScriptTooLong ∷ Cause.BadScript 2 ∷ Cause.TooManyJobs 2 1 ∷ []) ≡ 3 ∷ 1 ∷ 1 ∷ 1 ∷ []
unfolding status_of
load_statuses = refl

-- every cause of damage, with its place
damage_texts : map damage_text (
    why.NoLength ∷ why.Text 4 ∷ why.Twin 4 ∷ why.Rule 8
    ∷ why.Decode (record { at = 4; why = fault.Short }) ∷ why.Decode (record { at = 62; why = fault.Twice 3 })
    ∷ why.Decode (record { at = 5; why = fault.Missing 9 }) ∷ why.Decode (record { at = 5; why = fault.Range }) ∷ [])
    ≡ codes "no length" ∷ codes "text at 4" ∷ codes "two logs of sequence 4" ∷ codes "rule 8"
    ∷ codes "record short at 4" ∷ codes "record field 3 twice at 62"
    ∷ codes "record field 9 missing at 5" ∷ codes "record range at 5" ∷ []
unfolding printing
damage_texts = refl

-- the lines of a script that is right
abbrev right_lines : Result (List Line) ℕ → List Line
right_lines (Ok ls) = ls
right_lines (Err n) = []

-- a tree with one file of five bytes
abbrev five_bytes : Tree
five_bytes = (record { id = 1; names = codes "a" ∷ []; bytes = replicate 5 104; hint = 0; time = 7; sparse = false }) ∷ []

-- one job of six lines, of which the last is refused
one_summary : summary_text (right_lines (script six_lines)) one_job five_bytes ≡ lines (codes "job 1: 6 lines, 1 refused, 5 bytes read" ∷ codes "files 1, bytes 5" ∷ [])
unfolding printing naming summary_text script
one_summary = refl

-- a job without lines has a line of zeros
job_without_lines : summary_text (right_lines (script (lines (codes "2 sync" ∷ [])))) [] [] ≡ lines (
    codes "job 1: 0 lines, 0 refused, 0 bytes read" ∷ codes "job 2: 1 lines, 0 refused, 0 bytes read" ∷ codes "files 0, bytes 0" ∷ [])
unfolding printing summary_text script
job_without_lines = refl

-- a refusal alone is no failure of a load; a device fault comes before want of memory, but that of the close before all
loads_status : load_status false (replies.Refused NotFound ∷ []) ∷ load_status false (replies.NoEntry ∷ []) ∷ load_status false (replies.Refused NoMemory ∷ [])
    ∷ load_status false (replies.NoEntry ∷ replies.Refused DevFault ∷ replies.Refused Stopped ∷ []) ∷ load_status true (replies.Refused DevFault ∷ []) ∷ []
    ≡ 0 ∷ 4 ∷ 4 ∷ 3 ∷ 4 ∷ []
unfolding load_status
loads_status = refl

-- two sealed zones of live bytes, and one byte: nothing is reclaimable
two_files_df : df_text g (record { free = 431; used = 16385; reclaimable = 0; free_percent = 92 })
    ≡ lines (codes "Free: 220672" ∷ codes "Used: 16385" ∷ codes "Reclaimable: 0" ∷ codes "Space amplification: 0%" ∷ [])
unfolding printing
two_files_df = refl

-- what is reclaimable, in percent of what is used
amplified_df : df_text g (record { free = 448; used = 100; reclaimable = 8092; free_percent = 96 })
    ≡ lines (codes "Free: 229376" ∷ codes "Used: 100" ∷ codes "Reclaimable: 8092" ∷ codes "Space amplification: 8092%" ∷ [])
unfolding printing
amplified_df = refl
