-- What the judgement of a change answers, and what is done behind it.
use Rattle.std.specs.Prelude.{◌≡◌, ◌≤◌, length, ℕ, Bool, true, false, List, Option, Some, None, nat_lt, Result, Ok, Err, refl, if◌then◌else◌}
use Rattle.std.proofs.Common.{◌∙◌, ap, sym, subst, arith}
use Rattle.fs_model.specs.declared.error.FsError.{FsError}
use Rattle.fs_model.specs.declared.error.FsError.TheVariants.{Stopped, Gone, InUse, NotFound, Exists, IdsEnd, SequenceEnd, MetaFull, NoSpace, Busy, NoMemory, DevFault}
use Rattle.fs_model.specs.FsState.{FsState, TableRow, row_named}
use Rattle.fs_model.specs.Trace.{Action, Refines, ◌>>◌, continue, done}
use Rattle.fs_model.specs.LogSteps.{FsAction, NoValue, at_sequence_end}
use Rattle.fs_model.specs.TreeSteps.{link, rename, delete, mount_write}
use Rattle.fs_model.specs.Check.{check, checked_change, name_refusal_only, refusal_of_names, refusal_only}
use Rattle.change_steps.specs.Behind.{HasLogZones, PassesBehindMount}
use Rattle.change_steps.specs.Endings.{Asks, Demand, lacks_room, lacks_sequence}
use Rattle.change_steps.specs.NameChanges.{delete_demand, link_demand, rename_demand}
use Rattle.change_steps.specs.WriteMount.{mount_need}
use Rattle.change_steps.proofs.BehindLaws.{deletion_passes, link_passes, rename_passes}
use Rattle.change_steps.proofs.MountLaws.{mount_at_sequence_end, mount_ends, mount_is_full}
use Rattle.change_steps.proofs.NameLaws.{delete_asks, delete_finds_no_file, link_asks, link_finds_name, link_finds_no_file, rename_asks, rename_finds_no_file}
use Rattle.change_steps.proofs.Traces.{ok_then}
use Rattle.fs_core.specs.Checking.{IsNoFailure}
use Rattle.fs_core.specs.Checking as checking
use Rattle.fs_core.specs.declared.check.Change.{Change}
use Rattle.fs_core.specs.declared.check.Change.TheVariants as read
use Rattle.fs_tables.specs.MountedTables.{IsSoundState}
use Rattle.command_model.specs.CommandLine.{Command}
use Rattle.command_model.specs.CommandLine.Command.{MakeImage, MakeFs, ListFiles, ShowInfo, LinkFile, RenameFile, DeleteFile}
use Rattle.command_model.specs.Options.{Word}
use Rattle.zenfs_cmd.specs.Made.{IsPlanned}
use Rattle.zenfs_cmd.specs.Names.{command_named}
use Rattle.zenfs_cmd.specs.Plans.{action_of, changes_names, planned}
use Rattle.zenfs_cmd.specs.Reasons.{IsFailure, IsJudgement}

-- ---- two actions, one after another

-- what stops the first stops both
stops : (passed : List FsState) (last : FsState) (answer : Result NoValue FsError) (n : FsAction NoValue) (e : FsError) → answer ≡ Err e
    → (continue passed last answer (λ _. n)).answer ≡ Err e
stops passed last (Ok x) n e h = absurd cc
stops passed last (Err f) n e h = h

-- both have answered where both together have
parts : (passed : List FsState) (last : FsState) (answer : Result NoValue FsError) (n : FsAction NoValue) → (continue passed last answer (λ _. n)).answer ≡ Ok tt
    → (answer ≡ Ok tt) × ((n last).answer ≡ Ok tt)
parts passed last (Ok x) n h = (refl, h)
parts passed last (Err f) n h = absurd cc

-- an error of both is one of a part
either_part : (P : FsError → Type 0) (passed : List FsState) (last : FsState) (answer : Result NoValue FsError) (n : FsAction NoValue) (e : FsError)
    → (answer ≡ Err e → P e) → ((n last).answer ≡ Err e → P e) → (continue passed last answer (λ _. n)).answer ≡ Err e → P e
either_part P passed last (Ok x) n e first second h = second h
either_part P passed last (Err f) n e first second h = first h

-- where neither moves, both stay
stay : (passed : List FsState) (last s : FsState) (answer : Result NoValue FsError) (n : FsAction NoValue) → last ≡ s → ((t : FsState) → (n t).last ≡ t)
    → (continue passed last answer (λ _. n)).last ≡ s
stay passed last s (Ok x) n h stays = stays last ∙ h
stay passed last s (Err f) n h stays = h

-- ---- the judgement

-- the judgement of a change on a mount that doesn't write
abbrev judgement : FsAction NoValue → FsAction NoValue
judgement a = name_refusal_only a >> refusal_only mount_write >> refusal_only a

-- it leaves the state
judged_in_place : (a : FsAction NoValue) (s : FsState) → (judgement a s).last ≡ s
judged_in_place a s =
    let first : ((name_refusal_only a >> refusal_only mount_write) s).last ≡ s =
    stay (name_refusal_only a s).passed (name_refusal_only a s).last s (name_refusal_only a s).answer (refusal_only mount_write) refl (λ t. refl) in
    let front = (name_refusal_only a >> refusal_only mount_write) s in
    stay front.passed front.last s front.answer (refusal_only a) first (λ t. refl)

-- its parts pass where it does
judged_parts : (a : FsAction NoValue) (s : FsState) → (judgement a s).answer ≡ Ok tt → (mount_write s).answer ≡ Ok tt
judged_parts a s h =
    let front = (name_refusal_only a >> refusal_only mount_write) s in
    let first = parts front.passed front.last front.answer (refusal_only a) h in
    (parts (name_refusal_only a s).passed s (name_refusal_only a s).answer (refusal_only mount_write) first.0).1

-- a change that is judged right may be mounted for
pub mount_is_allowed : (c : Command) (s : FsState) → (check false (action_of c) s).answer ≡ Ok tt → (mount_write s).answer ≡ Ok tt
unfolding check
mount_is_allowed c s h = judged_parts (action_of c) s h

-- the plan of a command that changes names
plan_is : (c : Command) → changes_names c ≡ true → planned c ≡ checked_change (action_of c)
unfolding planned
plan_is c h = ap (λ b. if b then checked_change (action_of c) else done tt) h

-- what it is judged by stops it
judged_stops : (a : FsAction NoValue) (s : FsState) (e : FsError) → (judgement a s).answer ≡ Err e → (checked_change a s).answer ≡ Err e
judged_stops a s e h =
    let m = judgement a s in
    let front = (judgement a >> mount_write) s in
    stops front.passed front.last front.answer a e (stops m.passed m.last m.answer mount_write e h)

pub refused_as_judged : (c : Command) (s : FsState) (e : FsError) → changes_names c ≡ true → (check false (action_of c) s).answer ≡ Err e
    → (planned c s).answer ≡ Err e
unfolding check
refused_as_judged c s e changes h = ap (λ (a : FsAction NoValue). (a s).answer) (plan_is c changes) ∙ judged_stops (action_of c) s e h

-- what is done behind it is done as planned
done_as_judged : (a : FsAction NoValue) (s t u : FsState) → (judgement a s).answer ≡ Ok tt → Refines mount_write s (Ok tt) t → Refines a t (Ok tt) u
    → Refines (checked_change a) s (Ok tt) u
done_as_judged a s t u judged mounted made =
    ok_then (judgement a >> mount_write) a s t u tt
    (ok_then (judgement a) mount_write s s t tt (judged, sym (judged_in_place a s)) mounted) made

pub made_as_planned : (c : Command) (s t u : FsState) → changes_names c ≡ true → (check false (action_of c) s).answer ≡ Ok tt → Refines mount_write s (Ok tt) t
    → Refines (action_of c) t (Ok tt) u → IsPlanned c s u
unfolding check
made_as_planned c s t u changes judged mounted made =
    let run = done_as_judged (action_of c) s t u judged mounted made in
    let same = plan_is c changes in
    record {
      answered = ap (λ (a : FsAction NoValue). (a s).answer) same ∙ run.0;
      last = run.1 ∙ sym (ap (λ (a : FsAction NoValue). (a s).last) same);
    }

-- ---- which errors it may answer

-- one answer has one error
same_error : (P : FsError → Type 0) (r : Result NoValue FsError) (e f : FsError) → r ≡ Err f → r ≡ Err e → P f → P e
same_error P r e f is given h = let same : f ≡ e = cc in subst P same h

-- errors of a change that asks for something behind its names
room_asks : (P : FsError → Type 0) (a : FsAction NoValue) (d : Demand) (s : FsState) (need : Option ℕ) (b : Bool) (e : FsError) → Asks a tt d s
    → lacks_sequence s d.blocks ≡ false → d.need ≡ need → lacks_room s need ≡ b → ((n k : ℕ) → P (MetaFull n k)) → (a s).answer ≡ Err e → P e
room_asks P a d s need false e asks left is room full h =
    let ok : (a s).answer ≡ Ok tt = (asks.granted left (ap (λ n. lacks_room s n) is ∙ room)).answers in absurd cc
room_asks P a d s None true e asks left is room full h = absurd cc
room_asks P a d s (Some need) true e asks left is room full h =
    same_error P (a s).answer e (MetaFull need s.geometry.capacity) (asks.full need is left room).0 h (full need s.geometry.capacity)

sequence_asks : (P : FsError → Type 0) (a : FsAction NoValue) (d : Demand) (s : FsState) (b : Bool) (e : FsError) → Asks a tt d s → lacks_sequence s d.blocks ≡ b
    → P SequenceEnd → ((n k : ℕ) → P (MetaFull n k)) → (a s).answer ≡ Err e → P e
sequence_asks P a d s true e asks is ended full h = same_error P (a s).answer e SequenceEnd (asks.sequence_end is).0 h ended
sequence_asks P a d s false e asks is ended full h = room_asks P a d s d.need (lacks_room s d.need) e asks is refl refl full h

-- errors of mounting for writing
mount_errors : (P : FsError → Type 0) (s : FsState) (ends full : Bool) (e : FsError) → at_sequence_end s ≡ ends → nat_lt s.geometry.capacity (mount_need s) ≡ full
    → P SequenceEnd → ((n k : ℕ) → P (MetaFull n k)) → (mount_write s).answer ≡ Err e → P e
mount_errors P s true full e is wide ended above h = same_error P (mount_write s).answer e SequenceEnd (mount_at_sequence_end s is).0 h ended
mount_errors P s false true e is wide ended above h =
    same_error P (mount_write s).answer e (MetaFull (mount_need s) s.geometry.capacity) (mount_is_full s is wide).0 h (above (mount_need s) s.geometry.capacity)
mount_errors P s false false e is wide ended above h = let ok : (mount_write s).answer ≡ Ok tt = (mount_ends s is wide).answers in absurd cc

-- errors of links
link_errors : (at old new : Word) (s : FsState) (here there : Option TableRow) (e : FsError) → row_named old s.rows ≡ here → row_named new s.rows ≡ there
    → (link old new s).answer ≡ Err e → IsJudgement (LinkFile at old new) e
link_errors at old new s None there e is taken h = same_error (IsJudgement (LinkFile at old new)) (link old new s).answer e NotFound (link_finds_no_file s old new is).0 h tt
link_errors at old new s (Some r) (Some other) e is taken h =
    same_error (IsJudgement (LinkFile at old new)) (link old new s).answer e Exists (link_finds_name s old new r other is taken).0 h tt
link_errors at old new s (Some r) None e is taken h =
    sequence_asks (IsJudgement (LinkFile at old new)) (link old new) (link_demand s r new) s (lacks_sequence s (link_demand s r new).blocks) e
    (link_asks s old new r is taken) refl tt (λ n k. tt) h

-- errors of renames
rename_errors : (at old new : Word) (s : FsState) (here : Option TableRow) (e : FsError) → row_named old s.rows ≡ here
    → (rename old new s).answer ≡ Err e → IsJudgement (RenameFile at old new) e
rename_errors at old new s None e is h = same_error (IsJudgement (RenameFile at old new)) (rename old new s).answer e NotFound (rename_finds_no_file s old new is).0 h tt
rename_errors at old new s (Some r) e is h =
    sequence_asks (IsJudgement (RenameFile at old new)) (rename old new) (rename_demand s r old new) s (lacks_sequence s (rename_demand s r old new).blocks) e
    (rename_asks s old new r is) refl tt (λ n k. tt) h

-- errors of deletions
delete_errors : (at name : Word) (s : FsState) (here : Option TableRow) (e : FsError) → row_named name s.rows ≡ here
    → (delete name s).answer ≡ Err e → IsJudgement (DeleteFile at name) e
delete_errors at name s None e is h = same_error (IsJudgement (DeleteFile at name)) (delete name s).answer e NotFound (delete_finds_no_file s name is).0 h tt
delete_errors at name s (Some r) e is h =
    sequence_asks (IsJudgement (DeleteFile at name)) (delete name) (delete_demand s r name) s (lacks_sequence s (delete_demand s r name).blocks) e
    (delete_asks s name r is) refl tt (λ n k. tt) h

-- errors of a command's change
change_errors : (c : Command) (s : FsState) (e : FsError) → changes_names c ≡ true → (action_of c s).answer ≡ Err e → IsJudgement c e
change_errors (LinkFile at old new) s e changes h = link_errors at old new s (row_named old s.rows) (row_named new s.rows) e refl refl h
change_errors (RenameFile at old new) s e changes h = rename_errors at old new s (row_named old s.rows) e refl h
change_errors (DeleteFile at name) s e changes h = delete_errors at name s (row_named name s.rows) e refl h
change_errors _ s e changes h = absurd cc

-- an error for names is one of the change
names_error : (answer : Result NoValue FsError) (e : FsError) → refusal_of_names answer ≡ Err e → answer ≡ Err e
names_error (Ok x) e h = absurd cc
names_error (Err NotFound) e h = h
names_error (Err Exists) e h = h
names_error (Err IdsEnd) e h = h
names_error (Err Stopped) e h = absurd cc
names_error (Err Gone) e h = absurd cc
names_error (Err InUse) e h = absurd cc
names_error (Err SequenceEnd) e h = absurd cc
names_error (Err (MetaFull need capacity)) e h = absurd cc
names_error (Err NoSpace) e h = absurd cc
names_error (Err Busy) e h = absurd cc
names_error (Err NoMemory) e h = absurd cc
names_error (Err DevFault) e h = absurd cc

-- the two errors of a mount are among those of each command that changes names
sequence_may_end : (c : Command) → IsJudgement c SequenceEnd
sequence_may_end c = tt

room_may_end : (c : Command) (n k : ℕ) → IsJudgement c (MetaFull n k)
room_may_end c n k = tt

judgement_errors : (c : Command) (s : FsState) (e : FsError) → changes_names c ≡ true → (judgement (action_of c) s).answer ≡ Err e → IsJudgement c e
judgement_errors c s e changes h =
    let a = action_of c in
    let front = (name_refusal_only a >> refusal_only mount_write) s in
    either_part (IsJudgement c) front.passed front.last front.answer (refusal_only a) e
    (either_part (IsJudgement c) (name_refusal_only a s).passed s (name_refusal_only a s).answer (refusal_only mount_write) e
    (λ first. change_errors c s e changes (names_error (a s).answer e first))
    (λ second. mount_errors (IsJudgement c) s (at_sequence_end s) (nat_lt s.geometry.capacity (mount_need s)) e refl refl (sequence_may_end c) (room_may_end c) second))
    (change_errors c front.last e changes) h

pub judged_so : (c : Command) (s : FsState) (e : FsError) → changes_names c ≡ true → (check false (action_of c) s).answer ≡ Err e → IsJudgement c e
unfolding check
judged_so c s e changes h = judgement_errors c s e changes h

-- what a check has answered, of the command
check_of : (c : Command) (s : FsState) (a : FsAction NoValue) (writing : Bool) (r : Result NoValue FsError) → a ≡ action_of c → writing ≡ false
    → (check writing a s).answer ≡ r → (check false (action_of c) s).answer ≡ r
check_of c s a writing r same idle h =
    ap (λ b. (check b (action_of c) s).answer) (sym idle) ∙ ap (λ (m : FsAction NoValue). (check writing m s).answer) (sym same) ∙ h

-- an error of a check that isn't stopped is its answer
check_refused : (m : FsAction NoValue) (s t : FsState) (e : FsError) → Refines m s (Err e) t → IsNoFailure e → (e ≡ Stopped → ⊥) → (m s).answer ≡ Err e
check_refused m s t Stopped h early goes = absurd (goes refl)
check_refused m s t NoMemory h early goes = absurd early
check_refused m s t DevFault h early goes = absurd early
check_refused m s t Gone h early goes = h.0
check_refused m s t InUse h early goes = h.0
check_refused m s t NotFound h early goes = h.0
check_refused m s t Exists h early goes = h.0
check_refused m s t IdsEnd h early goes = h.0
check_refused m s t SequenceEnd h early goes = h.0
check_refused m s t (MetaFull need capacity) h early goes = h.0
check_refused m s t NoSpace h early goes = h.0
check_refused m s t Busy h early goes = h.0

-- the change that was read does what the command does
named_action : (at : Word) (n : Change) → changes_names (command_named at n) ≡ true → checking.action_of 0 n ≡ action_of (command_named at n)
named_action at (read.Link old new) is = refl
named_action at (read.Rename old new) is = refl
named_action at (read.Unlink name) is = refl
named_action at (read.Create name hint sparse) is = absurd cc

-- what the command's change was judged, where it was passed and where it was refused
pub judged_right : (at : Word) (n : Change) (c : Command) (s : FsState) (writing : Bool) → command_named at n ≡ c → changes_names c ≡ true → writing ≡ false
    → Refines (check writing (checking.action_of 0 n)) s (Ok tt) s → (check false (action_of c) s).answer ≡ Ok tt
judged_right at n c s writing is changes idle h =
    check_of c s (checking.action_of 0 n) writing (Ok tt) (named_action at n (ap changes_names is ∙ changes) ∙ ap action_of is) idle h.0

pub judged_wrong : (at : Word) (n : Change) (c : Command) (s : FsState) (writing : Bool) (e : FsError) → command_named at n ≡ c → changes_names c ≡ true → writing ≡ false
    → Refines (check writing (checking.action_of 0 n)) s (Err e) s → IsNoFailure e → (e ≡ Stopped → ⊥) → (check false (action_of c) s).answer ≡ Err e
judged_wrong at n c s writing e is changes idle h early goes =
    check_of c s (checking.action_of 0 n) writing (Err e) (named_action at n (ap changes_names is ∙ changes) ∙ ap action_of is) idle (check_refused (check writing (checking.action_of 0 n)) s s e h early goes)

-- ---- behind it

-- a call that isn't refused and isn't stopped may fail
pub only_fails : (m : FsAction NoValue) (s t : FsState) (e : FsError) → Refines m s (Err e) t → (e ≡ Stopped → ⊥) → ((f : FsError) → (m s).answer ≡ Err f → ⊥) → IsFailure e
only_fails m s t Stopped h goes none = goes refl
only_fails m s t NoMemory h goes none = tt
only_fails m s t DevFault h goes none = tt
only_fails m s t Gone h goes none = none Gone h.0
only_fails m s t InUse h goes none = none InUse h.0
only_fails m s t NotFound h goes none = none NotFound h.0
only_fails m s t Exists h goes none = none Exists h.0
only_fails m s t IdsEnd h goes none = none IdsEnd h.0
only_fails m s t SequenceEnd h goes none = none SequenceEnd h.0
only_fails m s t (MetaFull need capacity) h goes none = none (MetaFull need capacity) h.0
only_fails m s t NoSpace h goes none = none NoSpace h.0
only_fails m s t Busy h goes none = none Busy h.0

-- the log of a sound state lies in one of its zones for metadata
log_zones : (s : FsState) → IsSoundState s → HasLogZones s
log_zones s sound =
    let zones : 3 ≤ s.geometry.zones = grind (arith, sound.sound.valid) in
    record {
      block = grind (arith, sound.sound.valid);
      log = sound.sound.log_zone;
      zones = omega (arith, zones, sound.sound.count);
    }

-- each change of names passes behind the mount for writing
change_passes : (c : Command) → changes_names c ≡ true → PassesBehindMount (action_of c)
change_passes (LinkFile at old new) is = link_passes old new
change_passes (RenameFile at old new) is = rename_passes old new
change_passes (DeleteFile at name) is = deletion_passes name
change_passes _ is = absurd cc

-- a change that was judged right isn't refused once the mount writes
pub never_refused_behind : (c : Command) (s t : FsState) (e : FsError) → changes_names c ≡ true → IsSoundState s → (check false (action_of c) s).answer ≡ Ok tt
    → Refines mount_write s (Ok tt) t → (action_of c t).answer ≡ Err e → ⊥
never_refused_behind c s t e changes sound judged mounted h =
    let ok : (action_of c t).answer ≡ Ok tt = change_passes c changes s t (log_zones s sound) judged mounted.1 in
    absurd cc
