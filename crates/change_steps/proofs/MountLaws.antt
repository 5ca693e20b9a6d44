-- Mounts for writing.
use Rattle.std.specs.Prelude.{ℕ, map, filter, ◌==◌, Option, Some, None, Ok, Err, refl}
use Rattle.std.specs.List.{count_by}
use Rattle.fs_model.specs.declared.error.FsError.{FsError}
use Rattle.fs_model.specs.declared.error.FsError.TheVariants.{SequenceEnd, MetaFull, NoMemory, DevFault}
use Rattle.fs_model.specs.declared.zones.ZoneState.{ZoneState}
use Rattle.fs_model.specs.ZonePolicy.{data_zones, is_idle_active, least, room_of}
use Rattle.fs_model.specs.FsState.{FsState, zone_states}
use Rattle.fs_model.specs.Trace.{Refines, ◌>>◌, refuse_if}
use Rattle.fs_model.specs.LogSteps.{FsAction, NoValue, at_sequence_end, set_rows, refuse_above, roll, reset_dead_zones}
use Rattle.fs_model.specs.TreeSteps.{cleared, finish_one, free_token, mount_write}
use Rattle.fs_model.proofs.TraceLaws.{refines_then, refines_stops}
use Rattle.change_steps.specs.Endings.{Ends}
use Rattle.change_steps.specs.WriteMount.{mount_need, cleared_state, after_token, settled_state, TokenAnswers, TokenKeepsFiles, MountAtSequenceEnd, MountIsFull, MountEnds}
use Rattle.change_steps.proofs.Traces.{passes, refuses, test_keeps, ok_then, fault_then, fault_at_last, memory_at_last}
use Rattle.change_steps.proofs.ResetLaws.{resets_are_passed, resets_end, resets_answer}
use Rattle.change_steps.proofs.RecordLaws.{IsQuiet, quiet_when, quiet_from, quiet_zone, quiet_nothing, roll_answers}
use Rattle.change_steps.proofs.EndingLaws.{room_refused, room_passed}
use Rattle.change_steps.proofs.NameLaws.{ends_from}

-- a zone that is finished, if there is one
quiet_finish : (there : Option (ℕ × ZoneState)) → IsQuiet (finish_one there)
quiet_finish None = quiet_nothing
quiet_finish (Some z) = quiet_zone z.0 _

-- a token is freed
quiet_token : IsQuiet free_token
quiet_token = quiet_from (λ s.
    quiet_when (count_by is_idle_active (data_zones (zone_states s)) == s.geometry.active_limit)
    (quiet_finish (least (λ z. room_of s.geometry.capacity z.1) (filter is_idle_active (data_zones (zone_states s))))))

-- it is never refused
pub token_answers : TokenAnswers
token_answers s = quiet_token.ok s

-- and keeps the files
pub token_keeps_files : TokenKeepsFiles
token_keeps_files s = quiet_token.keeps s

-- the tests before a mount
abbrev mount_tests : FsState → FsAction NoValue
mount_tests s = refuse_if (at_sequence_end s) SequenceEnd >> refuse_above s (mount_need s)

-- and what comes behind them
abbrev mount_steps : FsAction NoValue → FsAction NoValue
mount_steps tests = tests >> set_rows (map cleared) >> free_token >> roll >> reset_dead_zones

-- a refusal of the tests is one of the mount
refused_before : (tests : FsAction NoValue) (s : FsState) (e : FsError) → Refines tests s (Err e) s → Refines (mount_steps tests) s (Err e) s
refused_before tests s e h =
    refines_stops (tests >> set_rows (map cleared) >> free_token >> roll) (λ _. reset_dead_zones) s s e
    (refines_stops (tests >> set_rows (map cleared) >> free_token) (λ _. roll) s s e
    (refines_stops (tests >> set_rows (map cleared)) (λ _. free_token) s s e
    (refines_stops tests (λ _. set_rows (map cleared)) s s e h)))

-- the sequence is at its end
pub mount_at_sequence_end : MountAtSequenceEnd
unfolding mount_write
mount_at_sequence_end s h =
    refused_before (mount_tests s) s SequenceEnd
    (refines_stops (refuse_if (at_sequence_end s) SequenceEnd) (λ _. refuse_above s (mount_need s)) s s SequenceEnd
    (refuses (at_sequence_end s) SequenceEnd s h, test_keeps (at_sequence_end s) SequenceEnd s))

-- a log can't take the table
pub mount_is_full : MountIsFull
unfolding mount_write
mount_is_full s left h =
    refused_before (mount_tests s) s (MetaFull (mount_need s) s.geometry.capacity)
    (refines_then (refuse_if (at_sequence_end s) SequenceEnd) (λ _. refuse_above s (mount_need s)) s s s tt (Err (MetaFull (mount_need s) s.geometry.capacity))
    (passes (at_sequence_end s) SequenceEnd s left) (room_refused s s (mount_need s) h) (λ is. cc))

-- behind its tests
mount_behind : (tests : FsAction NoValue) (s : FsState) → Refines tests s (Ok tt) s → Ends (mount_steps tests) tt s (settled_state s)
mount_behind tests s passed =
    let stored : FsState = settled_state s in
    let freed : FsAction NoValue = tests >> set_rows (map cleared) >> free_token in
    let body : FsAction NoValue = freed >> roll in
    let made : Refines body s (Ok tt) stored =
    ok_then freed roll s (after_token (cleared_state s)) stored tt
    (ok_then (tests >> set_rows (map cleared)) free_token s (cleared_state s) (after_token (cleared_state s)) tt
    (ok_then tests (set_rows (map cleared)) s s (cleared_state s) tt passed (refl, refl)) (token_answers (cleared_state s), refl))
    (roll_answers (after_token (cleared_state s)), refl) in
    record {
      answers = (ok_then body reset_dead_zones s stored (reset_dead_zones stored).last tt made (resets_answer stored, refl)).0;
      memory_wanting = refused_before tests s NoMemory (memory_at_last tests s s tt passed);
      fault_before = refused_before tests s DevFault (fault_at_last tests s s tt passed);
      fault_behind = λ t way. fault_then body reset_dead_zones s stored t made (resets_are_passed stored t way);
      complete = λ t way none. ok_then body reset_dead_zones s stored t tt made (resets_answer stored, resets_end stored t way none);
    }

-- a mount for writing
pub mount_ends : MountEnds
unfolding mount_write
mount_ends s left room =
    ends_from (λ t. mount_steps (mount_tests t)) tt s (settled_state s)
    (mount_behind (mount_tests s) s
    (ok_then (refuse_if (at_sequence_end s) SequenceEnd) (refuse_above s (mount_need s)) s s s tt (passes (at_sequence_end s) SequenceEnd s left) (room_passed s s (mount_need s) room)))
