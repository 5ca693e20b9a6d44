-- The ways in which a change that is recorded ends.
use Rattle.std.specs.Prelude.{◌≡◌, ℕ, true, false, nat_lt, List, Some, Ok, Err, refl}
use Rattle.std.proofs.Common.{◌∙◌, ap, subst}
use Rattle.log_model.specs.Headroom.{blocks_of_record}
use Rattle.fs_model.specs.declared.error.FsError.{FsError}
use Rattle.fs_model.specs.declared.error.FsError.TheVariants.{SequenceEnd, MetaFull, NoMemory, DevFault}
use Rattle.fs_model.specs.FsState.{FsState, TableRow}
use Rattle.fs_model.specs.Trace.{Refines, ◌>>◌, step}
use Rattle.fs_model.specs.LogSteps.{FsAction, NoValue, add_record, refuse_sequence, refuse_above, reset_dead_zones, block_of, rows_need}
use Rattle.fs_model.specs.TreeSteps.{delete_by, drop_name}
use Rattle.fs_model.proofs.TraceLaws.{refines_then, refines_stops}
use Rattle.change_steps.specs.Recording.{after_record}
use Rattle.change_steps.specs.Endings.{Ends, lacks_sequence, stored_state, RowsAsk, DeletionAsks}
use Rattle.change_steps.proofs.Traces.{passes, refuses, test_keeps, ok_then, fault_then, fault_at_last, memory_at_last}
use Rattle.change_steps.proofs.ResetLaws.{resets_are_passed, resets_end, resets_answer}
use Rattle.change_steps.proofs.RecordLaws.{record_answers, record_keeps_files}

-- behind its tests, a record, its rows, and the resets
recorded_ends : (tests : FsAction NoValue) (blocks : ℕ) (f : FsState → FsState) (s : FsState) → Refines tests s (Ok tt) s
    → Ends (tests >> add_record blocks >> step f >> reset_dead_zones) tt s (f (after_record blocks s))
recorded_ends tests blocks f s passed =
    let stored : FsState = f (after_record blocks s) in
    let body : FsAction NoValue = tests >> add_record blocks >> step f in
    let made : Refines body s (Ok tt) stored =
    ok_then (tests >> add_record blocks) (step f) s (after_record blocks s) stored tt
    (ok_then tests (add_record blocks) s s (after_record blocks s) tt passed (record_answers s blocks, refl)) (refl, refl) in
    record {
      answers = (ok_then body reset_dead_zones s stored (reset_dead_zones stored).last tt made (resets_answer stored, refl)).0;
      memory_wanting =
          refines_stops body (λ _. reset_dead_zones) s s NoMemory
          (refines_stops (tests >> add_record blocks) (λ _. step f) s s NoMemory
          (refines_stops tests (λ _. add_record blocks) s s NoMemory (memory_at_last tests s s tt passed)));
      fault_before =
          refines_stops body (λ _. reset_dead_zones) s s DevFault
          (refines_stops (tests >> add_record blocks) (λ _. step f) s s DevFault
          (refines_stops tests (λ _. add_record blocks) s s DevFault (fault_at_last tests s s tt passed)));
      fault_behind = λ t way. fault_then body reset_dead_zones s stored t made (resets_are_passed stored t way);
      complete = λ t way none. ok_then body reset_dead_zones s stored t tt made (resets_answer stored, resets_end stored t way none);
    }

-- a refusal of the tests is one of the whole
refused_before : (tests : FsAction NoValue) (blocks : ℕ) (f : FsState → FsState) (s : FsState) (e : FsError) → Refines tests s (Err e) s
    → Refines (tests >> add_record blocks >> step f >> reset_dead_zones) s (Err e) s
refused_before tests blocks f s e h =
    refines_stops (tests >> add_record blocks >> step f) (λ _. reset_dead_zones) s s e
    (refines_stops (tests >> add_record blocks) (λ _. step f) s s e
    (refines_stops tests (λ _. add_record blocks) s s e h))

-- the test of the sequence
sequence_refused : (s : FsState) (blocks : ℕ) → lacks_sequence s blocks ≡ true → Refines (refuse_sequence blocks) s (Err SequenceEnd) s
sequence_refused s blocks h = (refuses (lacks_sequence s blocks) SequenceEnd s h, test_keeps (lacks_sequence s blocks) SequenceEnd s)

-- it is passed
sequence_passed : (s : FsState) (blocks : ℕ) → lacks_sequence s blocks ≡ false → Refines (refuse_sequence blocks) s (Ok tt) s
sequence_passed s blocks h = passes (lacks_sequence s blocks) SequenceEnd s h

-- the test of the room
pub room_refused : (s t : FsState) (need : ℕ) → nat_lt s.geometry.capacity need ≡ true → Refines (refuse_above s need) t (Err (MetaFull need s.geometry.capacity)) t
room_refused s t need h =
    (refuses (nat_lt s.geometry.capacity need) (MetaFull need s.geometry.capacity) t h, test_keeps (nat_lt s.geometry.capacity need) (MetaFull need s.geometry.capacity) t)

-- it is passed
pub room_passed : (s t : FsState) (need : ℕ) → nat_lt s.geometry.capacity need ≡ false → Refines (refuse_above s need) t (Ok tt) t
room_passed s t need h = passes (nat_lt s.geometry.capacity need) (MetaFull need s.geometry.capacity) t h

-- a need that is given
need_is : (wanted need : ℕ) → Some wanted ≡ Some need → wanted ≡ need
need_is wanted need h = cc

-- the room for a record is wanting behind the test of the sequence
full_behind : (s : FsState) (blocks wanted need : ℕ) → lacks_sequence s blocks ≡ false → wanted ≡ need → nat_lt s.geometry.capacity need ≡ true
    → Refines (refuse_sequence blocks >> refuse_above s wanted) s (Err (MetaFull need s.geometry.capacity)) s
full_behind s blocks wanted need fits same full =
    let P : ℕ → Type 0 = λ n. Refines (refuse_sequence blocks >> refuse_above s wanted) s (Err (MetaFull n s.geometry.capacity)) s in
    subst P same
    (refines_then (refuse_sequence blocks) (λ _. refuse_above s wanted) s s s tt (Err (MetaFull wanted s.geometry.capacity))
    (sequence_passed s blocks fits) (room_refused s s wanted (ap (λ n. nat_lt s.geometry.capacity n) same ∙ full)) (λ is. cc))

-- a change to these rows
pub rows_ask : RowsAsk
rows_ask s r after greatest =
    let blocks : ℕ = blocks_of_record (block_of s) r in
    let need : ℕ = rows_need s after blocks in
    let tests : FsAction NoValue = refuse_sequence blocks >> refuse_above s need in
    let f : FsState → FsState = λ t. record t { rows = after; greatest = greatest } in
    record {
      sequence_end = λ h. refused_before tests blocks f s SequenceEnd
          (refines_stops (refuse_sequence blocks) (λ _. refuse_above s need) s s SequenceEnd (sequence_refused s blocks h));
      full = λ n is fits h. refused_before tests blocks f s (MetaFull n s.geometry.capacity) (full_behind s blocks need n fits (need_is need n is) h);
      granted = λ fits room. recorded_ends tests blocks f s (ok_then (refuse_sequence blocks) (refuse_above s need) s s s tt (sequence_passed s blocks fits) (room_passed s s need room));
    }

-- the rows of a deletion, as they follow from those before the record
deletion_stores : (s : FsState) (blocks : ℕ) (name : List ℕ)
    → (record (after_record blocks s) { rows = drop_name name (after_record blocks s).rows }) ≡ stored_state s blocks (drop_name name s.rows) s.greatest
deletion_stores s blocks name =
    let kept = record_keeps_files s blocks in
    let f : List TableRow → FsState = λ rows. record (after_record blocks s) { rows = drop_name name rows } in
    let g : ℕ → FsState = λ n. record (after_record blocks s) { rows = drop_name name s.rows; greatest = n } in
    ap f kept.rows ∙ ap g kept.greatest

-- a deletion whose record has so many blocks
pub deletion_asks : DeletionAsks
deletion_asks s blocks name =
    let f : FsState → FsState = λ t. record t { rows = drop_name name t.rows } in
    record {
      sequence_end = λ h. refused_before (refuse_sequence blocks) blocks f s SequenceEnd (sequence_refused s blocks h);
      full = λ n is fits h. absurd cc;
      granted = λ fits room.
          let P : FsState → Type 0 = λ stored. Ends (delete_by blocks name) tt s stored in
          subst P (deletion_stores s blocks name) (recorded_ends (refuse_sequence blocks) blocks f s (sequence_passed s blocks fits));
    }
