-- Mounting for writing, computed from images.
use Rattle.std.specs.Prelude.{◌≡◌, ℕ, ◌-◌, ◌^◌, List, [], ◌∷◌, map, Result, Ok, Err, ◌==◌, if◌then◌else◌, refl}
use Rattle.fs_model.specs.Opened.{changing}
use Rattle.log_model.specs.Opened.{mounting}
use Rattle.record_model.specs.Encoding.{payload_of}
use Rattle.record_model.specs.declared.types.Extent.{Extent}
use Rattle.record_model.specs.declared.types.Record.TheVariants.{End}
use Rattle.log_model.specs.declared.selection.Refusal.{Refusal}
use Rattle.log_model.specs.ExampleImages.{one_log, snapshot}
use Rattle.log_model.specs.MountExamples.{linked_up_to}
use Rattle.log_model.specs.FrameExamples.{over, abc, defgh}
use Rattle.fs_model.specs.FsState.{FsState, descriptor_at, state_in}
use Rattle.fs_model.specs.Trace.{intermediate_states}
use Rattle.fs_model.specs.TreeSteps.{mount_write}

-- numbers without those that repeat the one before
abbrev without_repeats : List ℕ → List ℕ
without_repeats [] = []
without_repeats (n ∷ []) = n ∷ []
without_repeats (n ∷ m ∷ ms) = if n == m then without_repeats (m ∷ ms) else n ∷ without_repeats (m ∷ ms)

-- the numbers of blocks that the first zone has while an image is mounted for writing
abbrev first_zone : Result FsState Refusal → Result (List ℕ) Refusal
first_zone (Ok s) = Ok (without_repeats (map (λ t. (descriptor_at t 0).info.written) (intermediate_states (mount_write s))))
first_zone (Err why) = Err why

-- the extents and recovery points of the files of an image that is mounted for writing
abbrev mounted_files : Result FsState Refusal → Result (List (List Extent × ℕ)) Refusal
mounted_files (Ok s) = Ok (map (λ r. (r.entry.extents, r.entry.active)) (mount_write s).last.rows)
mounted_files (Err why) = Err why

-- a clean log gets its end record, and is reset in the end
clean_log_ends : first_zone (state_in (one_log (snapshot [] ∷ []))) ≡ Ok (3 ∷ 4 ∷ 0 ∷ [])
unfolding changing mounting
clean_log_ends = refl

-- no end record goes behind a torn block
torn_log_gets_no_end : first_zone (state_in (linked_up_to 1)) ≡ Ok (4 ∷ 0 ∷ [])
unfolding changing mounting
torn_log_gets_no_end = refl

-- a log that has ended gets no second end record
ended_log_gets_no_end : first_zone (state_in (one_log (snapshot [] ∷ payload_of End ∷ []))) ≡ Ok (4 ∷ 0 ∷ [])
unfolding changing mounting
ended_log_gets_no_end = refl

-- frames that are found again become recorded extents, and the recovery point is cleared
frames_recorded : mounted_files (state_in (over (abc ∷ defgh ∷ []))) ≡ Ok ((((record { start = 24584; len = 3 }) ∷ (record { start = 25096; len = 5 }) ∷ []), 2 ^ 64 - 1) ∷ [])
unfolding changing mounting
frames_recorded = refl
