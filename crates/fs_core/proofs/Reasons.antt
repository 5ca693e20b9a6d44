-- Reasons for which an image isn't mounted, handed upwards.
use Rattle.std.specs.Prelude.{◌≡◌, ℕ, ◌≤◌, Result, Ok, Err}
use Rattle.std.proofs.Common.{◌∙◌, ap, arith}
use Rattle.zone_image.specs.Counts.{Rose}
use Rattle.zone_image.specs.Image.{Image}
use Rattle.record_model.specs.FieldDecoding.{◌>>=◌}
use Rattle.log_model.specs.declared.selection.Refusal.{Refusal}
use Rattle.log_model.specs.declared.selection.Chosen.{Chosen}
use Rattle.log_model.specs.FileTable.{Table}
use Rattle.log_model.specs.LogSelection.{LogAt, select_log, selected_log, scans_of, chosen_of}
use Rattle.log_model.specs.Mounted.{table_in, table_of}
use Rattle.fs_model.specs.FsState.{state_in, state_with}
use Rattle.fs_core.specs.declared.error.MountError.{MountError}
use Rattle.fs_core.specs.declared.error.MountError.TheVariants.{DevFault, NotAnImage, NoFileSystem, Unsupported, Differs, Damaged, NoMemory}
use Rattle.fs_core.specs.Mounting.{HasMountReason}

-- a reason of one kind is one of another where a fault is one, no image is one, the image is there, and each refusal of the one is that of the other
pub reason_from : {A B : Type 0} {device other tells absent gone : Type 0} (r : Result A Refusal) (q : Result B Refusal) (why : MountError)
    → (device → other) → (tells → absent → gone) → (tells → (absent → ⊥) → gone → ⊥) → (tells → (w : Refusal) → r ≡ Err w → q ≡ Err w)
    → HasMountReason device tells absent r why → HasMountReason other tells gone q why
reason_from r q DevFault fault none there same h = fault h
reason_from r q NotAnImage fault none there same h = λ t. none t (h t)
reason_from r q NoFileSystem fault none there same h = λ t. (there t (h t).0, same t _ (h t).1)
reason_from r q (Unsupported zone version flags) fault none there same h = λ t. (there t (h t).0, same t _ (h t).1)
reason_from r q (Differs zone block zone_blocks zones) fault none there same h = λ t. (there t (h t).0, same t _ (h t).1)
reason_from r q (Damaged damage) fault none there same h = λ t. (there t (h t).0, same t _ (h t).1)
reason_from r q NoMemory fault none there same h = tt

-- two refusals
err_is : {A E : Type 0} {x y : E} → ◌≡◌ {A = Result A E} (Err x) (Err y) → x ≡ y
err_is h = cc

-- a count that rose in a later part rose in the whole
pub rose_later : (before mid now : ℕ) → before ≤ mid → Rose mid now → Rose before now
rose_later before mid now le rose = omega (arith, le, rose)

-- what a refused selection comes to
selection_fails : (i : Image) (s : Result (LogAt × ℕ) Refusal) (w : Refusal) → (s >>= (λ l. Ok (chosen_of l))) ≡ Err w
    → (s >>= (λ l. table_of i l.0)) ≡ Err w
selection_fails i (Ok l) w h = cc
selection_fails i (Err why) w h = ap (λ (e : Refusal). Err e) (err_is h)

-- an image without a selected log has no state
pub no_log_no_state : (i : Image) (w : Refusal) → selected_log i ≡ Err w → state_in i ≡ Err w
unfolding table_in
no_log_no_state i w h = ap (λ t. t >>= (λ es. selected_log i >>= (λ log. Ok (state_with i es log)))) (selection_fails i (select_log i.geometry (scans_of i)) w h)

-- nor has one without a table
pub no_table_no_state : (i : Image) (w : Refusal) → table_in i ≡ Err w → state_in i ≡ Err w
no_table_no_state i w h = ap (λ t. t >>= (λ es. selected_log i >>= (λ log. Ok (state_with i es log)))) h

-- one with a log and a table has one
pub table_and_log : (i : Image) (es : Table) (log : Chosen) → table_in i ≡ Ok es → selected_log i ≡ Ok log → state_in i ≡ Ok (state_with i es log)
table_and_log i es log table selected =
    ap (λ t. t >>= (λ es. selected_log i >>= (λ log. Ok (state_with i es log)))) table ∙ ap (λ r. r >>= (λ log. Ok (state_with i es log))) selected
