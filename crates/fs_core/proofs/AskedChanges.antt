-- The ends of a call that changes names, by what its change asks for.
use Rattle.std.proofs.Common.{◌≡◌, ℕ, ◌+◌, ◌<◌, true, List, length, Err, sym, ◌∙◌, ap, subst}
use Rattle.zone_image.specs.declared.Geometry.{Geometry}
use Rattle.zone_image.specs.declared.ZoneInfo.{ZoneInfo}
use Rattle.zone_image.specs.Image.{Image}
use Rattle.zone_image.specs.Infos.{IsImage}
use Rattle.zone_image.specs.Moments.{KeepsMoments}
use Rattle.record_model.specs.Encoding.{payload_of}
use Rattle.record_model.specs.declared.types.Record.{Record}
use Rattle.log_model.specs.FileTree.{Change}
use Rattle.log_model.specs.Headroom.{blocks_of_record, has_room}
use Rattle.log_model.specs.LogScan.{record_blocks}
use Rattle.log_model.proofs.RecordLaws.{length_record}
use Rattle.fs_model.specs.declared.error.FsError.TheVariants.{NoMemory, DevFault}
use Rattle.fs_model.specs.FsState.{FsState, working_of}
use Rattle.fs_model.specs.LogSteps.{FsAction}
use Rattle.zoned_device.specs.DataKept.{KeepsData}
use Rattle.zoned_device.specs.DeviceSteps.{ChangesDevice}
use Rattle.change_steps.specs.Endings.{Asks, Demand, Ends, lacks_sequence, stored_by, stored_state}
use Rattle.change_steps.specs.Recording.{KeepsFiles, after_record}
use Rattle.change_steps.proofs.RecordLaws.{record_keeps_files}
use Rattle.change_cover.specs.Rests.{AreShown}
use Rattle.change_cover.specs.Stored.{IsChange, blocks_on}
use Rattle.fs_tables.specs.Steps.{infos_in}
use Rattle.fs_core.specs.Changing.{HasStored, LogGoesOn, MakesChange}
use Rattle.fs_core.specs.NameCalls.{IsDemandGranted}
use Rattle.fs_core.specs.Storing.{IsPrepared, LeavesChange, StoresChange, new_log_blocks}
use Rattle.fs_core.specs.declared.prepared.PreparedRecord.{PreparedRecord}
use Rattle.fs_core.proofs.MadeChanges.{has_stored, not_stored, nothing_made}

-- the action makes this change by this record, and what it asks for is granted
pub record IsAsked {A : Type 0} (m : FsAction A) (x : A) (s : FsState) (d : Demand) (c : Change) (r : Record) : Type 0 where
  pub asks : Asks m x d s
  pub granted : IsDemandGranted s d
  pub change : IsChange s c r d.after
  pub blocks : d.blocks ≡ blocks_of_record s.geometry.block r
  pub log : new_log_blocks s + d.blocks < s.geometry.capacity

-- it isn't refused
pub asked_ends : {A : Type 0} {m : FsAction A} {x : A} {s : FsState} {d : Demand} {c : Change} {r : Record} → IsAsked m x s d c r → Ends m x s (stored_by d s)
asked_ends asked = asked.asks.granted asked.granted.sequence asked.granted.room

-- the blocks that are prepared are those that it asks for
pub prepared_count : {A : Type 0} {m : FsAction A} {x : A} {s : FsState} {d : Demand} {c : Change} {r : Record} {p : PreparedRecord} → IsAsked m x s d c r → IsPrepared s r p
    → length p.added.blocks ≡ d.blocks
prepared_count {s = s} {r = r} asked prepared = ap length prepared.spelled ∙ length_record s.geometry.block (payload_of r) ∙ sym asked.blocks

-- so they are granted
pub prepared_granted : {A : Type 0} {m : FsAction A} {x : A} {s : FsState} {d : Demand} {c : Change} {r : Record} {p : PreparedRecord} → IsAsked m x s d c r → IsPrepared s r p
    → lacks_sequence s (length p.added.blocks) ≡ lacks_sequence s d.blocks
prepared_granted {s = s} asked prepared = ap (lacks_sequence s) (prepared_count asked prepared)

-- and there is room for them behind a snapshot
pub prepared_room : {A : Type 0} {m : FsAction A} {x : A} {s : FsState} {d : Demand} {c : Change} {r : Record} {p : PreparedRecord} → IsAsked m x s d c r → IsPrepared s r p
    → new_log_blocks s + length p.added.blocks < s.geometry.capacity
prepared_room {s = s} asked prepared = subst (λ n. new_log_blocks s + n < s.geometry.capacity) (sym (prepared_count asked prepared)) asked.log

-- behind a record the files are the same
pub files_behind : (s s1 : FsState) (blocks : ℕ) → s1 ≡ after_record blocks s → KeepsFiles s s1
files_behind s s1 blocks first = subst (λ u. KeepsFiles s u) (sym first) (record_keeps_files s blocks)

-- the state in which it is stored
pub stored_as : {A : Type 0} (m : FsAction A) (x : A) (s s1 s2 : FsState) (d : Demand) (c : Change) (r : Record) (p : PreparedRecord) → IsAsked m x s d c r → IsPrepared s r p
    → s1 ≡ after_record (length p.added.blocks) s → s2 ≡ record s1 { rows = d.after; greatest = d.greatest } → s2 ≡ stored_by d s
stored_as m x s s1 s2 d c r p asked prepared first second =
    second ∙ ap (λ (u : FsState). record u { rows = d.after; greatest = d.greatest }) first ∙ ap (λ n. stored_state s n d.after d.greatest) (prepared_count asked prepared)

-- the blocks on the image of a device
spelled_on : (s : FsState) (r : Record) (p : PreparedRecord) (g : Geometry) (is : List ZoneInfo) (i : Image) → IsImage g is i → g ≡ s.geometry → IsPrepared s r p → p.added.blocks ≡ blocks_on i r
spelled_on s r p g is i image shape prepared = prepared.spelled ∙ ap (λ (h : Geometry). record_blocks h.block (payload_of r)) (sym (image.shape ∙ shape))

-- the device has its members as parameters, and the image that it tells is one of its geometry
module _ {D : Type 0} {known : D → Type 0} {geometry : D → Geometry} {infos : D → List ZoneInfo} {tells : Type 0} {image : D → Image} {tick : D → ℕ} {since : D → ℕ → Image → Type 0} {faults failed_changes : D → ℕ} (laws : KeepsMoments tells image tick since) (image_told : (e : D) → tells → known e → IsImage (geometry e) (infos e) (image e)) where
  -- want of memory
  pub memory_wanting : {A : Type 0} (m : FsAction A) (x : A) (s : FsState) (d : Demand) (c : Change) (r : Record) (dev : D) → IsAsked m x s d c r → known dev
      → MakesChange known geometry infos tells image tick since faults failed_changes m c dev dev s s (Err NoMemory)
  memory_wanting m x s d c r dev asked is_known = nothing_made laws m c dev s NoMemory is_known (asked_ends asked).memory_wanting tt

  -- a fault while the record is stored
  pub fault_storing : {A : Type 0} (m : FsAction A) (x : A) (s t : FsState) (d : Demand) (c : Change) (r : Record) (p : PreparedRecord) (old new : D) (F : Type 0) → F → IsAsked m x s d c r → IsPrepared s r p
      → known old → geometry old ≡ s.geometry → t ≡ s
      → ChangesDevice known geometry tells image tick since faults failed_changes old new F (LeavesChange p.added.blocks (image old) s) → KeepsData infos tells image old new
      → MakesChange known geometry infos tells image tick since faults failed_changes m c old new s t (Err DevFault)
  fault_storing m x s t d c r p old new F fault asked prepared is_known shape same device kept =
      not_stored laws m c r d.after p.added.blocks old new s t F fault same (asked_ends asked).fault_before asked.change (λ says. spelled_on s r p (geometry old) (infos old) (image old) (image_told old says is_known) shape prepared) device kept

  -- the change is stored
  pub is_stored : {A : Type 0} (m : FsAction A) (x : A) (s s1 s2 : FsState) (d : Demand) (c : Change) (r : Record) (p : PreparedRecord) (old new : D) (F : Type 0) → (F → ⊥) → IsAsked m x s d c r → IsPrepared s r p
      → known old → geometry old ≡ s.geometry → s1 ≡ after_record (length p.added.blocks) s → s2 ≡ record s1 { rows = d.after; greatest = d.greatest } → AreShown d.after
      → has_room s.geometry.capacity s.geometry.block (working_of d.after) ≡ true → infos_in s1 ≡ infos new → LogGoesOn s1 → (tells → StoresChange p.added.blocks (image old) s (image new) s1.log)
      → ChangesDevice known geometry tells image tick since faults failed_changes old new F (LeavesChange p.added.blocks (image old) s) → KeepsData infos tells image old new
      → HasStored known geometry infos tells image tick since faults failed_changes m x c old new s s2
  is_stored m x s s1 s2 d c r p old new F worked asked prepared is_known shape first second shown room told goes_on stores device kept =
      has_stored laws m x c r d.after d.greatest p.added.blocks old new s s1 s2 F worked (subst (λ u. Ends m x s u) (sym (stored_as m x s s1 s2 d c r p asked prepared first second)) (asked_ends asked)) second asked.change (λ says. spelled_on s r p (geometry old) (infos old) (image old) (image_told old says is_known) shape prepared) shown room
      (files_behind s s1 (length p.added.blocks) first)
      (λ says. (image_told new says device.still_known).shape ∙ device.same_geometry ∙ sym (image_told old says is_known).shape) told goes_on stores device kept
