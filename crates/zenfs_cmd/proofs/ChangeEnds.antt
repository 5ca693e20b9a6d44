-- How a command ends that changes names.
use Rattle.std.specs.Prelude.{◌≡◌, ℕ, Bool, true, List, Some, None, Result, Ok, Err, OnOk, refl}
use Rattle.std.proofs.Common.{append-nil, sym}
use Rattle.zone_image.specs.declared.Geometry.{Geometry}
use Rattle.zone_image.specs.declared.ZoneInfo.{ZoneInfo}
use Rattle.zone_image.specs.Image.{Image}
use Rattle.fs_model.specs.declared.error.FsError.{FsError}
use Rattle.fs_core.specs.Beginning.{stopped_by}
use Rattle.command_model.specs.CommandLine.{Command, bad_name_of}
use Rattle.command_model.specs.CommandLine.Command.{LinkFile, RenameFile, DeleteFile}
use Rattle.zenfs_cmd.specs.Leaving.{IsChanged, Leaves, LeavesChanged, LeftByChange, MayLeave}
use Rattle.zenfs_cmd.specs.Plans.{changes_names}
use Rattle.zenfs_cmd.specs.Printing.{IsPrinted, output_text}
use Rattle.zenfs_cmd.specs.Words.{changes}

-- what it leaves
pub leaves_changed : {D : Type 0} → (known : D → Type 0) (geometry : D → Geometry) (infos : D → List ZoneInfo) (tells : Type 0) (image : D → Image) (quiet : Type 0) (random : ℕ)
    (old new : D) (c : Command) → changes_names c ≡ true → LeavesChanged quiet tells c (image old) (image new) → Leaves known geometry infos tells image quiet random old new c
leaves_changed known geometry infos tells image quiet random old new (LinkFile at from to) is h = h
leaves_changed known geometry infos tells image quiet random old new (RenameFile at from to) is h = h
leaves_changed known geometry infos tells image quiet random old new (DeleteFile at name) is h = h
leaves_changed known geometry infos tells image quiet random old new _ is h = absurd cc

-- the same the other way round
pub leaves_back : {D : Type 0} → (known : D → Type 0) (geometry : D → Geometry) (infos : D → List ZoneInfo) (tells : Type 0) (image : D → Image) (quiet : Type 0) (random : ℕ)
    (old new : D) (c : Command) → changes_names c ≡ true → Leaves known geometry infos tells image quiet random old new c → LeavesChanged quiet tells c (image old) (image new)
leaves_back known geometry infos tells image quiet random old new (LinkFile at from to) is h = h
leaves_back known geometry infos tells image quiet random old new (RenameFile at from to) is h = h
leaves_back known geometry infos tells image quiet random old new (DeleteFile at name) is h = h
leaves_back known geometry infos tells image quiet random old new _ is h = absurd cc

-- where it ended well
pub ended_changed : {T E D : Type 0} → (r : Result T E) (known : D → Type 0) (geometry : D → Geometry) (infos : D → List ZoneInfo) (tells : Type 0) (image : D → Image) (quiet : Type 0)
    (random : ℕ) (old new : D) (c : Command) → changes_names c ≡ true → quiet → OnOk r (bad_name_of c ≡ None) → OnOk r (tells → IsChanged c (image old) (image new))
    → OnOk r (Leaves known geometry infos tells image quiet random old new c)
ended_changed (Ok x) known geometry infos tells image quiet random old new c is same named h =
    leaves_changed known geometry infos tells image quiet random old new c is (same, named, h)
ended_changed (Err e) known geometry infos tells image quiet random old new c is same named h = tt

-- it prints nothing
pub nothing_printed : (c : Command) (i : Image) (written : List ℕ) → changes_names c ≡ true → IsPrinted (output_text c i) written written
nothing_printed (LinkFile at from to) i written is = (sym (append-nil written), refl)
nothing_printed (RenameFile at from to) i written is = (sym (append-nil written), refl)
nothing_printed (DeleteFile at name) i written is = (sym (append-nil written), refl)
nothing_printed _ i written is = absurd cc

pub printed_if_ok : {T E : Type 0} → (r : Result T E) (tells told : Type 0) (c : Command) (i : Image) (written : List ℕ) → changes_names c ≡ true
    → OnOk r (tells → told → IsPrinted (output_text c i) written written)
printed_if_ok (Ok x) tells told c i written is = λ _ _. nothing_printed c i written is
printed_if_ok (Err e) tells told c i written is = tt

-- it changes the image
pub changes_image : (c : Command) → changes_names c ≡ true → changes (Some c) ≡ true
changes_image (LinkFile at from to) is = refl
changes_image (RenameFile at from to) is = refl
changes_image (DeleteFile at name) is = refl
changes_image _ is = absurd cc

-- what a crash within it may leave
pub may_leave : (random : ℕ) (c : Command) (i j : Image) → changes_names c ≡ true → LeftByChange c i j → MayLeave random (Some c) i j
may_leave random (LinkFile at from to) i j is h = h
may_leave random (RenameFile at from to) i j is h = h
may_leave random (DeleteFile at name) i j is h = h
may_leave random _ i j is h = absurd cc

-- what ended well is stopped as before
pub goes_on_after : {A : Type 0} (r : Result A FsError) (before after : Bool) → after ≡ stopped_by before r → OnOk r (after ≡ before)
goes_on_after (Ok x) before after h = h
goes_on_after (Err e) before after h = tt
