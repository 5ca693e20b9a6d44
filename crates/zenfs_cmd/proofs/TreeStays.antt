-- Want of memory leaves the tree.
use Rattle.std.proofs.Common.{◌≡◌, inl, inr, sym, subst}
use Rattle.std.specs.Prelude.{Result, Err}
use Rattle.zone_image.specs.Image.{Image, IsCrash}
use Rattle.fs_model.specs.declared.error.FsError.{FsError}
use Rattle.fs_model.specs.declared.error.FsError.TheVariants.{NoMemory}
use Rattle.change_cover.specs.SameTrees.{MountsTheSame}
use Rattle.fs_core.specs.Changing.{IsUnwritten}
use Rattle.fs_report.specs.declared.cause.Cause.{Cause}
use Rattle.fs_report.specs.declared.cause.Cause.TheVariants as cause
use Rattle.zenfs_cmd.specs.Leaving.{IsKeptWithoutMemory, LeavesTheTree}
use Rattle.zenfs_cmd.specs.Reasons.{IsFailureOf}

-- where nothing was written
pub same_tree : (i j : Image) → j ≡ i → LeavesTheTree i j
same_tree i j same = subst (LeavesTheTree i) (sym same) (record { standing = λ t mounts. mounts; crashed = λ k crash. inl crash })

-- where a mount began to write, and nothing was written behind it
pub same_tree_behind : (i mid j : Image) → j ≡ mid → MountsTheSame i mid → ((k : Image) → IsCrash mid k → MountsTheSame i k) → LeavesTheTree i j
same_tree_behind i mid j same standing crashed = subst (LeavesTheTree i) (sym same) (record { standing = standing; crashed = λ k crash. inr (crashed k crash) })

-- it comes before anything is written
pub wants_unwritten : {A : Type 0} (r : Result A FsError) → r ≡ Err NoMemory → IsUnwritten r
wants_unwritten r is = subst IsUnwritten (sym is) tt

-- what it keeps of a change it keeps of a command
pub kept_as_failed : (e : FsError) (why : Cause) (kept : Type 0) → IsFailureOf e why → (e ≡ NoMemory → kept) → IsKeptWithoutMemory why kept
kept_as_failed e cause.NoMemory kept is from = from is
kept_as_failed e _ kept is from = tt
