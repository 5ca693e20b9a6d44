-- A change that was made, as the image at entry has it.
use Rattle.std.specs.Prelude.{◌≡◌, Result, Ok, Err, OnOk, IfErr}
use Rattle.std.proofs.Common.{◌∙◌, ap, sym, subst}
use Rattle.zone_image.specs.Image.{Image}
use Rattle.log_model.specs.Mounted.{table_in}
use Rattle.fs_model.specs.CrashClauses.{Agrees}
use Rattle.fs_model.specs.FsState.{FsState, recorded, state_in}
use Rattle.command_model.specs.CommandLine.{Command}
use Rattle.zenfs_cmd.specs.Leaving.{IsChanged, MountsChanged}
use Rattle.zenfs_cmd.specs.Made.{IsMade, IsPlanned}
use Rattle.zenfs_cmd.specs.Plans.{planned}

-- two facts of one answer
pub both_ok : {T E P Q R : Type 0} → (r : Result T E) → (P → Q → R) → OnOk r P → OnOk r Q → OnOk r R
both_ok (Ok x) f p q = f p q
both_ok (Err e) f p q = tt

-- a fact of an answer, where it is known
pub ok_at : {T E P : Type 0} → (r : Result T E) (x : T) → r ≡ Ok x → OnOk r P → P
ok_at {T = T} {E = E} {P = P} r x is h = let Q : Result T E → Type 0 = λ a. OnOk a P in subst Q is h

pub err_at : {T E : Type 0} → (P : E → Type 0) (r : Result T E) (e : E) → r ≡ Err e → IfErr r P → P e
err_at {T = T} {E = E} P r e is h = let Q : Result T E → Type 0 = λ a. IfErr a P in subst Q is h

-- the image that was mounted is the one at entry
pub changed : (c : Command) (i k j : Image) (s next : FsState) → state_in i ≡ Ok s → k ≡ i → IsPlanned c s next → IsMade c k j next → IsChanged c i j
changed c i k j s next mounted same plan made = record {
  before = s;
  mounted = mounted;
  answered = plan.answered;
  table = made.table ∙ ap (λ (t : FsState). Ok (recorded t)) plan.last;
  agrees = subst (λ (t : FsState). Agrees t j) plan.last made.agrees;
  trees = subst (λ (m : Image). MountsChanged c m j) same made.trees;
}

-- so it is where the change ended well
pub changed_if_ok : {T E : Type 0} → (r : Result T E) (c : Command) (i k j : Image) (s next : FsState) (tells : Type 0) → (tells → state_in i ≡ Ok s) → (tells → k ≡ i)
    → OnOk r (IsPlanned c s next) → OnOk r (tells → IsMade c k j next) → OnOk r (tells → IsChanged c i j)
changed_if_ok (Ok x) c i k j s next tells mounted same plan made = λ told. changed c i k j s next (mounted told) (same told) plan (made told)
changed_if_ok (Err e) c i k j s next tells mounted same plan made = tt
