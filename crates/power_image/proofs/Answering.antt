-- What a call's clause says where its answer is known.
use Rattle.std.proofs.Common.{◌≡◌, true, false, Result, Ok, Err}
use Rattle.std.specs.Prelude.{OnOk, OnErr}
use Rattle.std.specs.Result.{is_err}

pub ok_part : {T E : Type 0} (r : Result T E) (P : Type 0) → is_err r ≡ false → OnOk r P → P
ok_part (Ok x) P is said = said
ok_part (Err e) P is said = cc

pub err_part : {T E : Type 0} (r : Result T E) (P : Type 0) → is_err r ≡ true → OnErr r P → P
err_part (Ok x) P is said = cc
err_part (Err e) P is said = said

-- two facts of an Ok
pub ok_both : {T E : Type 0} (r : Result T E) {P Q R : Type 0} → OnOk r P → OnOk r Q → (P → Q → R) → OnOk r R
ok_both (Ok x) first second both = both first second
ok_both (Err e) first second both = tt

pub err_both : {T E : Type 0} (r : Result T E) {P Q R : Type 0} → OnErr r P → OnErr r Q → (P → Q → R) → OnErr r R
err_both (Ok x) first second both = tt
err_both (Err e) first second both = both first second

pub on_err : {T E : Type 0} (r : Result T E) {P : Type 0} → P → OnErr r P
on_err (Ok x) is = tt
on_err (Err e) is = is
