use Rattle.std.proofs.Common.{◌≡◌, ◌<◌, ◌-◌, ◌∙◌, length, sym, arith}
use Rattle.std.proofs.lemmas.Result.{err_from_is_err_and}
use Rattle.record_codec.specs.Place.{place}
use Rattle.record_codec.proofs.Loops.{fields_go, fields_stop, fields_end}
use Rattle.record_codec.proofs.entry.fields_at.Goals as goal

pub returns-in_err-c : goal.returns-in_err-c
returns-in_err-c c =
    let some : 0 < length c.loop-c.c.rest.now = grind arith in
    let at = c.loop-c.invariant in
    let out = err_from_is_err_and c.from_residual.result c.from_residual.ensures.1 in
    rw (out.1, out.2) (fields_stop c.in_err-c.field-0.0 at.0 c.loop-c.draft (place c.loop-c.c) _ at.1 some c.in_err-c.ensures.value at.2)

pub loop-c-preserved : goal.loop-c-preserved
loop-c-preserved c =
    let some : 0 < length c.loop-c.c.rest.now = grind arith in
    let at = c.loop-c.invariant in
    (at.0 - 1, omega (arith, c.in_ok-c.ensures.forward, at.1), fields_go at.0 _ (place c.loop-c.c) _ _ _ at.1 some c.in_ok-c.ensures.value at.2)

pub returns : goal.returns
returns c =
    let none : length c.loop-c.c.rest.now ≡ 0 = grind arith in
    let at = c.loop-c.invariant in
    sym at.2 ∙ fields_end at.0 _ _ none
