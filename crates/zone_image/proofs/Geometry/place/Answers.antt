-- An address of the device lies in a zone whose number is below theirs.
use Rattle.std.proofs.Common.{ℕ, ◌≡◌, ◌*◌, ◌/◌, ◌<◌, ◌≤◌, false, true, arith, subst, sym}
use Rattle.std.proofs.lemmas.Nat.{le-div}
use Rattle.zone_image.proofs.Geometry.place.Goals as goal

below : (address zones size n : ℕ) → 0 < size → size ≡ n → address / size < zones → zones * n ≤ address → true ≡ false
below address zones size n some same within past =
    let whole : zones * size ≤ address = subst (λ k. zones * k ≤ address) (sym same) past in
    absurd (omega (arith, le-div zones address size some whole))

pub returns-then-zone-from-clause-past : goal.returns-then-zone-from-clause-past
returns-then-zone-from-clause-past c =
    let size = c.zone_bytes-size in (
      λ is. cc,
      λ past. below c.args.address c.args.self.now.zones size.result _ size.ensures.some size.ensures.exact (omega arith) past,
    )
