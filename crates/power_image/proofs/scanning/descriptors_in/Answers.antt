use Rattle.std.proofs.Common.{◌≡◌, ◌+◌, ◌-◌, ◌*◌, [], ◌∷◌, ◌++◌, take, drop, true, false, sym, ◌∙◌, ap, arith}
use Rattle.power_image.specs.declared.descriptor.Descriptor.{Descriptor}
use Rattle.power_image.specs.Descriptors.{said_in, is_descriptor}
use Rattle.power_image.proofs.Descriptors.{chunks_fail, said_more, all_more}
use Rattle.power_image.proofs.scanning.descriptors_in.Goals as goal

pub returns-in-None-clause-exact : goal.returns-in-None-clause-exact
returns-in-None-clause-exact c =
    let g = c.args.geometry.now in
    let at = c.loop-zone.zone * 32 in
    let size : at + 32 - at ≡ 32 = omega arith in
    let fails : is_descriptor g (take 32 (drop at c.args.bytes.now)) ≡ false =
    ap (λ k. is_descriptor g (take k (drop at c.args.bytes.now))) (sym size) ∙ sym c.in-None.ensures.exact in
    sym (chunks_fail (is_descriptor g) 32 c.loop-zone.zone g.zones c.args.bytes.now c.loop-zone-test.true fails)

pub loop-zone-preserved : goal.loop-zone-preserved
loop-zone-preserved c =
    let g = c.args.geometry.now in
    let bytes = c.args.bytes.now in
    let zone = c.loop-zone.zone in
    let at = zone * 32 in
    let size : at + 32 - at ≡ 32 = omega arith in
    let here : is_descriptor g (take 32 (drop at bytes)) ≡ true = ap (λ k. is_descriptor g (take k (drop at bytes))) (sym size) ∙ sym c.in-Some.ensures.exact in
    let said : c.in-Some.descriptor ≡ said_in (take 32 (drop at bytes)) = c.in-Some.ensures.found ∙ ap (λ k. said_in (take k (drop at bytes))) size in
    record {
      found =
          c.in_ok-push-in-Some.ensures.items
          ∙ ap (λ (d : Descriptor). c.loop-zone.descriptors.items ++ d ∷ []) said
          ∙ said_more g bytes zone c.loop-zone.descriptors.items c.loop-zone.invariant.found;
      all = all_more g bytes zone c.loop-zone.invariant.all here;
    }
