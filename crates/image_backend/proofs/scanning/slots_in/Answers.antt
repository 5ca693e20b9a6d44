use Rattle.std.proofs.Common.{◌≡◌, ◌+◌, ◌-◌, ◌*◌, [], ◌∷◌, ◌++◌, take, drop, true, false, sym, ◌∙◌, ap, arith}
use Rattle.image_backend.specs.declared.table.Slot.{Slot}
use Rattle.image_backend.specs.Format.{info_in, is_descriptor}
use Rattle.image_backend.specs.Table.{slot_of}
use Rattle.image_backend.proofs.Descriptors.{chunks_fail, slots_more, all_more}
use Rattle.image_backend.proofs.scanning.slots_in.Goals as goal

pub returns-in-None-clause-exact : goal.returns-in-None-clause-exact
returns-in-None-clause-exact c =
    let g = c.args.geometry.now in
    let at = c.loop-zone.zone * 8 in
    let eight : at + 8 - at ≡ 8 = omega arith in
    let fails : is_descriptor g (take 8 (drop at c.args.bytes.now)) ≡ false =
    ap (λ k. is_descriptor g (take k (drop at c.args.bytes.now))) (sym eight) ∙ sym c.in-None.ensures.exact in
    sym (chunks_fail (is_descriptor g) 8 c.loop-zone.zone g.zones c.args.bytes.now c.loop-zone-test.true fails)

pub loop-zone-preserved : goal.loop-zone-preserved
loop-zone-preserved c =
    let g = c.args.geometry.now in
    let bytes = c.args.bytes.now in
    let zone = c.loop-zone.zone in
    let at = zone * 8 in
    let eight : at + 8 - at ≡ 8 = omega arith in
    let here : is_descriptor g (take 8 (drop at bytes)) ≡ true = ap (λ k. is_descriptor g (take k (drop at bytes))) (sym eight) ∙ sym c.in-Some.ensures.exact in
    let info : c.in-Some.info ≡ info_in (take 8 (drop at bytes)) = c.in-Some.ensures.found ∙ ap (λ k. info_in (take k (drop at bytes))) eight in
    record {
      found =
          c.in_ok-push-in-Some.ensures.items
          ∙ ap (λ (slot : Slot). c.loop-zone.slots.items ++ slot ∷ []) (c.of.ensures ∙ ap slot_of info)
          ∙ slots_more g bytes zone c.loop-zone.slots.items c.loop-zone.invariant.found;
      all = all_more g bytes zone c.loop-zone.invariant.all here;
    }
