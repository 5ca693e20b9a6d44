use Rattle.std.proofs.Common.{◌≡◌, ℕ, ◌+◌, ◌-◌, ◌*◌, ◌<◌, ◌≤◌, ◌++◌, [], ◌∷◌, drop, Some, None, sym, ◌∙◌, ap, subst, arith}
use Rattle.std.specs.Prelude.{IfSome}
use Rattle.std.specs.List.{All}
use Rattle.std.proofs.lemmas.List.Elements.{All-append, All-cons, All-nil}
use Rattle.zone_image.specs.declared.Geometry.{Geometry}
use Rattle.zone_image.specs.Infos.{IsPossible}
use Rattle.record_model.specs.declared.types.Extent.{Extent}
use Rattle.zone_image.specs.Image.{Image, zone_at, zone_bytes}
use Rattle.zone_image.proofs.ReadLaws.{reads_on}
use Rattle.mount_replay.specs.FrameWalk.{frame_in, frames_from, IsFrameWithin}
use Rattle.mount_replay.specs.Rules.{IsWrittenExtent}
use Rattle.mount_replay.proofs.WrittenLaws.{frame_extent, next_place, possible_for}
use Rattle.mount_replay.proofs.FrameWalks.{found_more, found_all, addresses_left, block_positive}
use Rattle.mount_replay.proofs.frames.walk_frames.Goals as goal

pub loop-frame-preserved : goal.loop-frame-preserved
loop-frame-preserved g c =
    let D = g.D.ZonedDevice in
    let dev = c.args.dev.now in
    let block : ℕ = c.args.geometry.now.block in
    let at : ℕ = c.loop-frame.at in
    let n : ℕ = c.in-Some.frame.blocks in
    let written : ℕ = c.args.from.written in
    let step : ℕ = c.from.result * c.from-in-Some.result in
    let is : IsFrameWithin block (written - at) c.in-Some.frame = subst (λ o. IfSome o (IsFrameWithin block (written - at))) c.in-Some.is c.in_ok-frame.ensures.some in
    let steps : step ≡ n * block = ap (λ (k : ℕ). k * c.from-in-Some.result) c.from.ensures ∙ ap (λ (k : ℕ). n * k) c.from-in-Some.ensures in
    let positive : 0 < block = subst (λ (s : ℕ). 0 < s) (ap (λ s. s.block) (sym c.requires.same_geometry)) (block_positive (D.geometry dev) (g.met.D.ZonedDevice.possible dev c.requires.is_known).valid) in
    let shape = c.args.geometry.now in
    let possible : IsPossible shape (D.infos dev) = possible_for shape (D.geometry dev) (D.infos dev) c.requires.same_geometry (g.met.D.ZonedDevice.possible dev c.requires.is_known) in
    let in_zones : c.args.from.zone < shape.zones = subst (λ (s : Geometry). c.args.from.zone < s.zones) (sym c.requires.same_geometry) c.requires.is_zone in
    let W : Extent → Type 0 = IsWrittenExtent shape (D.infos dev) in
    let x : Extent = record { start = c.loop-frame.start + 8; len = c.in-Some.frame.len } in
    let within : at + n ≤ written = omega (arith, is.within, c.loop-frame.invariant.2) in (
      reads_on g.met.D.ZonedDevice.moments c.loop-frame.invariant.0 c.in_ok-frame.ensures.device,
      omega (arith, c.loop-frame.invariant.1, c.in_ok-frame.ensures.cause.never_falls),
      within,
      addresses_left c.loop-frame.start at n written block (c.args.from.start + (written - c.args.from.first) * block) step within steps c.loop-frame.invariant.3,
      next_place c.loop-frame.start step c.args.from.zone (zone_bytes shape) at n block c.loop-frame.invariant.4 steps,
      λ old. subst (All W) (sym c.in_ok-push.ensures) (All-append W c.loop-frame.extents.items (x ∷ []) (c.loop-frame.invariant.5 old)
          (All-cons W x [] (frame_extent shape (D.infos dev) c.args.from.zone at n c.in-Some.frame.len c.loop-frame.start possible c.requires.is_data in_zones c.loop-frame.invariant.4 is.some is.holds (omega (arith, within, c.requires.same_written))) (All-nil W))),
      λ told.
          let blocks = (zone_at (D.image dev) c.args.from.zone).blocks in
          let found : frame_in block (drop at blocks) ≡ Some c.in-Some.frame =
          ap (λ (i : Image). frame_in block (drop at (zone_at i c.args.from.zone).blocks)) (sym (c.loop-frame.invariant.0.same_image told)) ∙ sym (c.in_ok-frame.ensures.frame told) ∙ c.in-Some.is in
          found_more block c.loop-frame.start at step blocks c.in-Some.frame c.loop-frame.extents.items c.push.new.extents.items
          (c.args.extents.now.items ++ frames_from block c.args.from.start (drop c.args.from.first blocks)) positive found c.in_ok-push.ensures steps (c.loop-frame.invariant.6 told),
    )

pub returns-clause-found : goal.returns-clause-found
returns-clause-found g c = λ told.
    let D = g.D.ZonedDevice in
    let block : ℕ = c.args.geometry.now.block in
    let at : ℕ = c.loop-frame.at in
    let blocks = (zone_at (D.image c.args.dev.now) c.args.from.zone).blocks in
    let none : frame_in block (drop at blocks) ≡ None =
    ap (λ (i : Image). frame_in block (drop at (zone_at i c.args.from.zone).blocks)) (sym (c.loop-frame.invariant.0.same_image told)) ∙ sym (c.in_ok-frame.ensures.frame told) ∙ c.in_default.is in
    found_all block c.loop-frame.start at blocks c.loop-frame.extents.items (c.args.extents.now.items ++ frames_from block c.args.from.start (drop c.args.from.first blocks)) none (c.loop-frame.invariant.6 told)

pub returns-in_err-frame-clause-device : goal.returns-in_err-frame-clause-device
returns-in_err-frame-clause-device g c = reads_on g.met.D.ZonedDevice.moments c.loop-frame.invariant.0 c.in_err-frame.ensures.device

pub returns-in_err-push-clause-device : goal.returns-in_err-push-clause-device
returns-in_err-push-clause-device g c = reads_on g.met.D.ZonedDevice.moments c.loop-frame.invariant.0 c.in_ok-frame.ensures.device

pub returns-clause-device : goal.returns-clause-device
returns-clause-device g c = reads_on g.met.D.ZonedDevice.moments c.loop-frame.invariant.0 c.in_ok-frame.ensures.device
