use Rattle.std.proofs.Common.{ℕ, ◌+◌, ◌*◌, List, ◌++◌, take, sym, ◌∙◌, ap, arith, length-append}
use Rattle.std.proofs.Math.Nat.{add-mul}
use Rattle.std.proofs.Math.Seq.{take-append-add}
use Rattle.zone_image.proofs.ReadLaws.{reads_on}
use Rattle.zone_image.specs.Image.{Image}
use Rattle.zone_image.specs.Changes.{bytes_at}
use Rattle.zoned_device.proofs.WindowReads.{blocks_join}
use Rattle.zoned_device.proofs.windows.read_blocks.Goals as goal

pub loop-done-preserved : goal.loop-done-preserved
loop-done-preserved g c =
    let D = g.D.ZonedDevice in
    let e = c.in_ok-done.ensures in
    let size : ℕ = c.args.block_size in
    let done : ℕ = c.loop-done.done in
    let n : ℕ = c.in_ok-done.field-0 in
    let zone : ℕ = c.args.zone in
    let block : ℕ = c.args.block in
    let front : List ℕ = c.split_at_mut-rest.result.0.now in
    let piece : List ℕ = c.read_window.new.out in (
      reads_on g.met.D.ZonedDevice.moments c.loop-done.invariant.0 e.device,
      omega (arith, c.loop-done.invariant.1, e.cause.never_falls),
      omega (arith, e.fits, c.loop-done-test.true),
      omega (arith, length-append front piece, c.split_at_mut-rest.ensures.front_len, c.split_at_mut-rest.ensures.back_len, e.same_len, c.loop-done.invariant.3),
      λ told.
          let i : Image = D.image c.args.dev.now in
          ap (λ (k : ℕ). take k (front ++ piece)) (add-mul done n size ∙ ap (λ (k : ℕ). k + n * size) (sym c.split_at_mut-rest.ensures.front_len))
          ∙ take-append-add front piece (n * size)
          ∙ ap (λ (xs : List ℕ). xs ++ take (n * size) piece) (c.split_at_mut-rest.ensures.front ∙ c.loop-done.invariant.4 told)
          ∙ ap (λ (xs : List ℕ). bytes_at i zone block done ++ xs)
          (e.bytes told ∙ ap (λ (j : Image). bytes_at j zone (block + done) n) (c.loop-done.invariant.0.same_image told))
          ∙ blocks_join i zone block done n,
    )
