use Rattle.std.proofs.Common.{ℕ, ◌+◌, List, ◌++◌, take, drop, sym, ◌∙◌, ap, arith, length-append}
use Rattle.std.proofs.Math.Seq.{take-add, take-append-add}
use Rattle.std.proofs.lemmas.List.{drop-drop}
use Rattle.zone_image.proofs.ReadLaws.{reads_on}
use Rattle.zone_image.specs.Image.{Image}
use Rattle.log_model.specs.Frames.{bytes_of}
use Rattle.fs_model.specs.FsState.{working_entry}
use Rattle.fs_core.proofs.shown.read_shown.Goals as goal

pub loop-done-preserved : goal.loop-done-preserved
loop-done-preserved g c =
    let D = g.D.ZonedDevice in
    let e = c.in_ok-done.ensures in
    let done : ℕ = c.loop-done.done in
    let n : ℕ = c.in_ok-done.field-0 in
    let offset : ℕ = c.args.place.offset in
    let front : List ℕ = c.split_at_mut-rest.result.0.now in
    let piece : List ℕ = c.read_piece.new.out in (
      reads_on g.met.D.ZonedDevice.moments c.loop-done.invariant.0 e.device,
      omega (arith, c.loop-done.invariant.1, e.cause.never_falls),
      omega (arith, length-append front piece, c.split_at_mut-rest.ensures.front_len, e.same_len, e.fits),
      λ told r found.
          let all : List ℕ = bytes_of (D.image c.args.dev.now) (working_entry r).extents in
          ap (λ (k : ℕ). take (k + n) (front ++ piece)) (sym c.split_at_mut-rest.ensures.front_len)
          ∙ take-append-add front piece n
          ∙ ap (λ (xs : List ℕ). xs ++ take n piece) (c.split_at_mut-rest.ensures.front ∙ c.loop-done.invariant.3 told r found)
          ∙ ap (λ (xs : List ℕ). take done (drop offset all) ++ xs)
          (e.bytes told r found ∙ ap (λ (i : Image). take n (drop (offset + done) (bytes_of i (working_entry r).extents))) (c.loop-done.invariant.0.same_image told)
          ∙ ap (take n) (sym (drop-drop done offset all)))
          ∙ sym (take-add done n (drop offset all)),
    )
