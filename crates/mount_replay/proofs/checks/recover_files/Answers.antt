use Rattle.std.proofs.Common.{ℕ, ◌<◌, length, get_or, arith}
use Rattle.std.proofs.lemmas.List.{get_or_default}
use Rattle.zone_image.proofs.ReadLaws.{reads_on}
use Rattle.record_model.specs.declared.types.FileEntry.{FileEntry}
use Rattle.mount_replay.proofs.FoundLaws.{found_more, found_on, all_found}
use Rattle.mount_replay.proofs.checks.recover_files.Goals as goal

pub loop-i-preserved : goal.loop-i-preserved
loop-i-preserved g c =
    let D = g.D.ZonedDevice in
    let shape = c.args.geometry.now in
    let infos = c.args.infos.now in
    let ys = c.loop-i.files in
    let n : ℕ = c.loop-i.i in
    let old : FileEntry = get_or ys n c.index-files-i.result in
    let lt : n < length ys = omega (arith, c.loop-i-test.true, c.loop-i.auto.files) in (
      reads_on g.met.D.ZonedDevice.moments c.loop-i.invariant.0 c.in_ok-recover_file.ensures.device,
      omega (arith, c.loop-i.invariant.1, c.in_ok-recover_file.ensures.cause.never_falls),
      found_more D.tells shape infos (D.image c.args.dev.now) n c.args.files.now ys old c.recover_file.new.file c.loop-i.invariant.2 lt (get_or_default ys n c.index-files-i.result old lt)
          (found_on D.tells shape infos (D.image c.args.dev.now) (D.image c.loop-i.dev) old c.recover_file.new.file c.loop-i.invariant.0.same_image c.in_ok-recover_file.ensures.found),
    )

pub returns-clause-found : goal.returns-clause-found
returns-clause-found g c =
    let D = g.D.ZonedDevice in
    all_found D.tells c.args.geometry.now c.args.infos.now (D.image c.args.dev.now) c.args.files.now c.loop-i.files c.loop-i.invariant.2.same_length
    (λ k d e below. c.loop-i.invariant.2.first k d e (omega (arith, below, c.loop-i-test.false)) below)
