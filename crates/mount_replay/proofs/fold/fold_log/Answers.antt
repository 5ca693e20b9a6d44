use Rattle.std.proofs.Common.{◌≡◌, ℕ, ◌<◌, ◌≤◌, false, Some, Ok, length, sym, ◌∙◌, subst, arith}
use Rattle.std.specs.Prelude.{IfSome}
use Rattle.zone_image.specs.Image.{Image, zone_at}
use Rattle.zone_image.proofs.ReadLaws.{reads_on}
use Rattle.log_model.specs.LogScan.{with_payload}
use Rattle.log_model.specs.FileTable.{replay_from}
use Rattle.extent_map.specs.Records.{recorded_of}
use Rattle.meta_log.specs.Reader.{ReaderState, IsSameLog, scan_left}
use Rattle.mount_replay.specs.declared.log.LogRecord.{LogRecord}
use Rattle.mount_replay.specs.Folding.{folded, last_after}
use Rattle.mount_replay.specs.Payloads.{Takes}
use Rattle.mount_replay.proofs.FrameWalks.{written_is}
use Rattle.mount_replay.proofs.FoldLaws.{fold_more, fold_ends, last_more, last_ends, none_left}
use Rattle.mount_replay.proofs.fold.fold_log.Goals as goal

pub returns-in_err-ended-clause-device : goal.returns-in_err-ended-clause-device
returns-in_err-ended-clause-device g c = reads_on g.met.D.ZonedDevice.moments c.loop-taken.invariant.0 c.in_ok-found.ensures.device

pub returns-in_err-found-clause-device : goal.returns-in_err-found-clause-device
returns-in_err-found-clause-device g c = reads_on g.met.D.ZonedDevice.moments c.loop-taken.invariant.0 c.next_record.ensures.device

pub returns-in_default-clause-device : goal.returns-in_default-clause-device
returns-in_default-clause-device g c = reads_on g.met.D.ZonedDevice.moments c.loop-taken.invariant.0 c.in_ok-found.ensures.device

-- a reader of the same log after another
same_on : (a b c : ReaderState) → IsSameLog a b → IsSameLog b c → IsSameLog a c
same_on a b c first second = record {
  zone = second.zone ∙ first.zone;
  block_size = second.block_size ∙ first.block_size;
  window = second.window ∙ first.window;
  written = second.written ∙ first.written;
}

-- what was taken, of the zone's blocks as they stood at the start
taken_at : (old now : ReaderState) (i j : Image) (zone : ℕ) (r : LogRecord) → now.zone ≡ zone → j ≡ i
    → Takes (scan_left now (zone_at j now.zone).blocks) (Some r) (scan_left old (zone_at j now.zone).blocks)
    → scan_left now (zone_at i zone).blocks ≡ with_payload r.block r.payload (scan_left old (zone_at i zone).blocks)
taken_at old now i j zone r same image takes =
    subst (λ (k : Image). scan_left now (zone_at k zone).blocks ≡ with_payload r.block r.payload (scan_left old (zone_at k zone).blocks)) image
    (subst (λ (z : ℕ). scan_left now (zone_at j z).blocks ≡ with_payload r.block r.payload (scan_left old (zone_at j z).blocks)) same takes)

pub loop-taken-preserved : goal.loop-taken-preserved
loop-taken-preserved g c =
    let D = g.D.ZonedDevice in
    let dev = c.args.dev.now in
    let old = c.loop-taken.reader in
    let now = c.next_record.new.reader in
    let zone : ℕ = c.args.reader.now.zone in
    let r = c.in-Some.found in
    let moved : old.next < now.next = subst (λ o. IfSome o (λ _. old.next < now.next)) c.in-Some.is c.in_ok-found.ensures.advances in (
      reads_on g.met.D.ZonedDevice.moments c.loop-taken.invariant.0 c.in_ok-found.ensures.device,
      omega (arith, c.loop-taken.invariant.1, c.in_ok-found.ensures.cause.never_falls),
      same_on c.args.reader.now old now c.loop-taken.invariant.2 c.in_ok-found.ensures.same,
      omega (arith, c.loop-taken.invariant.3, moved),
      c.in_ok-ended.ensures.settled,
      c.in_ok-ended.ensures.sound,
      λ told.
          let blocks = (zone_at (D.image dev) zone).blocks in
          let takes = taken_at now old (D.image dev) (D.image c.loop-taken.dev) zone r c.loop-taken.invariant.2.zone (c.loop-taken.invariant.0.same_image told)
          (subst (λ o. Takes (scan_left old (zone_at (D.image c.loop-taken.dev) old.zone).blocks) o (scan_left now (zone_at (D.image c.loop-taken.dev) old.zone).blocks)) c.in-Some.is (c.in_ok-found.ensures.takes told)) in
          fold_more c.loop-taken.ended c.in_ok-ended.ended (recorded_of c.loop-taken.table.rows) (recorded_of c.fold_record.new.table.rows) (scan_left old blocks) (scan_left now blocks) r
          (replay_from false (recorded_of c.args.table.now.rows) (scan_left c.args.reader.now blocks).payloads) takes
          (subst (λ bytes. folded c.loop-taken.ended (recorded_of c.loop-taken.table.rows) (r.block, bytes) ≡ Ok (c.in_ok-ended.ended, recorded_of c.fold_record.new.table.rows)) c.items.ensures c.in_ok-ended.ensures.folded)
          (c.loop-taken.invariant.6 told),
      λ told.
          let blocks = (zone_at (D.image dev) zone).blocks in
          let takes = taken_at now old (D.image dev) (D.image c.loop-taken.dev) zone r c.loop-taken.invariant.2.zone (c.loop-taken.invariant.0.same_image told)
          (subst (λ o. Takes (scan_left old (zone_at (D.image c.loop-taken.dev) old.zone).blocks) o (scan_left now (zone_at (D.image c.loop-taken.dev) old.zone).blocks)) c.in-Some.is (c.in_ok-found.ensures.takes told)) in
          last_more c.loop-taken.last (scan_left old blocks) (scan_left now blocks) r (last_after c.args.before (scan_left c.args.reader.now blocks).payloads) takes (c.loop-taken.invariant.7 told),
      c.in_ok-found.ensures.held,
    )

pub returns-clause-folded : goal.returns-clause-folded
returns-clause-folded g c = λ told.
    let D = g.D.ZonedDevice in
    let dev = c.args.dev.now in
    let zone : ℕ = c.args.reader.now.zone in
    let blocks = (zone_at (D.image dev) zone).blocks in
    let written : c.args.log.written ≡ length blocks =
    sym c.requires.same_length ∙ c.requires.same_written ∙ written_is (D.geometry dev) (D.infos dev) (D.image dev) zone (g.met.D.ZonedDevice.possible dev c.requires.is_known) (g.met.D.ZonedDevice.told dev told c.requires.is_known) c.requires.is_zone in
    let past : length blocks ≤ c.loop-taken.reader.next = omega (arith, written, c.loop-taken.invariant.3, c.loop-taken-test.false) in
    fold_ends c.loop-taken.ended (recorded_of c.loop-taken.table.rows) (scan_left c.loop-taken.reader blocks)
    (replay_from false (recorded_of c.args.table.now.rows) (scan_left c.args.reader.now blocks).payloads)
    (none_left c.loop-taken.reader blocks past) (c.loop-taken.invariant.6 told)

pub returns-clause-last : goal.returns-clause-last
returns-clause-last g c = λ told.
    let D = g.D.ZonedDevice in
    let dev = c.args.dev.now in
    let zone : ℕ = c.args.reader.now.zone in
    let blocks = (zone_at (D.image dev) zone).blocks in
    let written : c.args.log.written ≡ length blocks =
    sym c.requires.same_length ∙ c.requires.same_written ∙ written_is (D.geometry dev) (D.infos dev) (D.image dev) zone (g.met.D.ZonedDevice.possible dev c.requires.is_known) (g.met.D.ZonedDevice.told dev told c.requires.is_known) c.requires.is_zone in
    let past : length blocks ≤ c.loop-taken.reader.next = omega (arith, written, c.loop-taken.invariant.3, c.loop-taken-test.false) in
    last_ends c.loop-taken.last (scan_left c.loop-taken.reader blocks) (last_after c.args.before (scan_left c.args.reader.now blocks).payloads)
    (none_left c.loop-taken.reader blocks past) (c.loop-taken.invariant.7 told)
