use Rattle.std.proofs.Common.{◌≡◌, ◌≤◌, ◌-◌, length, refl, ap, sym, ◌∙◌, subst, arith}
use Rattle.zone_image.specs.Image.{zone_at}
use Rattle.zone_image.specs.Infos.{info_at}
use Rattle.zone_image.proofs.ReadLaws.{reads_nothing, reads_on}
use Rattle.meta_log.specs.Reader.{scan_left}
use Rattle.meta_log.proofs.Reading.{written_is}
use Rattle.log_roll.specs.Records.{Begins}
use Rattle.log_roll.specs.Summaries.{end_seen}
use Rattle.log_roll.proofs.Tails.{IsReadTo, few_left, more_read, nothing_read}
use Rattle.log_roll.proofs.summary.tail_of.Goals as goal

pub loop-left-init : goal.loop-left-init
loop-left-init g c =
    let D = g.D.ZonedDevice in
    let dev = c.args.dev.now in
    let reader = c.args.reader.now in
    let blocks = (zone_at (D.image dev) reader.zone).blocks in
    record {
      reads = reads_nothing g.met.D.ZonedDevice.moments dev c.requires.is_known;
      faults = omega arith;
      same = record { zone = refl; block_size = refl; window = refl; written = refl };
      held = c.requires.held;
      read = λ told.
          let count : (info_at (D.infos dev) reader.zone).written ≡ length blocks =
          written_is (D.geometry dev) (D.infos dev) (D.image dev) reader.zone (g.met.D.ZonedDevice.possible dev c.requires.is_known) (g.met.D.ZonedDevice.told dev told c.requires.is_known) c.requires.is_zone in
          let all : length blocks ≡ c.from-left.result = sym count ∙ (sym c.requires.same_written ∙ (c.requires.all_written ∙ sym c.from-left.ensures)) in
          nothing_read (scan_left reader blocks) c.from-left.result (subst (λ n. length (scan_left reader blocks).payloads ≤ n) all (few_left reader blocks));
    }

pub next_record-requires-clause-is_known : goal.next_record-requires-clause-is_known
next_record-requires-clause-is_known g c = c.loop-left.invariant.reads.still_known

pub returns-in-End-clause-device : goal.returns-in-End-clause-device
returns-in-End-clause-device g c = reads_on g.met.D.ZonedDevice.moments c.loop-left.invariant.reads c.next_record.ensures.device

pub returns-in-Err-clause-device : goal.returns-in-Err-clause-device
returns-in-Err-clause-device g c = reads_on g.met.D.ZonedDevice.moments c.loop-left.invariant.reads c.next_record.ensures.device

pub loop-left-preserved : goal.loop-left-preserved
loop-left-preserved g c =
    let D = g.D.ZonedDevice in
    let it = c.loop-left.invariant in
    let reader = c.loop-left.reader in
    let reader_behind = c.next_record.new.reader in
    let first_blocks = (zone_at (D.image c.args.dev.now) c.args.reader.now.zone).blocks in
    record {
      reads = reads_on g.met.D.ZonedDevice.moments it.reads c.next_record.ensures.device;
      faults = omega (arith, it.faults, c.next_record.ensures.cause.never_falls);
      same = record {
        zone = c.next_record.ensures.same.zone ∙ it.same.zone;
        block_size = c.next_record.ensures.same.block_size ∙ it.same.block_size;
        window = c.next_record.ensures.same.window ∙ it.same.window;
        written = c.next_record.ensures.same.written ∙ it.same.written;
      };
      held = c.next_record.ensures.held;
      read = λ told.
          let same_blocks : (zone_at (D.image c.loop-left.dev) reader.zone).blocks ≡ first_blocks =
          ap (λ i. (zone_at i reader.zone).blocks) (it.reads.same_image told) ∙ ap (λ z. (zone_at (D.image c.args.dev.now) z).blocks) it.same.zone in
          let next_is = subst (λ bs. Begins (scan_left reader bs) c.in-Ok.next (scan_left reader_behind bs)) same_blocks (c.in-Ok.ensures.begins told) in
          let payload_is = subst (λ n. Begins (scan_left reader first_blocks) n (scan_left reader_behind first_blocks)) c.in-Payload.is next_is in
          let seen_is : c.end_seen-has_end.result ≡ end_seen c.loop-left.has_end c.in-Payload.bytes = c.end_seen-has_end.ensures ∙ ap (end_seen c.loop-left.has_end) c.items.ensures in
          subst (λ b. IsReadTo (scan_left c.args.reader.now first_blocks) b (scan_left reader_behind first_blocks) (c.loop-left.left - 1)) (sym seen_is)
          (more_read (scan_left c.args.reader.now first_blocks) (scan_left reader first_blocks) (scan_left reader_behind first_blocks) c.loop-left.has_end c.loop-left.left c.in-Payload.block c.in-Payload.bytes (it.read told) payload_is);
    }

pub returns-clause-tail : goal.returns-clause-tail
returns-clause-tail g c = λ told. absurd (omega (arith, (c.loop-left.invariant.read told).room, c.loop-left-test.false))
