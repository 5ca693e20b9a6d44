use Rattle.std.proofs.Common.{◌≡◌, ℕ, false, [], drop, Some, sym, ◌∙◌, ap, subst}
use Rattle.zone_image.specs.Image.{Image, zone_at}
use Rattle.zone_image.proofs.ReadLaws.{reads_on}
use Rattle.log_model.specs.AppendLaws.{scan_at}
use Rattle.log_model.specs.FileTable.{replay_from, replay_log}
use Rattle.log_model.specs.LogScan.{Scan, with_payload}
use Rattle.log_model.specs.Mounted.{last_block}
use Rattle.extent_map.specs.Records.{recorded_of}
use Rattle.meta_log.specs.Reader.{ReaderState, scan_left}
use Rattle.mount_replay.specs.Folding.{IsDamagedAs, last_after}
use Rattle.mount_replay.specs.Payloads.{Takes}
use Rattle.mount_replay.specs.declared.log.LogRecord.{LogRecord}
use Rattle.mount_replay.proofs.FoldLaws.{new_reader, nothing_replayed, rest_replayed, rest_last}
use Rattle.mount_replay.proofs.log_table.log_table.Goals as goal

pub returns-in_default-clause-table : goal.returns-in_default-clause-table
returns-in_default-clause-table g c = λ told.
    let D = g.D.ZonedDevice in
    let i = D.image c.args.dev.now in
    let image = g.met.D.ZonedDevice.told c.args.dev.now told c.requires.is_known in
    let r = c.new-reader.result in
    let whole = new_reader r i c.args.geometry.now c.args.log.zone c.args.log.written c.new-reader.ensures (c.requires.same_geometry ∙ sym image.shape) in
    let none : (scan_left r (zone_at i r.zone).blocks).payloads ≡ [] =
    subst (λ o. Takes (scan_left r (zone_at i r.zone).blocks) o (scan_left c.next_record.new.reader (zone_at i r.zone).blocks)) c.in_default.is (c.in_ok-superblock.ensures.takes told) in
    nothing_replayed (scan_at i c.args.log.zone) (recorded_of c.new-table.result.rows) (ap recorded_of c.new-table.ensures.files) (ap (λ (s : Scan). s.payloads) (sym whole) ∙ none)

pub returns-in_default-clause-last : goal.returns-in_default-clause-last
returns-in_default-clause-last g c = λ told.
    let D = g.D.ZonedDevice in
    let i = D.image c.args.dev.now in
    let image = g.met.D.ZonedDevice.told c.args.dev.now told c.requires.is_known in
    let r = c.new-reader.result in
    let whole = new_reader r i c.args.geometry.now c.args.log.zone c.args.log.written c.new-reader.ensures (c.requires.same_geometry ∙ sym image.shape) in
    let none : (scan_left r (zone_at i r.zone).blocks).payloads ≡ [] =
    subst (λ o. Takes (scan_left r (zone_at i r.zone).blocks) o (scan_left c.next_record.new.reader (zone_at i r.zone).blocks)) c.in_default.is (c.in_ok-superblock.ensures.takes told) in
    sym (ap last_block (ap (λ (s : Scan). s.payloads) (sym whole) ∙ none))

-- what was taken first, of the whole log
taken : (r s : ReaderState) (i : Image) (zone : ℕ) (superblock : LogRecord) → scan_left r (zone_at i r.zone).blocks ≡ scan_at i zone → Takes (scan_left r (zone_at i r.zone).blocks) (Some superblock) (scan_left s (zone_at i r.zone).blocks)
    → scan_at i zone ≡ with_payload superblock.block superblock.payload (scan_left s (zone_at i r.zone).blocks)
taken r s i zone superblock whole takes = sym whole ∙ takes

-- the rest, on the device that was read
rest_there : (r s : ReaderState) (i j : Image) → j ≡ i → s.zone ≡ r.zone → scan_left s (zone_at j s.zone).blocks ≡ scan_left s (zone_at i r.zone).blocks
rest_there r s i j image zone = ap (λ (k : Image). scan_left s (zone_at k s.zone).blocks) image ∙ ap (λ (z : ℕ). scan_left s (zone_at i z).blocks) zone

pub returns-clause-damaged : goal.returns-clause-damaged
returns-clause-damaged g c = λ told.
    let D = g.D.ZonedDevice in
    let i = D.image c.args.dev.now in
    let image = g.met.D.ZonedDevice.told c.args.dev.now told c.requires.is_known in
    let r = c.new-reader.result in
    let s = c.next_record.new.reader in
    let whole = new_reader r i c.args.geometry.now c.args.log.zone c.args.log.written c.new-reader.ensures (c.requires.same_geometry ∙ sym image.shape) in
    let takes = taken r s i c.args.log.zone c.in-Some.superblock whole (subst (λ o. Takes (scan_left r (zone_at i r.zone).blocks) o (scan_left s (zone_at i r.zone).blocks)) c.in-Some.is (c.in_ok-superblock.ensures.takes told)) in
    let rest = rest_there r s i (D.image c.next_record.new.dev) (c.in_ok-superblock.ensures.device.same_image told) c.in_ok-superblock.ensures.same.zone in
    let all : replay_log (drop 1 (scan_at i c.args.log.zone).payloads) ≡ replay_from false (recorded_of c.new-table.result.rows) (scan_left s (zone_at (D.image c.next_record.new.dev) s.zone).blocks).payloads =
    rest_replayed (scan_at i c.args.log.zone) (scan_left s (zone_at i r.zone).blocks) c.in-Some.superblock (recorded_of c.new-table.result.rows) (ap recorded_of c.new-table.ensures.files) takes
    ∙ ap (λ (x : Scan). replay_from false (recorded_of c.new-table.result.rows) x.payloads) (sym rest) in
    subst (λ x. IsDamagedAs c.args.log.zone x c.in-Err.e) (sym all) (c.in-Err.ensures.damaged told)

pub returns-clause-device : goal.returns-clause-device
returns-clause-device g c = reads_on g.met.D.ZonedDevice.moments c.in_ok-superblock.ensures.device c.in-Err.ensures.device

pub returns-in-Ok-clause-table : goal.returns-in-Ok-clause-table
returns-in-Ok-clause-table g c = λ told.
    let D = g.D.ZonedDevice in
    let i = D.image c.args.dev.now in
    let image = g.met.D.ZonedDevice.told c.args.dev.now told c.requires.is_known in
    let r = c.new-reader.result in
    let s = c.next_record.new.reader in
    let whole = new_reader r i c.args.geometry.now c.args.log.zone c.args.log.written c.new-reader.ensures (c.requires.same_geometry ∙ sym image.shape) in
    let takes = taken r s i c.args.log.zone c.in-Some.superblock whole (subst (λ o. Takes (scan_left r (zone_at i r.zone).blocks) o (scan_left s (zone_at i r.zone).blocks)) c.in-Some.is (c.in_ok-superblock.ensures.takes told)) in
    let rest = rest_there r s i (D.image c.next_record.new.dev) (c.in_ok-superblock.ensures.device.same_image told) c.in_ok-superblock.ensures.same.zone in
    rest_replayed (scan_at i c.args.log.zone) (scan_left s (zone_at i r.zone).blocks) c.in-Some.superblock (recorded_of c.new-table.result.rows) (ap recorded_of c.new-table.ensures.files) takes
    ∙ ap (λ (x : Scan). replay_from false (recorded_of c.new-table.result.rows) x.payloads) (sym rest)
    ∙ c.in-Ok.ensures.folded told

pub returns-in-Ok-clause-last : goal.returns-in-Ok-clause-last
returns-in-Ok-clause-last g c = λ told.
    let D = g.D.ZonedDevice in
    let i = D.image c.args.dev.now in
    let image = g.met.D.ZonedDevice.told c.args.dev.now told c.requires.is_known in
    let r = c.new-reader.result in
    let s = c.next_record.new.reader in
    let whole = new_reader r i c.args.geometry.now c.args.log.zone c.args.log.written c.new-reader.ensures (c.requires.same_geometry ∙ sym image.shape) in
    let takes = taken r s i c.args.log.zone c.in-Some.superblock whole (subst (λ o. Takes (scan_left r (zone_at i r.zone).blocks) o (scan_left s (zone_at i r.zone).blocks)) c.in-Some.is (c.in_ok-superblock.ensures.takes told)) in
    let rest = rest_there r s i (D.image c.next_record.new.dev) (c.in_ok-superblock.ensures.device.same_image told) c.in_ok-superblock.ensures.same.zone in
    c.in-Ok.ensures.last told
    ∙ ap (λ (x : Scan). last_after c.in-Some.superblock.block x.payloads) rest
    ∙ rest_last (scan_at i c.args.log.zone) (scan_left s (zone_at i r.zone).blocks) c.in-Some.superblock takes

pub returns-in-Ok-clause-device : goal.returns-in-Ok-clause-device
returns-in-Ok-clause-device g c = reads_on g.met.D.ZonedDevice.moments c.in_ok-superblock.ensures.device c.in-Ok.ensures.device
