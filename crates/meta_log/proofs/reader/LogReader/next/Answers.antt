use Rattle.std.proofs.Common.{◌≡◌, ◌<◌, ◌+◌, ◌∙◌, ap, drop, sym, subst}
use Rattle.std.specs.Prelude.{option_map}
use Rattle.zone_image.specs.Image.{zone_at}
use Rattle.log_model.specs.LogScan.{first_item, with_payload}
use Rattle.meta_log.specs.Ends.{scan_end}
use Rattle.meta_log.specs.Reader.{IsPlaced, first_of, scan_left}
use Rattle.meta_log.proofs.Held.{passed_held, passed_left}
use Rattle.meta_log.proofs.Reading.{block_positive}
use Rattle.meta_log.proofs.Scanning.{left_behind, left_ended, none_from}
use Rattle.meta_log.proofs.Windows.{zone_whole}
use Rattle.meta_log.proofs.reader.LogReader.next.Goals as goal

pub returns-in-Record-clause-scan : goal.returns-in-Record-clause-scan
returns-in-Record-clause-scan g c = λ told.
    let D = g.D.ZonedDevice in
    let dev = c.args.dev.now in
    let s = c.args.self.now in
    let blocks = (zone_at (D.image dev) s.zone).blocks in
    let positive = subst (λ b. 0 < b) (sym c.requires.same_block) (block_positive (D.geometry dev) (g.met.D.ZonedDevice.possible dev c.requires.is_known).valid) in
    let going = ap (λ r. r.ended) (sym c.self.view_is) ∙ ap (option_map scan_end) (none_from c.self.inside.ended c.in_default.not-Some) in
    left_behind s blocks c.in-Record.count c.in-Record.bytes positive going
    (subst (λ f. first_item s.block_size (drop s.next blocks) ≡ first_of f) c.in-Record.is (c.in_ok-end.ensures.first told))
    ∙ ap (λ n. with_payload n c.in-Record.bytes (scan_left (record s { next = s.next + c.in-Record.count }) blocks)) (sym (ap (λ r. r.next) c.self-in-Record.view_is ∙ c.found.ensures.place.next))
    ∙ ap (with_payload c.self-in-Record.inside.next c.in-Record.bytes) (passed_left s c.found.new.self c.pass.new.self c.in-Record.count blocks c.found.ensures.place c.pass.ensures)

pub returns-in-Record-clause-held : goal.returns-in-Record-clause-held
returns-in-Record-clause-held g c = λ told.
    let D = g.D.ZonedDevice in
    let dev = c.found.new.dev in
    let h = c.found.new.self in
    let device = c.found.ensures.device in
    let same_block : h.block_size ≡ (D.geometry dev).block = c.found.ensures.place.block_size ∙ c.requires.same_block ∙ ap (λ shape. shape.block) (sym device.same_geometry) in
    let whole = zone_whole (D.geometry dev) (D.infos dev) (D.image dev) h.zone h.block_size (g.met.D.ZonedDevice.told dev told device.still_known) same_block in
    passed_held h c.pass.new.self (D.image dev) c.in-Record.count whole c.pass.ensures (c.found.ensures.held told)

pub returns-in-End-clause-scan : goal.returns-in-End-clause-scan
returns-in-End-clause-scan g c = λ told.
    let D = g.D.ZonedDevice in
    let dev = c.args.dev.now in
    let s = c.args.self.now in
    let blocks = (zone_at (D.image dev) s.zone).blocks in
    let positive = subst (λ b. 0 < b) (sym c.requires.same_block) (block_positive (D.geometry dev) (g.met.D.ZonedDevice.possible dev c.requires.is_known).valid) in
    let going = ap (λ r. r.ended) (sym c.self.view_is) ∙ ap (option_map scan_end) (none_from c.self.inside.ended c.in_default.not-Some) in
    left_ended s blocks c.in-End.end c.end_item-in-End.result _ positive going
    (subst (λ f. first_item s.block_size (drop s.next blocks) ≡ first_of f) c.in-End.is (c.in_ok-end.ensures.first told))
    (subst (IsPlaced s.next) c.in-End.is c.in_ok-end.ensures.placed)
    c.end_item-in-End.ensures
