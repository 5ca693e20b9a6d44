use Rattle.std.proofs.Common.{◌≡◌, ℕ, ◌+◌, ◌-◌, ◌*◌, List, drop, ap, subst}
use Rattle.std.specs.Prelude.{Option, option_map}
use Rattle.log_model.specs.LogScan.{ScanEnd}
use Rattle.meta_log.specs.Ends.{scan_end}
use Rattle.meta_log.specs.Reader.{ReaderState, last_blocks}
use Rattle.meta_log.proofs.Windows.{last_behind}
use Rattle.meta_log.proofs.reader.LogReader.pass.Goals as goal

pub returns : goal.returns
returns c =
    let s = c.self.inside in
    subst
    (λ (r : ReaderState). the_state s.zone s.block_size s.window s.written (s.next + c.args.count) (option_map scan_end s.ended) (last_blocks s.block_size (s.kept - c.min.result) s.buffer.items)
    ≡ record r { next = r.next + c.args.count; held = drop (c.args.count * r.block_size) r.held })
    c.self.view_is
    (ap (the_state s.zone s.block_size s.window s.written (s.next + c.args.count) (option_map scan_end s.ended)) (last_behind s.block_size s.kept c.args.count c.min.result s.buffer.items c.self.invariant.there c.min.ensures))
  where
    the_state : ℕ → ℕ → ℕ → ℕ → ℕ → Option ScanEnd → List ℕ → ReaderState
    the_state zone block_size window written next ended held = record { zone = zone; block_size = block_size; window = window; written = written; next = next; ended = ended; held = held }
