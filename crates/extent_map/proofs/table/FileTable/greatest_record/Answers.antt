use Rattle.log_model.specs.LogScan.{blocks_of}
use Rattle.std.proofs.Common.{max, ◌≡◌, List, ap, ◌∙◌, arith}
use Rattle.record_codec.specs.Length.{told}
use Rattle.fs_model.specs.FsState.{TableRow, working_of}
use Rattle.extent_map.specs.Records.{greatest_len}
use Rattle.extent_map.specs.TableState.{TableState}
use Rattle.extent_map.proofs.LengthLaws.{greatest_in_blocks, longest_within}
use Rattle.extent_map.proofs.table.FileTable.greatest_record.Goals as goal

pub returns-clause-length : goal.returns-clause-length
returns-clause-length c =
    let rows = c.args.self.now.rows in
    let same : c.deref.result.now ≡ rows = c.deref.ensures.value ∙ ap (λ (t : TableState). t.rows) c.self.view_is in
    let stopped : c.greatest_len.result ≡ told (greatest_len (working_of rows)) = c.greatest_len.ensures ∙ ap (λ (rs : List TableRow). told (greatest_len (working_of rs))) same in
    omega (arith, stopped, longest_within (working_of rows))

pub returns-clause-blocks : goal.returns-clause-blocks
returns-clause-blocks c = λ block enough.
    let rows = c.args.self.now.rows in
    let same : c.deref.result.now ≡ rows = c.deref.ensures.value ∙ ap (λ (t : TableState). t.rows) c.self.view_is in
    let stopped : c.greatest_len.result ≡ told (greatest_len (working_of rows)) = c.greatest_len.ensures ∙ ap (λ (rs : List TableRow). told (greatest_len (working_of rs))) same in
    let exact : greatest_len (working_of rows) ≡ c.greatest_len.result = omega (arith, stopped, longest_within (working_of rows)) in
    greatest_in_blocks block (working_of rows) enough ∙ ap (λ n. max 1 (blocks_of block n)) exact
