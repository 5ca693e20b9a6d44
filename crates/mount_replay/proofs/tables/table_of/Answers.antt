use Rattle.std.proofs.Common.{◌≡◌, ℕ, length, sym, ◌∙◌, ap, subst, arith}
use Rattle.record_model.specs.Encoding.{payload_of}
use Rattle.record_model.specs.declared.types.Record.TheVariants.{Snapshot}
use Rattle.log_model.specs.FileTable.{Table}
use Rattle.log_model.specs.TableLaws.{IsTable, AreSized}
use Rattle.log_model.proofs.SelectedLog.{ok_is}
use Rattle.log_model.proofs.SnapshotLaws.{snapshot_is_replayed}
use Rattle.extent_map.specs.Applying.{rows_of}
use Rattle.extent_map.specs.Records.{recorded_of, snapshot_len}
use Rattle.mount_replay.proofs.TableStates.{working_rows}
use Rattle.mount_replay.proofs.tables.table_of.Goals as goal

-- the bytes of a table's snapshot
abbrev snapshot_bytes : Table → ℕ
snapshot_bytes es = length (payload_of (Snapshot es))

pub returns-in-Ok-clause-rows : goal.returns-in-Ok-clause-rows
returns-in-Ok-clause-rows c =
    let files = c.from_vec.result in
    let same = ok_is (sym c.in-Ok.ensures.made.made ∙ snapshot_is_replayed files (recorded_of c.new-table.result.rows) (subst IsTable (sym c.from_vec.ensures) c.requires.table) (subst AreSized (sym c.from_vec.ensures) c.requires.sized)) in
    c.in-Ok.ensures.made.settled ∙ ap rows_of (same ∙ c.from_vec.ensures)

pub returns-in-Ok-clause-recorded : goal.returns-in-Ok-clause-recorded
returns-in-Ok-clause-recorded c =
    let files = c.from_vec.result in
    ok_is (sym c.in-Ok.ensures.made.made ∙ snapshot_is_replayed files (recorded_of c.new-table.result.rows) (subst IsTable (sym c.from_vec.ensures) c.requires.table) (subst AreSized (sym c.from_vec.ensures) c.requires.sized))
    ∙ c.from_vec.ensures

pub returns-in-Ok-clause-short : goal.returns-in-Ok-clause-short
returns-in-Ok-clause-short c =
    let entries : Table = c.args.entries.items in
    let same : snapshot_len c.apply.new.self.rows ≡ snapshot_bytes entries = ap snapshot_len (returns-in-Ok-clause-rows c) ∙ ap snapshot_bytes (working_rows entries) in
    let files : snapshot_bytes c.from_vec.result ≡ snapshot_bytes entries = ap snapshot_bytes c.from_vec.ensures in
    omega (arith, same, files, c.encoded_len.ensures, c.if-encoded_len-ge-TOO_LONG.false)
