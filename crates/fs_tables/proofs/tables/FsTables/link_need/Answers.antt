use Rattle.std.proofs.Common.{◌≡◌, ◌++◌, ◌∷◌, [], List, ℕ, Some, is_some, true, ap, sym, subst, ◌∙◌}
use Rattle.record_model.specs.declared.types.Record.{Record}
use Rattle.fs_model.specs.FsState.{FsState, TableRow, row_named, working_of}
use Rattle.fs_model.specs.TreeSteps.{entry_update, with_names}
use Rattle.extent_map.specs.Naming.{linked_rows}
use Rattle.fs_tables.specs.MountedTables.{MountedTables, state_from}
use Rattle.fs_tables.specs.Needs.{AreLengths, IsNeed}
use Rattle.fs_tables.proofs.NeedLaws.{exact_lengths, file_there, short_lengths, need_is}
use Rattle.fs_tables.proofs.tables.FsTables.link_need.Goals as goal

-- the record of one more name
abbrev change : TableRow → List ℕ → List ℕ → List TableRow → Record
change r old new rows = entry_update (with_names (r.entry.names ++ new ∷ []) r).entry

-- the rows with it
abbrev after : TableRow → List ℕ → List ℕ → List TableRow → List TableRow
after r old new rows = linked_rows new r rows

pub need_of-requires-clause-short : goal.need_of-requires-clause-short
need_of-requires-clause-short c =
    let rows = c.self.inside.files.rows in
    let old : List ℕ = c.args.old.now in
    let new : List ℕ = c.args.new.now in
    let shown = subst (λ (m : MountedTables). is_some (row_named old m.state.rows) ≡ true) (sym c.self.view_is) c.requires in
    let found = file_there (row_named old rows) shown in
    short_lengths c.link_lengths-lengths.result (change found.0 old new rows) rows (after found.0 old new rows)
    (c.link_lengths-lengths.ensures.lengths found.0 found.1) (c.link_lengths-lengths.ensures.little found.0 found.1) c.self.invariant.sound.short

pub returns : goal.returns
returns c = λ x is.
    let t = c.self.inside in
    let rows = t.files.rows in
    let old : List ℕ = c.args.old.now in
    let new : List ℕ = c.args.new.now in
    let r : Record = change x old new rows in
    let next : List TableRow = after x old new rows in
    let s : FsState = state_from t.geometry t.log t.files t.zones in
    let found : row_named old rows ≡ Some x = ap (λ (m : MountedTables). row_named old m.state.rows) c.self.view_is ∙ is in
    let l : AreLengths c.link_lengths-lengths.result r (working_of next) =
    exact_lengths c.link_lengths-lengths.result r rows next (c.link_lengths-lengths.ensures.lengths x found) (c.link_lengths-lengths.ensures.little x found) c.self.invariant.sound.short in
    subst (λ (m : MountedTables). IsNeed c.need_of.result m.state (change x old new m.state.rows) (after x old new m.state.rows)) c.self.view_is
    (need_is c.need_of.result s c.from.result r next c.from.ensures (c.need_of.ensures.blocks r (working_of next) l)
    (c.need_of.ensures.need (working_of rows) (working_of next) r c.snapshot_len-before.ensures l))
