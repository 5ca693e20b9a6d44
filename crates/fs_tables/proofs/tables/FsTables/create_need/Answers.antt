use Rattle.std.proofs.Common.{◌≡◌, ◌++◌, ◌∷◌, [], List, ℕ, Bool, subst}
use Rattle.record_model.specs.declared.types.Record.{Record}
use Rattle.record_model.specs.declared.types.Record.TheVariants.{Update}
use Rattle.fs_model.specs.FsState.{FsState, TableRow, working_of}
use Rattle.fs_model.specs.TreeSteps.{new_entry, new_row}
use Rattle.fs_tables.specs.MountedTables.{MountedTables, state_from}
use Rattle.fs_tables.specs.Needs.{AreLengths, IsNeed}
use Rattle.fs_tables.proofs.NeedLaws.{exact_lengths, short_lengths, need_is}
use Rattle.fs_tables.proofs.tables.FsTables.create_need.Goals as goal

-- the record of a new file
abbrev change : ℕ → List ℕ → ℕ → Bool → ℕ → Record
change id name hint sparse time = Update (new_entry id name hint sparse time)

-- the rows with it
abbrev after : List TableRow → ℕ → List ℕ → ℕ → Bool → ℕ → List TableRow
after rows id name hint sparse time = rows ++ new_row (new_entry id name hint sparse time) ∷ []

pub need_of-requires-clause-short : goal.need_of-requires-clause-short
need_of-requires-clause-short c =
    let rows = c.self.inside.files.rows in
    let name : List ℕ = c.args.name.now in
    short_lengths c.create_lengths-lengths.result (change 0 name 0 c.args.sparse 0) rows (after rows 0 name 0 c.args.sparse 0)
    (c.create_lengths-lengths.ensures.lengths 0 0 0) (c.create_lengths-lengths.ensures.little 0 0 0) c.self.invariant.sound.short

pub returns : goal.returns
returns c = λ id hint time.
    let t = c.self.inside in
    let rows = t.files.rows in
    let name : List ℕ = c.args.name.now in
    let r : Record = change id name hint c.args.sparse time in
    let next : List TableRow = after rows id name hint c.args.sparse time in
    let s : FsState = state_from t.geometry t.log t.files t.zones in
    let l : AreLengths c.create_lengths-lengths.result r (working_of next) =
    exact_lengths c.create_lengths-lengths.result r rows next (c.create_lengths-lengths.ensures.lengths id hint time) (c.create_lengths-lengths.ensures.little id hint time) c.self.invariant.sound.short in
    subst (λ (m : MountedTables). IsNeed c.need_of.result m.state r (after m.state.rows id name hint c.args.sparse time)) c.self.view_is
    (need_is c.need_of.result s c.from.result r next c.from.ensures (c.need_of.ensures.blocks r (working_of next) l)
    (c.need_of.ensures.need (working_of rows) (working_of next) r c.snapshot_len-before.ensures l))
