-- What rows record, and what a record makes of it.
use Rattle.std.specs.Prelude.{◌≡◌, List, map, Ok}
use Rattle.record_model.specs.declared.types.Record.{Record}
use Rattle.log_model.specs.FileTable.{Table, after_record}
use Rattle.log_model.specs.TableLaws.{IsTable, AreSized}
use Rattle.fs_model.specs.FsState.{TableRow}

-- what rows record: the entry of each
abbrev pub entries : List TableRow → Table
entries rows = map (λ r. r.entry) rows

-- rows that record a table, with right sizes
pub record AreValid (rows : List TableRow) : Type 0 where
  pub table : IsTable (entries rows)
  pub sized : AreSized (entries rows)

-- the record makes of what some rows record exactly what the rows after it record, and these are valid again
pub record Makes (r : Record) (rows after : List TableRow) : Type 0 where
  pub replayed : after_record r (entries rows) ≡ Ok (entries after)
  pub valid : AreValid after
