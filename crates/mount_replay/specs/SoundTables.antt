-- Tables that a log may make.
use Rattle.std.specs.List.{AllByRecursion}
use Rattle.record_model.specs.Grammar.{IsWritable}
use Rattle.log_model.specs.FileTable.{Table}
use Rattle.log_model.specs.TableLaws.{IsTable, AreSized}

-- the ids rise, no name is that of two files, each size is right, and each entry is one that a record may have
pub record IsSoundTable (es : Table) : Type 0 where
  pub table : IsTable es
  pub sized : AreSized es
  pub writable : AllByRecursion IsWritable es
