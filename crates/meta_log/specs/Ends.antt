-- The end that a reader keeps, as the scan of a log has it.
use Rattle.log_model.specs.LogScan.{ScanEnd}
use Rattle.log_model.specs.LogScan.ScanEnd.{Clean, Torn, Bad}
use Rattle.meta_log.specs.declared.item.LogEnd.{LogEnd}
use Rattle.meta_log.specs.declared.item.LogEnd.TheVariants as log_end

-- the end of a scan
abbrev pub scan_end : LogEnd → ScanEnd
scan_end log_end.Clean = Clean
scan_end (log_end.Torn block) = Torn block
scan_end (log_end.Bad block len stored computed) = Bad block len stored computed
