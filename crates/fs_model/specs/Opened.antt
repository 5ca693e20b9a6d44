-- What a computed example opens: the name of one of these stands for all that is on its line.
use Rattle.record_model.specs.Numbers.{varint}
use Rattle.record_model.specs.Encoding.{payload_of, entry_bytes}
use Rattle.log_model.specs.Headroom.{log_need, change_need}
use Rattle.fs_model.specs.ZonePolicy.{choose_zone}
use Rattle.fs_model.specs.VictimPolicy.{victim}
use Rattle.fs_model.specs.LogSteps.{FsAction, NoValue, roll}
use Rattle.fs_model.specs.TreeSteps.{create, link, rename, delete, mount_write}
use Rattle.fs_model.specs.FileSteps.{commit, recovery_point_fits, take_zone, note_extent, extent_fits, show, give_back, mark_open, mark_closed, hold, replace, reset_victim}
use Rattle.fs_model.specs.WriterSteps as writers
use Rattle.fs_model.specs.Migration.{round, settle}
use Rattle.fs_model.specs.Turn.{turn}

-- changes of the tree, down to the lengths of their records
unfoldable pub changing : FsAction NoValue → FsAction NoValue
unfolding create link rename delete mount_write roll payload_of entry_bytes varint log_need change_need
changing m = m

-- writers and turns, down to the changes under them
unfoldable pub writing : FsAction NoValue → FsAction NoValue
unfolding changing commit recovery_point_fits take_zone note_extent extent_fits show give_back mark_open mark_closed writers.sync writers.close choose_zone turn
writing m = m

-- the collector, down to the files under it
unfoldable pub collecting : FsAction NoValue → FsAction NoValue
unfolding writing round settle victim hold replace reset_victim
collecting m = m
