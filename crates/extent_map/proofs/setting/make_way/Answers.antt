use Rattle.std.proofs.Common.{ap, sym, subst, ◌∙◌, arith, length, List}
use Rattle.fs_model.specs.FsState.{TableRow}
use Rattle.extent_map.specs.Applying.{ArePlain}
use Rattle.extent_map.specs.Records.{recorded_of}
use Rattle.extent_map.proofs.LinkLaws.{recorded_left}
use Rattle.extent_map.proofs.SettingLaws.{all_fewer, fewer_rows}
use Rattle.extent_map.proofs.setting.make_way.Goals as goal

pub returns-then-not-free-clause-recorded : goal.returns-then-not-free-clause-recorded
returns-then-not-free-clause-recorded c = ap recorded_of c.take_names.ensures.rows ∙ recorded_left c.args.names.now c.args.rows.now.items

pub returns-then-not-free-clause-plain : goal.returns-then-not-free-clause-plain
returns-then-not-free-clause-plain c = λ plain. subst ArePlain (sym c.take_names.ensures.rows) (all_fewer c.args.names.now c.args.rows.now.items plain)

pub returns-then-not-free-clause-fewer : goal.returns-then-not-free-clause-fewer
returns-then-not-free-clause-fewer c = omega (arith, ap (λ (rs : List TableRow). length rs) c.take_names.ensures.rows, fewer_rows c.args.names.now c.args.rows.now.items)
