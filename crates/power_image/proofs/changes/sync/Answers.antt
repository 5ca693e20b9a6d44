use Rattle.std.proofs.Common.{sym, subst, ◌∙◌, ap}
use Rattle.image_backend.specs.Table.{TableState, table_infos}
use Rattle.power_image.specs.Table.{Known, image_in}
use Rattle.power_image.specs.State.{HoldsTable}
use Rattle.power_image.proofs.Changed.{leaves_synced}
use Rattle.power_image.proofs.Tables.{infos_with_synced, table_with_synced}
use Rattle.power_image.proofs.changes.sync.Goals as goal

pub returns-clause-new_image : goal.returns-clause-new_image
returns-clause-new_image g c tells_it =
    let t = c.args.table.now.zones in
    let old = g.F.ByteFile.contents c.args.file.now in
    let new = g.F.ByteFile.contents c.describe_range.new.file in
    let l = leaves_synced g.F.ByteFile.tells t old c.describe_range.new.table.zones new c.in_ok-describe_range.ensures.same in
    ap (λ (k : Known). image_in k.zones new) c.sync.ensures ∙ l.image tells_it

pub returns-clause-same_infos : goal.returns-clause-same_infos
returns-clause-same_infos g c =
    ap (λ (k : Known). table_infos k.zones) c.sync.ensures ∙ infos_with_synced c.describe_range.new.table.zones ∙ ap table_infos c.in_ok-describe_range.ensures.same.numbers

pub returns-clause-same_geometry : goal.returns-clause-same_geometry
returns-clause-same_geometry g c = ap (λ (k : Known). k.zones.geometry) c.sync.ensures ∙ ap (λ (t : TableState). t.geometry) c.in_ok-describe_range.ensures.same.numbers

pub returns-clause-still_known : goal.returns-clause-still_known
returns-clause-still_known g c =
    let is = c.in_ok-describe_range.ensures.still_known in
    subst (λ (k : Known). HoldsTable g.F.ByteFile.is_open g.F.ByteFile.is_sized g.F.ByteFile.size k c.describe_range.new.file) (sym c.sync.ensures) (record {
      table = table_with_synced c.describe_range.new.table.zones is.table;
      count = is.count;
      zones = is.zones;
    })
