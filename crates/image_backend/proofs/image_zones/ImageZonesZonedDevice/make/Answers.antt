use Rattle.std.proofs.Common.{ℕ, List, subst, sym, ◌∙◌, ap}
use Rattle.image_backend.specs.Table.{TableState, table_infos, table_blank}
use Rattle.image_backend.specs.ImageState.{HoldsTable}
use Rattle.image_backend.specs.FileImage.{Describes, image_with}
use Rattle.image_backend.proofs.Described.{described_new, image_blank}
use Rattle.image_backend.proofs.Tables.{infos_with_blank, table_with_blank}
use Rattle.image_backend.proofs.image_zones.ImageZonesZonedDevice.make.Goals as goal

pub returns-in-Ok-clause-made : goal.returns-in-Ok-clause-made
returns-in-Ok-clause-made g c =
    subst (λ t. HoldsTable g.F.ByteFile.is_open g.F.ByteFile.is_sized g.F.ByteFile.size t c.write_image.new.file) (sym c.in_ok-table.ensures) (record {
      table = table_with_blank c.args.shape.now c.requires;
      zones = c.in-Ok.ensures.holds;
    })

pub returns-in-Ok-clause-empty : goal.returns-in-Ok-clause-empty
returns-in-Ok-clause-empty g c = ap table_infos c.in_ok-table.ensures ∙ infos_with_blank c.args.shape.now

pub invariant_of-self : goal.invariant_of-self
invariant_of-self g c = (
  subst (λ t. HoldsTable g.F.ByteFile.is_open g.F.ByteFile.is_sized g.F.ByteFile.size t c.write_image.new.file) (sym c.in_ok-table.ensures) (record {
    table = table_with_blank c.args.shape.now c.requires;
    zones = c.in-Ok.ensures.holds;
  }),
  λ told unbroken.
      let old = g.F.ByteFile.contents c.self.inside.file in
      subst (λ (t : TableState). Describes (g.F.ByteFile.contents c.write_image.new.file) t) (sym c.in_ok-table.ensures)
      (subst (λ (l : List ℕ). Describes l (table_blank c.args.shape.now)) (sym (c.in-Ok.ensures.made told)) (described_new c.args.shape.now old c.requires)),
)

pub returns-in-Ok-clause-new_image : goal.returns-in-Ok-clause-new_image
returns-in-Ok-clause-new_image g c told =
    let new = g.F.ByteFile.contents c.write_image.new.file in
    ap (λ (t : TableState). image_with t new) c.in_ok-table.ensures ∙ image_blank c.args.shape.now new
