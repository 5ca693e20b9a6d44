use Rattle.std.proofs.Common.{◌≡◌, ℕ, List, replicate, refl, subst, sym, ◌∙◌, ap, Err}
use Rattle.std.specs.Result.{IsErrOf}
use Rattle.std.proofs.lemmas.List.{length-replicate}
use Rattle.zoned_device.specs.declared.error.MakeError.{MakeError}
use Rattle.zoned_device.specs.declared.error.MakeError.TheVariants.{NoMemory}
use Rattle.image_backend.specs.Table.{table_infos}
use Rattle.power_image.specs.declared.descriptor.Descriptor.{Descriptor}
use Rattle.power_image.specs.Table.{Known, no_descriptor, image_in, Describes}
use Rattle.power_image.specs.State.{HoldsTable}
use Rattle.power_image.proofs.Made.{described_new, image_blank}
use Rattle.power_image.proofs.Same.{kept_open}
use Rattle.power_image.proofs.Tables.{infos_with_blank, table_with_blank}
use Rattle.power_image.proofs.power_zones.PowerZonesZonedDevice.make.Goals as goal

no_memory : (e : MakeError) → e ≡ NoMemory → IsErrOf {T = Unit {0}} {E = MakeError} (Err e) NoMemory
no_memory e is = subst (λ (x : MakeError). IsErrOf {T = Unit {0}} {E = MakeError} (Err x) NoMemory) (sym is) refl

pub returns-in-Ok-clause-made : goal.returns-in-Ok-clause-made
returns-in-Ok-clause-made g c =
    subst (λ (k : Known). HoldsTable g.F.ByteFile.is_open g.F.ByteFile.is_sized g.F.ByteFile.size k c.write_image.new.file) (sym c.in_ok-table.ensures) (record {
      table = table_with_blank c.args.shape.now c.requires;
      count = length-replicate {A = Descriptor} c.args.shape.now.zones no_descriptor;
      zones = c.in-Ok.ensures.holds;
    })

pub returns-in-Ok-clause-empty : goal.returns-in-Ok-clause-empty
returns-in-Ok-clause-empty g c = ap (λ (k : Known). table_infos k.zones) c.in_ok-table.ensures ∙ infos_with_blank c.args.shape.now

pub invariant_of-self : goal.invariant_of-self
invariant_of-self g c = (
  subst (λ (k : Known). HoldsTable g.F.ByteFile.is_open g.F.ByteFile.is_sized g.F.ByteFile.size k c.write_image.new.file) (sym c.in_ok-table.ensures) (record {
    table = table_with_blank c.args.shape.now c.requires;
    count = length-replicate {A = Descriptor} c.args.shape.now.zones no_descriptor;
    zones = c.in-Ok.ensures.holds;
  }),
  λ unbroken told.
      let old = g.F.ByteFile.contents c.self.inside.file in
      subst (λ (k : Known). Describes (g.F.ByteFile.contents c.write_image.new.file) k.zones.geometry k.descriptors) (sym c.in_ok-table.ensures)
      (subst (λ (l : List ℕ). Describes l c.args.shape.now (replicate c.args.shape.now.zones no_descriptor)) (sym (c.in-Ok.ensures.made told)) (described_new c.args.shape.now old c.requires)),
)

pub returns-in-Ok-clause-new_image : goal.returns-in-Ok-clause-new_image
returns-in-Ok-clause-new_image g c told =
    let new = g.F.ByteFile.contents c.write_image.new.file in
    ap (λ (k : Known). image_in k.zones new) c.in_ok-table.ensures ∙ image_blank c.args.shape.now new

pub invariant_of-self-in-Err-NoMemory : goal.invariant_of-self-in-Err-NoMemory
invariant_of-self-in-Err-NoMemory g c =
    kept_open g.F.ByteFile.is_open g.F.ByteFile.is_sized g.F.ByteFile.size g.F.ByteFile.tells g.F.ByteFile.contents c.self.inside.file c.write_image.new.file c.self.inside.counts.broken c.self.inside.table
    (c.in-Err-NoMemory.ensures.same (no_memory c.in-Err-NoMemory.field-0 c.in-Err-NoMemory.field-0-is)) c.self.invariant.0 c.self.invariant.1
