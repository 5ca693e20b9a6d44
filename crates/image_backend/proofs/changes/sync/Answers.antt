use Rattle.std.proofs.Common.{◌≡◌, ℕ, List, false, subst, sym, ◌∙◌, ap}
use Rattle.image_backend.specs.declared.counts.Counts.{Counts}
use Rattle.image_backend.specs.Table.{TableState, table_infos, table_synced}
use Rattle.image_backend.specs.FileImage.{Describes, image_with}
use Rattle.image_backend.proofs.Described.{described_synced}
use Rattle.image_backend.proofs.FileChanges.{image_synced}
use Rattle.image_backend.specs.ImageState.{HoldsTable}
use Rattle.image_backend.proofs.Tables.{infos_with_synced, table_with_synced, held_same}
use Rattle.image_backend.proofs.changes.sync.Goals as goal

pub returns-clause-still_known : goal.returns-clause-still_known
returns-clause-still_known g c =
    let is_open = g.F.ByteFile.is_open in
    let is_sized = g.F.ByteFile.is_sized in
    let size = g.F.ByteFile.size in
    let t = c.args.table.now in
    subst (λ t. HoldsTable is_open is_sized size t c.sync.new.self) (sym c.sync-2.ensures) (record {
      table = table_with_synced t c.requires.known.table;
      zones = held_same is_open is_sized size t.geometry c.args.file.now c.sync.new.self c.sync.ensures.same c.requires.known.zones;
    })

pub returns-clause-same_infos : goal.returns-clause-same_infos
returns-clause-same_infos g c = ap table_infos c.sync-2.ensures ∙ infos_with_synced c.args.table.now

pub returns-clause-new_image : goal.returns-clause-new_image
returns-clause-new_image g c told =
    ap (λ (t : TableState). image_with t (g.F.ByteFile.contents c.sync.new.self)) c.sync-2.ensures
    ∙ ap (image_with (table_synced c.args.table.now)) (c.sync.ensures.same.same_contents told)
    ∙ image_synced c.args.table.now (g.F.ByteFile.contents c.args.file.now)

pub returns-clause-still_described : goal.returns-clause-still_described
returns-clause-still_described g c told unbroken =
    let begun : c.args.counts.now.broken ≡ false = ap (λ (counts : Counts). counts.broken) (sym c.in_ok-begin_change.ensures.begun) ∙ unbroken in
    subst (λ (t : TableState). Describes (g.F.ByteFile.contents c.sync.new.self) t) (sym c.sync-2.ensures)
    (subst (λ (l : List ℕ). Describes l (table_synced c.args.table.now)) (sym (c.sync.ensures.same.same_contents told))
    (described_synced (g.F.ByteFile.contents c.args.file.now) c.args.table.now (c.requires.described told begun)))
