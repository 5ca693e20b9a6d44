use Rattle.std.proofs.Common.{◌≡◌, ◌≤◌, List, ℕ, length, rules, ap, sym, subst, ◌∙◌}
use Rattle.record_model.specs.declared.types.Record.TheVariants.{Deletion}
use Rattle.record_codec.proofs.FieldLaws.{name_short}
use Rattle.log_model.specs.Headroom.{blocks_of_record}
use Rattle.log_model.proofs.HeadroomLaws.{deletion_takes_one_block}
use Rattle.fs_tables.specs.MountedTables.{MountedTables}
use Rattle.fs_tables.proofs.tables.FsTables.delete_blocks.Goals as goal

pub returns-clause-record : goal.returns-clause-record
returns-clause-record c = λ id.
    let block = c.self.inside.geometry.block in
    let name : List ℕ = c.args.name.now in
    let short : length name ≤ 255 = subst (λ (n : List ℕ). length n ≤ 255) c.items.ensures.bytes (name_short c.items.result.now c.items.ensures.rule) in
    let large : 512 ≤ block = search rules in
    sym (deletion_takes_one_block block id name large short) ∙ ap (λ (m : MountedTables). blocks_of_record m.state.geometry.block (Deletion id name)) c.self.view_is
