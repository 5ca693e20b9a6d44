use Rattle.std.proofs.Common.{◌≡◌, ◌∙◌, ap, sym, arith}
use Rattle.record_model.specs.declared.types.FileEntry.{FileEntry}
use Rattle.extent_map.specs.Lookups.{rest_in}
use Rattle.extent_map.proofs.LookupLaws.{rest_in_front, LiesBehind, rest_behind}
use Rattle.extent_map.proofs.locate.rest_in_row.Goals as goal

pub returns-in-Ok : goal.returns-in-Ok
returns-in-Ok c =
    let row = c.args.row.now in
    let extents : c.items.result.now ≡ row.entry.extents = c.items.ensures ∙ ap (λ (e : FileEntry). e.extents) c.entry.ensures.value in
    rest_in_front c.args.offset row.entry.extents row.unrecorded c.in-Ok.rest (ap (rest_in c.args.offset) (sym extents) ∙ sym c.rest_in.ensures ∙ c.in-Ok.is)

pub returns-in-Ok-rest_in : goal.returns-in-Ok-rest_in
returns-in-Ok-rest_in c =
    let row = c.args.row.now in
    let extents : c.items.result.now ≡ row.entry.extents = c.items.ensures ∙ ap (λ (e : FileEntry). e.extents) c.entry.ensures.value in
    let behind : LiesBehind c.args.offset row.entry.extents c.in-Err.behind =
    rest_behind c.args.offset row.entry.extents c.in-Err.behind (ap (rest_in c.args.offset) (sym extents) ∙ sym c.rest_in.ensures ∙ c.in-Err.is) in
    behind.joined row.unrecorded ∙ ap (rest_in c.in-Err.behind) (sym c.unrecorded.ensures) ∙ sym c.rest_in-in-Err.ensures ∙ c.in-Ok-rest_in.is

pub returns-in-Err-rest_in : goal.returns-in-Err-rest_in
returns-in-Err-rest_in c =
    let row = c.args.row.now in
    let extents : c.items.result.now ≡ row.entry.extents = c.items.ensures ∙ ap (λ (e : FileEntry). e.extents) c.entry.ensures.value in
    let behind : LiesBehind c.args.offset row.entry.extents c.in-Err.behind =
    rest_behind c.args.offset row.entry.extents c.in-Err.behind (ap (rest_in c.args.offset) (sym extents) ∙ sym c.rest_in.ensures ∙ c.in-Err.is) in
    let beyond : LiesBehind c.in-Err.behind row.unrecorded c.in-Err-rest_in.field-0 =
    rest_behind c.in-Err.behind row.unrecorded c.in-Err-rest_in.field-0 (ap (rest_in c.in-Err.behind) (sym c.unrecorded.ensures) ∙ sym c.rest_in-in-Err.ensures ∙ c.in-Err-rest_in.is) in
    omega (arith, behind.size, beyond.size)
