use Rattle.std.proofs.Common.{◌≡◌, ◌<◌, ℕ, List, length, vec_capacity, ap, subst, sym, ◌∙◌, arith}
use Rattle.record_model.specs.declared.types.FileEntry.{FileEntry}
use Rattle.log_model.specs.FileTable.{take_names, with_entry}
use Rattle.log_model.specs.TableLaws.{IdsRise}
use Rattle.log_model.proofs.TableLaws.{rise_taken}
use Rattle.extent_map.specs.Applying.{ArePlain, with_row}
use Rattle.extent_map.specs.Records.{recorded_of}
use Rattle.extent_map.proofs.SettingLaws.{all_with, recorded_with, succeeded}
use Rattle.extent_map.proofs.setting.set_row.Goals as goal

pub make_way-requires : goal.make_way-requires
make_way-requires c = λ free.
    let es = recorded_of c.args.rows.now.items in
    let names : c.items.result.now ≡ c.args.row.entry.names = c.items.ensures ∙ ap (λ (e : FileEntry). e.names) c.entry.ensures.value in
    ap (λ (ns : List (List ℕ)). take_names ns es) names ∙ c.requires.free free

pub put_row-requires : goal.put_row-requires
put_row-requires c =
    let es = recorded_of c.args.rows.now.items in
    subst (IdsRise 0) (sym c.make_way.ensures.recorded) (rise_taken 0 c.items.result.now es c.requires.ids)

pub returns-clause-made : goal.returns-clause-made
returns-clause-made c =
    let row = c.args.row in
    let es = recorded_of c.args.rows.now.items in
    let names : c.items.result.now ≡ row.entry.names = c.items.ensures ∙ ap (λ (e : FileEntry). e.names) c.entry.ensures.value in
    let room : length c.make_way.new.rows.items < vec_capacity c.make_way.new.rows = omega (arith, c.make_way.ensures.fewer, c.make_way.ensures.capacity, c.requires.room) in
    let put : c.put_row.new.rows.items ≡ with_row row c.make_way.new.rows.items = succeeded c.put_row.result _ (c.put_row.ensures.fits room) c.put_row.ensures.rows in
    ap recorded_of put ∙ recorded_with row c.make_way.new.rows.items
    ∙ ap (with_entry row.entry) (c.make_way.ensures.recorded ∙ ap (λ (ns : List (List ℕ)). take_names ns es) names)

pub returns-clause-plain : goal.returns-clause-plain
returns-clause-plain c =
    let row = c.args.row in
    let room : length c.make_way.new.rows.items < vec_capacity c.make_way.new.rows = omega (arith, c.make_way.ensures.fewer, c.make_way.ensures.capacity, c.requires.room) in
    let put : c.put_row.new.rows.items ≡ with_row row c.make_way.new.rows.items = succeeded c.put_row.result _ (c.put_row.ensures.fits room) c.put_row.ensures.rows in
    subst ArePlain (sym put) (all_with row c.make_way.new.rows.items c.requires.row (c.make_way.ensures.plain c.requires.plain))
