use Rattle.std.proofs.Common.{◌≡◌, ℕ, true, Ok, Some, List, get_or, set, ap, sym, subst, ◌∙◌}
use Rattle.record_model.specs.declared.types.FileEntry.{FileEntry}
use Rattle.log_model.specs.FileTable.{grown, has_right_size, set_entry}
use Rattle.fs_model.specs.FsState.{TableRow, mounted_row}
use Rattle.extent_map.specs.Applying.{IsFreeAt}
use Rattle.extent_map.specs.Holding.{AreKnown, GivesNames, are_known_free}
use Rattle.extent_map.specs.Records.{recorded_of}
use Rattle.extent_map.proofs.ApplyLaws.{unbroken}
use Rattle.extent_map.proofs.HolderLaws.{known_set}
use Rattle.extent_map.proofs.SettingLaws.{free_set, rise_set, same_at, settled_made}
use Rattle.extent_map.proofs.setting.grow_row.Goals as goal

pub settle_row-requires-clause-ids : goal.settle_row-requires-clause-ids
settle_row-requires-clause-ids c =
    let row = c.grow.new.self in
    rise_set 0 c.args.rows.now.items c.args.at row row c.requires.table.ids (c.requires.id row ∙ ap (λ (r : TableRow). r.entry.id) (sym c.in_ok-grow.ensures.grown))

pub settle_row-requires-clause-free : goal.settle_row-requires-clause-free
settle_row-requires-clause-free c = λ free.
    let added = c.args.entry.now in
    let rows = c.args.rows.now.items in
    let entry : FileEntry = grown (Some c.index_mut-row.result.now.entry) added in
    let row : c.grow.new.self ≡ mounted_row entry = c.in_ok-grow.ensures.grown in
    let known_free : are_known_free c.args.holders added.id added.names ≡ true =
    ap (λ (ns : List (List ℕ)). are_known_free c.args.holders added.id ns) (sym c.items.ensures) ∙ sym c.are_free-free.ensures ∙ free in
    subst (λ (r : TableRow). IsFreeAt c.args.at (set rows c.args.at r)) (sym row)
    (free_set c.args.holders rows c.args.at (mounted_row entry) (mounted_row entry) c.requires.table c.requires.known known_free c.requires.within (c.requires.id (mounted_row entry)))

pub returns-clause-made : goal.returns-clause-made
returns-clause-made c = λ d.
    let added = c.args.entry.now in
    let rows = c.args.rows.now.items in
    let at = c.args.at in
    let file : TableRow = get_or rows at d in
    let entry : FileEntry = grown (Some file.entry) added in
    let was = c.index_mut-row.result.now in
    let index_is : c.index.result.now ≡ file = c.index.ensures ∙ same_at rows at c.index.result.now d c.requires.within in
    let row_is : was ≡ file = c.index_mut-row.ensures.value ∙ same_at rows at was d c.requires.within in
    let right : has_right_size entry ≡ true =
    ap (λ (r : TableRow). has_right_size (grown (Some r.entry) added)) (sym index_is) ∙ sym c.grows_right.ensures ∙ c.if-not-grows_right.false in
    let row : c.grow.new.self ≡ mounted_row entry = c.in_ok-grow.ensures.grown ∙ ap (λ (r : TableRow). mounted_row (grown (Some r.entry) added)) row_is in
    let id = c.requires.id d ∙ ap (λ (r : TableRow). r.entry.id) (sym row) in
    let made = settled_made rows at c.grow.new.self d (recorded_of c.settle_row.new.rows.items) c.requires.within id (c.settle_row.ensures.made d)
    ∙ ap (λ (r : TableRow). set_entry r.entry (recorded_of rows)) row in
    unbroken (has_right_size entry) 5 (set_entry entry (recorded_of rows)) right ∙ ap Ok (sym made)

pub returns-clause-known : goal.returns-clause-known
returns-clause-known c =
    let added = c.args.entry.now in
    let rows = c.args.rows.now.items in
    let at = c.args.at in
    let entry : FileEntry = grown (Some c.index_mut-row.result.now.entry) added in
    let row : c.grow.new.self ≡ mounted_row entry = c.in_ok-grow.ensures.grown in
    let id = c.requires.id (mounted_row entry) ∙ ap (λ (r : TableRow). r.entry.id) (sym row) in
    let made = settled_made rows at c.grow.new.self (mounted_row entry) (recorded_of c.settle_row.new.rows.items) c.requires.within id (c.settle_row.ensures.made (mounted_row entry))
    ∙ ap (λ (r : TableRow). set_entry r.entry (recorded_of rows)) row in
    let gives : GivesNames c.args.holders added.id added.names c.in_ok-known.known =
    subst (λ (ns : List (List ℕ)). GivesNames c.args.holders added.id ns c.in_ok-known.known) c.items-2.ensures c.in_ok-known.ensures in
    subst (AreKnown c.in_ok-known.known) (sym made) (known_set c.args.holders c.in_ok-known.known entry (recorded_of rows) gives c.requires.known)
