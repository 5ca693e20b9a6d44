use Rattle.std.proofs.Common.{◌≡◌, ℕ, true, Ok, List, set, ap, sym, subst, ◌∙◌}
use Rattle.log_model.specs.FileTable.{has_right_size, set_entry}
use Rattle.fs_model.specs.FsState.{TableRow, mounted_row}
use Rattle.extent_map.specs.Applying.{IsFreeAt}
use Rattle.extent_map.specs.Holding.{AreKnown, GivesNames, are_known_free}
use Rattle.extent_map.specs.Records.{recorded_of}
use Rattle.extent_map.proofs.ApplyLaws.{unbroken}
use Rattle.extent_map.proofs.HolderLaws.{known_set}
use Rattle.extent_map.proofs.SettingLaws.{free_set, rise_set, settled_made}
use Rattle.extent_map.proofs.setting.put_whole.Goals as goal

pub settle_row-requires-clause-ids : goal.settle_row-requires-clause-ids
settle_row-requires-clause-ids c =
    let entry = c.args.entry.now in
    let row : c.new-row.result ≡ mounted_row entry = c.new-row.ensures ∙ ap mounted_row c.in_ok-copy_entry.ensures in
    rise_set 0 c.args.rows.now.items c.args.at c.new-row.result (mounted_row entry) c.requires.table.ids
    (c.requires.id (mounted_row entry) ∙ ap (λ (r : TableRow). r.entry.id) (sym row))

pub settle_row-requires-clause-free : goal.settle_row-requires-clause-free
settle_row-requires-clause-free c = λ free.
    let entry = c.args.entry.now in
    let rows = c.args.rows.now.items in
    let row : c.new-row.result ≡ mounted_row entry = c.new-row.ensures ∙ ap mounted_row c.in_ok-copy_entry.ensures in
    let known_free : are_known_free c.args.holders entry.id entry.names ≡ true =
    ap (λ (ns : List (List ℕ)). are_known_free c.args.holders entry.id ns) (sym c.items.ensures) ∙ sym c.are_free-free.ensures ∙ free in
    subst (λ (r : TableRow). IsFreeAt c.args.at (set rows c.args.at r)) (sym row)
    (free_set c.args.holders rows c.args.at (mounted_row entry) (mounted_row entry) c.requires.table c.requires.known known_free c.requires.within (c.requires.id (mounted_row entry)))

pub returns-clause-made : goal.returns-clause-made
returns-clause-made c =
    let entry = c.args.entry.now in
    let rows = c.args.rows.now.items in
    let right : has_right_size entry ≡ true = sym c.has_right_size.ensures ∙ c.if-not-has_right_size.false in
    let row : c.new-row.result ≡ mounted_row entry = c.new-row.ensures ∙ ap mounted_row c.in_ok-copy_entry.ensures in
    let id = c.requires.id (mounted_row entry) ∙ ap (λ (r : TableRow). r.entry.id) (sym row) in
    let made = settled_made rows c.args.at c.new-row.result (mounted_row entry) (recorded_of c.settle_row.new.rows.items) c.requires.within id (c.settle_row.ensures.made (mounted_row entry))
    ∙ ap (λ (r : TableRow). set_entry r.entry (recorded_of rows)) row in
    unbroken (has_right_size entry) 5 (set_entry entry (recorded_of rows)) right ∙ ap Ok (sym made)

pub returns-clause-known : goal.returns-clause-known
returns-clause-known c =
    let entry = c.args.entry.now in
    let rows = c.args.rows.now.items in
    let row : c.new-row.result ≡ mounted_row entry = c.new-row.ensures ∙ ap mounted_row c.in_ok-copy_entry.ensures in
    let id = c.requires.id (mounted_row entry) ∙ ap (λ (r : TableRow). r.entry.id) (sym row) in
    let made = settled_made rows c.args.at c.new-row.result (mounted_row entry) (recorded_of c.settle_row.new.rows.items) c.requires.within id (c.settle_row.ensures.made (mounted_row entry))
    ∙ ap (λ (r : TableRow). set_entry r.entry (recorded_of rows)) row in
    let gives : GivesNames c.args.holders entry.id entry.names c.in_ok-known.known =
    subst (λ (ns : List (List ℕ)). GivesNames c.args.holders entry.id ns c.in_ok-known.known) c.items-2.ensures c.in_ok-known.ensures in
    subst (AreKnown c.in_ok-known.known) (sym made) (known_set c.args.holders c.in_ok-known.known entry (recorded_of rows) gives c.requires.known)
