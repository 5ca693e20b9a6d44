use Rattle.std.proofs.Common.{◌≡◌, ℕ, true, Ok, List, ap, sym, subst, ◌∙◌}
use Rattle.log_model.specs.FileTable.{Table, has_right_size, set_entry, take_names, with_entry}
use Rattle.fs_model.specs.FsState.{TableRow, mounted_row}
use Rattle.extent_map.specs.Applying.{others_of}
use Rattle.extent_map.specs.Holding.{AreKnown, GivesNames, are_known_free}
use Rattle.extent_map.specs.Records.{recorded_of}
use Rattle.extent_map.proofs.ApplyLaws.{unbroken}
use Rattle.extent_map.proofs.HolderLaws.{free_taken, known_set}
use Rattle.extent_map.proofs.SettingLaws.{all_others}
use Rattle.extent_map.proofs.setting.put_new.Goals as goal

pub set_row-requires-clause-free : goal.set_row-requires-clause-free
set_row-requires-clause-free c = λ free.
    let entry = c.args.entry.now in
    let rows = c.args.rows.now.items in
    let es = recorded_of rows in
    let row : c.new-row.result ≡ mounted_row entry = c.new-row.ensures ∙ ap mounted_row c.in_ok-copy_entry.ensures in
    let known_free : are_known_free c.args.holders entry.id entry.names ≡ true =
    ap (λ (ns : List (List ℕ)). are_known_free c.args.holders entry.id ns) (sym c.items.ensures) ∙ sym c.are_free-free.ensures ∙ free in
    let same : others_of entry.id es ≡ es = all_others entry.id rows c.requires.absent in
    let kept : take_names entry.names es ≡ es =
    subst (λ (fs : Table). take_names entry.names fs ≡ fs) same (free_taken c.args.holders entry.id entry.names es c.requires.table c.requires.known known_free) in
    subst (λ (r : TableRow). take_names r.entry.names (recorded_of c.reserve.new.self.items) ≡ recorded_of c.reserve.new.self.items) (sym row)
    (subst (λ (rs : List TableRow). take_names entry.names (recorded_of rs) ≡ recorded_of rs) (sym c.in_ok-reserve.ensures.items) kept)

pub returns-clause-made : goal.returns-clause-made
returns-clause-made c =
    let entry = c.args.entry.now in
    let rows = c.args.rows.now.items in
    let right : has_right_size entry ≡ true = sym c.has_right_size.ensures ∙ c.if-not-has_right_size.false in
    let row : c.new-row.result ≡ mounted_row entry = c.new-row.ensures ∙ ap mounted_row c.in_ok-copy_entry.ensures in
    let made = c.set_row.ensures.made
    ∙ ap (λ (r : TableRow). with_entry r.entry (take_names r.entry.names (recorded_of c.reserve.new.self.items))) row
    ∙ ap (λ (rs : List TableRow). with_entry entry (take_names entry.names (recorded_of rs))) c.in_ok-reserve.ensures.items
    ∙ ap (λ (es : Table). with_entry entry (take_names entry.names es)) (sym (all_others entry.id rows c.requires.absent)) in
    unbroken (has_right_size entry) 5 (set_entry entry (recorded_of rows)) right ∙ ap Ok (sym made)

pub returns-clause-known : goal.returns-clause-known
returns-clause-known c =
    let entry = c.args.entry.now in
    let rows = c.args.rows.now.items in
    let row : c.new-row.result ≡ mounted_row entry = c.new-row.ensures ∙ ap mounted_row c.in_ok-copy_entry.ensures in
    let made = c.set_row.ensures.made
    ∙ ap (λ (r : TableRow). with_entry r.entry (take_names r.entry.names (recorded_of c.reserve.new.self.items))) row
    ∙ ap (λ (rs : List TableRow). with_entry entry (take_names entry.names (recorded_of rs))) c.in_ok-reserve.ensures.items
    ∙ ap (λ (es : Table). with_entry entry (take_names entry.names es)) (sym (all_others entry.id rows c.requires.absent)) in
    let gives : GivesNames c.args.holders entry.id entry.names c.in_ok-known.known =
    subst (λ (ns : List (List ℕ)). GivesNames c.args.holders entry.id ns c.in_ok-known.known) c.items-2.ensures c.in_ok-known.ensures in
    subst (AreKnown c.in_ok-known.known) (sym made) (known_set c.args.holders c.in_ok-known.known entry (recorded_of rows) gives c.requires.known)
