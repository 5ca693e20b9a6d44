use Rattle.std.proofs.Common.{◌≡◌, get_or, ap, sym, ◌∙◌, Some}
use Rattle.std.proofs.lemmas.Bool.{false≢true}
use Rattle.extent_map.specs.Applying.{place_of}
use Rattle.extent_map.proofs.HalfLaws.{row_at, no_row_at}
use Rattle.extent_map.proofs.SettingLaws.{no_row}
use Rattle.extent_map.proofs.place.index_of.Goals as goal

pub returns-then-has_id_at-clause-row : goal.returns-then-has_id_at-clause-row
returns-then-has_id_at-clause-row c = λ d.
    let rows = c.args.rows.now in
    let at : c.place_of-at.result ≡ place_of c.args.id rows = c.place_of-at.ensures.place in
    let there = rw at at (c.has_id_at.ensures.there c.if-has_id_at.true) in
    let same = rw at at (c.has_id_at.ensures.id d c.if-has_id_at.true) in
    row_at c.args.id rows d there same ∙ ap (λ k. Some (get_or rows k d)) (sym at)

pub returns-else-has_id_at-clause-absent : goal.returns-else-has_id_at-clause-absent
returns-else-has_id_at-clause-absent c =
    let rows = c.args.rows.now in
    let at : c.place_of-at.result ≡ place_of c.args.id rows = c.place_of-at.ensures.place in
    let there = rw at at (c.has_id_at.ensures.row no_row) in
    no_row_at 0 c.args.id rows no_row c.requires (λ lt same. false≢true (sym c.if-has_id_at.false ∙ there lt same))
