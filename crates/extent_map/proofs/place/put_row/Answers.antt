use Rattle.std.proofs.Common.{◌≡◌, set, ap, sym, ◌∙◌}
use Rattle.std.specs.Prelude.{insert}
use Rattle.std.proofs.lemmas.Bool.{false≢true}
use Rattle.extent_map.specs.Applying.{place_of}
use Rattle.extent_map.proofs.PlaceLaws.{put_there, put_new}
use Rattle.extent_map.proofs.place.put_row.Goals as goal

pub returns-then-has_id_at-clause-rows : goal.returns-then-has_id_at-clause-rows
returns-then-has_id_at-clause-rows c =
    let rows = c.args.rows.now.items in
    let row = c.args.row in
    let at : c.place_of-at.result ≡ place_of row.entry.id rows =
    c.place_of-at.ensures.place ∙ ap (λ id. place_of id c.deref.result.now) c.id.ensures ∙ ap (place_of row.entry.id) c.deref.ensures.value in
    let there = rw (c.deref-2.ensures.value, at) at (c.has_id_at.ensures.there c.if-has_id_at.true) in
    let same = rw (c.deref-2.ensures.value, at, c.id-2.ensures) at (c.has_id_at.ensures.id row c.if-has_id_at.true) in
    ap (λ k. set rows k row) at ∙ put_there row row rows there same

pub returns-in_ok-insert-clause-rows : goal.returns-in_ok-insert-clause-rows
returns-in_ok-insert-clause-rows c =
    let rows = c.args.rows.now.items in
    let row = c.args.row in
    let at : c.place_of-at.result ≡ place_of row.entry.id rows =
    c.place_of-at.ensures.place ∙ ap (λ id. place_of id c.deref.result.now) c.id.ensures ∙ ap (place_of row.entry.id) c.deref.ensures.value in
    let there = rw (c.deref-2.ensures.value, at, c.id-2.ensures) at (c.has_id_at.ensures.row row) in
    c.in_ok-insert.ensures.items ∙ ap (λ k. insert rows k row) at
    ∙ put_new row row rows (λ lt same. false≢true (sym c.if-has_id_at.false ∙ there lt same))
