use Rattle.std.proofs.Common.{◌≡◌, ℕ, ◌+◌, ◌≤◌, List, ◌++◌, take, drop, option_map, sym, ◌∙◌, ap, subst, arith}
use Rattle.zone_image.specs.declared.Geometry.{Geometry}
use Rattle.log_model.specs.Frames.{bytes_of}
use Rattle.fs_model.specs.FsState.{TableRow, recorded, row_of, working_entry}
use Rattle.fs_core.specs.Reading.{IsWrittenRow}
use Rattle.fs_core.proofs.FileRows.{shown_bytes, some_id, written_row}
use Rattle.fs_core.proofs.reading.read_file.Goals as goal

pub read_shown-requires-clause-written : goal.read_shown-requires-clause-written
read_shown-requires-clause-written g c = λ r found.
    let s = c.args.tables.now.state in
    let infos = g.D.ZonedDevice.infos c.args.dev.now in
    subst (λ (h : Geometry). IsWrittenRow h infos r) (sym c.geometry-geometry.ensures.value)
    (written_row s.geometry infos (recorded s) c.args.file.id r c.requires.written
    (ap (row_of c.args.file.id) (sym (c.files.ensures.files ∙ c.geometry-geometry.ensures.sound.settled)) ∙ found))

pub returns-clause-bytes : goal.returns-clause-bytes
returns-clause-bytes g c = λ told r found.
    let s = c.args.tables.now.state in
    let offset : ℕ = c.args.offset in
    let count : ℕ = c.count_of-count.result in
    let all : List ℕ = bytes_of (g.D.ZonedDevice.image c.args.dev.now) (working_entry r).extents in
    let back : List ℕ = c.split_at_mut-front.result.1.now in
    let shown : r.shown ≡ c.args.file.shown = some_id (sym (ap (option_map (λ (q : TableRow). q.shown)) found) ∙ c.requires.shown) in
    let le : offset + count ≤ r.shown = omega (arith, shown, c.count_of-count.ensures, c.if-count-eq0.false) in
    ap (λ (xs : List ℕ). xs ++ back)
    (c.in_ok-read_shown.ensures.bytes told r (ap (row_of c.args.file.id) c.files.ensures.files ∙ found) ∙ ap (λ (n : ℕ). take n (drop offset all)) c.split_at_mut-front.ensures.front_len ∙ shown_bytes count offset r.shown all le)
    ∙ ap (λ (xs : List ℕ). take count (drop offset (take r.shown all)) ++ xs) c.split_at_mut-front.ensures.back
