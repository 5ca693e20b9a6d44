use Rattle.std.proofs.Common.{◌≡◌, ℕ, ◌+◌, ◌<◌, ◌≤◌, length, take, sym, ◌∙◌, ap, subst, arith}
use Rattle.std.proofs.lemmas.List.{take_at}
use Rattle.zone_image.specs.declared.Geometry.{Geometry}
use Rattle.zone_image.specs.Infos.{IsImage, IsPossible}
use Rattle.log_model.specs.Frames.{extent_bytes}
use Rattle.extent_map.specs.Lookups.{extents_of}
use Rattle.mount_replay.proofs.WrittenLaws.{in_data_zone}
use Rattle.fs_core.proofs.Pieces.{ends_written, first_piece, located_rest, rest_is_written, row_in_range, shown_row}
use Rattle.fs_core.proofs.shown.read_piece.Goals as goal

pub locate-requires : goal.locate-requires
locate-requires g c = λ r found.
    let D = g.D.ZonedDevice in
    let dev = c.args.dev.now in
    let possible : IsPossible c.args.geometry.now (D.infos dev) =
    subst (λ (s : Geometry). IsPossible s (D.infos dev)) (sym c.requires.same_geometry) (g.met.D.ZonedDevice.possible dev c.requires.is_known) in
    row_in_range c.args.geometry.now (D.infos dev) r possible (c.requires.written r found)

pub read_extent-requires-clause-is_zone : goal.read_extent-requires-clause-is_zone
read_extent-requires-clause-is_zone g c =
    let D = g.D.ZonedDevice in
    let dev = c.args.dev.now in
    let shape = c.args.geometry.now in
    let rows = c.args.files.now.rows in
    let possible : IsPossible shape (D.infos dev) =
    subst (λ (s : Geometry). IsPossible s (D.infos dev)) (sym c.requires.same_geometry) (g.met.D.ZonedDevice.possible dev c.requires.is_known) in
    let row = shown_row c.args.place.id (c.args.place.offset + length c.args.out.now) rows c.requires.shown in
    let rest = located_rest c.args.place.id c.args.place.offset rows row.0 c.in-Some.rest row.1 (sym c.locate.ensures.rest ∙ c.in-Some.is) in
    (in_data_zone shape (D.infos dev) c.in-Some.rest possible (rest_is_written shape (D.infos dev) (extents_of row.0) c.args.place.offset c.in-Some.rest possible (c.requires.written row.0 row.1) rest)).is_zone

pub read_extent-requires-clause-written : goal.read_extent-requires-clause-written
read_extent-requires-clause-written g c =
    let D = g.D.ZonedDevice in
    let dev = c.args.dev.now in
    let shape = c.args.geometry.now in
    let rows = c.args.files.now.rows in
    let possible : IsPossible shape (D.infos dev) =
    subst (λ (s : Geometry). IsPossible s (D.infos dev)) (sym c.requires.same_geometry) (g.met.D.ZonedDevice.possible dev c.requires.is_known) in
    let row = shown_row c.args.place.id (c.args.place.offset + length c.args.out.now) rows c.requires.shown in
    let rest = located_rest c.args.place.id c.args.place.offset rows row.0 c.in-Some.rest row.1 (sym c.locate.ensures.rest ∙ c.in-Some.is) in
    omega (
      arith,
      ends_written shape (D.infos dev) c.in-Some.rest (rest_is_written shape (D.infos dev) (extents_of row.0) c.args.place.offset c.in-Some.rest possible (c.requires.written row.0 row.1) rest),
      c.piece-count.ensures,
      c.split_at_mut-front.ensures.front_len,
    )

pub returns-clause-some : goal.returns-clause-some
returns-clause-some g c =
    let D = g.D.ZonedDevice in
    let dev = c.args.dev.now in
    let shape = c.args.geometry.now in
    let rows = c.args.files.now.rows in
    let possible : IsPossible shape (D.infos dev) =
    subst (λ (s : Geometry). IsPossible s (D.infos dev)) (sym c.requires.same_geometry) (g.met.D.ZonedDevice.possible dev c.requires.is_known) in
    let row = shown_row c.args.place.id (c.args.place.offset + length c.args.out.now) rows c.requires.shown in
    let rest = located_rest c.args.place.id c.args.place.offset rows row.0 c.in-Some.rest row.1 (sym c.locate.ensures.rest ∙ c.in-Some.is) in
    let some : 0 < c.in-Some.rest.len = (rest_is_written shape (D.infos dev) (extents_of row.0) c.args.place.offset c.in-Some.rest possible (c.requires.written row.0 row.1) rest).some in
    omega (arith, some, c.piece-count.ensures, c.requires.some)

pub returns-clause-bytes : goal.returns-clause-bytes
returns-clause-bytes g c = λ told r found.
    let D = g.D.ZonedDevice in
    let dev = c.args.dev.now in
    let i = D.image dev in
    let shape = c.args.geometry.now in
    let rows = c.args.files.now.rows in
    let possible : IsPossible shape (D.infos dev) =
    subst (λ (s : Geometry). IsPossible s (D.infos dev)) (sym c.requires.same_geometry) (g.met.D.ZonedDevice.possible dev c.requires.is_known) in
    let image : IsImage shape (D.infos dev) i =
    subst (λ (s : Geometry). IsImage s (D.infos dev) i) (sym c.requires.same_geometry) (g.met.D.ZonedDevice.told dev told c.requires.is_known) in
    let rest = located_rest c.args.place.id c.args.place.offset rows r c.in-Some.rest found (sym c.locate.ensures.rest ∙ c.in-Some.is) in
    let count : ℕ = c.piece-count.result in
    let front = c.split_at_mut-front.result.0.now in
    let long : length c.read_extent.new.out ≡ count = c.in_ok-read_extent.ensures.same_len ∙ c.split_at_mut-front.ensures.front_len in
    let fits : count ≤ c.in-Some.rest.len = omega (arith, c.piece-count.ensures) in
    take_at c.read_extent.new.out c.split_at_mut-front.result.1.now count long
    ∙ c.in_ok-read_extent.ensures.bytes told
    ∙ ap (λ (n : ℕ). take n (extent_bytes i c.in-Some.rest)) c.split_at_mut-front.ensures.front_len
    ∙ sym (first_piece shape (D.infos dev) i possible image (extents_of r) count c.args.place.offset c.in-Some.rest (c.requires.written r found) rest fits)
