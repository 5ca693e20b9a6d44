-- Bytes that stay in the buffer may be taken at once.
use Rattle.std.specs.Prelude.{◌≡◌, ℕ, ◌+◌, Bool, true, false, ◌&&◌, ◌==◌, nat_lt, List, [], ◌∷◌, length, Option, Some, None, is_some, is_none, option_map, Ok, refl, if◌then◌else◌}
use Rattle.std.proofs.Common.{sym, ◌∙◌, ap, subst}
use Rattle.record_model.specs.declared.types.Extent.{Extent}
use Rattle.fs_model.specs.declared.error.FsError.{FsError}
use Rattle.fs_model.specs.declared.error.FsError.TheVariants.{Gone, MetaFull}
use Rattle.fs_model.specs.FsState.{FsState, TableRow, row_of, on_row}
use Rattle.fs_model.specs.Trace.{step, ◌>>◌, from_state, refuse_if, when, EndsAlike}
use Rattle.fs_model.specs.LogSteps.{NoValue, set_row, refuse_above}
use Rattle.fs_model.specs.FileSteps as file_steps
use Rattle.fs_model.specs.FileSteps.{extents_with, or_gone, extent_need}
use Rattle.fs_model.specs.WriterSteps.{HasZone, flush_at, Session, WriterAction, room_left, room_of, is_gone, refuse_gone, commit_full_zone, ensure_zone, take_bytes, flush_full, append_plain, next_of, next_start, note, on_fs, set_buffered}
use Rattle.fs_model.proofs.SameEnds.{ends_as_it_does, alike_then, nothing, when_not, not_refused, skip, then_skip, then_alike}
use Rattle.fs_model.proofs.ExtentLaws.{extent}

-- the second of two tests fails
and_false : (a b : Bool) → b ≡ false → (a && b) ≡ false
and_false true b h = h
and_false false b h = refl

-- the zone isn't full
not_full : (now : ℕ) (s : Session) → HasZone s → EndsAlike (commit_full_zone now) nothing s
not_full now s h = record { answer = (full s h).answer; last = (full s h).last }
  where
    full : (t : Session) → HasZone t → EndsAlike (commit_full_zone now) nothing t
    full t k = let ends = when_not (is_some t.writer.zone && (room_of t == 0)) _ t (and_false (is_some t.writer.zone) (room_of t == 0) k.room) in record { answer = ends.answer; last = ends.last }

-- the file is there
not_gone : (s : Session) → HasZone s → EndsAlike refuse_gone nothing s
not_gone s h = let ends = not_refused (is_gone s) Gone s h.there in record { answer = ends.answer; last = ends.last }

-- a zone is held
zone_held : (s : Session) → HasZone s → EndsAlike ensure_zone nothing s
zone_held s h = let ends = when_not (is_none s.writer.zone) _ s h.zone in record { answer = ends.answer; last = ends.last }

-- the buffer doesn't fill
not_flushed : (s : Session) → (s.writer.buffered == flush_at s) ≡ false → EndsAlike flush_full nothing s
not_flushed s h = let ends = when_not (s.writer.buffered == flush_at s) _ s h in record { answer = ends.answer; last = ends.last }

-- one byte that doesn't fill the buffer: it is taken, and nothing else is done
pub one_byte : (now : ℕ) (s : Session) → HasZone s
    → ((take_bytes 1 s).answer ≡ Ok tt → HasZone (take_bytes 1 s).last × (((take_bytes 1 s).last.writer.buffered == flush_at (take_bytes 1 s).last) ≡ false))
    → EndsAlike (append_plain now) (take_bytes 1) s
one_byte now s h after =
    let before : EndsAlike (refuse_gone >> commit_full_zone now >> ensure_zone) nothing s =
    alike_then (skip (alike_then (skip (not_gone s h)) (not_full now s h))) (zone_held s h) in
    then_skip {n = take_bytes 1} (then_skip {n = take_bytes 1} (skip before) (λ ok. not_flushed (take_bytes 1 s).last (after ok).1))
    (λ ok. not_full now (take_bytes 1 s).last (after ok).0)

-- ---- what taking bytes does

-- a row as it stands after some bytes from an address on
abbrev pub longer : ℕ → ℕ → TableRow → TableRow
longer a n r = file_steps.note (extent a n) r

-- the session after so many bytes were taken
abbrev pub taken : ℕ → Session → Session
taken n s = record {
  fs = record (s.fs) { rows = on_row s.writer.id (longer (next_start s + s.writer.buffered) n) s.fs.rows };
  writer = record (s.writer) { buffered = s.writer.buffered + n };
}

-- the file has no room for one more extent, and needs one
abbrev pub lacks_room : Session → TableRow → ℕ → Bool
lacks_room s r n =
    nat_lt (length r.unrecorded) (length (extents_with r.unrecorded (extent (next_start s + s.writer.buffered) n)))
    && nat_lt s.fs.geometry.capacity (extent_need s.fs s.writer.id)

-- how it is refused then
abbrev pub no_room : Session → FsError
no_room s = MetaFull (extent_need s.fs s.writer.id) s.fs.geometry.capacity

-- a test within a test
both_tests : {S : Type 0} → (c d : Bool) (e : FsError) (s : S) → EndsAlike (when c (refuse_if d e)) (refuse_if (c && d) e) s
both_tests true d e s = ends_as_it_does (refuse_if d e) s
both_tests false d e s = ends_as_it_does nothing s

-- a file that is there is noted
note_there : (there : Option TableRow) (r : TableRow) (id : ℕ) (x : Extent) (t : FsState) → there ≡ Some r
    → EndsAlike (or_gone (λ q. from_state (λ u. when (nat_lt (length q.unrecorded) (length (extents_with q.unrecorded x))) (refuse_above u (extent_need u id)) >> set_row id (file_steps.note x))) there)
    (refuse_if (nat_lt (length r.unrecorded) (length (extents_with r.unrecorded x)) && nat_lt t.geometry.capacity (extent_need t id)) (MetaFull (extent_need t id) t.geometry.capacity)
    >> set_row id (file_steps.note x)) t
note_there None r id x t is = absurd cc
note_there (Some q) r id x t is =
    let same : r ≡ q = cc in
    let c : TableRow → Bool = λ p. nat_lt (length p.unrecorded) (length (extents_with p.unrecorded x)) in
    let d : Bool = nat_lt t.geometry.capacity (extent_need t id) in
    let e : FsError = MetaFull (extent_need t id) t.geometry.capacity in
    let ends = then_alike (both_tests (c q) d e t) (λ ok. ends_as_it_does (set_row id (file_steps.note x)) (refuse_if (c q && d) e t).last) in
    let P : TableRow → Type 0 = λ p. EndsAlike (when (c q) (refuse_if d e) >> set_row id (file_steps.note x)) (refuse_if (c p && d) e >> set_row id (file_steps.note x)) t in
    let moved = subst P (sym same) ends in
    record { answer = moved.answer; last = moved.last }

-- what taking bytes does, as a test and a step
abbrev pub test_and_take : Session → TableRow → ℕ → WriterAction NoValue
test_and_take s r n = refuse_if (lacks_room s r n) (no_room s) >> step (λ _. taken n s)

-- a note of the file, as a test and a step
noted : (n : ℕ) (s : Session) (r : TableRow) → row_of s.writer.id s.fs.rows ≡ Some r
    → EndsAlike (note (extent (next_start s + s.writer.buffered) n))
    (on_fs (refuse_if (lacks_room s r n) (no_room s) >> set_row s.writer.id (longer (next_start s + s.writer.buffered) n))) s
unfolding file_steps.note_extent
noted n s r there =
    let x : Extent = extent (next_start s + s.writer.buffered) n in
    let ends = note_there (row_of s.writer.id s.fs.rows) r s.writer.id x s.fs there in
    record { answer = ends.answer; last = ap (λ fs. record { fs = fs; writer = s.writer }) ends.last }

-- the test and the step, where there is room and where there isn't
take_choice : (lacks : Bool) (n : ℕ) (e : FsError) (s : Session)
    → EndsAlike (on_fs (refuse_if lacks e >> set_row s.writer.id (longer (next_start s + s.writer.buffered) n)) >> set_buffered (s.writer.buffered + n))
    (refuse_if lacks e >> step (λ _. taken n s)) s
take_choice true n e s = record { answer = refl; last = refl }
take_choice false n e s = record { answer = refl; last = refl }

-- bytes are taken where the file has room, or needs none
pub take_ends : (n : ℕ) (s : Session) (r : TableRow) → row_of s.writer.id s.fs.rows ≡ Some r → EndsAlike (take_bytes n) (test_and_take s r n) s
take_ends n s r there =
    let all = alike_then (then_alike (noted n s r there) (λ ok. ends_as_it_does (set_buffered (s.writer.buffered + n)) _)) (take_choice (lacks_room s r n) n (no_room s) s) in
    record { answer = all.answer; last = all.last }

-- ---- byte by byte

-- the file of an id after a change of it
row_choice : (b : Bool) (id : ℕ) (g : TableRow → TableRow) (q : TableRow) (later changed : Option TableRow) (c : Bool) → c ≡ b → changed ≡ option_map g later
    → (if c then Some (if b then g q else q) else changed) ≡ option_map g (if b then Some q else later)
row_choice true id g q later changed c same rest = ap (λ x. if x then Some (g q) else changed) same
row_choice false id g q later changed c same rest = ap (λ x. if x then Some q else changed) same ∙ rest

-- which keeps ids
id_kept : (b : Bool) (g : TableRow → TableRow) (q : TableRow) (id : ℕ) → ((r : TableRow) → (g r).entry.id ≡ r.entry.id)
    → ((if b then g q else q).entry.id == id) ≡ (q.entry.id == id)
id_kept true g q id same = ap (λ n. n == id) (same q)
id_kept false g q id same = refl

-- over all files
pub row_after : (id : ℕ) (g : TableRow → TableRow) (rows : List TableRow) → ((r : TableRow) → (g r).entry.id ≡ r.entry.id)
    → row_of id (on_row id g rows) ≡ option_map g (row_of id rows)
row_after id g [] same = refl
row_after id g (q ∷ qs) same =
    row_choice (q.entry.id == id) id g q (row_of id qs) (row_of id (on_row id g qs)) ((if q.entry.id == id then g q else q).entry.id == id)
    (id_kept (q.entry.id == id) g q id same) (row_after id g qs same)

-- two changes of one file are one
twice_choice : (b c : Bool) (g h both : TableRow → TableRow) (q : TableRow) → c ≡ b → h (g q) ≡ both q
    → (if c then h (if b then g q else q) else (if b then g q else q)) ≡ (if b then both q else q)
twice_choice true c g h both q same is = ap (λ x. if x then h (g q) else g q) same ∙ is
twice_choice false c g h both q same is = ap (λ x. if x then h q else q) same

-- over all files
pub row_twice : (id : ℕ) (g h both : TableRow → TableRow) (rows : List TableRow) → ((r : TableRow) → (g r).entry.id ≡ r.entry.id) → ((r : TableRow) → h (g r) ≡ both r)
    → on_row id h (on_row id g rows) ≡ on_row id both rows
row_twice id g h both [] same is = refl
row_twice id g h both (q ∷ qs) same is =
    ap (λ r. r ∷ on_row id h (on_row id g qs)) (twice_choice (q.entry.id == id) ((if q.entry.id == id then g q else q).entry.id == id) g h both q (id_kept (q.entry.id == id) g q id same) (is q))
    ∙ ap (λ rs. (if q.entry.id == id then both q else q) ∷ rs) (row_twice id g h both qs same is)

-- the next block's address doesn't depend on files
pub same_next : (fs : FsState) (rows : List TableRow) (zone : Option ℕ) → next_of (record fs { rows = rows }) zone ≡ next_of fs zone
same_next fs rows None = refl
same_next fs rows (Some z) = refl

-- nor does the room of a zone
pub same_room : (fs : FsState) (rows : List TableRow) (zone : Option ℕ) → room_left (record fs { rows = rows }) zone ≡ room_left fs zone
same_room fs rows None = refl
same_room fs rows (Some z) = refl
