-- An append of bytes that don't fill the buffer is one step.
use Rattle.std.specs.Prelude.{◌≡◌, ℕ, zero, suc, ◌+◌, ◌*◌, ◌<◌, min, Bool, true, false, ◌&&◌, ◌==◌, nat_lt, List, length, Some, is_none, option_map, Ok, refl, if◌then◌else◌}
use Rattle.std.proofs.Common.{sym, ◌∙◌, ap, subst, ⊎_elim, arith}
use Rattle.std.proofs.lemmas.Bool.{le-ltb}
use Rattle.std.proofs.lemmas.Bool.Decides.{eqb_tells}
use Rattle.record_model.specs.declared.types.Extent.{Extent}
use Rattle.fs_model.specs.declared.error.FsError.{FsError}
use Rattle.fs_model.specs.FsState.{TableRow, row_of}
use Rattle.fs_model.specs.Trace.{step, ◌>>◌, refuse_if, repeat, EndsAlike}
use Rattle.fs_model.specs.FileSteps as file_steps
use Rattle.fs_model.specs.FileSteps.{extents_with}
use Rattle.fs_model.specs.WriterSteps.{HasZone, flush_at, Session, WriterAction, buffer_blocks, block_of, room_of, take_bytes, append_byte, append_plain, append_sparse, next_start}
use Rattle.fs_model.proofs.SameEnds.{ends_as_it_does, alike_then, alike_back, then_alike, nothing_last}
use Rattle.fs_model.proofs.ExtentLaws.{extent, same_count, pieces_join}
use Rattle.fs_model.proofs.BulkLaws.{one_byte, longer, taken, lacks_room, no_room, take_ends, row_after, row_twice, same_next, same_room}

-- where the next byte goes
abbrev place : Session → ℕ
place s = next_start s + s.writer.buffered

-- a number that is below another isn't it
below_other : (n m : ℕ) → n < m → (n == m) ≡ false
below_other n m low = ⊎_elim (λ same. absurd (let e = same.1 in omega arith)) (λ other. other.0) (eqb_tells n m)

-- ---- after one byte

-- the file is there, with the byte
row_next : (s : Session) (r : TableRow) → row_of s.writer.id s.fs.rows ≡ Some r → row_of s.writer.id (taken 1 s).fs.rows ≡ Some (longer (place s) 1 r)
row_next s r there = row_after s.writer.id (longer (place s) 1) s.fs.rows (λ q. refl) ∙ ap (λ o. option_map (longer (place s) 1) o) there

-- the zone has the same room
room_next : (s : Session) → room_of (taken 1 s) ≡ room_of s
room_next s = same_room s.fs (taken 1 s).fs.rows s.writer.zone

-- the buffer fills at the same number of bytes
flush_next : (s : Session) → flush_at (taken 1 s) ≡ flush_at s
flush_next s = ap (λ n. min (buffer_blocks s) n * block_of s) (room_next s)

-- the next byte goes behind this one
place_next : (s : Session) → place (taken 1 s) ≡ place s + 1
place_next s =
    let same = same_next s.fs (taken 1 s).fs.rows s.writer.zone in
    let more : next_start s + (s.writer.buffered + 1) ≡ next_start s + s.writer.buffered + 1 = omega arith in
    ap (λ n. n + (s.writer.buffered + 1)) same ∙ more

-- the writer has its zone still
zone_next : (s : Session) (r : TableRow) → HasZone s → row_of s.writer.id s.fs.rows ≡ Some r → HasZone (taken 1 s)
zone_next s r h there = record {
  plain = h.plain;
  there = ap is_none (row_next s r there);
  zone = h.zone;
  room = ap (λ n. n == 0) (room_next s) ∙ h.room;
}

-- ---- more bytes need no further extent

-- whether a file lacks room doesn't depend on the number of bytes
lacks_same : (s : Session) (r : TableRow) (n m : ℕ) → lacks_room s r n ≡ lacks_room s r m
lacks_same s r n m =
    ap (λ k. nat_lt (length r.unrecorded) k && nat_lt s.fs.geometry.capacity (file_steps.extent_need s.fs s.writer.id)) (same_count r.unrecorded (place s) n m)

-- bytes that follow have their extent
lacks_next : (s : Session) (r : TableRow) (k : ℕ) → lacks_room (taken 1 s) (longer (place s) 1 r) k ≡ false
lacks_next s r k =
    let us : List Extent = r.unrecorded in
    let first : List Extent = extents_with us (extent (place s) 1) in
    let count = ap (λ a. length (extents_with first (extent a k))) (place_next s) ∙ ap length (pieces_join us (place s) 1 k) ∙ same_count us (place s) (1 + k) 1 in
    let need : Bool = nat_lt s.fs.geometry.capacity (file_steps.extent_need (taken 1 s).fs s.writer.id) in
    ap (λ c. nat_lt (length first) c && need) count ∙ ap (λ b. b && need) (le-ltb (length first) (length first) (omega arith))

-- two notes of one file are one
notes_join : (s : Session) (k : ℕ) (r : TableRow) → longer (place (taken 1 s)) k (longer (place s) 1 r) ≡ longer (place s) (1 + k) r
notes_join s k r =
    ap (λ a. longer a k (longer (place s) 1 r)) (place_next s)
    ∙ ap (λ xs. record r { unrecorded = xs }) (pieces_join r.unrecorded (place s) 1 k)

-- bytes taken after one are taken with it
taken_join : (s : Session) (k : ℕ) → taken k (taken 1 s) ≡ taken (1 + k) s
taken_join s k =
    let more : s.writer.buffered + 1 + k ≡ s.writer.buffered + (1 + k) = omega arith in
    ap (λ rows. record { fs = record (s.fs) { rows = rows }; writer = record (s.writer) { buffered = s.writer.buffered + 1 + k } })
    (row_twice s.writer.id (longer (place s) 1) (longer (place (taken 1 s)) k) (longer (place s) (1 + k)) s.fs.rows (λ q. refl) (notes_join s k))
    ∙ ap (λ n. record { fs = (taken (1 + k) s).fs; writer = record (s.writer) { buffered = n } }) more

-- a test and a step, and then more
join_choice : (b : Bool) (e : FsError) (f : Session → Session) (rest : WriterAction (Unit {0})) (last s : Session)
    → (b ≡ false → EndsAlike rest (step (λ _. last)) (f s)) → EndsAlike (refuse_if b e >> step f >> rest) (refuse_if b e >> step (λ _. last)) s
join_choice true e f rest last s more = record { answer = refl; last = refl }
join_choice false e f rest last s more = let ends = more refl in record { answer = ends.answer; last = ends.last }

-- a test that holds nothing back
open_test : (b : Bool) (e : FsError) (last s : Session) → b ≡ false → EndsAlike (refuse_if b e >> step (λ _. last)) (step (λ _. last)) s
open_test true e last s h = absurd cc
open_test false e last s h = record { answer = refl; last = refl }

-- two tests that say the same
same_test : (b c : Bool) (e : FsError) (last s : Session) → b ≡ c → EndsAlike (refuse_if b e >> step (λ _. last)) (refuse_if c e >> step (λ _. last)) s
same_test b c e last s is =
    let P : Bool → Type 0 = λ x. EndsAlike (refuse_if b e >> step (λ _. last)) (refuse_if x e >> step (λ _. last)) s in
    subst P is (ends_as_it_does (refuse_if b e >> step (λ _. last)) s)

-- one byte, and then more, are all of them
bytes_join : (k : ℕ) (s : Session) (r : TableRow) → row_of s.writer.id s.fs.rows ≡ Some r → EndsAlike (take_bytes 1 >> take_bytes k) (take_bytes (1 + k)) s
bytes_join k s r there =
    let next : Session = taken 1 s in
    let all : Session = taken (1 + k) s in
    let more : EndsAlike (take_bytes k) (step (λ _. all)) next =
    alike_then (take_ends k next (longer (place s) 1 r) (row_next s r there))
    (alike_then (open_test (lacks_room next (longer (place s) 1 r) k) (no_room next) (taken k next) next (lacks_next s r k))
    (record { answer = refl; last = taken_join s k })) in
    alike_then (then_alike (take_ends 1 s r there) (λ ok. ends_as_it_does (take_bytes k) _))
    (alike_then (join_choice (lacks_room s r 1) (no_room s) (λ _. next) (take_bytes k) all s (λ _. more))
    (alike_then (same_test (lacks_room s r 1) (lacks_room s r (1 + k)) (no_room s) all s (lacks_same s r 1 (1 + k)))
    (alike_back (take_ends (1 + k) s r there))))

-- where a byte was taken, this is what it left
ok_choice : (b : Bool) (e : FsError) (last s : Session) → ((refuse_if b e >> step (λ _. last)) s).answer ≡ Ok tt → ((refuse_if b e >> step (λ _. last)) s).last ≡ last
ok_choice true e last s h = absurd cc
ok_choice false e last s h = refl

-- the same of the call
ok_taken : (s : Session) (r : TableRow) → row_of s.writer.id s.fs.rows ≡ Some r → (take_bytes 1 s).answer ≡ Ok tt → (take_bytes 1 s).last ≡ taken 1 s
ok_taken s r there h =
    let ends = take_ends 1 s r there in
    ends.last ∙ ok_choice (lacks_room s r 1) (no_room s) (taken 1 s) s (sym ends.answer ∙ h)

-- a byte for a plain file
plain_byte : (now : ℕ) (s : Session) → HasZone s → EndsAlike (append_byte now) (append_plain now) s
plain_byte now s h = record {
  answer = ap (λ b. ((if b then append_sparse now else append_plain now) s).answer) h.plain;
  last = ap (λ b. ((if b then append_sparse now else append_plain now) s).last) h.plain;
}

-- a byte that doesn't fill the buffer
byte_taken : (now : ℕ) (s : Session) (r : TableRow) → HasZone s → row_of s.writer.id s.fs.rows ≡ Some r → s.writer.buffered + 1 < flush_at s → EndsAlike (append_byte now) (take_bytes 1) s
byte_taken now s r h there low =
    let P : Session → Type 0 = λ t. HasZone t × ((t.writer.buffered == flush_at t) ≡ false) in
    let after : P (taken 1 s) = (zone_next s r h there, ap (λ n. s.writer.buffered + 1 == n) (flush_next s) ∙ below_other (s.writer.buffered + 1) (flush_at s) low) in
    alike_then (plain_byte now s h) (one_byte now s h (λ ok. subst P (sym (ok_taken s r there ok)) after))

-- bytes that don't fill the buffer are taken at once
pub bulk : (k now : ℕ) (s : Session) (r : TableRow) → HasZone s → row_of s.writer.id s.fs.rows ≡ Some r → s.writer.buffered + suc k < flush_at s
    → EndsAlike (repeat (suc k) (append_byte now)) (take_bytes (suc k)) s
bulk zero now s r h there low = alike_then (nothing_last (append_byte now) s) (byte_taken now s r h there (omega arith))
bulk (suc k) now s r h there low =
    let P : Session → Type 0 = λ t. EndsAlike (repeat (suc k) (append_byte now)) (take_bytes (suc k)) t in
    let Q : ℕ → Type 0 = λ n. EndsAlike (take_bytes 1 >> take_bytes (suc k)) (take_bytes n) s in
    let more : 1 + suc k ≡ suc (suc k) = omega arith in
    let left : s.writer.buffered + 1 + suc k < flush_at (taken 1 s) = let same = flush_next s in omega arith in
    alike_then
    (then_alike (byte_taken now s r h there (omega arith))
    (λ ok. subst P (sym (ok_taken s r there ok)) (bulk k now (taken 1 s) (longer (place s) 1 r) (zone_next s r h there) (row_next s r there) left)))
    (subst Q more (bytes_join (suc k) s r there))
