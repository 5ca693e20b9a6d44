-- The steps of writers: bytes go into a buffer, and blocks from it to a zone.
use Rattle.std.specs.Prelude.{◌≡◌, ℕ, zero, suc, ◌+◌, ◌*◌, ◌-◌, min, Bool, true, false, ◌&&◌, List, [], length, Option, Some, None, is_some, is_none, nat_lt, ◌==◌, if◌then◌else◌}
use Rattle.std.specs.Int.{div_ceil}
use Rattle.record_model.specs.declared.types.Extent.{Extent}
use Rattle.fs_model.specs.declared.error.FsError.TheVariants.{Gone}
use Rattle.fs_model.specs.FsState.{FsState, TableRow, room_in, next_address, row_of}
use Rattle.fs_model.specs.Trace.{Action, done, step, ◌>>=◌, ◌>>◌, from_state, refuse_if, when, repeat, on_part}
use Rattle.fs_model.specs.FileSteps as file_steps
use Rattle.fs_model.specs.LogSteps as log_steps
use Rattle.fs_model.specs.LogSteps.{FsAction, NoValue}

-- an open writer: its file, its zone, and the number of bytes in its buffer
pub record WriterState : Type 0 where
  pub id : ℕ
  pub sparse : Bool
  pub zone : Option ℕ
  pub buffered : ℕ

-- a file system with one of its writers
pub record Session : Type 0 where
  pub fs : FsState
  pub writer : WriterState

-- what is done to a file system and one of its writers
abbrev pub WriterAction : Type 0 → Type 0
WriterAction A = Action Session A

-- does it to the file system alone
abbrev pub on_fs : {A : Type 0} → FsAction A → WriterAction A
on_fs m = on_part (λ s. s.fs) (λ s p. record { fs = p; writer = s.writer }) m

-- a step that changes the writer
abbrev pub set_writer : (WriterState → WriterState) → WriterAction NoValue
set_writer f = step (λ s. record { fs = s.fs; writer = f s.writer })

-- the block size
abbrev pub block_of : Session → ℕ
block_of s = s.fs.geometry.block

-- the blocks of a buffer
abbrev pub buffer_blocks : Session → ℕ
buffer_blocks s = min s.fs.geometry.capacity 256

-- blocks left in the zone that is held
abbrev pub room_left : FsState → Option ℕ → ℕ
room_left s None = 0
room_left s (Some zone) = room_in s zone

-- blocks left in the writer's zone
abbrev pub room_of : Session → ℕ
room_of s = room_left s.fs s.writer.zone

-- the extents of a row that aren't recorded
abbrev pub unrecorded_in : Option TableRow → List Extent
unrecorded_in None = []
unrecorded_in (Some r) = r.unrecorded

-- the extents of the file that aren't recorded
abbrev pub unrecorded_of : Session → List Extent
unrecorded_of s = unrecorded_in (row_of s.writer.id s.fs.rows)

-- the file isn't there
abbrev pub is_gone : Session → Bool
is_gone s = is_none (row_of s.writer.id s.fs.rows)

-- refused where the file isn't there
abbrev pub refuse_gone : WriterAction NoValue
refuse_gone = from_state (λ s. refuse_if (is_gone s) Gone)

-- goes on with the zone that is held, where one is
abbrev pub with_zone : (ℕ → WriterAction NoValue) → Option ℕ → WriterAction NoValue
with_zone f None = done tt
with_zone f (Some zone) = f zone

-- gives this zone back
abbrev pub release_zone : Bool → ℕ → WriterAction NoValue
release_zone close zone = on_fs (file_steps.give_back zone close) >> set_writer (λ w. record w { zone = None })

-- gives the writer's zone back, if it holds one
abbrev pub release_held : Bool → WriterAction NoValue
release_held close = from_state (λ s. with_zone (release_zone close) s.writer.zone)

-- commits the file
abbrev pub commit : ℕ → WriterAction NoValue
commit now = from_state (λ s. on_fs (file_steps.commit s.writer.id now))

-- where the zone is full, the file is committed and the zone given back
abbrev pub commit_full_zone : ℕ → WriterAction NoValue
commit_full_zone now = from_state (λ s.
    when (is_some s.writer.zone && (room_of s == 0)) (commit now >> release_held false))

-- takes a zone
abbrev pub take_zone : WriterAction NoValue
take_zone = from_state (λ s. on_fs (file_steps.take_zone s.writer.id) >>= (λ zone. set_writer (λ w. record w { zone = Some zone })))

-- appends so many blocks to the zone that is held
abbrev pub put_blocks : ℕ → WriterAction NoValue
put_blocks k = from_state (λ s. with_zone (λ zone. on_fs (log_steps.append_blocks zone k)) s.writer.zone)

-- so many bytes are in the buffer then
abbrev pub set_buffered : ℕ → WriterAction NoValue
set_buffered n = set_writer (λ w. record w { buffered = n })

-- notes an extent of the file
abbrev pub note : Extent → WriterAction NoValue
note x = from_state (λ s. on_fs (file_steps.note_extent s.writer.id x))

-- whether one more extent of the file fits the log
abbrev pub extent_fits : WriterAction NoValue
extent_fits = from_state (λ s. on_fs (file_steps.extent_fits s.writer.id))

-- whether a recovery point can be recorded
abbrev pub recovery_point_fits : WriterAction NoValue
recovery_point_fits = from_state (λ s. on_fs (file_steps.recovery_point_fits s.writer.id))

-- the address of the zone's next block
abbrev pub next_of : FsState → Option ℕ → ℕ
next_of s None = 0
next_of s (Some zone) = next_address s zone

-- the address of the next block of the zone that is held
abbrev pub next_start : Session → ℕ
next_start s = next_of s.fs s.writer.zone

-- ---- buffered files

-- a zone where none is held; the first byte of an extent asks for room for it before
abbrev pub ensure_zone : WriterAction NoValue
ensure_zone = from_state (λ s. when (is_none s.writer.zone) (extent_fits >> take_zone))

-- takes so many bytes into the buffer
abbrev pub take_bytes : ℕ → WriterAction NoValue
take_bytes n = from_state (λ s.
    note (record { start = next_start s + s.writer.buffered; len = n })
    >> set_buffered (s.writer.buffered + n))

-- the bytes that fill the buffer, or what is left of the zone
abbrev pub flush_at : Session → ℕ
flush_at s = min (buffer_blocks s) (room_of s) * block_of s

-- whole blocks go out when the buffer is full, or when they fill the zone
abbrev pub flush_full : WriterAction NoValue
flush_full = from_state (λ s.
    when (s.writer.buffered == flush_at s)
    (put_blocks (min (buffer_blocks s) (room_of s)) >> set_buffered 0))

-- appends a byte to a file that isn't sparse
abbrev pub append_plain : ℕ → WriterAction NoValue
append_plain now = refuse_gone >> commit_full_zone now >> ensure_zone >> take_bytes 1 >> flush_full >> commit_full_zone now

-- the rest of the buffer, filled up with zeros
abbrev pub flush_rest : WriterAction NoValue
flush_rest = from_state (λ s.
    when (nat_lt 0 s.writer.buffered)
    (put_blocks (div_ceil s.writer.buffered (block_of s)) >> set_buffered 0))

-- an extent of the file isn't recorded
abbrev pub has_unrecorded : Session → Bool
has_unrecorded s = nat_lt 0 (length (unrecorded_of s))

-- gives the zone back where it is full
abbrev pub release_full_zone : WriterAction NoValue
release_full_zone = from_state (λ s. when (is_some s.writer.zone && (room_of s == 0)) (release_held false))

-- syncs a file that isn't sparse
abbrev pub sync_plain : ℕ → WriterAction NoValue
sync_plain now =
    refuse_gone
    >> commit_full_zone now
    >> from_state (λ s. when (has_unrecorded s) (flush_rest >> commit now >> release_full_zone))

-- ---- sparse files

-- the bytes of a frame that fit the zone
abbrev pub frame_room : Session → ℕ
frame_room s = room_of s * block_of s - 8

-- bytes that were left when a frame was shortened to fit its zone have their extent as soon as a zone is held
abbrev pub note_rest : WriterAction NoValue
note_rest = from_state (λ s.
    when (nat_lt 0 s.writer.buffered)
    (note (record { start = next_start s + 8; len = min s.writer.buffered (frame_room s) })))

-- a zone where none is held, and the extent of what waits for it
abbrev pub ensure_frame_zone : WriterAction NoValue
ensure_frame_zone = from_state (λ s. when (is_none s.writer.zone) (recovery_point_fits >> extent_fits >> take_zone >> note_rest))

-- takes a byte into the buffer, and into the extent of its frame where it fits
abbrev pub take_frame_byte : WriterAction NoValue
take_frame_byte = from_state (λ s.
    when (nat_lt s.writer.buffered (frame_room s)) (note (record { start = next_start s + 8 + s.writer.buffered; len = 1 }))
    >> set_buffered (s.writer.buffered + 1))

-- one frame of so many bytes: its blocks go out, and its bytes are shown
abbrev pub put_frame : Session → ℕ → ℕ → WriterAction NoValue
put_frame s n now =
    put_blocks (div_ceil (8 + n) (block_of s)) >> on_fs (file_steps.show s.writer.id now) >> set_buffered (s.writer.buffered - n)

-- one frame, no longer than fits the zone
abbrev pub write_frame : ℕ → WriterAction NoValue
write_frame now = from_state (λ s. put_frame s (min s.writer.buffered (frame_room s)) now)

-- writes a frame where the buffer is full
abbrev pub write_full_frame : ℕ → WriterAction NoValue
write_full_frame now = from_state (λ s.
    when (s.writer.buffered == buffer_blocks s * block_of s - 8) (write_frame now))

-- appends a byte to a sparse file
abbrev pub append_sparse : ℕ → WriterAction NoValue
append_sparse now =
    refuse_gone >> commit_full_zone now >> ensure_frame_zone >> take_frame_byte >> write_full_frame now >> commit_full_zone now

-- frames until the buffer is empty; each takes a byte, so k bounds them
abbrev pub write_frames : ℕ → ℕ → WriterAction NoValue
write_frames zero now = done tt
write_frames (suc k) now = from_state (λ s.
    when (nat_lt 0 s.writer.buffered) (ensure_frame_zone >> write_frame now >> commit_full_zone now >> write_frames k now))

-- syncs a sparse file
abbrev pub sync_sparse : ℕ → WriterAction NoValue
sync_sparse now = refuse_gone >> commit_full_zone now >> from_state (λ s. write_frames s.writer.buffered now)

-- ---- both

-- appends a byte
abbrev pub append_byte : ℕ → WriterAction NoValue
append_byte now = from_state (λ s. if s.writer.sparse then append_sparse now else append_plain now)

-- so many bytes one by one, so it doesn't matter how they are split into calls
abbrev pub append_bytes : ℕ → ℕ → WriterAction NoValue
append_bytes n now = repeat n (append_byte now)

-- an append; it is refused where the file is gone, even if it has no bytes
abbrev pub append : ℕ → ℕ → WriterAction NoValue
append n now = refuse_gone >> append_bytes n now

-- makes all bytes durable and shown
unfoldable pub sync : ℕ → WriterAction NoValue
sync now = from_state (λ s. if s.writer.sparse then sync_sparse now else sync_plain now)

-- a sparse file that holds a zone is committed at a close
abbrev pub commit_held : ℕ → WriterAction NoValue
commit_held now = from_state (λ s. when (s.writer.sparse && is_some s.writer.zone) (commit now))

-- the file has no writer then
abbrev pub closed : WriterAction NoValue
closed = from_state (λ s. on_fs (file_steps.mark_closed s.writer.id))

-- whether the file was there
unfoldable pub close : ℕ → WriterAction Bool
close now = from_state (λ s.
    if is_gone s then (release_held true >> closed >> done false)
    else (sync now >> commit_held now >> release_held true >> closed >> done true))

-- ---- a writer that goes on in its zone

-- the writer of a file that isn't sparse, which is there, in a zone that has room
pub record HasZone (s : Session) : Type 0 where
  pub plain : s.writer.sparse ≡ false
  pub there : is_gone s ≡ false
  pub zone : is_none s.writer.zone ≡ false
  pub room : (room_of s == 0) ≡ false
