-- Worked cases of the writers, computed.
use Rattle.std.specs.Prelude.{◌≡◌, ℕ, ◌+◌, ◌*◌, ◌-◌, ◌^◌, true, false, List, [], ◌∷◌, replicate, map, codes, Ok, Err, refl}
use Rattle.fs_model.specs.Opened.{writing}
use Rattle.zone_image.specs.declared.Geometry.{Geometry}
use Rattle.fs_model.specs.declared.error.FsError.TheVariants.{Busy, Gone, Exists, InUse}
use Rattle.fs_model.specs.FsState.{ZoneDescriptor, TableRow}
use Rattle.fs_model.specs.Trace.{done, ◌>>◌}
use Rattle.fs_model.specs.LogSteps.{NoValue}
use Rattle.record_model.specs.declared.types.Extent.{Extent}
use Rattle.fs_model.specs.declared.operations.Op.TheVariants as ops
use Rattle.fs_model.specs.TreeSteps.{mount_write, delete, link}
use Rattle.fs_model.specs.FileSteps.{mark_open}
use Rattle.fs_model.specs.WriterSteps as writers
use Rattle.fs_model.specs.Trace.{intermediate_states}
use Rattle.fs_model.specs.Execution.{rises}
use Rattle.fs_model.specs.Turn.{LockState, LockAction, open_file, append_all, close_file, on_fs, on_writer, with_writer, turn}
use Rattle.fs_model.specs.StepExamples.{g, zone, formatted_on, formatted, written, extents, locked, a, b, names}

-- a sparse file: three bytes synced, and five more
abbrev sparse_five : LockAction NoValue
sparse_five =
    on_fs mount_write
    >> open_file 0 (codes "s") 0 true 7
    >> append_all 0 3 7
    >> with_writer 0 (λ w. on_writer 0 w (writers.sync 7)) (done tt)
    >> append_all 0 5 7
    >> with_writer 0 (λ w. on_writer 0 w (writers.sync 7)) (done tt)

-- a frame for each sync
sparse_frames : map (λ r. r.unrecorded) (sparse_five (locked formatted)).last.fs.rows ≡ ((record { start = 24584; len = 3 }) ∷ (record { start = 25096; len = 5 }) ∷ []) ∷ []
unfolding writing
sparse_frames = refl

-- two writers with an active limit of three: the second gets no zone until the first is closed
abbrev pub narrow : Geometry
narrow = record g { active_limit = 3 }

-- the first has a byte, and so a zone
abbrev two_writers : LockAction NoValue
two_writers = on_fs mount_write >> open_file 1 a 0 false 7 >> append_all 1 1 7 >> open_file 2 b 0 false 7

-- the second gets none
second_is_busy : ((two_writers >> append_all 2 1 7) (locked (formatted_on narrow))).answer ≡ Err Busy
unfolding writing
second_is_busy = refl

-- and then it does
second_goes_on : ((two_writers >> with_writer 1 (λ w. close_file 1 w 7) (done tt) >> append_all 2 1 7) (locked (formatted_on narrow))).answer ≡ Ok tt
unfolding writing
second_goes_on = refl

-- a file has one writer at a time
second_writer : ((two_writers >> on_fs (mark_open 1)) (locked (formatted_on narrow))).answer ≡ Err InUse
unfolding writing
second_writer = refl

-- ---- a file that fills its zone, and one byte more

-- an open zone of sixteen blocks with one left
abbrev nearly_full : ZoneDescriptor
nearly_full = zone 15

-- a file that fills the first blocks of a zone
abbrev filler : ℕ → TableRow
filler id = record {
  entry = record { id = id; size = 7680; hint = 0; time = 7; active = 2 ^ 64 - 1; sparse = false; extents = (record { start = (2 + id) * 8192; len = 7680 }) ∷ []; names = replicate id 120 ∷ [] };
  unrecorded = [];
  shown = 7680;
}

-- two zones with one block left each
abbrev two_nearly_full : LockState
two_nearly_full = locked (record formatted { zones = zone 3 ∷ zone 0 ∷ zone 0 ∷ nearly_full ∷ nearly_full ∷ replicate 27 (zone 0); rows = filler 1 ∷ filler 2 ∷ []; greatest = 2 })

-- one zone with one block left
abbrev one_nearly_full : LockState
one_nearly_full = locked (record formatted { zones = zone 3 ∷ zone 0 ∷ zone 0 ∷ nearly_full ∷ replicate 28 (zone 0); rows = filler 1 ∷ []; greatest = 1 })

-- a file of so many bytes, written and closed
abbrev whole_file : List ℕ → ℕ → LockAction NoValue
whole_file name n = open_file 0 name 0 false 7 >> append_all 0 n 7 >> with_writer 0 (λ w. close_file 0 w 7) (done tt)

-- a block fills the first zone; a block and a byte fill the second, and begin an empty one
two_files : extents ((whole_file a 512 >> whole_file b 513) two_nearly_full).last.fs
    ≡ ((record { start = 24576; len = 7680 }) ∷ []) ∷ ((record { start = 32768; len = 7680 }) ∷ [])
    ∷ ((record { start = 32256; len = 512 }) ∷ []) ∷ ((record { start = 40448; len = 512 }) ∷ (record { start = 40960; len = 1 }) ∷ []) ∷ []
unfolding writing
two_files = refl

-- both zones are full then, and the third has a block
two_files_zones : written ((whole_file a 512 >> whole_file b 513) two_nearly_full).last.fs ≡ 8 ∷ 0 ∷ 0 ∷ 16 ∷ 16 ∷ []
unfolding writing
two_files_zones = refl

-- a sparse file over two zones, of which the first has one block left: the frame is shortened, and the rest goes on
abbrev over_two : LockAction NoValue
over_two = open_file 0 a 0 true 7 >> append_all 0 510 7 >> with_writer 0 (λ w. on_writer 0 w (writers.sync 7)) (done tt)

-- the recorded extents, those that aren't, the bytes shown and the recovery point
abbrev last_file : List TableRow → List (List Extent × List Extent × ℕ × ℕ)
last_file [] = []
last_file (r ∷ []) = (r.entry.extents, r.unrecorded, r.shown, r.entry.active) ∷ []
last_file (r ∷ q ∷ rs) = last_file (q ∷ rs)

-- the first frame is committed with its zone; the second stands behind the recovery point
over_two_zones : last_file (over_two one_nearly_full).last.fs.rows
    ≡ ((record { start = 32264; len = 504 }) ∷ [], (record { start = 32776; len = 6 }) ∷ [], 510, 32768) ∷ []
unfolding writing
over_two_zones = refl

-- an append of no bytes is refused as well, where the file is gone
gone_append : (open_file 0 a 0 false 7 >> on_fs (delete a) >> turn 0 (ops.Append 0 0) 7) (locked formatted) ≡ record { passed = ((open_file 0 a 0 false 7 >> on_fs (delete a) >> turn 0 (ops.Append 0 0) 7) (locked formatted)).passed; last = ((open_file 0 a 0 false 7 >> on_fs (delete a)) (locked formatted)).last; answer = Err Gone }
unfolding writing
gone_append = refl

-- ---- names of one file

-- a file with a byte, linked, and its first name deleted
abbrev linked : LockAction NoValue
linked = whole_file a 1 >> on_fs (link a b) >> on_fs (delete a)

-- it stands under its second name
linked_names : names (linked (locked formatted)).last.fs ≡ (b ∷ []) ∷ []
unfolding writing
linked_names = refl

-- a name that is there isn't linked again
linked_twice : ((whole_file a 1 >> on_fs (link a b) >> on_fs (link a b)) (locked formatted)).answer ≡ Err Exists
unfolding writing
linked_twice = refl

-- with its last name its zone is empty again
unlinked_zone : written ((linked >> on_fs (delete b)) (locked formatted)).last.fs ≡ 8 ∷ 0 ∷ 0 ∷ 0 ∷ 0 ∷ []
unfolding writing
unlinked_zone = refl

-- a block and a byte over two zones: bytes come to be shown once by the commit of the full zone, and once by the close
shown_twice : rises 3 0 (intermediate_states (whole_file b 513 two_nearly_full)) ≡ 512 ∷ 513 ∷ []
unfolding writing
shown_twice = refl

-- two frames over two zones: each is shown by its own sync, and the commit between them shows nothing
shown_by_frames : rises 2 0 (intermediate_states (over_two one_nearly_full)) ≡ 504 ∷ 510 ∷ []
unfolding writing
shown_by_frames = refl
