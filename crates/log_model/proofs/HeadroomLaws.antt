-- The room for metadata that a table keeps.
use Rattle.std.specs.Prelude.{◌≡◌, ℕ, zero, suc, ◌+◌, ◌*◌, ◌<◌, ◌≤◌, Bool, true, false, not, cond, List, [], ◌∷◌, ◌++◌, length, replicate, Some, flat_map, nat_le, ◌==◌, refl}
use Rattle.std.proofs.Common.{ap, arith}
use Rattle.std.proofs.lemmas.Bool.{leb-true, le-leb}
use Rattle.std.proofs.lemmas.List.{length-append}
use Rattle.std.proofs.lemmas.Grind.{div_ceil_times}
use Rattle.std.specs.List.{AllZip}
use Rattle.record_model.specs.Numbers.{u64, varint}
use Rattle.record_model.specs.Encoding.{entry_bytes, slice, payload_of}
use Rattle.record_model.specs.declared.types.FileEntry.{FileEntry}
use Rattle.record_model.specs.declared.types.Record.TheVariants.{Snapshot, Update, Deletion, Replace}
use Rattle.log_model.specs.LogScan.{blocks_of}
use Rattle.log_model.specs.FileTable.{Table, file_of, is_among, is_named, without_names, take_names}
use Rattle.log_model.specs.Headroom.{blocks_of_record, snapshot_blocks, greatest_record, log_need, change_need}
use Rattle.log_model.specs.HeadroomLaws.{IsNoLonger, DeletionKeepsRoom, DeletionTakesOneBlock, RoomForDeletion, RecordFitsTable, FewerExtentsNeedNoMore}
use Rattle.log_model.proofs.LengthLaws.{slice_grows, blocks_grow, entry_grows, names_shrink, name_lengths}
use Rattle.log_model.proofs.SelectionLaws.{some_is}

-- the bytes of a table's entries
files_length : Table → ℕ
files_length es = length (flat_map (λ e. slice (entry_bytes e)) es)

-- longer entries take no fewer blocks in a snapshot
snapshot_grows : (block : ℕ) (es fs : Table) → 0 < block → files_length es ≤ files_length fs → snapshot_blocks block es ≤ snapshot_blocks block fs
unfolding payload_of files_length
snapshot_grows block es fs pos less =
    blocks_grow block (length (payload_of (Snapshot es))) (length (payload_of (Snapshot fs))) pos
    (omega (arith, slice_grows (flat_map (λ e. slice (entry_bytes e)) es) (flat_map (λ e. slice (entry_bytes e)) fs) less))

-- a longer entry takes no fewer blocks in an update
update_grows : (block : ℕ) (e f : FileEntry) → 0 < block → length (entry_bytes e) ≤ length (entry_bytes f) → blocks_of_record block (Update e) ≤ blocks_of_record block (Update f)
unfolding payload_of
update_grows block e f pos less =
    blocks_grow block (length (payload_of (Update e))) (length (payload_of (Update f))) pos (omega (arith, slice_grows (entry_bytes e) (entry_bytes f) less))

-- an entry without names is no longer
without_shrinks : (ns : List (List ℕ)) (e : FileEntry) → length (entry_bytes (without_names ns e)) ≤ length (entry_bytes e)
without_shrinks ns e = entry_grows (without_names ns e) e (omega arith) refl (names_shrink (λ n. not (is_among ns n)) e.names)

-- an entry, or none, in front of others
files_either : (b : Bool) (x y : FileEntry) (kept es : Table) → length (slice (entry_bytes x)) ≤ length (slice (entry_bytes y)) → files_length kept ≤ files_length es
    → files_length (cond b (x ∷ kept) kept) ≤ files_length (y ∷ es)
unfolding files_length
files_either true x y kept es first rest =
    omega (arith, length-append (slice (entry_bytes x)) (flat_map (λ e. slice (entry_bytes e)) kept), length-append (slice (entry_bytes y)) (flat_map (λ e. slice (entry_bytes e)) es))
files_either false x y kept es first rest = omega (arith, length-append (slice (entry_bytes y)) (flat_map (λ e. slice (entry_bytes e)) es))

-- a table from which names are taken is no longer
taken_shrinks : (ns : List (List ℕ)) (es : Table) → files_length (take_names ns es) ≤ files_length es
taken_shrinks ns [] = omega arith
taken_shrinks ns (e ∷ es) =
    files_either (is_named (without_names ns e)) (without_names ns e) e (take_names ns es) es
    (slice_grows (entry_bytes (without_names ns e)) (entry_bytes e) (without_shrinks ns e)) (taken_shrinks ns es)

-- the greatest record of an entry, or none, and of others
greatest_either : (b : Bool) (block : ℕ) (x y : FileEntry) (kept es : Table) → blocks_of_record block (Update x) ≤ blocks_of_record block (Update y)
    → greatest_record block kept ≤ greatest_record block es → greatest_record block (cond b (x ∷ kept) kept) ≤ greatest_record block (y ∷ es)
greatest_either true block x y kept es first rest = omega arith
greatest_either false block x y kept es first rest = omega arith

-- a table from which names are taken has no greater record
greatest_taken : (block : ℕ) (ns : List (List ℕ)) (es : Table) → 0 < block → greatest_record block (take_names ns es) ≤ greatest_record block es
greatest_taken block ns [] pos = omega arith
greatest_taken block ns (e ∷ es) pos =
    greatest_either (is_named (without_names ns e)) block (without_names ns e) e (take_names ns es) es
    (update_grows block (without_names ns e) e pos (without_shrinks ns e)) (greatest_taken block ns es pos)

-- a table that needs no more has room
room_from : (capacity m n : ℕ) → m ≤ n → nat_le n capacity ≡ true → nat_le m capacity ≡ true
room_from capacity m n less h = le-leb m capacity (omega (arith, leb-true n capacity h))

pub deletion_keeps_room : DeletionKeepsRoom
unfolding log_need
deletion_keeps_room capacity block es name large h =
    let pos : 0 < block = omega arith in
    let snap : snapshot_blocks block (take_names (name ∷ []) es) ≤ snapshot_blocks block es = snapshot_grows block (take_names (name ∷ []) es) es pos (taken_shrinks (name ∷ []) es) in
    let great : greatest_record block (take_names (name ∷ []) es) ≤ greatest_record block es = greatest_taken block (name ∷ []) es pos in
    room_from capacity (log_need block (take_names (name ∷ []) es)) (log_need block es) (omega arith) h

pub room_for_deletion : RoomForDeletion
unfolding log_need change_need
room_for_deletion block es = omega arith

-- two blocks and more are two blocks at least
two_blocks : (n block : ℕ) → block + block ≤ suc (suc n) * block
two_blocks n block = omega arith

-- some blocks that hold no more than one does are one
only_one : (n block len : ℕ) → (8 + len ≤ n * block) × (n * block < 8 + len + block) → 8 + len ≤ block → n ≡ 1
only_one zero block len h fits = absurd (omega (arith, h.0))
only_one (suc zero) block len h fits = refl
only_one (suc (suc n)) block len h fits = absurd (omega (arith, h.1, two_blocks n block))

-- a record of at most a block takes one
one_block : (block len : ℕ) → 0 < block → 8 + len ≤ block → blocks_of block len ≡ 1
one_block block len pos fits = only_one (blocks_of block len) block len (div_ceil_times (8 + len) block pos) fits

-- a slice of at most so many bytes
name_slice : (name : List ℕ) → length name ≤ 255 → length (slice name) ≤ 257
unfolding varint
name_slice name less = slice_grows name (replicate 255 0) less

-- a slice of an id and a name
deletion_slice : (body : List ℕ) → length body ≤ 265 → length (slice body) ≤ 267
unfolding varint
deletion_slice body less = slice_grows body (replicate 265 0) less

pub deletion_takes_one_block : DeletionTakesOneBlock
unfolding payload_of
deletion_takes_one_block block id name large less =
    one_block block (length (payload_of (Deletion id name))) (omega arith)
    (omega (arith, deletion_slice (u64 id ++ slice name) (omega (arith, name_slice name less))))

-- a file of the head, or behind it, is no longer than the greatest record
greatest_head : (here : Bool) (block id : ℕ) (e f : FileEntry) (es : Table) → (file_of id es ≡ Some f → blocks_of_record block (Update f) ≤ greatest_record block es)
    → cond here (Some e) (file_of id es) ≡ Some f → blocks_of_record block (Update f) ≤ greatest_record block (e ∷ es)
greatest_head true block id e f es behind is =
    let same : blocks_of_record block (Update e) ≡ blocks_of_record block (Update f) = ap (λ x. blocks_of_record block (Update x)) (some_is is) in
    omega arith
greatest_head false block id e f es behind is = omega (arith, behind is)

-- the record of a file is no longer than the greatest one
greatest_of : (block id : ℕ) (f : FileEntry) (es : Table) → file_of id es ≡ Some f → blocks_of_record block (Update f) ≤ greatest_record block es
greatest_of block id f [] is = cc
greatest_of block id f (e ∷ es) is = greatest_head (e.id == id) block id e f es (greatest_of block id f es) is

-- a replacement is as long as an update
replace_length : (block : ℕ) (e : FileEntry) → blocks_of_record block (Replace e) ≡ blocks_of_record block (Update e)
unfolding payload_of
replace_length block e = refl

-- an entry that is no longer has no more bytes
no_longer : (e f : FileEntry) → IsNoLonger e f → length (entry_bytes e) ≤ length (entry_bytes f)
no_longer e f h =
    let names : name_lengths e.names ≡ name_lengths f.names = ap name_lengths h.names in
    entry_grows e f h.extents h.sparse (omega arith)

pub record_fits_table : RecordFitsTable
record_fits_table block es e f large is h =
    let less : blocks_of_record block (Update e) ≤ blocks_of_record block (Update f) = update_grows block e f (omega arith) (no_longer e f h) in
    let great : blocks_of_record block (Update f) ≤ greatest_record block es = greatest_of block f.id f es is in
    (omega arith, omega (arith, replace_length block e))

-- tables of entries that are no longer, each than its own
shorter_tables : (block : ℕ) (es fs : Table) → 0 < block → AllZip IsNoLonger es fs → (files_length es ≤ files_length fs) × (greatest_record block es ≤ greatest_record block fs)
shorter_tables block [] [] pos h = (omega arith, omega arith)
shorter_tables block [] (f ∷ fs) pos h = absurd h
shorter_tables block (e ∷ es) [] pos h = absurd h
shorter_tables block (e ∷ es) (f ∷ fs) pos h =
    let rest = shorter_tables block es fs pos h.1 in
    let less : length (entry_bytes e) ≤ length (entry_bytes f) = no_longer e f h.0 in (
      files_either true e f es fs (slice_grows (entry_bytes e) (entry_bytes f) less) rest.0,
      greatest_either true block e f es fs (update_grows block e f pos less) rest.1,
    )

pub fewer_extents_need_no_more : FewerExtentsNeedNoMore
unfolding log_need
fewer_extents_need_no_more block es fs large h =
    let pos : 0 < block = omega arith in
    let rest = shorter_tables block es fs pos h in
    let snap : snapshot_blocks block es ≤ snapshot_blocks block fs = snapshot_grows block es fs pos rest.0 in
    (snap, omega (arith, rest.1))
