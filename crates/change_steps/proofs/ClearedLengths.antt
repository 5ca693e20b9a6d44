-- A recovery point has a fixed width: without them entries, and what has entries, take the same room.
use Rattle.std.specs.Prelude.{◌≡◌, ℕ, ◌+◌, ◌<◌, ◌≤◌, Bool, true, false, ◌||◌, cond, List, [], ◌∷◌, ◌++◌, length, map, flat_map, Some, sum_by, if◌then◌else◌, refl}
use Rattle.std.specs.List.{AllZip}
use Rattle.std.specs.Str.{bytes_eq}
use Rattle.std.proofs.Common.{ap, subst, arith}
use Rattle.std.proofs.lemmas.List.{length-append}
use Rattle.std.proofs.lemmas.List.Concat.{length-flat_map}
use Rattle.std.proofs.lemmas.List.Sums.{sum_by-cons, sum_by-append}
use Rattle.std.proofs.lemmas.Slice.Eq.{bytes_eq-Decides}
use Rattle.record_model.specs.Numbers.{u64}
use Rattle.record_model.specs.Encoding.{field_bytes, fields_of, entry_bytes, slice, payload_of}
use Rattle.record_model.specs.declared.field.Field.{Field}
use Rattle.record_model.specs.declared.field.Field.TheVariants.{Id, Size, Hint, Piece, Time, Active, Sparse, Linked}
use Rattle.record_model.specs.declared.types.FileEntry.{FileEntry}
use Rattle.record_model.specs.declared.types.Record.TheVariants.{Update, Deletion}
use Rattle.log_model.specs.LogScan.{blocks_of}
use Rattle.log_model.specs.FileTable.{Table, is_among}
use Rattle.log_model.specs.Headroom.{blocks_of_record, snapshot_blocks, greatest_record, log_need, change_need, need_of}
use Rattle.log_model.specs.HeadroomLaws.{IsNoLonger}
use Rattle.log_model.proofs.LengthLaws.{slice_grows, blocks_grow, entry_grows}
use Rattle.log_model.proofs.HeadroomLaws.{fewer_extents_need_no_more}
use Rattle.fs_model.specs.FsState.{TableRow, row_named, working_entry, working_of}
use Rattle.change_steps.proofs.ClearedRows.{clear}

-- ---- entries

-- an entry is as long
entry_alike : (e : FileEntry) → length (entry_bytes (clear e)) ≡ length (entry_bytes e)
entry_alike e =
    let less = entry_grows (clear e) e (omega arith) refl (omega arith) in
    let more = entry_grows e (clear e) (omega arith) refl (omega arith) in
    omega (arith, less, more)

-- so is its update
update_length : (e : FileEntry) → length (payload_of (Update (clear e))) ≡ length (payload_of (Update e))
unfolding payload_of
update_length e =
    let less = slice_grows (entry_bytes (clear e)) (entry_bytes e) (omega (arith, entry_alike e)) in
    let more = slice_grows (entry_bytes e) (entry_bytes (clear e)) (omega (arith, entry_alike e)) in
    omega (arith, less, more)

-- which takes as many blocks
pub update_alike : (block : ℕ) (e : FileEntry) → blocks_of_record block (Update (clear e)) ≡ blocks_of_record block (Update e)
update_alike block e = ap (blocks_of block) (update_length e)

-- ---- tables

-- a table without recovery points is no longer, and no shorter
no_longer : (es : Table) → AllZip IsNoLonger (map clear es) es × AllZip IsNoLonger es (map clear es)
no_longer [] = (tt, tt)
no_longer (e ∷ es) =
    let rest = no_longer es in (
      (record { names = refl; sparse = refl; extents = omega arith }, rest.0),
      (record { names = refl; sparse = refl; extents = omega arith }, rest.1),
    )

-- a table needs the same room as another
pub record NeedsTheSame (block : ℕ) (es fs : Table) : Type 0 where
  pub snapshot : snapshot_blocks block es ≡ snapshot_blocks block fs
  pub log : log_need block es ≡ log_need block fs

pub table_alike : (block : ℕ) (es : Table) → 512 ≤ block → NeedsTheSame block (map clear es) es
table_alike block es large =
    let less = fewer_extents_need_no_more block (map clear es) es large (no_longer es).0 in
    let more = fewer_extents_need_no_more block es (map clear es) large (no_longer es).1 in
    record { snapshot = omega (arith, less.0, more.0); log = omega (arith, less.1, more.1) }

-- so do changes from one such table to another
pub needs_alike : (block : ℕ) (before after : Table) (blocks : ℕ) → 512 ≤ block → need_of block (map clear before) (map clear after) blocks ≡ need_of block before after blocks
unfolding change_need
needs_alike block before after blocks large =
    omega (arith, (table_alike block before large).snapshot, (table_alike block after large).log)

-- ---- what isn't recorded

-- what is recorded is no longer than what is there
recorded_less : (rows : List TableRow) → AllZip IsNoLonger (map (λ r. r.entry) rows) (working_of rows)
recorded_less [] = tt
recorded_less (r ∷ rs) = (record { names = refl; sparse = refl; extents = omega (arith, length-append r.entry.extents r.unrecorded) }, recorded_less rs)

-- nor is its snapshot
pub snapshot_recorded : (block : ℕ) (rows : List TableRow) → 512 ≤ block → snapshot_blocks block (map (λ r. r.entry) rows) ≤ snapshot_blocks block (working_of rows)
snapshot_recorded block rows large = (fewer_extents_need_no_more block (map (λ r. r.entry) rows) (working_of rows) large (recorded_less rows)).0

-- ---- deletions

-- the bytes of a field
abbrev width : Field → ℕ
width f = length (field_bytes f)

-- the first name, or one behind it
name_held : (here : Bool) (name n : List ℕ) (ns : List (List ℕ)) → bytes_eq n name ≡ here → (here || is_among ns name) ≡ true
    → (is_among ns name ≡ true → length (slice name) + 4 ≤ sum_by width (map Linked ns)) → length (slice name) + 4 ≤ sum_by width (map Linked (n ∷ ns))
name_held true name n ns same is behind =
    let P : List ℕ → Type 0 = λ m. length (slice m) + 4 ≤ sum_by width (map Linked (n ∷ ns)) in
    let first : sum_by width (map Linked (n ∷ ns)) ≡ width (Linked n) + sum_by width (map Linked ns) = sum_by-cons width (Linked n) (map Linked ns) in
    let fits : length (slice n) + 4 ≤ sum_by width (map Linked (n ∷ ns)) = omega (arith, first) in
    subst P ((bytes_eq-Decides n name).0 same) fits
name_held false name n ns other is behind =
    let first : sum_by width (map Linked (n ∷ ns)) ≡ width (Linked n) + sum_by width (map Linked ns) = sum_by-cons width (Linked n) (map Linked ns) in
    omega (arith, first, behind is)

-- a name of some
names_hold : (name : List ℕ) (names : List (List ℕ)) → is_among names name ≡ true → length (slice name) + 4 ≤ sum_by width (map Linked names)
names_hold name [] is = absurd cc
names_hold name (n ∷ ns) is = name_held (bytes_eq n name) name n ns refl is (names_hold name ns)

-- an id and a name of an entry are no longer than it
entry_holds : (e : FileEntry) (name : List ℕ) → is_among e.names name ≡ true → length (slice name) + 8 ≤ length (entry_bytes e)
unfolding entry_bytes
entry_holds e name is =
    let marks : List Field = if e.sparse then Sparse ∷ [] else [] in
    let front : List Field = Size e.size ∷ Hint e.hint ∷ ((map Piece e.extents ++ Time e.time ∷ Active e.active ∷ []) ++ marks) in
    let names : List Field = map Linked e.names in
    let whole : length (flat_map field_bytes (fields_of e)) ≡ sum_by width (Id e.id ∷ (front ++ names)) = length-flat_map field_bytes (fields_of e) in
    let first : sum_by width (Id e.id ∷ (front ++ names)) ≡ width (Id e.id) + sum_by width (front ++ names) = sum_by-cons width (Id e.id) (front ++ names) in
    let both : sum_by width (front ++ names) ≡ sum_by width front + sum_by width names = sum_by-append width front names in
    omega (arith, whole, first, both, names_hold name e.names is)

-- a deletion takes no more blocks than the update of its file
deletion_below : (block id : ℕ) (name : List ℕ) (e : FileEntry) → 0 < block → is_among e.names name ≡ true → blocks_of_record block (Deletion id name) ≤ blocks_of_record block (Update e)
unfolding payload_of
deletion_below block id name e pos is =
    blocks_grow block (length (payload_of (Deletion id name))) (length (payload_of (Update e))) pos
    (omega (arith, slice_grows (u64 id ++ slice name) (entry_bytes e) (omega (arith, entry_holds e name is))))

-- the first row, or one behind it
deletion_either : (here : Bool) (block id : ℕ) (name : List ℕ) (q r : TableRow) (qs : List TableRow) → 0 < block → is_among q.entry.names name ≡ here
    → cond here (Some q) (row_named name qs) ≡ Some r
    → (row_named name qs ≡ Some r → blocks_of_record block (Deletion id name) ≤ greatest_record block (working_of qs))
    → blocks_of_record block (Deletion id name) ≤ greatest_record block (working_of (q ∷ qs))
deletion_either true block id name q r qs pos has is behind =
    let less : blocks_of_record block (Deletion id name) ≤ blocks_of_record block (Update (working_entry q)) = deletion_below block id name (working_entry q) pos has in
    omega (arith, less)
deletion_either false block id name q r qs pos has is behind = omega (arith, behind is)

-- so it is no greater than the greatest record
pub deletion_fits : (block id : ℕ) (name : List ℕ) (rows : List TableRow) (r : TableRow) → 0 < block → row_named name rows ≡ Some r
    → blocks_of_record block (Deletion id name) ≤ greatest_record block (working_of rows)
deletion_fits block id name [] r pos is = absurd cc
deletion_fits block id name (q ∷ qs) r pos is =
    deletion_either (is_among q.entry.names name) block id name q r qs pos refl is (deletion_fits block id name qs r pos)
