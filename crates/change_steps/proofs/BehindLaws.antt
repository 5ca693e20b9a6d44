-- What a check passes isn't refused behind the mount for writing.
use Rattle.std.specs.Prelude.{◌≡◌, ℕ, ◌+◌, ◌-◌, ◌^◌, ◌<◌, ◌≤◌, ◌&&◌, Bool, true, false, ◌==◌, List, [], ◌∷◌, ◌++◌, map, Option, Some, None, option_map, Ok, nat_lt, refl}
use Rattle.std.proofs.Common.{sym, ◌∙◌, ap, arith}
use Rattle.std.proofs.lemmas.Bool.{ltb-false}
use Rattle.zone_image.specs.declared.Geometry.{Geometry}
use Rattle.record_model.specs.declared.types.FileEntry.{FileEntry}
use Rattle.record_model.specs.declared.types.Record.{Record}
use Rattle.record_model.specs.declared.types.Record.TheVariants as records
use Rattle.log_model.specs.FileTable.{Table}
use Rattle.log_model.specs.Headroom.{blocks_of_record, superblock_blocks, snapshot_blocks, greatest_record, log_need, change_need, need_of}
use Rattle.fs_model.specs.FsState.{FsState, TableRow, row_named, on_row, working, working_of}
use Rattle.fs_model.specs.LogSteps.{FsAction, NoValue, must_roll, at_sequence_end, block_of, rows_need}
use Rattle.fs_model.specs.TreeSteps.{cleared, with_names, new_entry, new_row, entry_update, entry_in, renamed_rows, link, rename, delete, mount_write}
use Rattle.fs_model.specs.Check.{check}
use Rattle.change_steps.specs.Endings.{Asks, Demand, demand_of, lacks_room, lacks_sequence}
use Rattle.change_steps.specs.NameChanges.{create_demand, link_demand, rename_demand, delete_demand}
use Rattle.change_steps.specs.WriteMount.{mount_need}
use Rattle.change_steps.specs.Checking.{create_only}
use Rattle.change_steps.specs.Behind.{HasLogZones, CreationPassesBehindMount, LinkPassesBehindMount, RenamePassesBehindMount, DeletionPassesBehindMount}
use Rattle.change_steps.proofs.ClearedRows.{clear, named_cleared, on_cleared, renamed_cleared, entry_cleared, more_cleared, working_cleared}
use Rattle.change_steps.proofs.ClearedLengths.{update_alike, needs_alike, deletion_fits}
use Rattle.change_steps.proofs.MountRoom.{IsMounted, mount_is_made, no_roll}
use Rattle.change_steps.proofs.NameLaws.{link_finds_no_file, link_finds_name, link_asks, rename_finds_no_file, rename_asks, delete_finds_no_file, delete_asks}
use Rattle.change_steps.proofs.CheckLaws.{create_only_finds_name, create_only_finds_no_id, create_only_asks, missing_is_checked, name_is_checked, id_is_checked, idle_at_sequence_end, idle_table_is_full, idle_is_full}

-- ---- what a check that passes has tested

-- a check has tested the sequence, the room for the table, and the room for the change
record HasPassed (s : FsState) (d : Demand) : Type 0 where
  sequence : at_sequence_end s ≡ false
  table : nat_lt s.geometry.capacity (mount_need s) ≡ false
  room : lacks_room s d.need ≡ false

-- the sequence isn't at its end
sequence_is_left : (s : FsState) (change : FsAction NoValue) (d : Demand) (b : Bool) → Asks change tt d s → (check false change s).answer ≡ Ok tt → at_sequence_end s ≡ b
    → at_sequence_end s ≡ false
sequence_is_left s change d true asks ok is = let refused = (idle_at_sequence_end s change d asks is).0 in absurd (cc (refused, ok))
sequence_is_left s change d false asks ok is = is

-- a log takes the table
table_fits : (s : FsState) (change : FsAction NoValue) (d : Demand) (b : Bool) → Asks change tt d s → (check false change s).answer ≡ Ok tt → at_sequence_end s ≡ false
    → nat_lt s.geometry.capacity (mount_need s) ≡ b → nat_lt s.geometry.capacity (mount_need s) ≡ false
table_fits s change d true asks ok left is = let refused = (idle_table_is_full s change d asks left is).0 in absurd (cc (refused, ok))
table_fits s change d false asks ok left is = is

-- there is room for the change
room_is_there : (s : FsState) (change : FsAction NoValue) (d : Demand) (need : Option ℕ) (b : Bool) → Asks change tt d s → (check false change s).answer ≡ Ok tt
    → at_sequence_end s ≡ false → nat_lt s.geometry.capacity (mount_need s) ≡ false → d.need ≡ need → lacks_room s need ≡ b → lacks_room s need ≡ false
room_is_there s change d None b asks ok left table wanted is = refl
room_is_there s change d (Some need) true asks ok left table wanted is =
    let refused = (idle_is_full s change d need asks left table wanted is).0 in absurd (cc (refused, ok))
room_is_there s change d (Some need) false asks ok left table wanted is = is

-- so a check that passes has tested all of them
has_passed : (s : FsState) (change : FsAction NoValue) (d : Demand) → Asks change tt d s → (check false change s).answer ≡ Ok tt → HasPassed s d
has_passed s change d asks ok =
    let left : at_sequence_end s ≡ false = sequence_is_left s change d (at_sequence_end s) asks ok refl in
    let table : nat_lt s.geometry.capacity (mount_need s) ≡ false = table_fits s change d (nat_lt s.geometry.capacity (mount_need s)) asks ok left refl in
    record { sequence = left; table = table; room = room_is_there s change d d.need (lacks_room s d.need) asks ok left table refl refl }

-- ---- the state behind the mount, by the one before it

-- zones and log of t, and the files of s without recovery points
abbrev behind : FsState → FsState → FsState
behind s t = record t { geometry = s.geometry; rows = map cleared s.rows; greatest = s.greatest }

-- that is what a mount leaves
mounted_behind : (s t : FsState) → IsMounted s t → t ≡ behind s t
mounted_behind s t made =
    let a : Geometry → FsState = λ g. record t { geometry = g } in
    let b : List TableRow → FsState = λ rows. record t { geometry = s.geometry; rows = rows } in
    let c : ℕ → FsState = λ n. record t { geometry = s.geometry; rows = map cleared s.rows; greatest = n } in
    ap a made.geometry ∙ ap b made.rows ∙ ap c made.greatest

-- two changes ask for as many blocks and as much room
record AsksAlike (d e : Demand) : Type 0 where
  blocks : e.blocks ≡ d.blocks
  need : e.need ≡ d.need

-- a change to rows asks for as much behind the mount
rows_alike : (s t : FsState) (x y : Record) (before after : List TableRow) (m n : ℕ) → 512 ≤ s.geometry.block
    → blocks_of_record s.geometry.block y ≡ blocks_of_record s.geometry.block x → after ≡ map cleared before
    → AsksAlike (demand_of s x before m) (demand_of (behind s t) y after n)
rows_alike s t x y before after m n large record_is after_is =
    let block : ℕ = s.geometry.block in
    let need : Table → Table → ℕ → Option ℕ = λ es fs k. Some (need_of block es fs k) in
    let k : ℕ = blocks_of_record block x in
    record {
      blocks = record_is;
      need =
          ap (need (working_of (map cleared s.rows)) (working_of after)) record_is
          ∙ ap (λ (rows : List TableRow). need (working_of (map cleared s.rows)) (working_of rows) k) after_is
          ∙ ap (λ (es : Table). need es (working_of (map cleared before)) k) (working_cleared s.rows)
          ∙ ap (λ (es : Table). need (map clear (working s)) es k) (working_cleared before)
          ∙ ap (λ (k : ℕ). Some k) (needs_alike block (working s) (working_of before) k large);
    }

-- a need is of the same kind where the capacity is the same
room_alike : (s t : FsState) (need : Option ℕ) → lacks_room (behind s t) need ≡ lacks_room s need
room_alike s t None = refl
room_alike s t (Some need) = refl

-- ---- a change behind the mount

-- a new log takes the table and so many blocks
abbrev TakesRecord : FsState → ℕ → Type 0
TakesRecord s blocks = superblock_blocks s.geometry.block + snapshot_blocks s.geometry.block (working s) + blocks + 1 ≤ s.geometry.capacity

-- a change that asks for as much is done
done_behind : (change : FsAction NoValue) (s t : FsState) (d e : Demand) → HasLogZones s → Asks change tt d s → Asks change tt e (behind s t) → AsksAlike d e
    → (HasPassed s d → TakesRecord s d.blocks) → (check false change s).answer ≡ Ok tt → t ≡ (mount_write s).last → (change t).answer ≡ Ok tt
done_behind change s t d e has before after alike takes ok is =
    let passed : HasPassed s d = has_passed s change d before ok in
    let made : IsMounted s t = mount_is_made s t has passed.sequence passed.table is in
    let same : t ≡ behind s t = mounted_behind s t made in
    let stays : must_roll (behind s t) e.blocks ≡ false =
    ap (must_roll (behind s t)) alike.blocks ∙ sym (ap (λ u. must_roll u d.blocks) same) ∙ no_roll s t d.blocks made (takes passed) in
    let left : lacks_sequence (behind s t) e.blocks ≡ false = ap (λ b. b && at_sequence_end (behind s t)) stays in
    let room : lacks_room (behind s t) e.need ≡ false = ap (lacks_room (behind s t)) alike.need ∙ room_alike s t d.need ∙ passed.room in
    ap (λ u. (change u).answer) same ∙ (after.granted left room).answers

-- a log that takes the rows after a change takes its record
rows_take : (s : FsState) (after : List TableRow) (blocks : ℕ) → nat_lt s.geometry.capacity (rows_need s after blocks) ≡ false → TakesRecord s blocks
unfolding change_need
rows_take s after blocks room =
    let within : rows_need s after blocks ≤ s.geometry.capacity = ltb-false s.geometry.capacity (rows_need s after blocks) room in
    omega (arith, within)

-- a log that takes the table takes one record more that isn't greater than the greatest
table_takes : (s : FsState) (blocks : ℕ) → blocks ≤ greatest_record s.geometry.block (working s) → nat_lt s.geometry.capacity (mount_need s) ≡ false → TakesRecord s blocks
unfolding log_need
table_takes s blocks less room =
    let within : mount_need s ≤ s.geometry.capacity = ltb-false s.geometry.capacity (mount_need s) room in
    omega (arith, within)

-- ---- new files

-- one whose name is free, and with an id that is left
creation_behind : (name : List ℕ) (hint : ℕ) (sparse : Bool) (now : ℕ) (s t : FsState) (there : Option TableRow) (last : Bool) → HasLogZones s
    → (check false (create_only name hint sparse now) s).answer ≡ Ok tt → t ≡ (mount_write s).last → row_named name s.rows ≡ there → (s.greatest == 2 ^ 64 - 2) ≡ last
    → (create_only name hint sparse now t).answer ≡ Ok tt
creation_behind name hint sparse now s t (Some r) last has ok is named end =
    let refused = (name_is_checked s false (create_only name hint sparse now) (create_only_finds_name s name hint sparse now r named).0).0 in absurd (cc (refused, ok))
creation_behind name hint sparse now s t None true has ok is free end =
    let refused = (id_is_checked s false (create_only name hint sparse now) (create_only_finds_no_id s name hint sparse now free end).0).0 in absurd (cc (refused, ok))
creation_behind name hint sparse now s t None false has ok is free left =
    let e : FileEntry = new_entry (s.greatest + 1) name hint sparse now in
    done_behind (create_only name hint sparse now) s t (create_demand s name hint sparse now) (create_demand (behind s t) name hint sparse now) has
    (create_only_asks s name hint sparse now free left)
    (create_only_asks (behind s t) name hint sparse now (named_cleared name s.rows ∙ ap (option_map cleared) free) left)
    (rows_alike s t (records.Update e) (records.Update e) (s.rows ++ new_row e ∷ []) (map cleared s.rows ++ new_row e ∷ []) e.id e.id has.block refl
    (sym (more_cleared s.rows (new_row e))))
    (λ passed. rows_take s (s.rows ++ new_row e ∷ []) (blocks_of_record (block_of s) (records.Update e)) passed.room) ok is

pub creation_passes : CreationPassesBehindMount
creation_passes name hint sparse now s t has ok is =
    creation_behind name hint sparse now s t (row_named name s.rows) (s.greatest == 2 ^ 64 - 2) has ok is refl refl

-- ---- links

-- one of a file that is there, with a name that is free
link_behind : (old new : List ℕ) (s t : FsState) (there other : Option TableRow) → HasLogZones s → (check false (link old new) s).answer ≡ Ok tt → t ≡ (mount_write s).last
    → row_named old s.rows ≡ there → row_named new s.rows ≡ other → (link old new t).answer ≡ Ok tt
link_behind old new s t None other has ok is missing named =
    let refused = (missing_is_checked s false (link old new) (link_finds_no_file s old new missing).0).0 in absurd (cc (refused, ok))
link_behind old new s t (Some r) (Some other) has ok is there named =
    let refused = (name_is_checked s false (link old new) (link_finds_name s old new r other there named).0).0 in absurd (cc (refused, ok))
link_behind old new s t (Some r) None has ok is there free =
    let names : List (List ℕ) = r.entry.names ++ new ∷ [] in
    let after : List TableRow = on_row r.entry.id (with_names names) s.rows in
    let e : FileEntry = record (r.entry) { names = names; extents = [] } in
    done_behind (link old new) s t (link_demand s r new) (link_demand (behind s t) (cleared r) new) has
    (link_asks s old new r there free)
    (link_asks (behind s t) old new (cleared r) (named_cleared old s.rows ∙ ap (option_map cleared) there) (named_cleared new s.rows ∙ ap (option_map cleared) free))
    (rows_alike s t (records.Update e) (records.Update (clear e)) after (on_row r.entry.id (with_names names) (map cleared s.rows)) s.greatest s.greatest has.block
    (update_alike s.geometry.block e) (on_cleared r.entry.id names s.rows))
    (λ passed. rows_take s after (blocks_of_record (block_of s) (records.Update e)) passed.room) ok is

pub link_passes : LinkPassesBehindMount
link_passes old new s t has ok is = link_behind old new s t (row_named old s.rows) (row_named new s.rows) has ok is refl refl

-- ---- renames

-- the entry of a file in the rows after a rename
renamed_entry : (block : ℕ) (r : TableRow) (before after : List TableRow) → after ≡ map cleared before
    → blocks_of_record block (entry_update (entry_in r.entry.id after (cleared r).entry)) ≡ blocks_of_record block (entry_update (entry_in r.entry.id before r.entry))
renamed_entry block r before after is =
    let of : FileEntry → ℕ = λ e. blocks_of_record block (entry_update e) in
    let e : FileEntry = entry_in r.entry.id before r.entry in
    ap (λ (rows : List TableRow). of (entry_in r.entry.id rows (cleared r).entry)) is ∙ ap of (entry_cleared r.entry.id before r.entry)
    ∙ update_alike block (record e { extents = [] })

-- one of a file that is there
rename_behind : (old new : List ℕ) (s t : FsState) (there : Option TableRow) → HasLogZones s → (check false (rename old new) s).answer ≡ Ok tt → t ≡ (mount_write s).last
    → row_named old s.rows ≡ there → (rename old new t).answer ≡ Ok tt
rename_behind old new s t None has ok is missing =
    let refused = (missing_is_checked s false (rename old new) (rename_finds_no_file s old new missing).0).0 in absurd (cc (refused, ok))
rename_behind old new s t (Some r) has ok is there =
    let before : List TableRow = renamed_rows r (row_named new s.rows) old new s.rows in
    let after : List TableRow = renamed_rows (cleared r) (row_named new (map cleared s.rows)) old new (map cleared s.rows) in
    let same : after ≡ map cleared before =
    ap (λ (o : Option TableRow). renamed_rows (cleared r) o old new (map cleared s.rows)) (named_cleared new s.rows) ∙ renamed_cleared r (row_named new s.rows) old new s.rows in
    done_behind (rename old new) s t (rename_demand s r old new) (rename_demand (behind s t) (cleared r) old new) has
    (rename_asks s old new r there)
    (rename_asks (behind s t) old new (cleared r) (named_cleared old s.rows ∙ ap (option_map cleared) there))
    (rows_alike s t (entry_update (entry_in r.entry.id before r.entry)) (entry_update (entry_in r.entry.id after (cleared r).entry)) before after s.greatest s.greatest has.block
    (renamed_entry s.geometry.block r before after same) same)
    (λ passed. rows_take s before (blocks_of_record (block_of s) (entry_update (entry_in r.entry.id before r.entry))) passed.room) ok is

pub rename_passes : RenamePassesBehindMount
rename_passes old new s t has ok is = rename_behind old new s t (row_named old s.rows) has ok is refl

-- ---- deletions

-- one of a file that is there
deletion_behind : (name : List ℕ) (s t : FsState) (there : Option TableRow) → HasLogZones s → (check false (delete name) s).answer ≡ Ok tt → t ≡ (mount_write s).last
    → row_named name s.rows ≡ there → (delete name t).answer ≡ Ok tt
deletion_behind name s t None has ok is missing =
    let refused = (missing_is_checked s false (delete name) (delete_finds_no_file s name missing).0).0 in absurd (cc (refused, ok))
deletion_behind name s t (Some r) has ok is there =
    let pos : 0 < s.geometry.block = omega (arith, has.block) in
    done_behind (delete name) s t (delete_demand s r name) (delete_demand (behind s t) (cleared r) name) has
    (delete_asks s name r there)
    (delete_asks (behind s t) name (cleared r) (named_cleared name s.rows ∙ ap (option_map cleared) there))
    (record { blocks = refl; need = refl })
    (λ passed.
    table_takes s (blocks_of_record (block_of s) (records.Deletion r.entry.id name)) (deletion_fits s.geometry.block r.entry.id name s.rows r pos there) passed.table)
    ok is

pub deletion_passes : DeletionPassesBehindMount
deletion_passes name s t has ok is = deletion_behind name s t (row_named name s.rows) has ok is refl
