-- What an image stands for.
use Rattle.std.specs.Prelude.{◌≡◌, ℕ, ◌+◌, ◌*◌, Bool, false, not, ◌&&◌, ◌||◌, List, [], ◌∷◌, ◌++◌, length, drop, map, flat_map, Option, Some, None, Result, Ok, Err, IsOk, nat_lt, nat_le, ◌==◌, if◌then◌else◌}
use Rattle.std.specs.List.{list_any, list_all}
use Rattle.zone_image.specs.Image.{Image, IsCrash, zone_at, zone_of, offset_of}
use Rattle.record_model.specs.FieldDecoding.{◌>>=◌}
use Rattle.record_model.specs.declared.types.Extent.{Extent}
use Rattle.record_model.specs.declared.types.FileEntry.{FileEntry}
use Rattle.log_model.specs.LogSelection.{LogAt, select_log, scans_of, damaged}
use Rattle.log_model.specs.FileTable.{Table, replay_log, size_of}
use Rattle.log_model.specs.Frames.{no_active, is_recovery_point, recovered_extents, bytes_of}
use Rattle.log_model.specs.FileTree.{Tree, TreeFile}
use Rattle.log_model.specs.declared.selection.Refusal.{Refusal}
use Rattle.log_model.specs.declared.selection.DamageWhy.{DamageWhy}
use Rattle.log_model.specs.declared.selection.DamageWhy.TheVariants as why

-- within the written part of one data zone
abbrev pub is_written : Image → Extent → Bool
is_written i x =
    nat_le 3 (zone_of i.geometry x.start) && nat_lt (zone_of i.geometry x.start) i.geometry.zones
    && nat_le (offset_of i.geometry x.start + x.len) (length (zone_at i (zone_of i.geometry x.start)).blocks * i.geometry.block)

-- two extents with a byte in common
abbrev pub share_a_byte : Extent → Extent → Bool
share_a_byte x y = nat_lt x.start (y.start + y.len) && nat_lt y.start (x.start + x.len)

-- two of these share a byte
abbrev pub overlap : List Extent → Bool
overlap [] = false
overlap (x ∷ xs) = list_any (share_a_byte x) xs || overlap xs

-- the extents of all files
abbrev pub all_extents : Table → List Extent
all_extents es = flat_map (λ e. e.extents) es

-- the entry with these extents behind its own
abbrev pub entry_with : FileEntry → List Extent → FileEntry
entry_with e found = record e { extents = e.extents ++ found; size = e.size + size_of found }

-- the entry with the extents that are found again
abbrev pub recovered_entry : Image → FileEntry → FileEntry
recovered_entry i e = entry_with e (recovered_extents i e)

-- an entry whose recovery point is one, if it has any
abbrev pub has_valid_recovery_point : Image → FileEntry → Bool
has_valid_recovery_point i e = (e.active == no_active) || is_recovery_point i e.active

-- the lowest of the last three rules that the table breaks
abbrev pub broken_rule : Image → Table → Option ℕ
broken_rule i es =
    if not (list_all (is_written i) (all_extents es)) then Some 8
    else if overlap (all_extents (map (recovered_entry i) es)) then Some 9
    else if not (list_all (has_valid_recovery_point i) es) then Some 10
    else None

-- the block of the last payload
abbrev pub last_block : List (ℕ × List ℕ) → ℕ
last_block [] = 0
last_block (p ∷ []) = p.0
last_block (p ∷ q ∷ ps) = last_block (q ∷ ps)

-- the table, or the rule that it breaks
abbrev pub checked_table : Image → LogAt → Table → Option ℕ → Result Table Refusal
checked_table i log es None = Ok (map (recovered_entry i) es)
checked_table i log es (Some rule) = damaged log.zone (last_block log.scan.payloads) (why.Rule rule)

-- a cause with its zone
abbrev pub in_zone : {A : Type 0} → ℕ → Result A (ℕ × DamageWhy) → Result A Refusal
in_zone zone (Ok x) = Ok x
in_zone zone (Err fault) = damaged zone fault.0 fault.1

-- the table of a log, with the extents that are found again
unfoldable pub table_of : Image → LogAt → Result Table Refusal
table_of i log = do
  es ← in_zone log.zone (replay_log (drop 1 log.scan.payloads))
  checked_table i log es (broken_rule i es)

-- the table of an image, or why there is none
unfoldable pub table_in : Image → Result Table Refusal
table_in i = do
  log ← select_log i.geometry (scans_of i)
  table_of i log.0

-- a file with its bytes
abbrev pub file_in : Image → FileEntry → TreeFile
file_in i e = record { id = e.id; names = e.names; bytes = bytes_of i e.extents; hint = e.hint; time = e.time; sparse = e.sparse }

-- a table with its bytes
abbrev pub tree_of : Image → Table → Tree
tree_of i es = map (file_in i) es

-- the tree that mounts, or the refusal
unfoldable pub mounted_in : Image → Result Tree Refusal
mounted_in i = do
  es ← table_in i
  Ok (tree_of i es)

-- the image mounts to this tree
abbrev pub MountsTo : Image → Tree → Type 0
MountsTo i tree = mounted_in i ≡ Ok tree

-- whatever a crash leaves of it mounts
abbrev pub IsCrashConsistent : Image → Type 0
IsCrashConsistent i = (j : Image) → IsCrash i j → IsOk (mounted_in j)
