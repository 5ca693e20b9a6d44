-- What the reporting commands print.
use Rattle.std.specs.Prelude.{ℕ, ◌*◌, ◌-◌, ◌/◌, Bool, true, List, [], ◌∷◌, ◌++◌, length, flat_map, map, filter, replicate, codes, decimal, Option, Some, None, nat_eq, ◌==◌, if◌then◌else◌}
use Rattle.std.specs.List.{starts_with}
use Rattle.zone_image.specs.declared.Geometry.{Geometry}
use Rattle.record_model.specs.declared.types.FileEntry.{FileEntry}
use Rattle.superblock_core.specs.declared.superblock.Superblock.{Superblock}
use Rattle.superblock_core.specs.Superblock.{uuid_text}
use Rattle.log_model.specs.FileTable.{Table}
use Rattle.fs_model.specs.declared.policy.Space.{Space}
use Rattle.command_model.specs.Backup.{is_before}

-- a line of text
abbrev pub line : List ℕ → List ℕ
line text = text ++ 10 ∷ []

-- ---- the list of names

-- a name with the size and the time of its file
pub record Listed : Type 0 where
  pub name : List ℕ
  pub size : ℕ
  pub time : ℕ

-- the names of a file
abbrev pub listed_names : FileEntry → List Listed
listed_names e = map (λ name. record { name = name; size = e.size; time = e.time }) e.names

-- puts a name in byte order
abbrev pub insert_listed : Listed → List Listed → List Listed
insert_listed l [] = l ∷ []
insert_listed l (m ∷ ms) = if is_before m.name l.name then m ∷ insert_listed l ms else l ∷ m ∷ ms

-- names in byte order
abbrev pub listed_in_order : List Listed → List Listed
listed_in_order [] = []
listed_in_order (l ∷ ls) = insert_listed l (listed_in_order ls)

-- the names that begin with the prefix and a slash, or all
abbrev pub is_listed : Option (List ℕ) → Listed → Bool
is_listed None l = true
is_listed (Some prefix) l = starts_with nat_eq l.name (prefix ++ 47 ∷ [])

-- a number to the right in twelve places, or in more
abbrev pub in_twelve : ℕ → List ℕ
in_twelve n = replicate (12 - length (decimal n)) 32 ++ decimal n

-- size, time and name, with tabs between
abbrev pub list_line : Listed → List ℕ
list_line l = line (in_twelve l.size ++ 9 ∷ decimal l.time ++ 9 ∷ l.name)

-- the list of a table's names
unfoldable pub list_text : Table → Option (List ℕ) → List ℕ
list_text files prefix = flat_map list_line (filter (is_listed prefix) (listed_in_order (flat_map listed_names files)))

-- ---- space

-- a label and a number
abbrev pub number_line : List ℕ → ℕ → List ℕ
number_line label n = line (label ++ codes ": " ++ decimal n)

-- how much is reclaimable, in percent of what is used
abbrev pub amplification : ℕ → ℕ → ℕ
amplification reclaimable used = if used == 0 then 0 else 100 * reclaimable / used

-- the four lines on space
unfoldable pub df_text : Geometry → Space → List ℕ
df_text g s =
    number_line (codes "Free") (s.free * g.block) ++ number_line (codes "Used") s.used
    ++ number_line (codes "Reclaimable") s.reclaimable
    ++ line (codes "Space amplification: " ++ decimal (amplification s.reclaimable s.used) ++ codes "%")

-- ---- the superblock

-- a label and a text
abbrev pub text_line : List ℕ → List ℕ → List ℕ
text_line label text = line (label ++ codes ": " ++ text)

-- the eleven lines on a superblock
unfoldable pub info_text : Superblock → List ℕ
info_text s =
    line (codes "Magic: 5a454e46") ++ text_line (codes "UUID") (uuid_text s.id)
    ++ number_line (codes "Sequence") s.sequence ++ number_line (codes "Version") 2 ++ number_line (codes "Flags") s.flags
    ++ number_line (codes "Block size") s.block ++ number_line (codes "Zone size") s.zone_blocks
    ++ number_line (codes "Zone count") s.zones ++ number_line (codes "Finish threshold") s.finish_threshold
    ++ text_line (codes "Auxiliary path") s.aux_path ++ text_line (codes "ZenFS version") s.version_text

-- ---- what the making commands print

-- a device was made
abbrev pub made_image_text : Geometry → List ℕ
made_image_text g =
    line (codes "image created: " ++ decimal g.zones ++ codes " zones of " ++ decimal (g.zone_blocks * g.block) ++ codes " bytes")

-- a file system was made
abbrev pub made_fs_text : Geometry → List ℕ
made_fs_text g =
    line (codes "ZenFS file system created. Free space: " ++ decimal ((g.zones - 3) * g.capacity * g.block) ++ codes " bytes")
