-- The file table: entries by rising id, and what records make of it.
use Rattle.std.specs.Prelude.{ℕ, Bool, true, false, not, ◌||◌, List, [], ◌∷◌, ◌++◌, length, map, filter, Option, Some, None, is_some, Result, Ok, Err, nat_lt, ◌==◌, if◌then◌else◌, sum_by}
use Rattle.std.specs.List.{list_any, list_all}
use Rattle.std.specs.Str.{bytes_eq}
use Rattle.record_model.specs.FieldDecoding.{◌>>=◌}
use Rattle.record_model.specs.Decoding.{record_of}
use Rattle.record_model.specs.declared.types.Extent.{Extent}
use Rattle.record_model.specs.declared.types.FileEntry.{FileEntry}
use Rattle.record_model.specs.declared.types.Record.{Record}
use Rattle.record_model.specs.declared.types.Record.TheVariants.{Snapshot, Update, Deletion, End, Replace}
use Rattle.record_model.specs.declared.fault.DecodeFault.{DecodeFault}
use Rattle.log_model.specs.declared.selection.DamageWhy.{DamageWhy}
use Rattle.log_model.specs.declared.selection.DamageWhy.TheVariants as why

-- a table is its entries, by rising id
abbrev pub Table : Type 0
Table = List FileEntry

-- the file of an id
abbrev pub file_of : ℕ → Table → Option FileEntry
file_of id [] = None
file_of id (e ∷ es) = if e.id == id then Some e else file_of id es

-- the entry in its place, which may be another's of the same id
abbrev pub with_entry : FileEntry → Table → Table
with_entry e [] = e ∷ []
with_entry e (f ∷ fs) = if nat_lt e.id f.id then e ∷ f ∷ fs else if e.id == f.id then e ∷ fs else f ∷ with_entry e fs

-- the name is one of these
abbrev pub is_among : List (List ℕ) → List ℕ → Bool
is_among names name = list_any (λ n. bytes_eq n name) names

-- the names that aren't among those taken
abbrev pub names_left : List (List ℕ) → List (List ℕ) → List (List ℕ)
names_left taken names = filter (λ n. not (is_among taken n)) names

-- the entry without these names
abbrev pub without_names : List (List ℕ) → FileEntry → FileEntry
without_names taken e = record e { names = names_left taken e.names }

-- an entry that has a name
abbrev pub is_named : FileEntry → Bool
is_named e = nat_lt 0 (length e.names)

-- takes the names from every file; a file that has none left is gone
abbrev pub take_names : List (List ℕ) → Table → Table
take_names names es = filter is_named (map (without_names names) es)

-- the entry takes its names, and then its place
abbrev pub set_entry : FileEntry → Table → Table
set_entry e es = with_entry e (take_names e.names (filter (λ f. not (f.id == e.id)) es))

-- the sum of the lengths
abbrev pub size_of : List Extent → ℕ
size_of extents = sum_by (λ e. e.len) extents

-- the stated size is that sum
abbrev pub has_right_size : FileEntry → Bool
has_right_size e = e.size == size_of e.extents

-- an id comes twice
abbrev pub repeats_id : Table → Bool
repeats_id [] = false
repeats_id (e ∷ es) = list_any (λ f. f.id == e.id) es || repeats_id es

-- two entries with one name
abbrev pub shares_name : FileEntry → FileEntry → Bool
shares_name e f = list_any (is_among e.names) f.names

-- a name in two files
abbrev pub repeats_name : Table → Bool
repeats_name [] = false
repeats_name (e ∷ es) = list_any (shares_name e) es || repeats_name es

-- entries by rising id
abbrev pub sorted : List FileEntry → Table
sorted [] = []
sorted (e ∷ es) = with_entry e (sorted es)

-- a rule that is broken where the test says so
abbrev pub unless_broken : Bool → ℕ → Table → Result Table DamageWhy
unless_broken broken rule es = if broken then Err (why.Rule rule) else Ok es

-- the entry with the extents that the file had in front of its own
abbrev pub grown : Option FileEntry → FileEntry → FileEntry
grown None e = e
grown (Some f) e = record e { extents = f.extents ++ e.extents }

-- takes a name from a file, if both are there
abbrev pub delete_from : Option FileEntry → List ℕ → Table → Result Table DamageWhy
delete_from None name es = Err (why.Rule 3)
delete_from (Some e) name es = unless_broken (not (is_among e.names name)) 4 (take_names (name ∷ []) es)

-- the table after a record, or the lowest rule that it breaks
unfoldable pub after_record : Record → Table → Result Table DamageWhy
after_record (Snapshot files) es = do
  sizes ← unless_broken (not (list_all has_right_size files)) 5 files
  ids ← unless_broken (repeats_id files) 6 files
  names ← unless_broken (repeats_name files) 7 files
  Ok (sorted files)
after_record (Update e) es =
    unless_broken (not (has_right_size (grown (file_of e.id es) e))) 5 (set_entry (grown (file_of e.id es) e) es)
after_record (Deletion id name) es = delete_from (file_of id es) name es
after_record End es = Ok es
after_record (Replace e) es = do
  known ← unless_broken (not (is_some (file_of e.id es))) 3 es
  unless_broken (not (has_right_size e)) 5 (set_entry e es)

-- an end record
abbrev pub is_end : Record → Bool
is_end End = true
is_end _ = false

-- a payload that doesn't decode, or the record
abbrev pub decoded : Result Record DecodeFault → Result Record DamageWhy
decoded (Ok r) = Ok r
decoded (Err fault) = Err (why.Decode fault)

-- a cause with its block
abbrev pub placed : {A : Type 0} → ℕ → Result A DamageWhy → Result A (ℕ × DamageWhy)
placed block (Ok x) = Ok x
placed block (Err cause) = Err (block, cause)

-- nothing follows an end
abbrev pub next_table : Bool → Record → Table → Result Table DamageWhy
next_table ended r es = if ended then Err (why.Rule 2) else after_record r es

-- the table after these payloads, or the first fault with its block
abbrev pub replay_from : Bool → Table → List (ℕ × List ℕ) → Result Table (ℕ × DamageWhy)
replay_from ended es [] = Ok es
replay_from ended es (p ∷ ps) = do
  r ← placed p.0 (decoded (record_of p.1))
  next ← placed p.0 (next_table ended r es)
  replay_from (ended || is_end r) next ps

-- the table that the payloads of a log make
unfoldable pub replay_log : List (ℕ × List ℕ) → Result Table (ℕ × DamageWhy)
replay_log payloads = replay_from false [] payloads
