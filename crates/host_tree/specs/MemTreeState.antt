-- A host tree in memory.
use Rattle.std.specs.Prelude.{◌≡◌, ℕ, ◌+◌, ◌<◌, ◌≤◌, ◌==◌, ◌&&◌, Bool, List, [], ◌∷◌, ◌++◌, length, filter, map, Option, None, Some, true, cond, slice_index_or, if◌then◌else◌}
use Rattle.std.specs.List.{list_any}
use Rattle.std.specs.Str.{bytes_eq}
use Rattle.zone_image.specs.Counts.{next_count}
use Rattle.host_tree.specs.declared.host_file.HostFile.{HostFile}
use Rattle.host_tree.specs.declared.host_tree.OpenMode.{OpenMode}
use Rattle.host_tree.specs.declared.host_tree.OpenMode.TheVariants as mode
use Rattle.host_tree.specs.declared.mem_tree.Opened.{Opened}
use Rattle.host_tree.specs.declared.mem_tree.Opened.TheVariants as opened
use Rattle.host_tree.specs.HostFiles.{OpenFile, is_at}

-- its entries, what is open, the calls that were made, those that are to fail, and the faults
pub record MemTreeState : Type 0 where
  pub files : List HostFile
  pub opened : Opened
  pub calls : ℕ
  pub fails : List ℕ
  pub faults : ℕ

-- whether an entry is of this directory
abbrev pub is_in : List ℕ → HostFile → Bool
is_in dir f = bytes_eq f.dir dir

-- whether an entry is of this directory and path
abbrev pub is_of : List ℕ → List ℕ → HostFile → Bool
is_of dir path f = is_at dir path f.dir f.path

-- each entry of this directory and path takes the place of what was found before
abbrev pub last_of : Option (List ℕ) → List HostFile → List ℕ → List ℕ → Option (List ℕ)
last_of found [] dir path = found
last_of found (f ∷ fs) dir path = last_of (if is_of dir path f then Some f.bytes else found) fs dir path

-- the bytes of the file of a directory and a path: those of the last entry
abbrev pub file_at : List HostFile → List ℕ → List ℕ → Option (List ℕ)
file_at files dir path = last_of None files dir path

-- the paths of a directory's entries, as they stand
abbrev pub paths_in : List HostFile → List ℕ → List (List ℕ)
paths_in files dir = map (λ f. f.path) (filter (is_in dir) files)

-- what stands for an entry where there is none
abbrev pub no_file : HostFile
no_file = record { dir = []; path = []; bytes = [] }

-- an entry by number
abbrev pub entry_at : List HostFile → ℕ → HostFile
entry_at files entry = slice_index_or files entry no_file

-- the last entry
abbrev pub last_file : List HostFile → HostFile
last_file [] = no_file
last_file (f ∷ []) = f
last_file (f ∷ g ∷ fs) = last_file (g ∷ fs)

-- an entry with more bytes at its end
abbrev pub grown : HostFile → List ℕ → HostFile
grown f piece = record f { bytes = f.bytes ++ piece }

-- the entries with more bytes at the end of the last one
abbrev pub extended : List HostFile → List ℕ → List HostFile
extended [] piece = []
extended (f ∷ []) piece = grown f piece ∷ []
extended (f ∷ g ∷ fs) piece = f ∷ extended (g ∷ fs) piece

-- an empty file
abbrev pub empty_file : List ℕ → List ℕ → HostFile
empty_file dir path = record { dir = dir; path = path; bytes = [] }

-- what a file is open for
abbrev pub mode_of : Opened → OpenMode
mode_of opened.Closed = mode.Closed
mode_of (opened.Reading entry place) = mode.Reading
mode_of opened.Writing = mode.Writing

-- an entry as the file that is open
abbrev pub opened_as : HostFile → ℕ → OpenFile
opened_as f place = record { dir = f.dir; path = f.path; place = place }

-- which file is open: that of the entry that is read, or the last one
abbrev pub open_in : List HostFile → Opened → OpenFile
open_in files opened.Closed = opened_as no_file 0
open_in files (opened.Reading entry place) = opened_as (entry_at files entry) place
open_in files opened.Writing = opened_as (last_file files) 0

-- the same entry is read, so many bytes further on
abbrev pub read_on : Opened → ℕ → Opened
read_on opened.Closed count = opened.Closed
read_on (opened.Reading entry place) count = opened.Reading entry (place + count)
read_on opened.Writing count = opened.Writing

-- an entry that counts, since no later one has its directory and path, and a place in it
pub record IsPlace (files : List HostFile) (entry place : ℕ) : Type 0 where
  pub within : entry < length files
  pub counts : file_at files (entry_at files entry).dir (entry_at files entry).path ≡ Some (entry_at files entry).bytes
  pub inside : place ≤ length (entry_at files entry).bytes

-- the entry that counts for a directory and a path, where there is one
abbrev pub IsFound : List HostFile → List ℕ → List ℕ → Option ℕ → Type 0
IsFound files dir path None = file_at files dir path ≡ None
IsFound files dir path (Some entry) = IsPlace files entry 0 × (opened_as (entry_at files entry) 0 ≡ record { dir = dir; path = path; place = 0 })

-- what is open is there
abbrev pub IsThere : List HostFile → Opened → Type 0
IsThere files opened.Closed = Unit {0}
IsThere files (opened.Reading entry place) = IsPlace files entry place
IsThere files opened.Writing = 0 < length files

-- whether the next call is listed to fail
abbrev pub is_next_listed : MemTreeState → Bool
is_next_listed s = list_any (λ n. n == next_count s.calls) s.fails

-- after a call began, which fails where it is listed
abbrev pub called : MemTreeState → MemTreeState
called s = record s { calls = next_count s.calls; faults = cond (is_next_listed s) (next_count s.faults) s.faults }

-- the same, with no file open
abbrev pub called_closed : MemTreeState → MemTreeState
called_closed s = record (called s) { opened = opened.Closed }
