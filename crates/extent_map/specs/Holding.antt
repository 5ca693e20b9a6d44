-- Who has which name, as the table keeps it beside its rows while records are applied.
use Rattle.std.specs.Prelude.{◌≡◌, ℕ, ⊤, Bool, true, false, List, Option, Some, None, ◌==◌, if◌then◌else◌}
use Rattle.std.specs.List.{AllByRecursion, list_all}
use Rattle.std.specs.Ordering.{nat_cmp}
use Rattle.std.specs.Cmp.Lexicographic.{slice_cmp}
use Rattle.std.specs.BTreeMap.{get_by}
use Rattle.std.specs.Option.{ForSome}
use Rattle.log_model.specs.FileTable.{Table, is_among}
use Rattle.fs_model.specs.FsState.{TableRow}
use Rattle.extent_map.specs.Applying.{AreSettled}
use Rattle.extent_map.specs.Records.{recorded_of}
use Rattle.extent_map.specs.declared.holders.Holders.{Holders}

-- the id that stands for a name
abbrev pub holder_of : List ℕ → Holders → Option ℕ
holder_of name h = get_by (λ k. slice_cmp nat_cmp name k.items) h.ids

-- nobody has it, or this file
abbrev pub is_own : ℕ → Option ℕ → Bool
is_own id None = true
is_own id (Some other) = other == id

-- none of these names is another file's
abbrev pub are_free : Holders → ℕ → List (List ℕ) → Bool
are_free h id names = list_all (λ name. is_own id (holder_of name h)) names

-- the same, as far as it is known
abbrev pub are_known_free : Option Holders → ℕ → List (List ℕ) → Bool
are_known_free None id names = false
are_known_free (Some h) id names = are_free h id names

-- this id stands for each of the names
abbrev pub HasNames : Holders → ℕ → List (List ℕ) → Type 0
HasNames h id names = AllByRecursion (λ name. holder_of name h ≡ Some id) names

-- of each file its id stands for all its names
abbrev pub AreHeld : Holders → Table → Type 0
AreHeld h es = AllByRecursion (λ e. HasNames h e.id e.names) es

-- this id stands for these names now, and for the others what stood for them, as far as it is known
abbrev pub GivesNames : Option Holders → ℕ → List (List ℕ) → Option Holders → Type 0
GivesNames old id names None = ⊤
GivesNames None id names (Some new) = ⊥
GivesNames (Some old) id names (Some new) = (name : List ℕ) → holder_of name new ≡ (if is_among names name then Some id else holder_of name old)

-- of each file its id stands for all its names, as far as it is known
abbrev pub AreKnown : Option Holders → Table → Type 0
AreKnown holders es = ForSome holders (λ h. AreHeld h es)

-- what is kept beside the rows between two records: who has which name, where all of each file is shown that is recorded
abbrev pub IsKept : Holders → List TableRow → Type 0
IsKept h rows = AreHeld h (recorded_of rows) × AreSettled rows
