-- What a crash leaves of a history: the tree after a prefix of its changes, with every one that was acknowledged.
use Rattle.std.specs.Prelude.{ℕ, ◌≤◌, List, [], ◌∷◌, ◌++◌, length, take, flat_map, sum_by, nat_le, if◌then◌else◌}
use Rattle.zone_image.specs.Image.{Image}
use Rattle.log_model.specs.FileTree.{Tree, Change, RecoversTo, apply_all}
use Rattle.log_model.specs.Mounted.{MountsTo}
use Rattle.fs_model.specs.declared.operations.Entry.{Entry}
use Rattle.fs_model.specs.History.{HistoryState, accepted_for, accepted_after, acknowledged_of, change_of, initial_history, after_entry, after_entries}

-- all changes of an entry, the one that isn't acknowledged among them
abbrev pub all_changes_of : Entry → HistoryState → List Change
all_changes_of e h = flat_map (change_of e.op e.now (accepted_after e h)) e.changes

-- all changes of a history from here on
abbrev pub changes_from : HistoryState → List Entry → List Change
changes_from h [] = []
changes_from h (e ∷ es) = all_changes_of e h ++ changes_from (after_entry e h) es

-- all changes of a history that begins with this tree
abbrev pub history_changes : Tree → List Entry → List Change
history_changes tree es = changes_from (initial_history tree) es

-- the tree after so many changes of a history
abbrev pub tree_after : ℕ → Tree → List Entry → Tree
tree_after made tree es = apply_all (take made (history_changes tree es)) tree

-- how many changes were acknowledged by a tick
abbrev pub acknowledged_by : ℕ → List Entry → ℕ
acknowledged_by tick es = sum_by (λ e. if nat_le e.tick tick then length (acknowledged_of e) else 0) es

-- the bytes that a history accepted for a file, after those that the file had at first
abbrev pub accepted_in : Tree → List Entry → ℕ → List ℕ
accepted_in tree es id = accepted_for id (after_entries (initial_history tree) es).accepted

-- an image that mounts to what a crash leaves of a history after so many changes
abbrev pub RecoversAfter : Image → Tree → List Entry → ℕ → Type 0
RecoversAfter j tree es made = (left : Tree) × MountsTo j left × RecoversTo left (tree_after made tree es) (accepted_in tree es)

-- whatever might be left since a tick mounts to a prefix of the history that holds every change acknowledged by then
abbrev pub CoversHistory : (ℕ → Image → Type 0) → ℕ → Tree → List Entry → Type 0
CoversHistory since first tree es =
    (tick : ℕ) (j : Image) → first ≤ tick → since tick j
    → (made : ℕ) × (acknowledged_by tick es ≤ made) × (made ≤ length (history_changes tree es)) × RecoversAfter j tree es made
