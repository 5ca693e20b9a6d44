-- The files after each change, where it is made and where it is refused.
use Rattle.std.specs.Prelude.{◌≡◌, ℕ, ◌+◌, ◌-◌, ◌^◌, Bool, ◌==◌, List, [], ◌∷◌, ◌++◌, Option, Some, None, is_some, Ok, refl, Bool, true, false}
use Rattle.std.proofs.Common.{◌∙◌, ap}
use Rattle.record_model.specs.declared.types.Record.{Record}
use Rattle.record_model.specs.declared.types.Record.TheVariants as records
use Rattle.record_model.specs.declared.types.FileEntry.{FileEntry}
use Rattle.log_model.specs.Headroom.{blocks_of_record}
use Rattle.fs_model.specs.declared.error.FsError.{FsError}
use Rattle.fs_model.specs.declared.error.FsError.TheVariants.{Exists, IdsEnd}
use Rattle.fs_model.specs.FsState.{FsState, TableRow, row_named, on_row}
use Rattle.fs_model.specs.Trace.{done, step, refuse_if, ◌>>◌, from_state}
use Rattle.fs_model.specs.LogSteps.{FsAction, NoValue, reset_zone, resettable_zones, reset_dead_zones, add_record, refuse_sequence, refuse_above, rows_need, block_of, set_rows}
use Rattle.fs_model.specs.TreeSteps.{change_rows, new_entry, new_row, create, with_names, entry_update, link_to, renamed_rows, entry_in, rename_to, drop_name, delete_by, delete_row}
use Rattle.fs_model.specs.LogSteps.{set_row}
use Rattle.fs_model.specs.FileSteps.{or_gone, commit_blocks, commit_record, committed}
use Rattle.fs_model.proofs.EachLaws.{split}
use Rattle.fs_model.proofs.SameRows.{HasSameRows, rows_then, rows_from, rows_each, rows_reset, rows_tests, rows_need_test, rows_record}

-- resets leave the files as they are
rows_resets : HasSameRows reset_dead_zones
rows_resets = rows_from _ (λ s. rows_each {f = reset_zone} (resettable_zones s) rows_reset)

-- what is done before the files change
abbrev before_change : FsState → Record → List TableRow → FsAction NoValue
before_change judged r after =
    refuse_sequence (blocks_of_record (block_of judged) r)
    >> refuse_above judged (rows_need judged after (blocks_of_record (block_of judged) r))
    >> add_record (blocks_of_record (block_of judged) r)

-- it leaves the files as they are
rows_before : (judged : FsState) (r : Record) (after : List TableRow) → HasSameRows (before_change judged r after)
rows_before judged r after =
    let blocks : ℕ = blocks_of_record (block_of judged) r in
    rows_then (rows_then (rows_tests blocks) (rows_need_test judged (rows_need judged after blocks))) (rows_record blocks)

-- files that are set, and then resets
set_and_reset : (after : List TableRow) (greatest : ℕ) (m : FsAction NoValue) (s : FsState)
    → ((m >> step (λ t. record t { rows = after; greatest = greatest }) >> reset_dead_zones) s).answer ≡ Ok tt
    → ((m >> step (λ t. record t { rows = after; greatest = greatest }) >> reset_dead_zones) s).last.rows ≡ after
set_and_reset after greatest m s h =
    let set : FsAction NoValue = step (λ t. record t { rows = after; greatest = greatest }) in
    let all = split ((m >> set) s).passed ((m >> set) s).last ((m >> set) s).answer (λ _. reset_dead_zones) tt ((m >> set >> reset_dead_zones) s).last (h, refl) in
    let parts = split (m s).passed (m s).last (m s).answer (λ _. set) all.0 ((m >> set) s).last (all.1, refl) in
    ap (λ t. t.rows) all.3 ∙ rows_resets.rows ((m >> set) s).last ∙ ap (λ t. t.rows) parts.3

-- a change that is made leaves these files
pub change_made : (judged : FsState) (r : Record) (after : List TableRow) (greatest : ℕ) (s : FsState)
    → (change_rows judged r after greatest s).answer ≡ Ok tt → (change_rows judged r after greatest s).last.rows ≡ after
change_made judged r after greatest s h = set_and_reset after greatest (before_change judged r after) s h

-- an operation and then an answer
answered : {A : Type 0} → (m : FsAction NoValue) (x y : A) (s : FsState) → ((m >> done x) s).answer ≡ Ok y
    → ((m s).answer ≡ Ok tt) × (((m >> done x) s).last ≡ (m s).last)
answered m x y s h =
    let parts = split (m s).passed (m s).last (m s).answer (λ _. done x) y ((m >> done x) s).last (h, refl) in (parts.1, parts.3)

-- a test, and then a change
judged_made : (m : FsAction NoValue) (judged : FsState) (r : Record) (after : List TableRow) (greatest : ℕ) (s : FsState)
    → ((m >> change_rows judged r after greatest) s).answer ≡ Ok tt → ((m >> change_rows judged r after greatest) s).last.rows ≡ after
judged_made m judged r after greatest s h =
    let change : FsAction NoValue = change_rows judged r after greatest in
    let parts = split (m s).passed (m s).last (m s).answer (λ _. change) tt ((m >> change) s).last (h, refl) in
    ap (λ t. t.rows) parts.3 ∙ change_made judged r after greatest (m s).last parts.2

-- a file that is made stands at the end
pub create_made : (name : List ℕ) (hint : ℕ) (sparse : Bool) (now : ℕ) (s : FsState) (id : ℕ) → (create name hint sparse now s).answer ≡ Ok id
    → (create name hint sparse now s).last.rows ≡ s.rows ++ new_row (new_entry (s.greatest + 1) name hint sparse now) ∷ []
unfolding create
create_made name hint sparse now s id h =
    let e : FileEntry = new_entry (s.greatest + 1) name hint sparse now in
    let after : List TableRow = s.rows ++ new_row e ∷ [] in
    let tests : FsAction NoValue = refuse_if (is_some (row_named name s.rows)) Exists >> refuse_if (s.greatest == 2 ^ 64 - 2) IdsEnd in
    let all = answered (tests >> change_rows s (records.Update e) after e.id) e.id id s h in
    ap (λ t. t.rows) all.1 ∙ judged_made tests s (records.Update e) after e.id s all.0

-- a link that is made, by the file that has the old name
pub link_made : (s : FsState) (there : Option TableRow) (new : List ℕ) → (link_to s there new s).answer ≡ Ok tt
    → (r : TableRow) × (there ≡ Some r) × ((link_to s there new s).last.rows ≡ on_row r.entry.id (with_names (r.entry.names ++ new ∷ [])) s.rows)
link_made s None new h = absurd cc
link_made s (Some r) new h =
    let names : List (List ℕ) = r.entry.names ++ new ∷ [] in
    (r, refl, judged_made (refuse_if (is_some (row_named new s.rows)) Exists) s (entry_update (with_names names r).entry) (on_row r.entry.id (with_names names) s.rows) s.greatest s h)

-- a rename that is made
pub rename_made : (s : FsState) (there : Option TableRow) (old new : List ℕ) → (rename_to s there old new s).answer ≡ Ok tt
    → (r : TableRow) × (there ≡ Some r) × ((rename_to s there old new s).last.rows ≡ renamed_rows r (row_named new s.rows) old new s.rows)
rename_made s None old new h = absurd cc
rename_made s (Some r) old new h =
    let after : List TableRow = renamed_rows r (row_named new s.rows) old new s.rows in
    (r, refl, change_made s (entry_update (entry_in r.entry.id after r.entry)) after s.greatest s h)

-- a deletion of a name that is there
delete_by_made : (blocks : ℕ) (name : List ℕ) (s : FsState) → (delete_by blocks name s).answer ≡ Ok tt → (delete_by blocks name s).last.rows ≡ drop_name name s.rows
delete_by_made blocks name s h =
    let before : FsAction NoValue = refuse_sequence blocks >> add_record blocks in
    let set : FsAction NoValue = set_rows (drop_name name) in
    let all = split ((before >> set) s).passed ((before >> set) s).last ((before >> set) s).answer (λ _. reset_dead_zones) tt (delete_by blocks name s).last (h, refl) in
    let parts = split (before s).passed (before s).last (before s).answer (λ _. set) all.0 ((before >> set) s).last (all.1, refl) in
    ap (λ t. t.rows) all.3 ∙ rows_resets.rows ((before >> set) s).last ∙ ap (λ t. t.rows) parts.3
    ∙ ap (λ rows. drop_name name rows) ((rows_then (rows_tests blocks) (rows_record blocks)).rows s)

-- a deletion that is made
pub delete_made : (s : FsState) (there : Option TableRow) (name : List ℕ) → (delete_row s there name s).answer ≡ Ok tt
    → (delete_row s there name s).last.rows ≡ drop_name name s.rows
delete_made s None name h = absurd cc
delete_made s (Some r) name h = delete_by_made (blocks_of_record (block_of s) (records.Deletion r.entry.id name)) name s h

-- a commit of a file that is there
commit_blocks_made : (blocks now : ℕ) (r : TableRow) (s : FsState) → (commit_blocks blocks now r s).answer ≡ Ok tt
    → (commit_blocks blocks now r s).last.rows ≡ on_row r.entry.id (committed now) s.rows
commit_blocks_made blocks now r s h =
    let before : FsAction NoValue = refuse_sequence blocks >> add_record blocks in
    let set : FsAction NoValue = set_row r.entry.id (committed now) in
    let all = split ((before >> set) s).passed ((before >> set) s).last ((before >> set) s).answer (λ _. reset_dead_zones) tt (commit_blocks blocks now r s).last (h, refl) in
    let parts = split (before s).passed (before s).last (before s).answer (λ _. set) all.0 ((before >> set) s).last (all.1, refl) in
    ap (λ t. t.rows) all.3 ∙ rows_resets.rows ((before >> set) s).last ∙ ap (λ t. t.rows) parts.3
    ∙ ap (λ rows. on_row r.entry.id (committed now) rows) ((rows_then (rows_tests blocks) (rows_record blocks)).rows s)

-- a commit, by the file
pub commit_made : (now : ℕ) (s : FsState) (there : Option TableRow)
    → (or_gone (λ r. from_state (λ t. commit_blocks (blocks_of_record (block_of t) (commit_record now r)) now r)) there s).answer ≡ Ok tt
    → (r : TableRow) × (there ≡ Some r)
    × ((or_gone (λ q. from_state (λ t. commit_blocks (blocks_of_record (block_of t) (commit_record now q)) now q)) there s).last.rows ≡ on_row r.entry.id (committed now) s.rows)
commit_made now s None h = absurd cc
commit_made now s (Some r) h = (r, refl, commit_blocks_made (blocks_of_record (block_of s) (commit_record now r)) now r s h)

-- a test that was passed
passed : {A : Type 0} → (b : Bool) (e : FsError) (m : FsAction A) (x : A) (s : FsState) → ((refuse_if b e >> m) s).answer ≡ Ok x → b ≡ false
passed true e m x s h = absurd cc
passed false e m x s h = refl

-- the first of two tests that were passed
passed_first : {A : Type 0} → (b c : Bool) (e d : FsError) (m : FsAction A) (x : A) (s : FsState) → ((refuse_if b e >> refuse_if c d >> m) s).answer ≡ Ok x → b ≡ false
passed_first true c e d m x s h = absurd cc
passed_first false c e d m x s h = refl

-- a file is made only under a name that no file has
pub create_absent : (name : List ℕ) (hint : ℕ) (sparse : Bool) (now : ℕ) (s : FsState) (id : ℕ) → (create name hint sparse now s).answer ≡ Ok id → is_some (row_named name s.rows) ≡ false
unfolding create
create_absent name hint sparse now s id h =
    let e : FileEntry = new_entry (s.greatest + 1) name hint sparse now in
    let change : FsAction NoValue = change_rows s (records.Update e) (s.rows ++ new_row e ∷ []) e.id in
    let exists : Bool = is_some (row_named name s.rows) in
    let last : Bool = s.greatest == 2 ^ 64 - 2 in
    let all = answered (refuse_if exists Exists >> refuse_if last IdsEnd >> change) e.id id s h in
    passed_first exists last Exists IdsEnd change tt s all.0

-- so is a link
pub link_absent : (s : FsState) (there : Option TableRow) (new : List ℕ) → (link_to s there new s).answer ≡ Ok tt → is_some (row_named new s.rows) ≡ false
link_absent s None new h = absurd cc
link_absent s (Some r) new h =
    let names : List (List ℕ) = r.entry.names ++ new ∷ [] in
    passed (is_some (row_named new s.rows)) Exists (change_rows s (entry_update (with_names names r).entry) (on_row r.entry.id (with_names names) s.rows) s.greatest) tt s h
