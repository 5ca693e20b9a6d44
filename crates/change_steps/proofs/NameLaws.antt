-- New files, links, renames and deletions, behind their tests of names.
use Rattle.std.specs.Prelude.{◌≡◌, ℕ, ◌+◌, ◌-◌, ◌^◌, ◌==◌, Bool, true, List, [], ◌∷◌, ◌++◌, Option, None, is_some, Ok, Err, refl}
use Rattle.std.proofs.Common.{sym, ap, subst}
use Rattle.record_model.specs.declared.types.FileEntry.{FileEntry}
use Rattle.record_model.specs.declared.types.Record.TheVariants as records
use Rattle.log_model.specs.Headroom.{blocks_of_record}
use Rattle.fs_model.specs.declared.error.FsError.{FsError}
use Rattle.fs_model.specs.declared.error.FsError.TheVariants.{NotFound, Exists, IdsEnd, SequenceEnd, MetaFull, NoMemory, DevFault}
use Rattle.fs_model.specs.FsState.{FsState, TableRow, row_named, on_row}
use Rattle.fs_model.specs.Trace.{Refines, ◌>>◌, done, refuse_if, from_state}
use Rattle.fs_model.specs.LogSteps.{FsAction, NoValue, block_of}
use Rattle.fs_model.specs.TreeSteps.{change_rows, new_entry, new_row, create_entry, create, with_names, entry_update, link_to, link, renamed_rows, entry_in, rename_to, rename, delete_row, delete}
use Rattle.fs_model.proofs.TraceLaws.{refines_then, refines_stops}
use Rattle.change_steps.specs.Endings.{Ends, Asks, Demand, stored_by}
use Rattle.change_steps.specs.NameChanges.{demand_of_entry, link_demand, demand_of_rows, rename_demand, delete_demand, CreateFindsName, CreateFindsNoId, CreateAsks, LinkFindsNoFile, LinkFindsName, LinkAsks, RenameFindsNoFile, RenameAsks, DeleteFindsNoFile, DeleteAsks}
use Rattle.change_steps.proofs.Traces.{passes, refuses, test_keeps, ok_then, fault_then, memory_then}
use Rattle.change_steps.proofs.EndingLaws.{rows_ask, deletion_asks}

-- ---- tests before a change

-- the ends of a change are those behind tests that are passed
ends_behind : {A : Type 0} (tests : FsAction NoValue) (m : FsAction A) (answer : A) (s stored : FsState) → Refines tests s (Ok tt) s
    → Ends m answer s stored → Ends (tests >> m) answer s stored
ends_behind tests m answer s stored passed h = record {
  answers = (ok_then tests m s s (m s).last answer passed (h.answers, refl)).0;
  memory_wanting = memory_then tests m s s s passed h.memory_wanting;
  fault_before = fault_then tests m s s s passed h.fault_before;
  fault_behind = λ t way. fault_then tests m s s t passed (h.fault_behind t way);
  complete = λ t way none. ok_then tests m s s t answer passed (h.complete t way none);
}

-- so is what it asks for
pub asks_behind : {A : Type 0} (tests : FsAction NoValue) (m : FsAction A) (answer : A) (d : Demand) (s : FsState) → Refines tests s (Ok tt) s
    → Asks m answer d s → Asks (tests >> m) answer d s
asks_behind tests m answer d s passed h = record {
  sequence_end = λ is. refines_then tests (λ _. m) s s s tt (Err SequenceEnd) passed (h.sequence_end is) (λ e. cc);
  full = λ need wanted fits is. refines_then tests (λ _. m) s s s tt (Err (MetaFull need s.geometry.capacity)) passed (h.full need wanted fits is) (λ e. cc);
  granted = λ fits room. ends_behind tests m answer s (stored_by d s) passed (h.granted fits room);
}

-- a change may answer something at its end
ends_with : {A B : Type 0} (m : FsAction A) (x : A) (answer : B) (s stored : FsState) → Ends m x s stored → Ends (m >> done answer) answer s stored
ends_with m x answer s stored h = record {
  answers = (refines_then m (λ _. done answer) s (m s).last (m s).last x (Ok answer) (h.answers, refl) (refl, refl) (λ is. cc)).0;
  memory_wanting = refines_stops m (λ _. done answer) s s NoMemory h.memory_wanting;
  fault_before = refines_stops m (λ _. done answer) s s DevFault h.fault_before;
  fault_behind = λ t way. refines_stops m (λ _. done answer) s t DevFault (h.fault_behind t way);
  complete = λ t way none. refines_then m (λ _. done answer) s t t x (Ok answer) (h.complete t way none) (refl, refl) (λ is. cc);
}

-- and asks for the same
pub asks_with : {A B : Type 0} (m : FsAction A) (x : A) (answer : B) (d : Demand) (s : FsState) → Asks m x d s → Asks (m >> done answer) answer d s
asks_with m x answer d s h = record {
  sequence_end = λ is. refines_stops m (λ _. done answer) s s SequenceEnd (h.sequence_end is);
  full = λ need wanted fits is. refines_stops m (λ _. done answer) s s (MetaFull need s.geometry.capacity) (h.full need wanted fits is);
  granted = λ fits room. ends_with m x answer s (stored_by d s) (h.granted fits room);
}

-- one that looks at the state ends as what it is there
pub ends_from : {A : Type 0} (f : FsState → FsAction A) (answer : A) (s stored : FsState) → Ends (f s) answer s stored → Ends (from_state f) answer s stored
ends_from f answer s stored h = record {
  answers = h.answers;
  memory_wanting = h.memory_wanting;
  fault_before = h.fault_before;
  fault_behind = h.fault_behind;
  complete = h.complete;
}

-- and asks for the same
asks_from : {A : Type 0} (f : FsState → FsAction A) (answer : A) (d : Demand) (s : FsState) → Asks (f s) answer d s → Asks (from_state f) answer d s
asks_from f answer d s h = record {
  sequence_end = h.sequence_end;
  full = h.full;
  granted = λ fits room. ends_from f answer s (stored_by d s) (h.granted fits room);
}

-- a test that refuses
test_refuses : (broken : Bool) (e : FsError) (s : FsState) → broken ≡ true → ((refuse_if broken e s).answer ≡ Err e) × (s ≡ (refuse_if broken e s).last)
test_refuses broken e s h = (refuses broken e s h, test_keeps broken e s)

-- ---- new files

-- the test of the name is passed
name_passed : (e : FsError) (s : FsState) (name : List ℕ) → row_named name s.rows ≡ None → Refines (refuse_if (is_some (row_named name s.rows)) e) s (Ok tt) s
name_passed e s name h = passes (is_some (row_named name s.rows)) e s (ap (λ (o : Option TableRow). is_some o) h)

-- another file has the name
pub create_finds_name : CreateFindsName
unfolding create
create_finds_name s name hint sparse now r h =
    let id : ℕ = s.greatest + 1 in
    let e : FileEntry = new_entry id name hint sparse now in
    let named : FsAction NoValue = refuse_if (is_some (row_named name s.rows)) Exists in
    let ids : FsAction NoValue = refuse_if (s.greatest == 2 ^ 64 - 2) IdsEnd in
    let change : FsAction NoValue = change_rows s (records.Update e) (s.rows ++ new_row e ∷ []) id in
    refines_stops (named >> ids >> change) (λ _. done id) s s Exists
    (refines_stops (named >> ids) (λ _. change) s s Exists
    (refines_stops named (λ _. ids) s s Exists (test_refuses (is_some (row_named name s.rows)) Exists s (ap (λ (o : Option TableRow). is_some o) h))))

-- no id is left
pub create_finds_no_id : CreateFindsNoId
unfolding create
create_finds_no_id s name hint sparse now free h =
    let id : ℕ = s.greatest + 1 in
    let e : FileEntry = new_entry id name hint sparse now in
    let named : FsAction NoValue = refuse_if (is_some (row_named name s.rows)) Exists in
    let ids : FsAction NoValue = refuse_if (s.greatest == 2 ^ 64 - 2) IdsEnd in
    let change : FsAction NoValue = change_rows s (records.Update e) (s.rows ++ new_row e ∷ []) id in
    refines_stops (named >> ids >> change) (λ _. done id) s s IdsEnd
    (refines_stops (named >> ids) (λ _. change) s s IdsEnd
    (refines_then named (λ _. ids) s s s tt (Err IdsEnd) (name_passed Exists s name free)
    (test_refuses (s.greatest == 2 ^ 64 - 2) IdsEnd s h) (λ is. cc)))

-- a new file asks for its record
pub create_asks : CreateAsks
unfolding create
create_asks s name hint sparse now free left =
    let e : FileEntry = new_entry (s.greatest + 1) name hint sparse now in
    let rows : List TableRow = s.rows ++ new_row e ∷ [] in
    let named : FsAction NoValue = refuse_if (is_some (row_named name s.rows)) Exists in
    let ids : FsAction NoValue = refuse_if (s.greatest == 2 ^ 64 - 2) IdsEnd in
    let change : FsAction NoValue = change_rows s (records.Update e) rows e.id in
    asks_from (λ t. create_entry t name (new_entry (t.greatest + 1) name hint sparse now)) e.id (demand_of_entry s e) s
    (asks_with (named >> ids >> change) tt e.id (demand_of_entry s e) s
    (asks_behind (named >> ids) change tt (demand_of_entry s e) s
    (ok_then named ids s s s tt (name_passed Exists s name free) (passes (s.greatest == 2 ^ 64 - 2) IdsEnd s left))
    (rows_ask s (records.Update e) rows e.id)))

-- ---- links

-- no file has the old name
pub link_finds_no_file : LinkFindsNoFile
unfolding link
link_finds_no_file s old new h =
    let P : Option TableRow → Type 0 = λ o. ((link_to s o new s).answer ≡ Err NotFound) × (s ≡ (link_to s o new s).last) in
    subst P (sym h) (refl, refl)

-- the change of a link
abbrev link_change : FsState → TableRow → List ℕ → FsAction NoValue
link_change s r new =
    change_rows s (entry_update (with_names (r.entry.names ++ new ∷ []) r).entry) (on_row r.entry.id (with_names (r.entry.names ++ new ∷ [])) s.rows) s.greatest

-- a file has the new name
pub link_finds_name : LinkFindsName
unfolding link
link_finds_name s old new r other h named =
    let P : Option TableRow → Type 0 = λ o. ((link_to s o new s).answer ≡ Err Exists) × (s ≡ (link_to s o new s).last) in
    subst P (sym h)
    (refines_stops (refuse_if (is_some (row_named new s.rows)) Exists) (λ _. link_change s r new) s s Exists
    (test_refuses (is_some (row_named new s.rows)) Exists s (ap (λ (o : Option TableRow). is_some o) named)))

-- a link asks for its record
pub link_asks : LinkAsks
unfolding link
link_asks s old new r h free =
    let P : Option TableRow → Type 0 = λ o. Asks (link_to s o new) tt (link_demand s r new) s in
    asks_from (λ t. link_to t (row_named old t.rows) new) tt (link_demand s r new) s
    (subst P (sym h)
    (asks_behind (refuse_if (is_some (row_named new s.rows)) Exists) (link_change s r new) tt (link_demand s r new) s (name_passed Exists s new free)
    (rows_ask s (entry_update (with_names (r.entry.names ++ new ∷ []) r).entry) (on_row r.entry.id (with_names (r.entry.names ++ new ∷ [])) s.rows) s.greatest)))

-- ---- renames

-- no file has the old name
pub rename_finds_no_file : RenameFindsNoFile
unfolding rename
rename_finds_no_file s old new h =
    let P : Option TableRow → Type 0 = λ o. ((rename_to s o old new s).answer ≡ Err NotFound) × (s ≡ (rename_to s o old new s).last) in
    subst P (sym h) (refl, refl)

-- a rename to these rows asks for its record
rows_after_ask : (s : FsState) (r : TableRow) (after : List TableRow) → Asks (change_rows s (entry_update (entry_in r.entry.id after r.entry)) after s.greatest) tt (demand_of_rows s r after) s
rows_after_ask s r after = rows_ask s (entry_update (entry_in r.entry.id after r.entry)) after s.greatest

-- a rename asks for its record
pub rename_asks : RenameAsks
unfolding rename
rename_asks s old new r h =
    let P : Option TableRow → Type 0 = λ o. Asks (rename_to s o old new) tt (rename_demand s r old new) s in
    asks_from (λ t. rename_to t (row_named old t.rows) old new) tt (rename_demand s r old new) s
    (subst P (sym h) (rows_after_ask s r (renamed_rows r (row_named new s.rows) old new s.rows)))

-- ---- deletions

-- no file has the name
pub delete_finds_no_file : DeleteFindsNoFile
unfolding delete
delete_finds_no_file s name h =
    let P : Option TableRow → Type 0 = λ o. ((delete_row s o name s).answer ≡ Err NotFound) × (s ≡ (delete_row s o name s).last) in
    subst P (sym h) (refl, refl)

-- a deletion asks for its record
pub delete_asks : DeleteAsks
unfolding delete
delete_asks s name r h =
    let P : Option TableRow → Type 0 = λ o. Asks (delete_row s o name) tt (delete_demand s r name) s in
    asks_from (λ t. delete_row t (row_named name t.rows) name) tt (delete_demand s r name) s
    (subst P (sym h) (deletion_asks s (blocks_of_record (block_of s) (records.Deletion r.entry.id name)) name))
