-- What each call leaves alone.
use Rattle.std.specs.Prelude.{◌≡◌, ℕ, zero, suc, ◌+◌, Bool, true, false, List, [], ◌∷◌, ◌++◌, Option, Some, None, is_some, ◌&&◌, ◌||◌, ◌^◌, ◌-◌, ◌==◌, nat_lt, refl}
use Rattle.std.specs.List.{AllByRecursion}
use Rattle.std.proofs.Common.{sym, ◌∙◌, ap, subst}
use Rattle.std.proofs.lemmas.Bool.{false≢true, eq-eqb}
use Rattle.fs_model.specs.ZonePolicy.{is_idle_owner}
use Rattle.log_model.specs.Headroom.{blocks_of_record}
use Rattle.record_model.specs.declared.types.Record.{Record}
use Rattle.fs_model.specs.declared.error.FsError.TheVariants.{NotFound, Exists, IdsEnd, SequenceEnd, MetaFull}
use Rattle.record_model.specs.declared.types.Record.TheVariants as records
use Rattle.record_model.specs.declared.types.FileEntry.{FileEntry}
use Rattle.fs_model.specs.declared.error.FsError.{FsError}
use Rattle.fs_model.specs.TreeSteps.{change_rows, new_entry, new_row, create_entry, create, with_names, entry_update, link_to, link, renamed_rows, entry_in, rename_to, rename, drop_name, delete_by, delete_row, delete}
use Rattle.fs_model.proofs.SameRows.{rows_then, rows_refuse, rows_tests, rows_need_test, rows_record}
use Rattle.fs_model.specs.FsState.{FsState, ZoneDescriptor, TableRow, descriptor_in, on_descriptor, on_row, row_named}
use Rattle.fs_model.specs.Trace.{step, refuse_if, ◌>>◌, each}
use Rattle.fs_model.specs.LogSteps.{FsAction, NoValue, reset_zone, resettable_zones, reset_dead_zones, refuse_sequence, refuse_above, must_roll, at_sequence_end, set_rows, rows_need, block_of}
use Rattle.fs_model.specs.Untouched.{KeepsFiles, is_one_of}
use Rattle.fs_model.proofs.KeptStates.{Keeps, keeps_done, keeps_refuse, keeps_step, keeps_from, keeps_refuse_if, keeps_then, files_stay}
use Rattle.fs_model.proofs.KeptZones.{keeps_reset, keeps_record}
use Rattle.fs_model.proofs.KeptFiles.{keeps_rows, file_added, names_set, rows_renamed, name_dropped}
use Rattle.fs_model.proofs.IdleZones.{IsIdleAt, resettable_idle}

-- a change of one zone leaves the owner of each
pub same_owner : (n k : ℕ) (f : ZoneDescriptor → ZoneDescriptor) (zs : List ZoneDescriptor) → ((z : ZoneDescriptor) → (f z).owner ≡ z.owner)
    → (descriptor_in (on_descriptor n f zs) k).owner ≡ (descriptor_in zs k).owner
same_owner n k f [] same = refl
same_owner zero zero f (z ∷ zs) same = same z
same_owner zero (suc k) f (z ∷ zs) same = refl
same_owner (suc n) zero f (z ∷ zs) same = refl
same_owner (suc n) (suc k) f (z ∷ zs) same = same_owner n k f zs same

-- a reset leaves idle zones idle
still_idle : (s : FsState) (n : ℕ) (ns : List ℕ) → AllByRecursion (IsIdleAt s) ns → AllByRecursion (IsIdleAt (reset_zone n s).last) ns
still_idle s n [] h = tt
still_idle s n (k ∷ ks) h =
    (ap (λ o. is_idle_owner o) (same_owner n k (λ z. record z { info = record { written = 0; sealed = false } }) s.zones (λ z. refl)) ∙ h.0, still_idle s n ks h.1)

-- resets of idle zones
keeps_resets : {zones ids : List ℕ} → (ns : List ℕ) (s : FsState) → AllByRecursion (IsIdleAt s) ns → Keeps zones ids (each reset_zone ns) s
keeps_resets [] s h = keeps_done tt
keeps_resets (n ∷ ns) s h =
    keeps_then (keeps_reset n (λ data_zone out held. false≢true (sym held ∙ h.0))) (keeps_resets ns (reset_zone n s).last (still_idle s n ns h.1))

-- zones that nothing needs are reset
pub keeps_dead : {zones ids : List ℕ} → (s : FsState) → Keeps zones ids reset_dead_zones s
keeps_dead s = keeps_from (λ t. each reset_zone (resettable_zones t)) (keeps_resets (resettable_zones s) s (resettable_idle s))

-- ---- changes of the tree

-- a refusal at the end of the sequence
pub keeps_tests : {zones ids : List ℕ} → (blocks : ℕ) (s : FsState) → Keeps zones ids (refuse_sequence blocks) s
keeps_tests blocks s = keeps_from (λ t. refuse_if (must_roll t blocks && at_sequence_end t) SequenceEnd) (keeps_refuse_if (must_roll s blocks && at_sequence_end s) SequenceEnd)

-- a refusal for want of room
pub keeps_need : {zones ids : List ℕ} → (u : FsState) (need : ℕ) (s : FsState) → Keeps zones ids (refuse_above u need) s
keeps_need u need s = keeps_refuse_if (nat_lt u.geometry.capacity need) (MetaFull need u.geometry.capacity)

-- the files and the greatest id of a change
abbrev set_files : List TableRow → ℕ → FsAction NoValue
set_files after greatest = step (λ t. record t { rows = after; greatest = greatest })

-- they are set
keeps_set : {zones ids : List ℕ} → (after : List TableRow) (greatest : ℕ) (s : FsState) → KeepsFiles ids s.rows after → Keeps zones ids (set_files after greatest) s
keeps_set after greatest s kept =
    keeps_step (λ t. record t { rows = after; greatest = greatest }) (λ low. record { log = low; zones = λ n data_zone out held. refl; files = kept })

-- a change with its record, which is judged on one state and made from one with the same files
keeps_change : {zones ids : List ℕ} → (judged : FsState) (r : Record) (after : List TableRow) (greatest : ℕ) (s : FsState)
    → KeepsFiles ids s.rows after → Keeps zones ids (change_rows judged r after greatest) s
keeps_change {ids = ids} judged r after greatest s kept =
    let blocks : ℕ = blocks_of_record (block_of judged) r in
    let before = rows_then (rows_then (rows_tests blocks) (rows_need_test judged (rows_need judged after blocks))) (rows_record blocks) in
    let P : List TableRow → Type 0 = λ rows. KeepsFiles ids rows after in
    keeps_then (keeps_then (keeps_then (keeps_then
    (keeps_tests blocks s)
    (keeps_need judged (rows_need judged after blocks) _))
    (keeps_record blocks _))
    (keeps_set after greatest _ (subst P (sym (before.rows s)) kept)))
    (keeps_dead _)

-- the same after a test
keeps_judged : {zones ids : List ℕ} → (broken : Bool) (e : FsError) (r : Record) (after : List TableRow) (greatest : ℕ) (s : FsState)
    → KeepsFiles ids s.rows after → Keeps zones ids (refuse_if broken e >> change_rows s r after greatest) s
keeps_judged {ids = ids} broken e r after greatest s kept =
    let P : List TableRow → Type 0 = λ rows. KeepsFiles ids rows after in
    keeps_then (keeps_refuse_if broken e) (keeps_change s r after greatest _ (subst P (sym ((rows_refuse broken e).rows s)) kept))

-- a file is made, and none but it is touched
pub keeps_create : (name : List ℕ) (hint : ℕ) (sparse : Bool) (now : ℕ) (s : FsState) → Keeps [] ((s.greatest + 1) ∷ []) (create name hint sparse now) s
unfolding create
keeps_create name hint sparse now s =
    let e : FileEntry = new_entry (s.greatest + 1) name hint sparse now in
    let ids : List ℕ = (s.greatest + 1) ∷ [] in
    let after : List TableRow = s.rows ++ new_row e ∷ [] in
    let exists : Bool = is_some (row_named name s.rows) in
    let last : Bool = s.greatest == 2 ^ 64 - 2 in
    let P : List TableRow → Type 0 = λ rows. KeepsFiles ids rows after in
    let named : is_one_of ids (s.greatest + 1) ≡ true = ap (λ b. b || false) (eq-eqb (s.greatest + 1) (s.greatest + 1) refl) in
    let kept : KeepsFiles ids s.rows after = file_added ids (new_row e) s.rows s.rows named (files_stay ids s.rows) in
    let tests = rows_then (rows_refuse exists Exists) (rows_refuse last IdsEnd) in
    keeps_from (λ t. create_entry t name (new_entry (t.greatest + 1) name hint sparse now))
    (keeps_then (keeps_then (keeps_then
    (keeps_refuse_if exists Exists)
    (keeps_refuse_if last IdsEnd))
    (keeps_change s (records.Update e) after (s.greatest + 1) _ (subst P (sym (tests.rows s)) kept)))
    (keeps_done (s.greatest + 1)))

-- a link to a file, if there is one
keeps_link_to : (s : FsState) (there : Option TableRow) (new : List ℕ) → Keeps [] [] (link_to s there new) s
keeps_link_to s None new = keeps_refuse NotFound
keeps_link_to s (Some r) new =
    let names : List (List ℕ) = r.entry.names ++ new ∷ [] in
    keeps_judged (is_some (row_named new s.rows)) Exists (entry_update (with_names names r).entry) (on_row r.entry.id (with_names names) s.rows) s.greatest s
    (names_set [] r.entry.id names s.rows)

-- a link touches no extent
pub keeps_link : (old new : List ℕ) (s : FsState) → Keeps [] [] (link old new) s
unfolding link
keeps_link old new s = keeps_from (λ t. link_to t (row_named old t.rows) new) (keeps_link_to s (row_named old s.rows) new)

-- a rename of a file, if there is one
keeps_rename_to : (s : FsState) (there : Option TableRow) (old new : List ℕ) → Keeps [] [] (rename_to s there old new) s
keeps_rename_to s None old new = keeps_refuse NotFound
keeps_rename_to s (Some r) old new =
    let after : List TableRow = renamed_rows r (row_named new s.rows) old new s.rows in
    keeps_change s (entry_update (entry_in r.entry.id after r.entry)) after s.greatest s (rows_renamed [] r (row_named new s.rows) old new s.rows)

-- a rename touches no extent
pub keeps_rename : (old new : List ℕ) (s : FsState) → Keeps [] [] (rename old new) s
unfolding rename
keeps_rename old new s = keeps_from (λ t. rename_to t (row_named old t.rows) old new) (keeps_rename_to s (row_named old s.rows) old new)

-- a name is dropped
keeps_dropped : {zones ids : List ℕ} → (name : List ℕ) (s : FsState) → Keeps zones ids (set_rows (drop_name name)) s
keeps_dropped {ids = ids} name s = keeps_rows (drop_name name) (name_dropped ids name s.rows)

-- a deletion of a name that is there
keeps_delete_by : (blocks : ℕ) (name : List ℕ) (s : FsState) → Keeps [] [] (delete_by blocks name) s
keeps_delete_by blocks name s =
    keeps_then (keeps_then (keeps_then
    (keeps_tests blocks s)
    (keeps_record blocks _))
    (keeps_dropped name _))
    (keeps_dead _)

-- a deletion, if there is a file
keeps_delete_row : (s : FsState) (there : Option TableRow) (name : List ℕ) → Keeps [] [] (delete_row s there name) s
keeps_delete_row s None name = keeps_refuse NotFound
keeps_delete_row s (Some r) name = keeps_delete_by (blocks_of_record (block_of s) (records.Deletion r.entry.id name)) name s

-- a deletion touches no other file
pub keeps_delete : (name : List ℕ) (s : FsState) → Keeps [] [] (delete name) s
unfolding delete
keeps_delete name s = keeps_from (λ t. delete_row t (row_named name t.rows) name) (keeps_delete_row s (row_named name s.rows) name)
