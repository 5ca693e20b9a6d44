-- Changes of names keep the rules.
use Rattle.std.specs.Prelude.{◌≡◌, ℕ, ◌+◌, ◌<◌, ◌≤◌, Bool, true, false, List, [], ◌∷◌, ◌++◌, Option, Some, None, ◌==◌, if◌then◌else◌, refl}
use Rattle.std.proofs.Common.{◌∙◌, ap, sym, subst, arith}
use Rattle.std.specs.List.{AllByRecursion}
use Rattle.zone_image.specs.declared.Geometry.{Geometry}
use Rattle.zone_image.specs.Image.{zone_of}
use Rattle.record_model.specs.declared.types.Extent.{Extent}
use Rattle.log_model.specs.FileTree.{renamed}
use Rattle.log_model.specs.Mounted.{all_extents, overlap}
use Rattle.log_model.specs.FileTable.{Table, size_of}
use Rattle.fs_model.specs.FsState.{FsState, TableRow, ZoneDescriptor, working_of, row_named, on_row}
use Rattle.fs_model.specs.TreeSteps.{new_entry, new_row, with_names, drop_name, renamed_rows}
use Rattle.change_records.specs.Recorded.{entries, AreValid}
use Rattle.change_records.specs.PinnedRows.{AreSomeOf}
use Rattle.change_records.specs.Writable.{AreWritable}
use Rattle.change_records.proofs.FewerExtents.{some_apart}
use Rattle.change_records.proofs.NameRecords.{create_is_recorded, unlink_is_recorded}
use Rattle.change_records.proofs.RenameRecords.{link_is_recorded, rename_is_recorded}
use Rattle.change_records.proofs.Writable.{create_stays_writable, link_stays_writable, rename_stays_writable, unlink_stays_writable}
use Rattle.state_rules.specs.Rules.{found_within, finds_again, RowRules, LiesInZone, FileRules, IsFresh, FreshRules, KeepsRules}
use Rattle.state_rules.specs.NameRules.{with_rows, CreateKeepsRules, LinkKeepsRules, RenameKeepsRules, UnlinkKeepsRules}
use Rattle.state_rules.proofs.FewerRows.{AreFewer, facts_fewer, working_fewer, recorded_fewer, some_have, named_fewer, dropped_fewer}

-- the rules of a row don't read its names
row_named_anew : (names : List (List ℕ)) (r : TableRow) → RowRules r → RowRules (with_names names r)
row_named_anew names r h = record { extents = h.extents; fits = h.fits; ordered = h.ordered; shown = h.shown }

-- files with other names
files_fewer : (g : Geometry) (greatest : ℕ) (next rows : List TableRow) → AreFewer next rows → FileRules g greatest rows → FileRules g greatest next
files_fewer g greatest next rows fewer h =
    let some = working_fewer next rows fewer in
    record {
      each = facts_fewer RowRules row_named_anew next rows fewer h.each;
      ids = facts_fewer (λ r. r.entry.id ≤ greatest) (λ names r low. low) next rows fewer h.ids;
      lie = some_have (LiesInZone g) (all_extents (working_of rows)) (all_extents (working_of next)) some h.lie;
      apart = some_apart (all_extents (working_of rows)) (all_extents (working_of next)) some h.apart;
    }

-- what is fresh is so where less is recorded
fresh_less : (g : Geometry) (zones : List ZoneDescriptor) (es fs : Table) (id : ℕ) (xs : List Extent) → AreSomeOf (all_extents fs) (all_extents es)
    → AllByRecursion (IsFresh g zones es id) xs → AllByRecursion (IsFresh g zones fs id) xs
fresh_less g zones es fs id [] some h = tt
fresh_less g zones es fs id (x ∷ xs) some h = (
  record {
    owner = h.0.owner;
    behind = some_have (λ y. zone_of g y.start ≡ zone_of g x.start → y.start + y.len ≤ x.start) (all_extents es) (all_extents fs) some h.0.behind;
  },
  fresh_less g zones es fs id xs some h.1,
)

rows_less : (g : Geometry) (zones : List ZoneDescriptor) (es fs : Table) (rows : List TableRow) → AreSomeOf (all_extents fs) (all_extents es)
    → FreshRules g zones es rows → FreshRules g zones fs rows
rows_less g zones es fs [] some h = tt
rows_less g zones es fs (r ∷ rs) some h = (fresh_less g zones es fs r.entry.id r.unrecorded some h.0, rows_less g zones es fs rs some h.1)

fresh_fewer : (g : Geometry) (zones : List ZoneDescriptor) (next rows : List TableRow) → AreFewer next rows → FreshRules g zones (entries rows) rows → FreshRules g zones (entries next) next
fresh_fewer g zones next rows fewer h =
    rows_less g zones (entries rows) (entries next) next (recorded_fewer next rows fewer)
    (facts_fewer (λ r. AllByRecursion (IsFresh g zones (entries rows) r.entry.id) r.unrecorded) (λ names r same. same) next rows fewer h)

-- a state with other names of files, which are valid and can be written
pub names_keep : (s : FsState) (next : List TableRow) → AreFewer next s.rows → AreValid next → AreWritable next → KeepsRules s → KeepsRules (with_rows s next)
names_keep s next fewer valid writable h = record {
  device = record { valid = h.device.valid; count = h.device.count; log_zone = h.device.log_zone; flags = h.device.flags };
  valid = valid;
  writable = writable;
  files = files_fewer s.geometry s.greatest next s.rows fewer h.files;
  owners = h.owners;
  fresh = fresh_fewer s.geometry s.zones next s.rows fewer h.fresh;
}

pub link_keeps_rules : LinkKeepsRules
link_keeps_rules s r old new h is free name =
    let names = r.entry.names ++ new ∷ [] in
    names_keep s (on_row r.entry.id (with_names names) s.rows) (named_fewer r.entry.id names s.rows)
    (link_is_recorded s.rows r old new h.valid is free).valid (link_stays_writable s.rows r old new h.writable is free name).again h

pub unlink_keeps_rules : UnlinkKeepsRules
unlink_keeps_rules s r name h is =
    names_keep s (drop_name name s.rows) (dropped_fewer name s.rows)
    (unlink_is_recorded s.rows r name h.valid is).valid (unlink_stays_writable s.rows r name h.writable is).again h

-- the rows after a rename: the file's name is another, after it was taken from the file that had it
renamed_twice : (s : FsState) (r : TableRow) (there : Option TableRow) (old new : List ℕ) → AreValid (renamed_rows r there old new s.rows) → AreWritable (renamed_rows r there old new s.rows)
    → KeepsRules s → KeepsRules (with_rows s (renamed_rows r there old new s.rows))
renamed_twice s r None old new valid writable h =
    names_keep s (on_row r.entry.id (with_names (renamed old new r.entry.names)) s.rows) (named_fewer r.entry.id (renamed old new r.entry.names) s.rows) valid writable h
renamed_twice s r (Some other) old new valid writable h = by (other.entry.id == r.entry.id) valid writable
  where
    by : (b : Bool) → AreValid (if b then s.rows else on_row r.entry.id (with_names (renamed old new r.entry.names)) (drop_name new s.rows))
        → AreWritable (if b then s.rows else on_row r.entry.id (with_names (renamed old new r.entry.names)) (drop_name new s.rows))
        → KeepsRules (with_rows s (if b then s.rows else on_row r.entry.id (with_names (renamed old new r.entry.names)) (drop_name new s.rows)))
    by true v w = h
    by false v w = record {
      device = record { valid = h.device.valid; count = h.device.count; log_zone = h.device.log_zone; flags = h.device.flags };
      valid = v;
      writable = w;
      files =
          files_fewer s.geometry s.greatest (on_row r.entry.id (with_names (renamed old new r.entry.names)) (drop_name new s.rows)) (drop_name new s.rows)
          (named_fewer r.entry.id (renamed old new r.entry.names) (drop_name new s.rows))
          (files_fewer s.geometry s.greatest (drop_name new s.rows) s.rows (dropped_fewer new s.rows) h.files);
      owners = h.owners;
      fresh =
          fresh_fewer s.geometry s.zones (on_row r.entry.id (with_names (renamed old new r.entry.names)) (drop_name new s.rows)) (drop_name new s.rows)
          (named_fewer r.entry.id (renamed old new r.entry.names) (drop_name new s.rows))
          (fresh_fewer s.geometry s.zones (drop_name new s.rows) s.rows (dropped_fewer new s.rows) h.fresh);
    }

pub rename_keeps_rules : RenameKeepsRules
rename_keeps_rules s r old new h is name =
    renamed_twice s r (row_named new s.rows) old new
    (rename_is_recorded s.rows r old new h.valid is).valid (rename_stays_writable s.rows r old new h.valid h.writable is name).again h

-- ---- a new file

-- a row more at the end
all_push : (P : TableRow → Type 0) (rows : List TableRow) (new : TableRow) → AllByRecursion P rows → P new → AllByRecursion P (rows ++ new ∷ [])
all_push P [] new h last = (last, tt)
all_push P (r ∷ rs) new h last = (h.0, all_push P rs new h.1 last)

-- a row without extents adds none
working_pushed : (rows : List TableRow) (new : TableRow) → new.entry.extents ≡ [] → new.unrecorded ≡ [] → all_extents (working_of (rows ++ new ∷ [])) ≡ all_extents (working_of rows)
working_pushed [] new none nothing = ap (λ xs. (xs ++ new.unrecorded) ++ []) none ∙ ap (λ xs. ([] ++ xs) ++ []) nothing
working_pushed (r ∷ rs) new none nothing = ap (λ xs. (r.entry.extents ++ r.unrecorded) ++ xs) (working_pushed rs new none nothing)

recorded_pushed : (rows : List TableRow) (new : TableRow) → new.entry.extents ≡ [] → all_extents (entries (rows ++ new ∷ [])) ≡ all_extents (entries rows)
recorded_pushed [] new none = ap (λ xs. xs ++ []) none
recorded_pushed (r ∷ rs) new none = ap (λ xs. r.entry.extents ++ xs) (recorded_pushed rs new none)

-- ids that are no greater are no greater than a greater one
ids_below : (low high : ℕ) (rows : List TableRow) → low < high → AllByRecursion (λ r. r.entry.id ≤ low) rows → AllByRecursion (λ r. r.entry.id < high) rows
ids_below low high [] less h = tt
ids_below low high (r ∷ rs) less h = (omega (arith, less, h.0), ids_below low high rs less h.1)

ids_within : (low high : ℕ) (rows : List TableRow) → low ≤ high → AllByRecursion (λ r. r.entry.id ≤ low) rows → AllByRecursion (λ r. r.entry.id ≤ high) rows
ids_within low high [] less h = tt
ids_within low high (r ∷ rs) less h = (omega (arith, less, h.0), ids_within low high rs less h.1)

-- the rules of a new file
new_rules : (id : ℕ) (name : List ℕ) (hint : ℕ) (sparse : Bool) (now : ℕ) → RowRules (new_row (new_entry id name hint sparse now))
new_rules id name hint sparse now = record { extents = tt; fits = omega arith; ordered = tt; shown = none (finds_again (new_row (new_entry id name hint sparse now))) }
  where
    none : (b : Bool) → 0 ≡ 0 + size_of (if b then found_within 0 [] else [])
    none true = refl
    none false = refl

-- what is fresh where as much is recorded
fresh_same : (g : Geometry) (zones : List ZoneDescriptor) (es fs : Table) (rows : List TableRow) → all_extents fs ≡ all_extents es → FreshRules g zones es rows → FreshRules g zones fs rows
fresh_same g zones es fs [] same h = tt
fresh_same g zones es fs (r ∷ rs) same h = (each r.unrecorded h.0, fresh_same g zones es fs rs same h.1)
  where
    each : (xs : List Extent) → AllByRecursion (IsFresh g zones es r.entry.id) xs → AllByRecursion (IsFresh g zones fs r.entry.id) xs
    each [] all = tt
    each (x ∷ xs) all = (
      record {
        owner = all.0.owner;
        behind = subst (λ ys. AllByRecursion (λ y. zone_of g y.start ≡ zone_of g x.start → y.start + y.len ≤ x.start) ys) (sym same) all.0.behind;
      },
      each xs all.1,
    )

pub create_keeps_rules : CreateKeepsRules
create_keeps_rules s name hint sparse now h free low good short time =
    let id = s.greatest + 1 in
    let new = new_row (new_entry id name hint sparse now) in
    let pushed = working_pushed s.rows new refl refl in
    record {
      device = record { valid = h.device.valid; count = h.device.count; log_zone = h.device.log_zone; flags = h.device.flags };
      valid = (create_is_recorded s.rows id name hint sparse now h.valid (ids_below s.greatest id s.rows (omega arith) h.files.ids) free).valid;
      writable = (create_stays_writable s.rows id name hint sparse now h.writable low good short time).again;
      files = record {
        each = all_push RowRules s.rows new h.files.each (new_rules id name hint sparse now);
        ids = all_push (λ r. r.entry.id ≤ id) s.rows new (ids_within s.greatest id s.rows (omega arith) h.files.ids) (omega arith);
        lie = subst (AllByRecursion (LiesInZone s.geometry)) (sym pushed) h.files.lie;
        apart = ap overlap pushed ∙ h.files.apart;
      };
      owners = h.owners;
      fresh =
          all_push (λ r. AllByRecursion (IsFresh s.geometry s.zones (entries (s.rows ++ new ∷ [])) r.entry.id) r.unrecorded) s.rows new
          (fresh_same s.geometry s.zones (entries s.rows) (entries (s.rows ++ new ∷ [])) s.rows (recorded_pushed s.rows new refl) h.fresh) tt;
    }
