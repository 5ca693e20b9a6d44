use Rattle.std.proofs.Common.{◌≡◌, ℕ, true, false, Ok, Some, None, option_map, List, [], ◌∷◌, ap, sym, subst, ◌∙◌}
use Rattle.log_model.specs.FileTable.{file_of, is_among, take_names}
use Rattle.fs_model.specs.FsState.{TableRow}
use Rattle.extent_map.specs.Applying.{ArePlain}
use Rattle.extent_map.specs.Holding.{AreKnown}
use Rattle.extent_map.specs.Records.{recorded_of}
use Rattle.extent_map.proofs.ApplyLaws.{file_recorded, delete_unknown, delete_known, unbroken, broken}
use Rattle.extent_map.proofs.HolderLaws.{known_taken}
use Rattle.extent_map.proofs.LinkLaws.{recorded_left}
use Rattle.extent_map.proofs.SettingLaws.{all_fewer}
use Rattle.extent_map.proofs.apply.delete.Goals as goal

pub returns-in-None-clause-refused : goal.returns-in-None-clause-refused
returns-in-None-clause-refused c =
    let rows = c.args.rows.now.items in
    let found = rw c.deref.ensures.value at c.in-None.ensures in
    let none : file_of c.args.id (recorded_of rows) ≡ None = file_recorded c.args.id rows ∙ ap (option_map (λ (r : TableRow). r.entry)) (sym found) in
    delete_unknown c.args.id c.args.name.now (recorded_of rows) none

pub returns-then-not-has_name-clause-refused : goal.returns-then-not-has_name-clause-refused
returns-then-not-has_name-clause-refused c =
    let rows = c.args.rows.now.items in
    let name = c.args.name.now in
    let file = c.in-Some.row.now.entry in
    let found = rw c.deref.ensures.value at c.in-Some.ensures in
    let some : file_of c.args.id (recorded_of rows) ≡ Some file = file_recorded c.args.id rows ∙ ap (option_map (λ (r : TableRow). r.entry)) (sym found) in
    let absent : is_among file.names name ≡ false = sym c.has_name.ensures ∙ c.if-not-has_name.true in
    delete_known c.args.id name file (recorded_of rows) some ∙ broken (is_among file.names name) 4 (take_names (name ∷ []) (recorded_of rows)) absent

pub returns-else-not-has_name-clause-made : goal.returns-else-not-has_name-clause-made
returns-else-not-has_name-clause-made c =
    let rows = c.args.rows.now.items in
    let name = c.args.name.now in
    let file = c.in-Some.row.now.entry in
    let es = recorded_of rows in
    let found = rw c.deref.ensures.value at c.in-Some.ensures in
    let some : file_of c.args.id es ≡ Some file = file_recorded c.args.id rows ∙ ap (option_map (λ (r : TableRow). r.entry)) (sym found) in
    let there : is_among file.names name ≡ true = sym c.has_name.ensures ∙ c.if-not-has_name.false in
    let left = ap recorded_of c.take_names.ensures.rows ∙ recorded_left c.from_ref.result.now rows ∙ ap (λ (names : List (List ℕ)). take_names names es) c.from_ref.ensures.value in
    delete_known c.args.id name file es some ∙ unbroken (is_among file.names name) 4 (take_names (name ∷ []) es) there ∙ ap Ok (sym left)

pub returns-else-not-has_name-clause-plain : goal.returns-else-not-has_name-clause-plain
returns-else-not-has_name-clause-plain c =
    subst ArePlain (sym c.take_names.ensures.rows) (all_fewer c.from_ref.result.now c.args.rows.now.items c.requires.plain)

pub returns-else-not-has_name-clause-known : goal.returns-else-not-has_name-clause-known
returns-else-not-has_name-clause-known c =
    let rows = c.args.rows.now.items in
    let left = ap recorded_of c.take_names.ensures.rows ∙ recorded_left c.from_ref.result.now rows in
    subst (AreKnown c.args.holders) (sym left) (known_taken c.args.holders c.from_ref.result.now (recorded_of rows) c.requires.known)
