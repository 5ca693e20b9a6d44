-- The snapshot of a table, replayed.
use Rattle.std.specs.Prelude.{◌≡◌, ◌≢◌, ℕ, ◌+◌, ◌<◌, ◌≤◌, true, false, not, cond, [], ◌∷◌, Some, Ok, ◌==◌, refl}
use Rattle.std.proofs.Common.{◌∙◌, ap, arith}
use Rattle.std.proofs.lemmas.Bool.{eq-eqb, ne_eqb, or_from, and_from}
use Rattle.std.specs.List.{AllByRecursion, list_any, list_all}
use Rattle.record_model.specs.FieldDecoding.{◌>>=◌}
use Rattle.record_model.specs.declared.types.FileEntry.{FileEntry}
use Rattle.log_model.specs.FileTable.{Table, file_of, with_entry, shares_name, has_right_size, repeats_id, repeats_name, sorted, unless_broken, after_record}
use Rattle.log_model.specs.TableLaws.{IdsRise}
use Rattle.log_model.specs.ReplayLaws.{SnapshotIsReplayed}
use Rattle.log_model.proofs.TableLaws.{placed_first, id_above}

-- a table whose ids rise is in order
pub sorted_same : (from : ℕ) (es : Table) → IdsRise from es → sorted es ≡ es
sorted_same from [] rise = refl
sorted_same from (e ∷ es) rise = ap (with_entry e) (sorted_same (e.id + 1) es rise.1) ∙ placed_first (e.id + 1) e es rise.1 (omega arith)

-- an id past which the ids rise isn't there
no_such_id : (from id : ℕ) (es : Table) → IdsRise from es → id < from → list_any (λ f. f.id == id) es ≡ false
no_such_id from id [] rise h = refl
no_such_id from id (f ∷ fs) rise h =
    or_from (f.id == id) (list_any (λ x. x.id == id) fs) (ne_eqb f.id id (λ same. omega (arith, rise.0))) (no_such_id (f.id + 1) id fs rise.1 (omega (arith, rise.0)))

-- no id comes twice
pub no_id_twice : (from : ℕ) (es : Table) → IdsRise from es → repeats_id es ≡ false
no_id_twice from [] rise = refl
no_id_twice from (e ∷ es) rise =
    or_from (list_any (λ f. f.id == e.id) es) (repeats_id es) (no_such_id (e.id + 1) e.id es rise.1 (omega arith)) (no_id_twice (e.id + 1) es rise.1)

-- entries of other ids share no name with this one
pub none_shared : (from : ℕ) (e : FileEntry) (es : Table) → IdsRise from es → e.id < from → AllByRecursion (λ f. f.id ≢ e.id → shares_name e f ≡ false) es
    → list_any (shares_name e) es ≡ false
none_shared from e [] rise h apart = refl
none_shared from e (f ∷ fs) rise h apart =
    or_from (shares_name e f) (list_any (shares_name e) fs) (apart.0 (λ same. omega (arith, rise.0)))
    (none_shared (f.id + 1) e fs rise.1 (omega (arith, rise.0)) apart.1)

-- no name comes in two files
pub no_name_twice : (from : ℕ) (es : Table) → IdsRise from es → ((e : FileEntry) → file_of e.id es ≡ Some e → AllByRecursion (λ f. f.id ≢ e.id → shares_name e f ≡ false) es)
    → repeats_name es ≡ false
no_name_twice from [] rise apart = refl
no_name_twice from (e ∷ es) rise apart =
    let first : file_of e.id (e ∷ es) ≡ Some e = ap (λ b. cond b (Some e) (file_of e.id es)) (eq-eqb e.id e.id refl) in
    or_from (list_any (shares_name e) es) (repeats_name es) (none_shared (e.id + 1) e es rise.1 (omega arith) (apart e first).1)
    (no_name_twice (e.id + 1) es rise.1
    (λ x is.
    let above : e.id + 1 ≤ x.id = id_above (e.id + 1) x.id es x rise.1 is in
    let found : file_of x.id (e ∷ es) ≡ Some x = ap (λ b. cond b (Some e) (file_of x.id es)) (ne_eqb e.id x.id (λ same. omega arith)) ∙ is in
    (apart x found).1))

-- every size is right
pub sizes_right : (es : Table) → AllByRecursion (λ e. has_right_size e ≡ true) es → list_all has_right_size es ≡ true
sizes_right [] h = refl
sizes_right (e ∷ es) h = and_from (has_right_size e) (list_all has_right_size es) h.0 (sizes_right es h.1)

pub snapshot_is_replayed : SnapshotIsReplayed
unfolding after_record
snapshot_is_replayed es before table right =
    ap (λ b. unless_broken (not b) 5 es >>= (λ x. unless_broken (repeats_id es) 6 es >>= (λ y. unless_broken (repeats_name es) 7 es >>= (λ z. Ok (sorted es))))) (sizes_right es right)
    ∙ (ap (λ b. unless_broken b 6 es >>= (λ y. unless_broken (repeats_name es) 7 es >>= (λ z. Ok (sorted es)))) (no_id_twice 0 es table.ids)
    ∙ (ap (λ b. unless_broken b 7 es >>= (λ z. Ok (sorted es))) (no_name_twice 0 es table.ids table.apart)
    ∙ ap (λ x. Ok x) (sorted_same 0 es table.ids)))
