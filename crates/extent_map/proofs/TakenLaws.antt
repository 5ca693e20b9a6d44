-- Names that are taken from row after row.
use Rattle.std.specs.Prelude.{◌≡◌, ℕ, zero, suc, ◌<◌, ◌≤◌, true, false, cond, List, [], ◌∷◌, length, refl}
use Rattle.std.specs.List.{remove}
use Rattle.std.proofs.Common.{set, get_or, ap, sym, ◌∙◌, arith}
use Rattle.log_model.specs.FileTable.{is_named}
use Rattle.fs_model.specs.FsState.{TableRow}
use Rattle.extent_map.specs.Naming.{without_names, rows_left}

-- the rows with names taken from those from this place on
abbrev pub left_from : List (List ℕ) → ℕ → List TableRow → List TableRow
left_from taken zero rows = rows_left taken rows
left_from taken (suc k) [] = []
left_from taken (suc k) (r ∷ rs) = r ∷ left_from taken k rs

-- a row that keeps a name
pub kept_from : (taken : List (List ℕ)) (k : ℕ) (rows : List TableRow) (row new : TableRow) → k < length rows → row ≡ get_or rows k row → new ≡ without_names taken row
    → is_named (without_names taken row).entry ≡ true → left_from taken (suc k) (set rows k new) ≡ left_from taken k rows
kept_from taken k [] row new lt is made named = absurd (omega arith)
kept_from taken zero (r ∷ rs) row new lt is made named =
    ap (λ (q : TableRow). q ∷ rows_left taken rs) (made ∙ ap (without_names taken) is)
    ∙ sym (ap (λ b. cond b (without_names taken r ∷ rows_left taken rs) (rows_left taken rs)) (ap (λ (q : TableRow). is_named (without_names taken q).entry) (sym is) ∙ named))
kept_from taken (suc k) (r ∷ rs) row new lt is made named = ap (λ (qs : List TableRow). r ∷ qs) (kept_from taken k rs row new (omega arith) is made named)

-- a row that keeps none
pub gone_from : (taken : List (List ℕ)) (k : ℕ) (rows : List TableRow) (row new : TableRow) → k < length rows → row ≡ get_or rows k row
    → is_named (without_names taken row).entry ≡ false → left_from taken k (remove (set rows k new) k) ≡ left_from taken k rows
gone_from taken k [] row new lt is named = absurd (omega arith)
gone_from taken zero (r ∷ rs) row new lt is named =
    sym (ap (λ b. cond b (without_names taken r ∷ rows_left taken rs) (rows_left taken rs)) (ap (λ (q : TableRow). is_named (without_names taken q).entry) (sym is) ∙ named))
gone_from taken (suc k) (r ∷ rs) row new lt is named = ap (λ (qs : List TableRow). r ∷ qs) (gone_from taken k rs row new (omega arith) is named)

-- behind the last row nothing is left to be taken
pub all_taken : (taken : List (List ℕ)) (k : ℕ) (rows : List TableRow) → length rows ≤ k → left_from taken k rows ≡ rows
all_taken taken zero [] le = refl
all_taken taken zero (r ∷ rs) le = absurd (omega arith)
all_taken taken (suc k) [] le = refl
all_taken taken (suc k) (r ∷ rs) le = ap (λ (qs : List TableRow). r ∷ qs) (all_taken taken k rs (omega arith))
