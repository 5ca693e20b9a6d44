-- The tree that is shown after bytes of a file came to be shown.
use Rattle.std.specs.Prelude.{◌≡◌, ℕ, ◌+◌, Bool, true, false, ◌==◌, List, [], ◌∷◌, ◌++◌, take, map, Some, Ok, refl, if◌then◌else◌}
use Rattle.std.specs.List.{AllByRecursion}
use Rattle.std.proofs.Common.{sym, ◌∙◌, ap}
use Rattle.std.proofs.lemmas.List.{append-nil}
use Rattle.std.proofs.lemmas.Bool.{false≢true, eqb-true}
use Rattle.zone_image.specs.Image.{Image}
use Rattle.log_model.specs.FileTable.{size_of}
use Rattle.log_model.specs.Frames.{bytes_of}
use Rattle.log_model.specs.FileTree.{apply, on_file}
use Rattle.log_model.specs.FileTree.Change.{Grow}
use Rattle.fs_model.specs.FsState.{FsState, TableRow, row_of, on_row}
use Rattle.fs_model.specs.FileSteps.{commit, committed, commit_time, show, shown_row}
use Rattle.fs_model.specs.ValidRows.{IsApart, AreApart}
use Rattle.fs_model.specs.CrashClauses.{shown_file, shown_tree, all_bytes}
use Rattle.fs_model.proofs.KeptFileCalls.{has_id}
use Rattle.fs_model.proofs.RowLaws.{commit_made}
use Rattle.fs_model.proofs.TreeLaws.{all_map}

-- the file of an id is the only one, at the first place or later
only_choice : (b : Bool) (id : ℕ) (q r : TableRow) (qs : List TableRow) → (q.entry.id == id) ≡ b → AllByRecursion (IsApart q) qs
    → (row_of id qs ≡ Some r → AllByRecursion (λ k. (k.entry.id == id) ≡ true → k ≡ r) qs)
    → (if b then Some q else row_of id qs) ≡ Some r → AllByRecursion (λ k. (k.entry.id == id) ≡ true → k ≡ r) (q ∷ qs)
only_choice true id q r qs is apart rest h =
    let same : q ≡ r = cc in ((λ _. same), others qs apart)
  where
    others : (ks : List TableRow) → AllByRecursion (IsApart q) ks → AllByRecursion (λ k. (k.entry.id == id) ≡ true → k ≡ r) ks
    others [] far = tt
    others (k ∷ ks) far = ((λ equal. absurd (false≢true (sym far.0.id ∙ ap (λ n. k.entry.id == n) (eqb-true q.entry.id id is) ∙ equal))), others ks far.1)
only_choice false id q r qs is apart rest h = ((λ equal. absurd (false≢true (sym is ∙ equal))), rest h)

-- the file of an id is the only one
pub only_of_id : (id : ℕ) (rows : List TableRow) (r : TableRow) → AreApart rows → row_of id rows ≡ Some r → AllByRecursion (λ q. (q.entry.id == id) ≡ true → q ≡ r) rows
only_of_id id [] r apart h = tt
only_of_id id (q ∷ qs) r apart h = only_choice (q.entry.id == id) id q r qs refl apart.0 (λ k. only_of_id id qs r apart.1 k) h

-- a file that shows more bytes
grown_choice : (i : Image) (b : Bool) (g : TableRow → TableRow) (bytes : List ℕ) (now : ℕ) (q : TableRow)
    → (b ≡ true → shown_file i (g q) ≡ (record (shown_file i q) { bytes = bytes; time = now }))
    → shown_file i (if b then g q else q) ≡ (if b then (record (shown_file i q) { bytes = bytes; time = now }) else shown_file i q)
grown_choice i true g bytes now q same = same refl
grown_choice i false g bytes now q same = refl

-- in the tree as in the files
grown_shown : (i : Image) (id : ℕ) (g : TableRow → TableRow) (bytes : List ℕ) (now : ℕ) (rows : List TableRow)
    → AllByRecursion (λ q. (q.entry.id == id) ≡ true → shown_file i (g q) ≡ (record (shown_file i q) { bytes = bytes; time = now })) rows
    → map (shown_file i) (on_row id g rows) ≡ on_file id (λ f. record f { bytes = bytes; time = now }) (map (shown_file i) rows)
grown_shown i id g bytes now [] same = refl
grown_shown i id g bytes now (q ∷ qs) same =
    ap (λ f. f ∷ map (shown_file i) (on_row id g qs)) (grown_choice i (q.entry.id == id) g bytes now q same.0)
    ∙ ap (λ fs. (if q.entry.id == id then (record (shown_file i q) { bytes = bytes; time = now }) else shown_file i q) ∷ fs) (grown_shown i id g bytes now qs same.1)

-- one file after a commit
commit_one : (i : Image) (now : ℕ) (r : TableRow) → shown_file i (committed now r) ≡ (record (shown_file i r) { bytes = all_bytes i r; time = commit_time now r })
commit_one i now r =
    let n : ℕ = r.entry.size + size_of r.unrecorded in
    ap (λ xs. record { id = r.entry.id; names = r.entry.names; bytes = take n (bytes_of i xs); hint = r.entry.hint; time = commit_time now r; sparse = r.entry.sparse })
    (append-nil (r.entry.extents ++ r.unrecorded))

-- a commit
commit_rows : (i : Image) (id now : ℕ) (s : FsState) (r : TableRow) → AreApart s.rows → row_of id s.rows ≡ Some r
    → map (shown_file i) (on_row id (committed now) s.rows) ≡ on_file id (λ f. record f { bytes = all_bytes i r; time = commit_time now r }) (shown_tree i s)
commit_rows i id now s r apart is =
    grown_shown i id (committed now) (all_bytes i r) (commit_time now r) s.rows
    (all_map (λ q. (q.entry.id == id) ≡ true → q ≡ r)
    (λ q. (q.entry.id == id) ≡ true → shown_file i (committed now q) ≡ (record (shown_file i q) { bytes = all_bytes i r; time = commit_time now r })) s.rows
    (λ q only equal. commit_one i now q ∙ ap (λ p. record (shown_file i q) { bytes = all_bytes i p; time = commit_time now p }) (only equal)) (only_of_id id s.rows r apart is))

-- a commit shows all bytes of its file
pub commit_shown : (i : Image) (id now : ℕ) (s : FsState) → AreApart s.rows → (commit id now s).answer ≡ Ok tt
    → (r : TableRow) × (row_of id s.rows ≡ Some r) × (shown_tree i (commit id now s).last ≡ apply (Grow id (all_bytes i r) (commit_time now r)) (shown_tree i s))
unfolding apply commit
commit_shown i id now s apart h =
    let made = commit_made now s (row_of id s.rows) h in
    let r = made.0 in (
      r,
      made.1,
      ap (λ rows. map (shown_file i) rows) (made.2 ∙ ap (λ n. on_row n (committed now) s.rows) (has_id id s.rows r made.1)) ∙ commit_rows i id now s r apart made.1,
    )

-- a device sync shows all bytes of a sparse file
pub show_shown : (i : Image) (id now : ℕ) (s : FsState) (r : TableRow) → AreApart s.rows → row_of id s.rows ≡ Some r
    → shown_tree i (show id now s).last ≡ apply (Grow id (all_bytes i r) now) (shown_tree i s)
unfolding apply show
show_shown i id now s r apart is =
    grown_shown i id (shown_row now) (all_bytes i r) now s.rows
    (all_map (λ q. (q.entry.id == id) ≡ true → q ≡ r)
    (λ q. (q.entry.id == id) ≡ true → shown_file i (shown_row now q) ≡ (record (shown_file i q) { bytes = all_bytes i r; time = now })) s.rows
    (λ q only equal. ap (λ p. record (shown_file i q) { bytes = all_bytes i p; time = now }) (only equal)) (only_of_id id s.rows r apart is))
