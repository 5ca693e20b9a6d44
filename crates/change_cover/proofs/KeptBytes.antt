-- A change of names leaves each file the bytes that it had.
use Rattle.std.specs.Prelude.{◌≡◌, ℕ, ◌+◌, ◌≤◌, Bool, true, false, cond, List, [], ◌∷◌, ◌++◌, Option, Some, None, ◌==◌, if◌then◌else◌, refl}
use Rattle.std.proofs.Common.{◌∙◌, ap, arith}
use Rattle.std.proofs.lemmas.Bool.{eq-eqb, ne_eqb}
use Rattle.std.specs.List.{AllByRecursion}
use Rattle.log_model.specs.FileTree.{Tree, TreeFile, Change, apply, bytes_in, drop_name, has_names, id_of, link_in, on_file, rename_in, renamed, without_name}
use Rattle.log_model.specs.FileTree.Change.{Create, Grow, Link, Rename, Unlink}
use Rattle.zone_image.specs.Image.{Image}
use Rattle.log_model.specs.FileTable.{Table}
use Rattle.log_model.specs.Frames.{bytes_of}
use Rattle.log_model.specs.Mounted.{tree_of}
use Rattle.log_model.specs.TableLaws.{IdsRise}
use Rattle.change_cover.specs.NameChanges.{is_growth}

-- what holds of the id and the bytes of each file
abbrev pub OfBytes : (ℕ → List ℕ → Type 0) → Tree → Type 0
OfBytes P fs = AllByRecursion (λ f. P f.id f.bytes) fs

module _ (P : ℕ → List ℕ → Type 0) where
  -- with one more file
  one_more : (fs : Tree) (f : TreeFile) → P f.id f.bytes → OfBytes P fs → OfBytes P (fs ++ f ∷ [])
  one_more [] f h each = (h, tt)
  one_more (g ∷ gs) f h each = (each.0, one_more gs f h each.1)

  -- a file with other names, or not
  named_choice : (b : Bool) (f : TreeFile) (names : List (List ℕ)) → P f.id f.bytes
      → P (if b then record f { names = names } else f).id (if b then record f { names = names } else f).bytes
  named_choice true f names h = h
  named_choice false f names h = h

  -- names of one file
  on_names : (id : ℕ) (names : TreeFile → List (List ℕ)) (fs : Tree) → OfBytes P fs → OfBytes P (on_file id (λ f. record f { names = names f }) fs)
  on_names id names [] each = tt
  on_names id names (f ∷ fs) each = (named_choice (f.id == id) f (names f) each.0, on_names id names fs each.1)

  -- a file, or none, in front of others
  kept_choice : (b : Bool) (f : TreeFile) (fs : Tree) → P f.id f.bytes → OfBytes P fs → OfBytes P (if b then f ∷ fs else fs)
  kept_choice true f fs h each = (h, each)
  kept_choice false f fs h each = each

  -- without a name
  without : (name : List ℕ) (fs : Tree) → OfBytes P fs → OfBytes P (drop_name name fs)
  without name [] each = tt
  without name (f ∷ fs) each = kept_choice (has_names (without_name name f)) (without_name name f) (drop_name name fs) each.0 (without name fs each.1)

  -- after a link
  linked : (found : Option ℕ) (new : List ℕ) (fs : Tree) → OfBytes P fs → OfBytes P (link_in found new fs)
  linked None new fs each = each
  linked (Some id) new fs each = on_names id (λ f. f.names ++ new ∷ []) fs each

  -- one of two trees
  tree_choice : (b : Bool) (fs gs : Tree) → OfBytes P fs → OfBytes P gs → OfBytes P (if b then fs else gs)
  tree_choice true fs gs here there = here
  tree_choice false fs gs here there = there

  -- after a rename
  moved : (found there : Option ℕ) (old new : List ℕ) (fs : Tree) → OfBytes P fs → OfBytes P (rename_in found there old new fs)
  moved None there old new fs each = each
  moved (Some id) None old new fs each = on_names id (λ f. renamed old new f.names) fs each
  moved (Some id) (Some other) old new fs each =
      tree_choice (id == other) fs (on_file id (λ f. record f { names = renamed old new f.names }) (drop_name new fs)) each
      (on_names id (λ f. renamed old new f.names) (drop_name new fs) (without new fs each))

  -- after a change that gives no file other bytes; a new file has none
  pub bytes_kept : (c : Change) (fs : Tree) → is_growth c ≡ false → ((id : ℕ) → P id []) → OfBytes P fs → OfBytes P (apply c fs)
  unfolding apply
  bytes_kept (Create name id hint sparse time) fs plain none each =
      one_more fs (record { id = id; names = name ∷ []; bytes = []; hint = hint; time = time; sparse = sparse }) (none id) each
  bytes_kept (Grow id bytes time) fs plain none each = absurd cc
  bytes_kept (Link old new) fs plain none each = linked (id_of old fs) new fs each
  bytes_kept (Rename old new) fs plain none each = moved (id_of old fs) (id_of new fs) old new fs each
  bytes_kept (Unlink name) fs plain none each = without name fs each

-- files of ids from a number on
all_above : (low : ℕ) (i : Image) (from : ℕ) (es : Table) → low ≤ from → IdsRise from es → AllByRecursion (λ f. low ≤ f.id) (tree_of i es)
all_above low i from [] le h = tt
all_above low i from (e ∷ es) le h = (omega (arith, h.0), all_above low i (e.id + 1) es (omega (arith, h.0)) h.1)

-- a file in front doesn't have these ids
behind : (f : TreeFile) (whole fs : Tree) → AllByRecursion (λ g. f.id + 1 ≤ g.id) fs → OfBytes (λ id bytes. bytes_in id whole ≡ bytes) fs → OfBytes (λ id bytes. bytes_in id (f ∷ whole) ≡ bytes) fs
behind f whole [] above own = tt
behind f whole (g ∷ gs) above own =
    (ap (λ b. cond b f.bytes (bytes_in g.id whole)) (ne_eqb f.id g.id (λ same. omega (arith, above.0, same))) ∙ own.0, behind f whole gs above.1 own.1)

-- each file of a table has its own bytes in the tree
pub own_bytes : (i : Image) (from : ℕ) (es : Table) → IdsRise from es → OfBytes (λ id bytes. bytes_in id (tree_of i es) ≡ bytes) (tree_of i es)
own_bytes i from [] h = tt
own_bytes i from (e ∷ es) h = (
  ap (λ b. cond b (bytes_of i e.extents) (bytes_in e.id (tree_of i es))) (eq-eqb e.id e.id refl),
  behind (record { id = e.id; names = e.names; bytes = bytes_of i e.extents; hint = e.hint; time = e.time; sparse = e.sparse }) (tree_of i es) (tree_of i es)
      (all_above (e.id + 1) i (e.id + 1) es (omega arith) h.1) (own_bytes i (e.id + 1) es h.1),
)
