-- What a crash leaves, as trees.
use Rattle.std.specs.Prelude.{◌≡◌, ℕ, zero, suc, List, [], ◌∷◌, ◌++◌, map, drop, Any, Ok, refl}
use Rattle.std.proofs.Common.{◌∙◌, ap, sym, subst, append_assoc, append-nil, arith}
use Rattle.std.proofs.lemmas.List.{get_or_append_left, length-append}
use Rattle.std.specs.List.{AllByRecursion}
use mathlib.Core.List.{IsPrefix}
use Rattle.zone_image.specs.Image.{Image}
use Rattle.log_model.specs.FileTree.{Change, Tree, RecoversTo, apply, bytes_in}
use Rattle.log_model.specs.Mounted.{MountsTo, recovered_entry, tree_of}
use Rattle.log_model.proofs.DecodedNames.{replay_makes_table}
use Rattle.log_model.proofs.SelectedLog.{ok_is}
use Rattle.fs_model.specs.FsState.{FsState, TableRow, recorded}
use Rattle.fs_model.specs.CrashClauses.{shown_tree}
use Rattle.crash_cover.proofs.RestLaws.{rest_mounts}
use Rattle.crash_cover.proofs.RecoveryLaws.{crash_recovers}
use Rattle.change_records.specs.Recorded.{entries}
use Rattle.change_cover.specs.NameChanges.{ChangesNames}
use Rattle.change_cover.specs.Rests.{Stands}
use Rattle.change_cover.specs.Left.{RecoveredIsLeft, CrashIsLeft, ChangedIsLeft, LeftOfMore, LeftOfSame, SameTreeIsLeft}
use Rattle.change_cover.proofs.KeptBytes.{OfBytes, bytes_kept, own_bytes}
use Rattle.change_cover.proofs.NoPoints.{table_itself}
use Rattle.change_cover.proofs.ShownTrees.{rest_shows_recorded, rest_mounts_shown}

-- an image mounts to one tree
pub one_tree : (i : Image) (t u : Tree) → MountsTo i t → MountsTo i u → t ≡ u
one_tree i t u h g = ok_is (sym h ∙ g)

-- of one tree
pub of_one : (P : Tree → Type 0) (tree : Tree) → P tree → Any P (tree ∷ [])
of_one P tree h = (0, tree, omega arith, refl, h)

pub recovered_is_left : RecoveredIsLeft
recovered_is_left i j s rests shown left w mounts =
    let stands : tree_of i (map (recovered_entry i) (recorded s)) ≡ w = one_tree i _ w (rest_mounts i rests.log rests.greatest (recorded s) rests.rest).tree mounts in
    let P : Tree → Type 0 = λ tree. RecoversTo left.tree tree (λ id. bytes_in id w) in (
      left.tree,
      left.mounts,
      of_one P (shown_tree i s)
          (subst P (sym (rest_shows_recorded i s rests shown)) (subst (λ u. RecoversTo left.tree (tree_of i (recorded s)) (λ id. bytes_in id u)) stands left.recovers)),
    )

pub crash_is_left : CrashIsLeft
crash_is_left i j s rests shown crash =
    recovered_is_left i j s rests shown (crash_recovers i j rests.log rests.greatest (recorded s) rests.rest crash)

-- first bytes of first bytes
prefix_of_prefix : (xs ys zs : List ℕ) → IsPrefix xs ys → IsPrefix ys zs → IsPrefix xs zs
prefix_of_prefix xs ys zs h g = (h.0 ++ g.0, sym (append_assoc xs h.0 g.0) ∙ (ap (λ bs. bs ++ g.0) h.1 ∙ g.1))

-- more bytes may be accepted
more_accepted : (few many : ℕ → List ℕ) (ts fs : Tree) → AllByRecursion (λ f. IsPrefix (few f.id) (many f.id)) fs → RecoversTo ts fs few → RecoversTo ts fs many
more_accepted few many [] [] more h = tt
more_accepted few many [] (f ∷ fs) more h = h
more_accepted few many (t ∷ ts) [] more h = h
more_accepted few many (t ∷ ts) (f ∷ fs) more h = (
  record {
    id = h.0.id;
    names = h.0.names;
    hint = h.0.hint;
    sparse = h.0.sparse;
    plain = h.0.plain;
    synced = h.0.synced;
    within_accepted = λ sparse. prefix_of_prefix t.bytes (few f.id) (many f.id) (h.0.within_accepted sparse) more.0;
  },
  more_accepted few many ts fs more.1 h.1,
)

-- files that have the same bytes in one tree as they have, and in another one at least these
both_trees : (few many : ℕ → List ℕ) (fs : Tree) → OfBytes (λ id bytes. few id ≡ bytes) fs → OfBytes (λ id bytes. IsPrefix bytes (many id)) fs
    → AllByRecursion (λ f. IsPrefix (few f.id) (many f.id)) fs
both_trees few many [] own old = tt
both_trees few many (f ∷ fs) own old = (subst (λ bs. IsPrefix bs (many f.id)) (sym own.0) old.0, both_trees few many fs own.1 old.1)

-- the same bytes are the first ones
same_first : (many : ℕ → List ℕ) (fs : Tree) → OfBytes (λ id bytes. many id ≡ bytes) fs → OfBytes (λ id bytes. IsPrefix bytes (many id)) fs
same_first many [] own = tt
same_first many (f ∷ fs) own = (([], append-nil f.bytes ∙ sym own.0), same_first many fs own.1)

-- what recovers to the tree of the rows after a change of names has no more bytes than the files had before
pub change_accepts : (i : Image) (s : FsState) (c : Change) (after : List TableRow) (t w : Tree) → Stands i s → ChangesNames c s.rows after → MountsTo i w
    → RecoversTo t (tree_of i (entries after)) (λ id. bytes_in id (tree_of i (entries after))) → RecoversTo t (apply c (shown_tree i s)) (λ id. bytes_in id w)
change_accepts i s c after t w stands changes mounts few =
    let before : Tree = tree_of i (recorded s) in
    let next : Tree = tree_of i (entries after) in
    let same : shown_tree i s ≡ before = rest_shows_recorded i s stands.rests stands.shown in
    let is : before ≡ w = one_tree i before w (rest_mounts_shown i s stands ∙ ap (λ u. Ok u) same) mounts in
    let many : ℕ → List ℕ = λ id. bytes_in id w in
    let P : Tree → Type 0 = OfBytes (λ id bytes. IsPrefix bytes (many id)) in
    let own : OfBytes (λ id bytes. bytes_in id before ≡ bytes) before =
    own_bytes i 0 (recorded s) (replay_makes_table (drop 1 stands.rests.log.scan.payloads) (recorded s) stands.rests.rest.table.table).ids in
    let old : P before = same_first many before (subst (λ u. OfBytes (λ id bytes. bytes_in id u ≡ bytes) before) is own) in
    let kept : P (apply c before) = bytes_kept (λ id bytes. IsPrefix bytes (many id)) c before changes.bytes (λ id. (many id, refl)) old in
    let first = both_trees (λ id. bytes_in id next) many next (own_bytes i 0 (entries after) changes.valid.table.ids) (subst P (sym (changes.changed i)) kept) in
    subst (λ tree. RecoversTo t tree many) (changes.changed i ∙ ap (apply c) (sym same)) (more_accepted (λ id. bytes_in id next) many t next first few)

pub changed_is_left : ChangedIsLeft
changed_is_left i j s c after stands changes left w mounts =
    let few = subst (λ es. RecoversTo left.tree (tree_of i (entries after)) (λ id. bytes_in id (tree_of i es))) (table_itself i (entries after) changes.points) left.recovers in
    (left.tree, left.mounts, of_one (λ tree. RecoversTo left.tree tree (λ id. bytes_in id w)) (apply c (shown_tree i s)) (change_accepts i s c after left.tree w stands changes mounts few))

-- the one of one tree
pub from_one : (P : Tree → Type 0) (tree : Tree) → Any P (tree ∷ []) → P tree
from_one P tree (zero, other, less, at, h) = subst P (sym at) h
from_one P tree (suc k, other, less, at, h) = absurd (omega (arith, less))

-- of some trees in front of others
in_front : (P : Tree → Type 0) (ts back : List Tree) → Any P ts → Any P (ts ++ back)
in_front P ts back h =
    (h.0, h.1, omega (arith, length-append ts back, h.2), get_or_append_left ts back h.1 h.0 h.2 ∙ h.3, h.4)

-- of one more tree
one_behind : (P : Tree → Type 0) (t : Tree) (ts : List Tree) → Any P ts → Any P (t ∷ ts)
one_behind P t ts h = (suc h.0, h.1, omega (arith, h.2), h.3, h.4)

-- of some trees behind others
in_back : (P : Tree → Type 0) (front ts : List Tree) → Any P ts → Any P (front ++ ts)
in_back P [] ts h = h
in_back P (t ∷ front) ts h = one_behind P t (front ++ ts) (in_back P front ts h)

pub left_of_more : LeftOfMore
left_of_more i j front trees back left w mounts =
    let is = left w mounts in
    let P : Tree → Type 0 = λ tree. RecoversTo is.0 tree (λ id. bytes_in id w) in
    (is.0, is.1, in_front P (front ++ trees) back (in_back P front trees is.2))

pub left_of_same : LeftOfSame
left_of_same i k j trees same left w mounts = left w (same w mounts)

-- a tree of files with their own bytes recovers to itself
to_itself : (many : ℕ → List ℕ) (fs : Tree) → OfBytes (λ id bytes. many id ≡ bytes) fs → RecoversTo fs fs many
to_itself many [] own = tt
to_itself many (f ∷ fs) own = (
  record {
    id = refl;
    names = refl;
    hint = refl;
    sparse = refl;
    plain = λ plain. refl;
    synced = λ sparse. ([], append-nil f.bytes);
    within_accepted = λ sparse. ([], append-nil f.bytes ∙ sym own.0);
  },
  to_itself many fs own.1,
)

pub same_tree_is_left : SameTreeIsLeft
same_tree_is_left i j s stands same w mounts =
    let tree : Tree = tree_of i (recorded s) in
    let is : shown_tree i s ≡ tree = rest_shows_recorded i s stands.rests stands.shown in
    let there : shown_tree i s ≡ w = one_tree i (shown_tree i s) w (rest_mounts_shown i s stands) mounts in
    let own : OfBytes (λ id bytes. bytes_in id tree ≡ bytes) tree =
    own_bytes i 0 (recorded s) (replay_makes_table (drop 1 stands.rests.log.scan.payloads) (recorded s) stands.rests.rest.table.table).ids in
    let recovers : RecoversTo w w (λ id. bytes_in id w) = subst (λ t. RecoversTo t t (λ id. bytes_in id t)) (sym is ∙ there) (to_itself (λ id. bytes_in id tree) tree own) in
    (w, same w mounts, of_one (λ t. RecoversTo w t (λ id. bytes_in id w)) (shown_tree i s) (subst (λ t. RecoversTo w t (λ id. bytes_in id w)) (sym there) recovers))
