-- The trees that a change of names leaves.
use Rattle.std.specs.Prelude.{◌≡◌, ℕ, zero, suc, Bool, true, false, List, [], ◌∷◌, ◌++◌, drop, map, Any, Option, Some, None, ◌==◌, if◌then◌else◌, refl, Ok}
use Rattle.std.proofs.Common.{◌∙◌, ◌⊎◌, inl, inr, ap, sym, subst, arith}
use Rattle.std.specs.List.{AllByRecursion}
use mathlib.Core.List.{IsPrefix}
use Rattle.zone_image.specs.Image.{Image, IsCrash}
use Rattle.log_model.specs.FileTree.{FileRecoversTo, RecoversTo, SameButTimes, Tree, TreeFile, apply, apply_all, bytes_in, drop_name, has_names, id_of, link_in, on_file, rename_in, renamed, without_name, without_time}
use Rattle.log_model.specs.Mounted.{MountsTo, table_in, tree_of}
use Rattle.log_model.proofs.DecodedNames.{replay_makes_table}
use Rattle.fs_model.specs.CrashClauses.{Agrees, shown_tree}
use Rattle.fs_model.specs.FsState.{FsState, recorded}
use Rattle.crash_cover.proofs.RestLaws.{rest_mounts}
use Rattle.change_cover.specs.Left.{IsLeftOf}
use Rattle.change_cover.specs.Rests.{Stands}
use Rattle.change_cover.specs.SameTrees.{MountsTheSame}
use Rattle.change_cover.proofs.KeptBytes.{OfBytes, own_bytes}
use Rattle.change_cover.proofs.LeftTrees.{one_tree}
use Rattle.change_cover.proofs.NoPoints.{table_itself}
use Rattle.change_cover.proofs.ShownTrees.{crash_mounts_shown, rest_mounts_shown, rest_shows_recorded}
use Rattle.command_model.specs.CommandLine.{Command}
use Rattle.command_model.specs.CommandLine.Command.{LinkFile, RenameFile, DeleteFile}
use Rattle.zenfs_cmd.specs.Leaving.{LeftByChange, MountsChanged, MountsEither}
use Rattle.zenfs_cmd.specs.Made.{IsMade}
use Rattle.zenfs_cmd.specs.Plans.{changes_of}

-- ---- a change of names leaves each file its bytes

module _ (P : ℕ → List ℕ → Type 0) where
  -- a file with other names, or not
  named_choice : (b : Bool) (f : TreeFile) (names : List (List ℕ)) → P f.id f.bytes
      → P (if b then record f { names = names } else f).id (if b then record f { names = names } else f).bytes
  named_choice true f names h = h
  named_choice false f names h = h

  -- names of one file
  on_names : (id : ℕ) (names : TreeFile → List (List ℕ)) (fs : Tree) → OfBytes P fs → OfBytes P (on_file id (λ f. record f { names = names f }) fs)
  on_names id names [] each = tt
  on_names id names (f ∷ fs) each = (named_choice (f.id == id) f (names f) each.0, on_names id names fs each.1)

  -- a file, or none, in front of others
  kept_choice : (b : Bool) (f : TreeFile) (fs : Tree) → P f.id f.bytes → OfBytes P fs → OfBytes P (if b then f ∷ fs else fs)
  kept_choice true f fs h each = (h, each)
  kept_choice false f fs h each = each

  -- without a name
  without : (name : List ℕ) (fs : Tree) → OfBytes P fs → OfBytes P (drop_name name fs)
  without name [] each = tt
  without name (f ∷ fs) each = kept_choice (has_names (without_name name f)) (without_name name f) (drop_name name fs) each.0 (without name fs each.1)

  -- after a link
  linked : (found : Option ℕ) (new : List ℕ) (fs : Tree) → OfBytes P fs → OfBytes P (link_in found new fs)
  linked None new fs each = each
  linked (Some id) new fs each = on_names id (λ f. f.names ++ new ∷ []) fs each

  -- one of two trees
  tree_choice : (b : Bool) (fs gs : Tree) → OfBytes P fs → OfBytes P gs → OfBytes P (if b then fs else gs)
  tree_choice true fs gs here there = here
  tree_choice false fs gs here there = there

  -- after a rename
  moved : (found there : Option ℕ) (old new : List ℕ) (fs : Tree) → OfBytes P fs → OfBytes P (rename_in found there old new fs)
  moved None there old new fs each = each
  moved (Some id) None old new fs each = on_names id (λ f. renamed old new f.names) fs each
  moved (Some id) (Some other) old new fs each =
      tree_choice (id == other) fs (on_file id (λ f. record f { names = renamed old new f.names }) (drop_name new fs)) each
      (on_names id (λ f. renamed old new f.names) (drop_name new fs) (without new fs each))

  -- after a command's change
  pub bytes_stay : (c : Command) (fs : Tree) → OfBytes P fs → OfBytes P (apply_all (changes_of c) fs)
  unfolding apply
  bytes_stay (LinkFile at old new) fs each = linked (id_of old fs) new fs each
  bytes_stay (RenameFile at old new) fs each = moved (id_of old fs) (id_of new fs) old new fs each
  bytes_stay (DeleteFile at name) fs each = without name fs each
  bytes_stay _ fs each = each

-- ---- what a crash leaves has exactly these bytes

-- each is the front of the other
both_fronts : (xs ys : List ℕ) → IsPrefix xs ys → IsPrefix ys xs → xs ≡ ys
both_fronts [] [] h g = refl
both_fronts [] (y ∷ ys) h g = let is : (y ∷ ys) ++ g.0 ≡ [] = g.1 in absurd cc
both_fronts (x ∷ xs) [] h g = let is : (x ∷ xs) ++ h.0 ≡ [] = h.1 in absurd cc
both_fronts (x ∷ xs) (y ∷ ys) h g =
    let here : x ∷ (xs ++ h.0) ≡ y ∷ ys = h.1 in
    let there : y ∷ (ys ++ g.0) ≡ x ∷ xs = g.1 in
    let front : xs ++ h.0 ≡ ys = cc in
    let back : ys ++ g.0 ≡ xs = cc in
    let rest : xs ≡ ys = both_fronts xs ys (h.0, front) (g.0, back) in
    cc

same_bytes : (accepted : ℕ → List ℕ) (f g : TreeFile) (sparse : Bool) → g.sparse ≡ sparse → FileRecoversTo accepted f g → accepted g.id ≡ g.bytes → f.bytes ≡ g.bytes
same_bytes accepted f g true is h own = both_fronts f.bytes g.bytes (subst (λ bs. IsPrefix f.bytes bs) own (h.within_accepted is)) (h.synced is)
same_bytes accepted f g false is h own = h.plain is

-- two files that differ in their times at most
same_but_time : (f g : TreeFile) → f.id ≡ g.id → f.names ≡ g.names → f.bytes ≡ g.bytes → f.hint ≡ g.hint → f.sparse ≡ g.sparse → without_time f ≡ without_time g
same_but_time f g id names bytes hint sparse = cc

same_tree : (accepted : ℕ → List ℕ) (us gs : Tree) → OfBytes (λ id bytes. accepted id ≡ bytes) gs → RecoversTo us gs accepted → SameButTimes us gs
same_tree accepted [] [] own h = refl
same_tree accepted [] (g ∷ gs) own h = absurd h
same_tree accepted (f ∷ fs) [] own h = absurd h
same_tree accepted (f ∷ fs) (g ∷ gs) own h =
    let file : without_time f ≡ without_time g =
    same_but_time f g h.0.id h.0.names (same_bytes accepted f g g.sparse refl h.0 own.0) h.0.hint h.0.sparse in
    let files : map without_time fs ≡ map without_time gs = same_tree accepted fs gs own.1 h.1 in
    cc

-- the one of two trees
from_two : (P : Tree → Type 0) (first second : Tree) → Any P (first ∷ second ∷ []) → P first ⊎ P second
from_two P first second (zero, other, less, at, h) = inl (subst P (sym at) h)
from_two P first second (suc zero, other, less, at, h) = inr (subst P (sym at) h)
from_two P first second (suc (suc k), other, less, at, h) = absurd (omega (arith, less))

-- what a change leaves mounts to the tree before it or after it, but for times
left_either : (c : Command) (i j : Image) (s : FsState) → Stands i s → IsLeftOf i (shown_tree i s ∷ apply_all (changes_of c) (shown_tree i s) ∷ []) j → MountsEither c i j
left_either c i j s stands left t mounts =
    let shown : Tree = shown_tree i s in
    let is : shown ≡ t = one_tree i shown t (rest_mounts_shown i s stands) mounts in
    let before : Tree = tree_of i (recorded s) in
    let same : before ≡ t = sym (rest_shows_recorded i s stands.rests stands.shown) ∙ is in
    let own : OfBytes (λ id bytes. bytes_in id t ≡ bytes) t =
    subst (λ u. OfBytes (λ id bytes. bytes_in id u ≡ bytes) u) same
    (own_bytes i 0 (recorded s) (replay_makes_table (drop 1 stands.rests.log.scan.payloads) (recorded s) stands.rests.rest.table.table).ids) in
    let accepted : ℕ → List ℕ = λ id. bytes_in id t in
    let found = left t mounts in
    let changed : Tree = apply_all (changes_of c) t in
    let trees = subst (λ u. Any (λ tree. RecoversTo found.0 tree accepted) (u ∷ apply_all (changes_of c) u ∷ [])) is found.2 in (
      found.0,
      found.1,
      elim (from_two (λ tree. RecoversTo found.0 tree accepted) t changed trees) [
        | inl old ↦ inl (same_tree accepted found.0 t own old)
        | inr new ↦ inr (same_tree accepted found.0 changed (bytes_stay (λ id bytes. accepted id ≡ bytes) c t own) new)
      ],
    )

-- the same of an image that mounts to the tree of another one
pub change_leaves : (c : Command) (i k j : Image) (s : FsState) → MountsTheSame i k → Stands k s
    → IsLeftOf k (shown_tree k s ∷ apply_all (changes_of c) (shown_tree k s) ∷ []) j → LeftByChange c i j
change_leaves c i k j s same stands left = inr (λ t mounts. left_either c k j s stands left t (same t mounts))

-- a mount for writing leaves the tree
pub mount_leaves : (c : Command) (i j : Image) → IsCrash i j ⊎ MountsTheSame i j → LeftByChange c i j
mount_leaves c i j h = elim h [ inl crash ↦ inl crash | inr same ↦ inr (λ t mounts. (t, same t mounts, inl refl)) ]

-- ---- once the change is made

-- the image has the table and the trees
pub change_is_made : (c : Command) (i k j : Image) (s next : FsState) → MountsTheSame i k → Stands k s → Stands j next → Agrees next j
    → shown_tree j next ≡ apply_all (changes_of c) (shown_tree k s) → IsMade c i j next
change_is_made c i k j s next same before after agrees tree =
    let rests = after.rests in
    let is : (t : Tree) → MountsTo i t → shown_tree j next ≡ apply_all (changes_of c) t =
    λ t mounts. tree ∙ ap (apply_all (changes_of c)) (one_tree k (shown_tree k s) t (rest_mounts_shown k s before) (same t mounts)) in
    record {
      table = (rest_mounts j rests.log rests.greatest (recorded next) rests.rest).table ∙ ap (λ es. Ok es) (table_itself j (recorded next) after.points);
      agrees = agrees;
      trees = record {
        standing = λ t mounts. subst (MountsTo j) (is t mounts) (rest_mounts_shown j next after);
        crashed = λ t mounts m crash. subst (MountsTo m) (is t mounts) (crash_mounts_shown j m next after crash);
      };
    }
