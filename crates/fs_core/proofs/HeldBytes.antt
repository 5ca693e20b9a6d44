-- What is recorded lies and reads as before where the zones that hold it are kept.
use Rattle.std.proofs.Common.{◌≡◌, ℕ, ◌+◌, ◌*◌, ◌≤◌, Bool, true, false, not, ◌&&◌, ◌||◌, List, [], ◌∷◌, ◌++◌, take, drop, refl, sym, ◌∙◌, ap, subst}
use Rattle.std.specs.Prelude.{All, nat_le, nat_lt, ◌==◌}
use Rattle.std.specs.List.{AllByRecursion, concat, list_any}
use Rattle.std.proofs.lemmas.Bool.{and_parts, eq-eqb, leb-true}
use Rattle.std.proofs.lemmas.List.Elements.{All-from_recursion, recursion_from_All}
use Rattle.zone_image.specs.declared.Geometry.{Geometry}
use Rattle.zone_image.specs.declared.ZoneInfo.{ZoneInfo}
use Rattle.zone_image.specs.Image.{Image, offset_of, zone_at, zone_of}
use Rattle.zone_image.specs.Infos.{info_at}
use Rattle.record_model.specs.declared.types.Extent.{Extent}
use Rattle.log_model.specs.FileTable.{Table}
use Rattle.log_model.specs.Frames.{bytes_of, extent_bytes}
use Rattle.log_model.specs.Mounted.{all_extents, file_in, tree_of}
use Rattle.fs_model.specs.FsState.{FsState, recorded}
use Rattle.mount_replay.specs.Rules.{IsWrittenExtent}
use Rattle.fs_core.specs.DeadZones.{is_free}

-- an extent that lies in a data zone in which others may lie
record LiesIn (g : Geometry) (es : Table) (x : Extent) : Type 0 where
  behind : 3 ≤ zone_of g x.start
  held : is_free g es (zone_of g x.start) ≡ false

-- each of some extents is one of them
all_there : (g : Geometry) (xs : List Extent) → AllByRecursion (λ x. list_any (λ y. zone_of g y.start == zone_of g x.start) xs ≡ true) xs
all_there g [] = tt
all_there g (x ∷ xs) =
    (ap (λ b. b || list_any (λ y. zone_of g y.start == zone_of g x.start) xs) (eq-eqb (zone_of g x.start) (zone_of g x.start) refl), behind xs (all_there g xs))
  where
    either : (b c : Bool) → c ≡ true → b || c ≡ true
    either true c h = refl
    either false c h = h

    behind : (ys : List Extent) → AllByRecursion (λ y. list_any (λ z. zone_of g z.start == zone_of g y.start) xs ≡ true) ys
        → AllByRecursion (λ y. list_any (λ z. zone_of g z.start == zone_of g y.start) (x ∷ xs) ≡ true) ys
    behind [] h = tt
    behind (y ∷ ys) h = (either (zone_of g x.start == zone_of g y.start) (list_any (λ z. zone_of g z.start == zone_of g y.start) xs) h.0, behind ys h.1)

-- a written extent lies in a data zone
in_data_zone : (g : Geometry) (infos : List ZoneInfo) (x : Extent) → IsWrittenExtent g infos x → 3 ≤ zone_of g x.start
in_data_zone g infos x h =
    let n = zone_of g x.start in
    leb-true 3 n (and_parts (nat_le 3 n) (nat_lt n g.zones) (and_parts (nat_le 3 n && nat_lt n g.zones) _ h.written).0).0

-- so extents that are written lie
all_lie : (g : Geometry) (infos : List ZoneInfo) (es : Table) (xs : List Extent) → AllByRecursion (IsWrittenExtent g infos) xs
    → AllByRecursion (λ x. list_any (λ y. zone_of g y.start == zone_of g x.start) (all_extents es) ≡ true) xs → AllByRecursion (LiesIn g es) xs
all_lie g infos es [] written there = tt
all_lie g infos es (x ∷ xs) written there = (record { behind = in_data_zone g infos x written.0; held = ap not there.0 }, all_lie g infos es xs written.1 there.1)

-- those of a table
table_lies : (g : Geometry) (infos : List ZoneInfo) (es : Table) → All (IsWrittenExtent g infos) (all_extents es) → AllByRecursion (LiesIn g es) (all_extents es)
table_lies g infos es written = all_lie g infos es (all_extents es) (recursion_from_All (IsWrittenExtent g infos) (all_extents es) written) (all_there g (all_extents es))

-- where the written numbers of these zones are kept
written_each : (g : Geometry) (infos new : List ZoneInfo) (es : Table) → ((n : ℕ) → 3 ≤ n → is_free g es n ≡ false → (info_at new n).written ≡ (info_at infos n).written)
    → (xs : List Extent) → AllByRecursion (LiesIn g es) xs → AllByRecursion (IsWrittenExtent g infos) xs → AllByRecursion (IsWrittenExtent g new) xs
written_each g infos new es kept [] lie written = tt
written_each g infos new es kept (x ∷ xs) lie written =
    let n = zone_of g x.start in (
      record {
        some = written.0.some;
        written =
            ap (λ count. nat_le 3 n && nat_lt n g.zones && nat_le (offset_of g x.start + x.len) (count * g.block)) (kept n lie.0.behind lie.0.held) ∙ written.0.written;
      },
      written_each g infos new es kept xs lie.1 written.1,
    )

-- what is recorded is written still
pub written_still : (g : Geometry) (infos new : List ZoneInfo) (es : Table) → All (IsWrittenExtent g infos) (all_extents es)
    → ((n : ℕ) → 3 ≤ n → is_free g es n ≡ false → (info_at new n).written ≡ (info_at infos n).written) → All (IsWrittenExtent g new) (all_extents es)
written_still g infos new es written kept =
    All-from_recursion (IsWrittenExtent g new) (all_extents es)
    (written_each g infos new es kept (all_extents es) (table_lies g infos es written) (recursion_from_All (IsWrittenExtent g infos) (all_extents es) written))

-- extents in zones of the same blocks
module _ (i j : Image) (shape : j.geometry ≡ i.geometry) where
  -- one of them
  same_bytes : (x : Extent) → (zone_at j (zone_of i.geometry x.start)).blocks ≡ (zone_at i (zone_of i.geometry x.start)).blocks → extent_bytes j x ≡ extent_bytes i x
  same_bytes x blocks =
      ap (λ g. take x.len (drop (offset_of g x.start) (concat (zone_at j (zone_of g x.start)).blocks))) shape
      ∙ ap (λ bs. take x.len (drop (offset_of i.geometry x.start) (concat bs))) blocks

  -- some of them
  all_bytes : (xs : List Extent) → AllByRecursion (λ x. (zone_at j (zone_of i.geometry x.start)).blocks ≡ (zone_at i (zone_of i.geometry x.start)).blocks) xs → bytes_of j xs ≡ bytes_of i xs
  all_bytes [] h = refl
  all_bytes (x ∷ xs) h = ap (λ bs. bs ++ bytes_of j xs) (same_bytes x h.0) ∙ ap (λ bs. extent_bytes i x ++ bs) (all_bytes xs h.1)

  -- the first of two lists, and the second
  both_parts : (P : Extent → Type 0) (xs ys : List Extent) → AllByRecursion P (xs ++ ys) → AllByRecursion P xs × AllByRecursion P ys
  both_parts P [] ys h = (tt, h)
  both_parts P (x ∷ xs) ys h = let rest = both_parts P xs ys h.1 in ((h.0, rest.0), rest.1)

  -- so a table is the same tree
  same_tree : (es : Table) → AllByRecursion (λ x. (zone_at j (zone_of i.geometry x.start)).blocks ≡ (zone_at i (zone_of i.geometry x.start)).blocks) (all_extents es)
      → tree_of j es ≡ tree_of i es
  same_tree [] h = refl
  same_tree (e ∷ es) h =
      let parts = both_parts (λ x. (zone_at j (zone_of i.geometry x.start)).blocks ≡ (zone_at i (zone_of i.geometry x.start)).blocks) e.extents (all_extents es) h in
      ap (λ bs. record { id = e.id; names = e.names; bytes = bs; hint = e.hint; time = e.time; sparse = e.sparse } ∷ tree_of j es) (all_bytes e.extents parts.0)
      ∙ ap (λ files. file_in i e ∷ files) (same_tree es parts.1)

-- where a zone is kept that holds an extent
blocks_each : (i j : Image) (held : Table) → ((n : ℕ) → 3 ≤ n → is_free i.geometry held n ≡ false → (zone_at j n).blocks ≡ (zone_at i n).blocks)
    → (xs : List Extent) → AllByRecursion (LiesIn i.geometry held) xs → AllByRecursion (λ x. (zone_at j (zone_of i.geometry x.start)).blocks ≡ (zone_at i (zone_of i.geometry x.start)).blocks) xs
blocks_each i j held kept [] lie = tt
blocks_each i j held kept (x ∷ xs) lie = (kept (zone_of i.geometry x.start) lie.0.behind lie.0.held, blocks_each i j held kept xs lie.1)

-- what is recorded has the same bytes
pub bytes_still : (i j : Image) (infos : List ZoneInfo) (es held : Table) → j.geometry ≡ i.geometry → All (IsWrittenExtent i.geometry infos) (all_extents held) → all_extents es ≡ all_extents held
    → ((n : ℕ) → 3 ≤ n → is_free i.geometry held n ≡ false → (zone_at j n).blocks ≡ (zone_at i n).blocks) → tree_of j es ≡ tree_of i es
bytes_still i j infos es held shape written same kept =
    same_tree i j shape es
    (subst (AllByRecursion (λ x. (zone_at j (zone_of i.geometry x.start)).blocks ≡ (zone_at i (zone_of i.geometry x.start)).blocks)) (sym same)
    (blocks_each i j held kept (all_extents held) (table_lies i.geometry infos held written)))

-- the extents of a state in which nothing is recorded besides are written still
pub held_after : (s t : FsState) (infos new : List ZoneInfo) → All (IsWrittenExtent s.geometry infos) (all_extents (recorded s)) → t.geometry ≡ s.geometry
    → all_extents (recorded t) ≡ all_extents (recorded s)
    → ((n : ℕ) → 3 ≤ n → is_free s.geometry (recorded s) n ≡ false → (info_at new n).written ≡ (info_at infos n).written)
    → All (IsWrittenExtent t.geometry new) (all_extents (recorded t))
held_after s t infos new written shape same kept =
    subst (λ g. All (IsWrittenExtent g new) (all_extents (recorded t))) (sym shape)
    (subst (All (IsWrittenExtent s.geometry new)) (sym same) (written_still s.geometry infos new (recorded s) written kept))
