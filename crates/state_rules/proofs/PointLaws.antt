-- What the rules of recovery points give to an append, and that an append and a finish keep them.
use Rattle.std.specs.Prelude.{◌≡◌, ◌≢◌, ℕ, zero, suc, ◌*◌, ◌≤◌, List, [], ◌∷◌, refl, ◌==◌}
use Rattle.std.proofs.Common.{◌∙◌, ap, sym, subst, arith}
use Rattle.std.proofs.Math.Nat.{mul-le-mul_right}
use Rattle.std.proofs.lemmas.Bool.{ne_eqb}
use Rattle.std.specs.List.{AllByRecursion}
use Rattle.zone_image.specs.declared.Geometry.{Geometry}
use Rattle.zone_image.specs.Image.{zone_of}
use Rattle.record_model.specs.declared.types.FileEntry.{FileEntry}
use Rattle.log_model.specs.FileTable.{Table}
use Rattle.log_model.specs.Frames.{no_active}
use Rattle.fs_model.specs.declared.zones.Owner.{Owner}
use Rattle.fs_model.specs.declared.zones.Owner.TheVariants.{Writer, Collector}
use Rattle.fs_model.specs.FsState.{TableRow, ZoneDescriptor, descriptor_in, on_descriptor, recorded}
use Rattle.fs_model.specs.LogSteps.{after_append}
use Rattle.change_records.specs.Recorded.{entries}
use Rattle.change_records.proofs.EntryLaws.{all_rows, only_row}
use Rattle.crash_cover.specs.SameData.{RecoversElsewhere}
use Rattle.state_rules.specs.Rules.{owner_in}
use Rattle.state_rules.specs.Unbroken.{PointLies}
use Rattle.state_rules.specs.Points.{WriterGivesNoPoint, CollectorGivesNoPoint, PointIsAlone, AppendKeepsPoints, FinishKeepsPoints}
use Rattle.state_rules.proofs.OwnerLaws.{owners_stay}
use Rattle.state_rules.proofs.RowChanges.{at_row}

-- the file of a writer's zone
number : Owner → ℕ
number (Writer n) = n
number _ = 0

-- a file whose point lies in a zone is its writer's
is_writers : (g : Geometry) (zones : List ZoneDescriptor) (all : Table) (e : FileEntry) (zone id : ℕ) → PointLies g zones all e → owner_in zones zone ≡ Writer id → zone_of g e.active ≡ zone → e.id ≡ id
unfolding number
is_writers g zones all e zone id it owner same = ap number (sym it.owner ∙ ap (owner_in zones) same ∙ owner)

collector_other : (id : ℕ) → Writer id ≢ Collector
collector_other id same = cc

none_of_writer : (g : Geometry) (zones : List ZoneDescriptor) (all es : Table) (zone id : ℕ) → owner_in zones zone ≡ Writer id
    → AllByRecursion (λ e. e.active ≢ no_active → PointLies g zones all e) es → AllByRecursion (λ e. e.id ≡ id → e.active ≡ no_active) es
    → AllByRecursion (RecoversElsewhere (λ n. n == zone) g) es
none_of_writer g zones all [] zone id owner points none = tt
none_of_writer g zones all (e ∷ es) zone id owner points none = (
  (λ set. ne_eqb (zone_of g e.active) zone (λ same. set (none.0 (is_writers g zones all e zone id (points.0 set) owner same)))),
  none_of_writer g zones all es zone id owner points.1 none.1,
)

pub writer_gives_no_point : WriterGivesNoPoint
writer_gives_no_point i s zone id same points owner none =
    subst (λ g. AllByRecursion (RecoversElsewhere (λ n. n == zone) g) (recorded s)) (sym same)
    (none_of_writer s.geometry s.zones (recorded s) (recorded s) zone id owner points none)

none_of_collector : (g : Geometry) (zones : List ZoneDescriptor) (all es : Table) (zone : ℕ) → owner_in zones zone ≡ Collector
    → AllByRecursion (λ e. e.active ≢ no_active → PointLies g zones all e) es → AllByRecursion (RecoversElsewhere (λ n. n == zone) g) es
none_of_collector g zones all [] zone owner points = tt
none_of_collector g zones all (e ∷ es) zone owner points = (
  (λ set. ne_eqb (zone_of g e.active) zone (λ same. collector_other e.id (sym (points.0 set).owner ∙ ap (owner_in zones) same ∙ owner))),
  none_of_collector g zones all es zone owner points.1,
)

pub collector_gives_no_point : CollectorGivesNoPoint
collector_gives_no_point i s zone same points owner =
    subst (λ g. AllByRecursion (RecoversElsewhere (λ n. n == zone) g) (recorded s)) (sym same)
    (none_of_collector s.geometry s.zones (recorded s) (recorded s) zone owner points)

-- ---- a file with a point

own_point : (id : ℕ) (r : TableRow) (rows : List TableRow) → AllByRecursion (λ q. q.entry.id ≡ id → q ≡ r) rows → AllByRecursion (λ f. f.id ≡ id → f.active ≡ r.entry.active) (entries rows)
own_point id r [] only = tt
own_point id r (q ∷ qs) only = ((λ at. ap (λ (p : TableRow). p.entry.active) (only.0 at)), own_point id r qs only.1)

others_away : (g : Geometry) (zones : List ZoneDescriptor) (all es : Table) (zone id : ℕ) → owner_in zones zone ≡ Writer id
    → AllByRecursion (λ e. e.active ≢ no_active → PointLies g zones all e) es → AllByRecursion (λ e. e.id ≢ id → RecoversElsewhere (λ n. n == zone) g e) es
others_away g zones all [] zone id owner points = tt
others_away g zones all (e ∷ es) zone id owner points = (
  (λ other set. ne_eqb (zone_of g e.active) zone (λ same. other (is_writers g zones all e zone id (points.0 set) owner same))),
  others_away g zones all es zone id owner points.1,
)

pub point_is_alone : PointIsAlone
point_is_alone s r rules points is set =
    let id = r.entry.id in
    let g = s.geometry in
    let es = recorded s in
    let only = only_row 0 id s.rows r rules.valid.table.ids is in
    let each = all_rows (λ e. e.active ≢ no_active → PointLies g s.zones es e) (λ q. q.entry.active ≢ no_active → PointLies g s.zones es q.entry) s.rows (λ q p. p) points in
    let it : PointLies g s.zones es r.entry = at_row (λ q. q.entry.active ≢ no_active → PointLies g s.zones es q.entry) id s.rows r each is set in
    record {
      here = refl;
      own = own_point id r s.rows only;
      others = others_away g s.zones es es (zone_of g r.entry.active) id it.owner points;
      before = it.behind;
    }

-- ---- steps that keep the points

-- no zone has fewer blocks
written_grows : (n m : ℕ) (f : ZoneDescriptor → ZoneDescriptor) (zs : List ZoneDescriptor) → ((z : ZoneDescriptor) → z.info.written ≤ (f z).info.written)
    → (descriptor_in zs m).info.written ≤ (descriptor_in (on_descriptor n f zs) m).info.written
written_grows n m f [] grows = omega arith
written_grows zero zero f (z ∷ zs) grows = grows z
written_grows zero (suc m) f (z ∷ zs) grows = omega arith
written_grows (suc n) zero f (z ∷ zs) grows = omega arith
written_grows (suc n) (suc m) f (z ∷ zs) grows = written_grows n m f zs grows

pub points_stay : (g : Geometry) (zones : List ZoneDescriptor) (all es : Table) (zone : ℕ) (f : ZoneDescriptor → ZoneDescriptor) → ((z : ZoneDescriptor) → (f z).owner ≡ z.owner)
    → ((z : ZoneDescriptor) → z.info.written ≤ (f z).info.written) → AllByRecursion (λ e. e.active ≢ no_active → PointLies g zones all e) es
    → AllByRecursion (λ e. e.active ≢ no_active → PointLies g (on_descriptor zone f zones) all e) es
points_stay g zones all [] zone f same grows h = tt
points_stay g zones all (e ∷ es) zone f same grows h = (
  (λ set.
      let it = h.0 set in
      let n = zone_of g e.active in
      let more : (descriptor_in zones n).info.written * g.block ≤ (descriptor_in (on_descriptor zone f zones) n).info.written * g.block = mul-le-mul_right g.block (written_grows zone n f zones grows) in
      record {
        owner = owners_stay zone n f zones same ∙ it.owner;
        whole = it.whole;
        behind = it.behind;
        within = let end = it.within in omega (arith, end, more);
      }),
  points_stay g zones all es zone f same grows h.1,
)

pub append_keeps_points : AppendKeepsPoints
append_keeps_points s es zone count h =
    points_stay s.geometry s.zones es es zone (after_append s.geometry.capacity count) (λ z. refl) (λ z. omega arith) h

pub finish_keeps_points : FinishKeepsPoints
finish_keeps_points s es zone h = points_stay s.geometry s.zones es es zone _ (λ z. refl) (λ z. omega arith) h
