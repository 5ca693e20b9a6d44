-- The zones after the steps of a roll.
use Rattle.std.proofs.Common.{◌≡◌, ◌≢◌, ℕ, zero, suc, ◌+◌, ◌<◌, ◌⊎◌, inl, inr, ⊎_elim, Bool, true, false, not, ◌&&◌, ◌||◌, ◌==◌, cond, List, [], ◌∷◌, ◌++◌, length, map, drop, ltb, refl, sym, ◌∙◌, ap, subst, arith}
use Rattle.std.proofs.lemmas.Bool.{cases_eq, ne_eqb}
use Rattle.std.proofs.lemmas.List.Sums.{sum_by-cons}
use Rattle.zone_image.specs.declared.Geometry.{Geometry}
use Rattle.zone_image.specs.declared.ZoneInfo.{ZoneInfo}
use Rattle.zone_image.specs.Image.{Zone, Image, no_zone, zone_at}
use Rattle.zone_image.specs.Changes.{change_at, zone_synced, appended, finished, emptied, synced}
use Rattle.zone_image.specs.Infos.{no_info, info_of, info_at, is_active_info, active_zones, info_appended, info_finished, infos_appended, infos_emptied, infos_finished}
use Rattle.zone_image.proofs.ImageLaws.{length-change_at}
use Rattle.log_roll.specs.NewLog.{begun, infos_begun}
use Rattle.log_roll.specs.Resets.{emptied_two, infos_emptied_two}
use Rattle.log_roll.specs.Rolling.{next_zone, third_zone, gets_end, end_blocks, infos_old_closed, old_closed, rolled_image, rolled_infos}
use Rattle.log_roll.proofs.Blanking.{put_here, stays_put}
use Rattle.log_roll.proofs.Formatted.{begun_zone}
use Rattle.log_roll.proofs.ZoneChanges.{changed_item, other_item}

-- the zones behind the first ones stay where one of these changes
pub drop_changed : {A : Type 0} (k n : ℕ) (f : A → A) (xs : List A) → n < k → drop k (change_at n f xs) ≡ drop k xs
drop_changed zero n f xs less = absurd (omega arith)
drop_changed (suc k) n f [] less = refl
drop_changed (suc k) zero f (x ∷ xs) less = refl
drop_changed (suc k) (suc n) f (x ∷ xs) less = drop_changed k n f xs (omega arith)

-- a metadata zone is this one, or one of the two behind it
pub other_two : (zone m : ℕ) → zone < 3 → m < 3 → m ≢ zone → (m ≡ next_zone zone) ⊎ (m ≡ third_zone zone)
other_two zero zero z l other = absurd (other refl)
other_two zero (suc zero) z l other = inl refl
other_two zero (suc (suc zero)) z l other = inr refl
other_two (suc zero) zero z l other = inr refl
other_two (suc zero) (suc zero) z l other = absurd (other refl)
other_two (suc zero) (suc (suc zero)) z l other = inl refl
other_two (suc (suc zero)) zero z l other = inl refl
other_two (suc (suc zero)) (suc zero) z l other = inr refl
other_two (suc (suc zero)) (suc (suc zero)) z l other = absurd (other refl)
other_two (suc (suc (suc n))) m z l other = absurd (omega arith)
other_two zone (suc (suc (suc n))) z l other = absurd (omega arith)

-- the two behind a metadata zone are others
pub next_is_other : (zone : ℕ) → zone < 3 → (next_zone zone ≢ zone) × (third_zone zone ≢ zone) × (next_zone zone < 3) × (third_zone zone < 3)
next_is_other zero z = (λ e. cc, λ e. cc, omega arith, omega arith)
next_is_other (suc zero) z = (λ e. cc, λ e. cc, omega arith, omega arith)
next_is_other (suc (suc zero)) z = (λ e. cc, λ e. cc, omega arith, omega arith)
next_is_other (suc (suc (suc n))) z = absurd (omega arith)

-- where no metadata zone is active, the data zones are those that are
pub active_of_data : (infos : List ZoneInfo) → 2 < length infos → ((m : ℕ) → m < 3 → is_active_info (info_at infos m) ≡ false) → active_zones infos ≡ active_zones (drop 3 infos)
active_of_data [] long none = absurd (omega arith)
active_of_data (a ∷ []) long none = absurd (omega arith)
active_of_data (a ∷ b ∷ []) long none = absurd (omega arith)
active_of_data (a ∷ b ∷ c ∷ rest) long none =
    let f : ZoneInfo → ℕ = λ x. cond (is_active_info x) 1 0 in
    let one : f a ≡ 0 = ap (λ t. cond t 1 0) (none 0 (omega arith)) in
    let two : f b ≡ 0 = ap (λ t. cond t 1 0) (none 1 (omega arith)) in
    let three : f c ≡ 0 = ap (λ t. cond t 1 0) (none 2 (omega arith)) in
    omega (arith, sum_by-cons f a (b ∷ c ∷ rest), sum_by-cons f b (c ∷ rest), sum_by-cons f c rest, one, two, three)

-- the two zones are empty
two_empty : (infos : List ZoneInfo) (a b m : ℕ) → (m ≡ a) ⊎ (m ≡ b) → info_at (infos_emptied_two infos a b) m ≡ no_info
two_empty infos a b m which = ⊎_elim
    (λ first. stays_put b m no_info (infos_emptied infos a) (ap (λ k. info_at (infos_emptied infos a) k) first ∙ put_here a no_info infos))
    (λ second. ap (λ k. info_at (infos_emptied_two infos a b) k) second ∙ put_here b no_info (infos_emptied infos a))
    which

-- an empty zone isn't active
no_blocks : (b : Bool) → (b && false) ≡ false
no_blocks true = refl
no_blocks false = refl

inactive_at : (info : ZoneInfo) → info.written ≡ 0 → is_active_info info ≡ false
inactive_at info none = ap (λ n. not info.sealed && ltb 0 n) none ∙ no_blocks (not info.sealed)

-- before the old log is closed, at most its zone is active beside the data zones
pub active_started : (infos : List ZoneInfo) (zone limit : ℕ) → zone < 3 → 2 < length (infos_emptied_two infos (next_zone zone) (third_zone zone)) → active_zones (drop 3 infos) < limit
    → (info_at (infos_emptied_two infos (next_zone zone) (third_zone zone)) zone).written ≡ 0 → active_zones (infos_emptied_two infos (next_zone zone) (third_zone zone)) < limit
active_started infos zone limit below long less none =
    let other = next_is_other zone below in
    let all : List ZoneInfo = infos_emptied_two infos (next_zone zone) (third_zone zone) in
    let data_zones : drop 3 all ≡ drop 3 infos =
    drop_changed 3 (third_zone zone) (λ _. no_info) (infos_emptied infos (next_zone zone)) other.3 ∙ drop_changed 3 (next_zone zone) (λ _. no_info) infos other.2 in
    let count = active_of_data all long
    (λ m metadata. ⊎_elim
    (λ same. ap (λ k. is_active_info (info_at all k)) same ∙ inactive_at (info_at all zone) none)
    (λ differs. ap is_active_info (two_empty infos (next_zone zone) (third_zone zone) m (other_two zone m below metadata differs)))
    (cases_eq m zone)) in
    subst (λ n. n < limit) (sym (count ∙ ap active_zones data_zones)) less

-- another zone than the log's
ended_elsewhere : (t : Bool) (g : Geometry) (infos : List ZoneInfo) (zone m : ℕ) → m ≢ zone
    → info_at (infos_finished (cond t (infos_appended g infos zone 1) infos) zone) m ≡ info_at infos m
ended_elsewhere true g infos zone m differs =
    other_item zone m info_finished (infos_appended g infos zone 1) no_info differs ∙ other_item zone m (info_appended g.capacity 1) infos no_info differs
ended_elsewhere false g infos zone m differs = other_item zone m info_finished infos no_info differs

-- the data zones don't change
ended_data : (t : Bool) (g : Geometry) (infos : List ZoneInfo) (zone : ℕ) → zone < 3 → drop 3 (infos_finished (cond t (infos_appended g infos zone 1) infos) zone) ≡ drop 3 infos
ended_data true g infos zone below =
    drop_changed 3 zone info_finished (infos_appended g infos zone 1) below ∙ drop_changed 3 zone (info_appended g.capacity 1) infos below
ended_data false g infos zone below = drop_changed 3 zone info_finished infos below

-- the log's own zone is sealed
ended_here : (t : Bool) (g : Geometry) (infos : List ZoneInfo) (zone : ℕ) → zone < length (infos_finished (cond t (infos_appended g infos zone 1) infos) zone)
    → is_active_info (info_at (infos_finished (cond t (infos_appended g infos zone 1) infos) zone) zone) ≡ false
ended_here t g infos zone there =
    let old : List ZoneInfo = cond t (infos_appended g infos zone 1) infos in
    ap is_active_info (changed_item zone info_finished old no_info (subst (λ n. zone < n) (length-change_at zone info_finished old) there))

-- when the old log is closed, the zone behind it is empty, and only data zones are active
pub next_empty : (g : Geometry) (can_end : Bool) (infos : List ZoneInfo) (zone : ℕ) → zone < 3 → info_at (infos_old_closed g can_end zone infos) (next_zone zone) ≡ no_info
next_empty g can_end infos zone below =
    let other = next_is_other zone below in
    let all : List ZoneInfo = infos_emptied_two infos (next_zone zone) (third_zone zone) in
    ended_elsewhere (gets_end g.capacity can_end (info_at all zone)) g all zone (next_zone zone) other.0 ∙ two_empty infos (next_zone zone) (third_zone zone) (next_zone zone) (inl refl)

pub active_closed : (g : Geometry) (can_end : Bool) (infos : List ZoneInfo) (zone limit : ℕ) → zone < 3 → 2 < length (infos_old_closed g can_end zone infos) → active_zones (drop 3 infos) < limit
    → active_zones (infos_old_closed g can_end zone infos) < limit
active_closed g can_end infos zone limit below long less =
    let other = next_is_other zone below in
    let all : List ZoneInfo = infos_emptied_two infos (next_zone zone) (third_zone zone) in
    let t : Bool = gets_end g.capacity can_end (info_at all zone) in
    let end : List ZoneInfo = infos_old_closed g can_end zone infos in
    let data_zones : drop 3 end ≡ drop 3 infos =
    ended_data t g all zone below
    ∙ (drop_changed 3 (third_zone zone) (λ _. no_info) (infos_emptied infos (next_zone zone)) other.3 ∙ drop_changed 3 (next_zone zone) (λ _. no_info) infos other.2) in
    let count = active_of_data end long
    (λ m metadata. ⊎_elim
    (λ same. ap (λ k. is_active_info (info_at end k)) same ∙ ended_here t g all zone (omega (arith, long, below)))
    (λ differs. ap is_active_info (ended_elsewhere t g all zone m differs ∙ two_empty infos (next_zone zone) (third_zone zone) m (other_two zone m below metadata differs)))
    (cases_eq m zone)) in
    subst (λ n. n < limit) (sym (count ∙ ap active_zones data_zones)) less

-- the number and the seal of a zone that was empty after two appends that don't fill it
begun_number : (capacity first second : ℕ) → first + second < capacity → info_appended capacity second (info_appended capacity first no_info) ≡ record { written = first + second; sealed = false }
begun_number capacity first second less =
    let part : (0 + first == capacity) ≡ false = ne_eqb (0 + first) capacity (λ e. absurd (omega (arith, less, e))) in
    let whole : (0 + first + second == capacity) ≡ false = ne_eqb (0 + first + second) capacity (λ e. absurd (omega (arith, less, e))) in
    let seal : ((false || (0 + first == capacity)) || (0 + first + second == capacity)) ≡ false = ap (λ b. (false || b) || (0 + first + second == capacity)) part ∙ whole in
    let sum : 0 + first + second ≡ first + second = omega arith in
    λ k. record { written = sum k; sealed = seal k }

-- the numbers and seals after a roll, whether or not the old log got an end record
infos_rolled_as : (t : Bool) (g : Geometry) (infos : List ZoneInfo) (zone first second : ℕ) → zone < 3 → 2 < length infos → first + second < g.capacity
    → infos_emptied (infos_begun g (infos_finished (cond t (infos_appended g (infos_emptied_two infos (next_zone zone) (third_zone zone)) zone 1) (infos_emptied_two infos (next_zone zone) (third_zone zone))) zone) (next_zone zone) first second) zone
    ≡ rolled_infos infos (next_zone zone) (first + second)
infos_rolled_as t g [] zone first second below long less = absurd (omega arith)
infos_rolled_as t g (a ∷ []) zone first second below long less = absurd (omega arith)
infos_rolled_as t g (a ∷ b ∷ []) zone first second below long less = absurd (omega arith)
infos_rolled_as true g (a ∷ b ∷ c ∷ rest) zero first second below long less = λ k. no_info ∷ begun_number g.capacity first second less k ∷ no_info ∷ rest
infos_rolled_as false g (a ∷ b ∷ c ∷ rest) zero first second below long less = λ k. no_info ∷ begun_number g.capacity first second less k ∷ no_info ∷ rest
infos_rolled_as true g (a ∷ b ∷ c ∷ rest) (suc zero) first second below long less = λ k. no_info ∷ no_info ∷ begun_number g.capacity first second less k ∷ rest
infos_rolled_as false g (a ∷ b ∷ c ∷ rest) (suc zero) first second below long less = λ k. no_info ∷ no_info ∷ begun_number g.capacity first second less k ∷ rest
infos_rolled_as true g (a ∷ b ∷ c ∷ rest) (suc (suc zero)) first second below long less = λ k. begun_number g.capacity first second less k ∷ no_info ∷ no_info ∷ rest
infos_rolled_as false g (a ∷ b ∷ c ∷ rest) (suc (suc zero)) first second below long less = λ k. begun_number g.capacity first second less k ∷ no_info ∷ no_info ∷ rest
infos_rolled_as t g (a ∷ b ∷ c ∷ rest) (suc (suc (suc n))) first second below long less = absurd (omega arith)

pub infos_rolled : (g : Geometry) (can_end : Bool) (infos : List ZoneInfo) (zone first second : ℕ) → zone < 3 → 2 < length infos → first + second < g.capacity
    → infos_emptied (infos_begun g (infos_old_closed g can_end zone infos) (next_zone zone) first second) zone ≡ rolled_infos infos (next_zone zone) (first + second)
infos_rolled g can_end infos zone first second below long less =
    infos_rolled_as (gets_end g.capacity can_end (info_at (infos_emptied_two infos (next_zone zone) (third_zone zone)) zone)) g infos zone first second below long less

-- zones that are synced twice
synced_twice : (zs : List Zone) → map zone_synced (map zone_synced zs) ≡ map zone_synced zs
synced_twice [] = refl
synced_twice (z ∷ zs) = ap (λ ys. zone_synced z ∷ ys) (synced_twice zs)

-- the image after a roll, whether or not the old log got an end record
image_rolled_as : (t : Bool) (g : Geometry) (zs : List Zone) (zone : ℕ) (last first second : List (List ℕ)) → zone < 3 → 2 < length zs → length first + length second < g.capacity
    → (let i : Image = emptied_two (synced (record { geometry = g; zones = zs })) (next_zone zone) (third_zone zone) in
    emptied (synced (begun (next_zone zone) first second (finished (cond t (appended i zone last) i) zone))) zone)
    ≡ rolled_image (record { geometry = g; zones = zs }) (next_zone zone) (first ++ second)
image_rolled_as t g [] zone last first second below long less = absurd (omega arith)
image_rolled_as t g (a ∷ []) zone last first second below long less = absurd (omega arith)
image_rolled_as t g (a ∷ b ∷ []) zone last first second below long less = absurd (omega arith)
image_rolled_as true g (a ∷ b ∷ c ∷ rest) zero last first second below long less =
    λ k. record { geometry = g; zones = no_zone ∷ begun_zone g.capacity first second less k ∷ no_zone ∷ synced_twice rest k }
image_rolled_as false g (a ∷ b ∷ c ∷ rest) zero last first second below long less =
    λ k. record { geometry = g; zones = no_zone ∷ begun_zone g.capacity first second less k ∷ no_zone ∷ synced_twice rest k }
image_rolled_as true g (a ∷ b ∷ c ∷ rest) (suc zero) last first second below long less =
    λ k. record { geometry = g; zones = no_zone ∷ no_zone ∷ begun_zone g.capacity first second less k ∷ synced_twice rest k }
image_rolled_as false g (a ∷ b ∷ c ∷ rest) (suc zero) last first second below long less =
    λ k. record { geometry = g; zones = no_zone ∷ no_zone ∷ begun_zone g.capacity first second less k ∷ synced_twice rest k }
image_rolled_as true g (a ∷ b ∷ c ∷ rest) (suc (suc zero)) last first second below long less =
    λ k. record { geometry = g; zones = begun_zone g.capacity first second less k ∷ no_zone ∷ no_zone ∷ synced_twice rest k }
image_rolled_as false g (a ∷ b ∷ c ∷ rest) (suc (suc zero)) last first second below long less =
    λ k. record { geometry = g; zones = begun_zone g.capacity first second less k ∷ no_zone ∷ no_zone ∷ synced_twice rest k }
image_rolled_as t g (a ∷ b ∷ c ∷ rest) (suc (suc (suc n))) last first second below long less = absurd (omega arith)

pub image_rolled : (i : Image) (can_end : Bool) (zone : ℕ) (first second : List (List ℕ)) → zone < 3 → 2 < length i.zones → length first + length second < i.geometry.capacity
    → emptied (synced (begun (next_zone zone) first second (old_closed can_end zone i))) zone ≡ rolled_image i (next_zone zone) (first ++ second)
image_rolled i can_end zone first second below long less =
    image_rolled_as (gets_end i.geometry.capacity can_end (info_of (zone_at (emptied_two (synced i) (next_zone zone) (third_zone zone)) zone))) i.geometry i.zones zone (end_blocks i.geometry.block) first second below long less
