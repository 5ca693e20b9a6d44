-- One zone of a state changed: the tables with the same change have that state.
use Rattle.std.proofs.Common.{◌≡◌, ℕ, zero, suc, ◌+◌, true, false, List, [], ◌∷◌, length, map, refl, sym, ◌∙◌, ap, subst}
use Rattle.std.specs.List.{All, enumerate_from}
use Rattle.std.proofs.lemmas.List.Elements.{All-nil, All-cons, All-head, All-tail}
use Rattle.zone_image.specs.declared.Geometry.{Geometry}
use Rattle.zone_image.specs.Changes.{change_at}
use Rattle.log_model.specs.declared.selection.Chosen.{Chosen}
use Rattle.fs_model.specs.declared.zones.Owner.TheVariants.{Idle}
use Rattle.fs_model.specs.declared.zones.ZoneState.{ZoneState}
use Rattle.fs_model.specs.FsState.{FsState, ZoneDescriptor, on_descriptor, state_of, zone_states}
use Rattle.fs_model.specs.LogSteps.{after_append}
use Rattle.zone_alloc.specs.Descriptors.{descriptor_of}
use Rattle.zone_alloc.specs.ZoneTableState.{ZoneTableState, with_state, state_appended, state_finished, state_emptied, with_hint}
use Rattle.extent_map.specs.TableState.{TableState}
use Rattle.fs_tables.specs.MountedTables.{AreMounted, state_from}

-- the same is done to a zone with its live counts and to one without, and its owner stays
pub record IsSameChange (f : ZoneState → ZoneState) (h : ZoneDescriptor → ZoneDescriptor) : Type 0 where
  pub counts : (s : FsState) (n : ℕ) (z : ZoneDescriptor) → f (state_of s (n, z)) ≡ state_of s (n, h z)
  pub described : (z : ZoneState) → descriptor_of (f z) ≡ h (descriptor_of z)
  pub owner : (z : ZoneDescriptor) → (h z).owner ≡ z.owner

-- descriptors of zones of which one changed
pub descriptors_changed : (f : ZoneState → ZoneState) (h : ZoneDescriptor → ZoneDescriptor) → IsSameChange f h → (n : ℕ) (zs : List ZoneState)
    → map descriptor_of (change_at n f zs) ≡ on_descriptor n h (map descriptor_of zs)
descriptors_changed f h same n [] = refl
descriptors_changed f h same zero (z ∷ zs) = ap (λ d. d ∷ map descriptor_of zs) (same.described z)
descriptors_changed f h same (suc n) (z ∷ zs) = ap (λ l. descriptor_of z ∷ l) (descriptors_changed f h same n zs)

-- the live counts of zones of which one changed, numbered from their first one
states_changed : (f : ZoneState → ZoneState) (h : ZoneDescriptor → ZoneDescriptor) → IsSameChange f h → (s : FsState) (n i : ℕ) (zs : List ZoneDescriptor)
    → map (state_of s) (enumerate_from i (on_descriptor n h zs)) ≡ change_at n f (map (state_of s) (enumerate_from i zs))
states_changed f h same s n i [] = refl
states_changed f h same s zero i (z ∷ zs) = ap (λ l. l ∷ map (state_of s) (enumerate_from (i + 1) zs)) (sym (same.counts s i z))
states_changed f h same s (suc n) i (z ∷ zs) = ap (λ l. state_of s (i, z) ∷ l) (states_changed f h same s n (i + 1) zs)

-- where one zone of a state changes, it alone changes as the policy sees it
pub zone_states_changed : (f : ZoneState → ZoneState) (h : ZoneDescriptor → ZoneDescriptor) → IsSameChange f h → (s : FsState) (n : ℕ)
    → zone_states (record s { zones = on_descriptor n h s.zones }) ≡ change_at n f (zone_states s)
zone_states_changed f h same s n = states_changed f h same s n 0 s.zones

-- there are as many zones as before
length-on_descriptor : (n : ℕ) (h : ZoneDescriptor → ZoneDescriptor) (zs : List ZoneDescriptor) → length (on_descriptor n h zs) ≡ length zs
length-on_descriptor n h [] = refl
length-on_descriptor zero h (z ∷ zs) = refl
length-on_descriptor (suc n) h (z ∷ zs) = ap suc (length-on_descriptor n h zs)

-- all zones stay idle
all_idle : (n : ℕ) (h : ZoneDescriptor → ZoneDescriptor) → ((z : ZoneDescriptor) → (h z).owner ≡ z.owner) → (zs : List ZoneDescriptor)
    → All (λ z. z.owner ≡ Idle) zs → All (λ z. z.owner ≡ Idle) (on_descriptor n h zs)
all_idle n h same [] all = All-nil (λ z. z.owner ≡ Idle)
all_idle zero h same (z ∷ zs) all =
    All-cons (λ y. y.owner ≡ Idle) (h z) zs (same z ∙ All-head (λ y. y.owner ≡ Idle) z zs all) (All-tail (λ y. y.owner ≡ Idle) z zs all)
all_idle (suc n) h same (z ∷ zs) all =
    All-cons (λ y. y.owner ≡ Idle) z (on_descriptor n h zs) (All-head (λ y. y.owner ≡ Idle) z zs all) (all_idle n h same zs (All-tail (λ y. y.owner ≡ Idle) z zs all))

-- the state of tables of which one zone changed
pub state_changed : (f : ZoneState → ZoneState) (h : ZoneDescriptor → ZoneDescriptor) → IsSameChange f h → (g : Geometry) (log : Chosen) (files : TableState) (t : ZoneTableState) (n : ℕ)
    → state_from g log files (with_state t n f) ≡ record (state_from g log files t) { zones = on_descriptor n h (state_from g log files t).zones }
state_changed f h same g log files t n =
    ap (λ zs. record (state_from g log files t) { zones = zs }) (descriptors_changed f h same n t.zones)

-- these tables are sound
pub mounted_changed : (f : ZoneState → ZoneState) (h : ZoneDescriptor → ZoneDescriptor) → IsSameChange f h → (g : Geometry) (log : Chosen) (files : TableState) (t : ZoneTableState) (n : ℕ)
    → AreMounted g log files t → AreMounted g log files (with_state t n f)
mounted_changed f h same g log files t n are =
    let s = state_from g log files t in
    let described = descriptors_changed f h same n t.zones in
    record {
      sound = record {
        valid = are.sound.valid;
        count = ap length described ∙ length-on_descriptor n h s.zones ∙ are.sound.count;
        settled = are.sound.settled;
        writable = are.sound.writable;
        lie = are.sound.lie;
        idle = subst (λ zs. All (λ z. z.owner ≡ Idle) zs) (sym described) (all_idle n h same.owner s.zones are.sound.idle);
        log_zone = are.sound.log_zone;
        flags = are.sound.flags;
        short = are.sound.short;
      };
      counted =
          ap (change_at n f) are.counted ∙ sym (zone_states_changed f h same s n)
          ∙ ap (λ zs. zone_states (record s { zones = zs })) (sym described);
      same_geometry = are.same_geometry;
      same_collect = are.same_collect;
    }

-- ---- the changes

-- blocks are appended
pub appended_is_same : (capacity blocks : ℕ) → IsSameChange (state_appended capacity blocks) (after_append capacity blocks)
appended_is_same capacity blocks = record { counts = λ s n z. refl; described = λ z. refl; owner = λ z. refl }

-- a zone is sealed
pub finished_is_same : IsSameChange state_finished (λ z. record z { info = record { written = z.info.written; sealed = true } })
finished_is_same = record { counts = λ s n z. refl; described = λ z. refl; owner = λ z. refl }

-- a zone is emptied
pub emptied_is_same : IsSameChange state_emptied (λ z. record z { info = record { written = 0; sealed = false } })
emptied_is_same = record { counts = λ s n z. refl; described = λ z. refl; owner = λ z. refl }

-- a zone gets another hint
pub hint_is_same : (hint : ℕ) → IsSameChange (with_hint hint) (λ z. record z { hint = hint })
hint_is_same hint = record { counts = λ s n z. refl; described = λ z. refl; owner = λ z. refl }

-- ---- tables of which one zone was changed

-- they have the state after the step
pub step_state : (f : ZoneState → ZoneState) (h : ZoneDescriptor → ZoneDescriptor) → IsSameChange f h → (g : Geometry) (log : Chosen) (files : TableState) (t u : ZoneTableState) (n : ℕ) (s : FsState)
    → u ≡ with_state t n f → state_from g log files t ≡ s → state_from g log files u ≡ record s { zones = on_descriptor n h s.zones }
step_state f h same g log files t u n s made is =
    ap (state_from g log files) made ∙ state_changed f h same g log files t n ∙ ap (λ (r : FsState). record r { zones = on_descriptor n h r.zones }) is

-- and are sound
pub step_mounted : (f : ZoneState → ZoneState) (h : ZoneDescriptor → ZoneDescriptor) → IsSameChange f h → (g : Geometry) (log : Chosen) (files : TableState) (t u : ZoneTableState) (n : ℕ)
    → u ≡ with_state t n f → AreMounted g log files t → AreMounted g log files u
step_mounted f h same g log files t u n made are = subst (AreMounted g log files) (sym made) (mounted_changed f h same g log files t n are)
