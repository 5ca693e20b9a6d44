-- A data zone may grow and be finished while a mount writes.
use Rattle.std.specs.Prelude.{◌≡◌, ◌≢◌, ℕ, zero, suc, ◌+◌, ◌<◌, ◌≤◌, Bool, true, false, not, ◌&&◌, ◌||◌, ◌==◌, List, [], ◌∷◌, drop, nat_lt, refl}
use Rattle.std.proofs.Common.{◌∙◌, ap, sym, subst, arith}
use Rattle.std.proofs.lemmas.Bool.{false≢true}
use Rattle.fs_model.specs.ZonePolicy.{is_idle_owner}
use Rattle.fs_model.specs.FsState.{FsState, ZoneDescriptor, recorded, descriptor_at, descriptor_in, on_descriptor}
use Rattle.fs_model.specs.LogSteps.{after_append, is_used}
use Rattle.state_rules.specs.WritingRules.{KeepsWritingRules, AppendKeepsWriting, FinishKeepsWriting}
use Rattle.state_rules.proofs.PointLaws.{points_stay}
use Rattle.state_rules.proofs.TokenCounts.{is_token, tokens_in, tokens_are, no_more_behind}
use Rattle.state_rules.proofs.ZoneRules.{info_keeps}

-- a change of one zone leaves the others
other_zone : (n k : ℕ) (f : ZoneDescriptor → ZoneDescriptor) (zs : List ZoneDescriptor) → k ≢ n → descriptor_in (on_descriptor n f zs) k ≡ descriptor_in zs k
other_zone n k f [] away = refl
other_zone zero zero f (z ∷ zs) away = absurd (away refl)
other_zone zero (suc k) f (z ∷ zs) away = refl
other_zone (suc n) zero f (z ∷ zs) away = refl
other_zone (suc n) (suc k) f (z ∷ zs) away = other_zone n k f zs (λ same. away (ap (λ i. suc i) same))

-- a step on a data zone that leaves its owner, takes no block away, and takes no token
data_step : (s : FsState) (zone : ℕ) (f : ZoneDescriptor → ZoneDescriptor) → 3 ≤ zone → ((z : ZoneDescriptor) → (f z).owner ≡ z.owner)
    → ((z : ZoneDescriptor) → z.info.written ≤ (f z).info.written) → (is_token (f (descriptor_in s.zones zone)) ≡ true → is_token (descriptor_in s.zones zone) ≡ true)
    → KeepsWritingRules s → KeepsWritingRules (record s { zones = on_descriptor zone f s.zones })
data_step s zone f data_zone same grows token h =
    let t : FsState = record s { zones = on_descriptor zone f s.zones } in
    let metadata : (m : ℕ) → m < 3 → descriptor_at t m ≡ descriptor_at s m = λ m low. other_zone zone m f s.zones (λ is. omega (arith, is, low, data_zone)) in
    let log : descriptor_at t s.log.zone ≡ descriptor_at s s.log.zone = metadata s.log.zone h.rules.device.log_zone in
    let count : tokens_in (drop 3 (on_descriptor zone f s.zones)) ≤ tokens_in (drop 3 s.zones) = no_more_behind 3 zone f s.zones token in
    record {
      rules = info_keeps zone f s same h.rules;
      room = h.room;
      token = let few = h.token in omega (arith, tokens_are s, tokens_are t, count, few);
      written = subst (λ d. 0 < d.info.written) (sym log) h.written;
      unused = λ m low other. ap is_used (metadata m low) ∙ h.unused m low other;
      points = points_stay s.geometry s.zones (recorded s) (recorded s) zone f same grows h.points;
    }

-- a zone that somebody holds takes a token where it is open
held_token : (sealed full some later idle : Bool) → idle ≡ false → not (sealed || full) && (later || not idle) ≡ true → not sealed && (some || not idle) ≡ true
held_token true full some later idle held h = cc
held_token false full true later idle held h = refl
held_token false full false later true held h = cc
held_token false full false later false held h = refl

pub append_keeps_writing : AppendKeepsWriting
append_keeps_writing s zone count h held =
    let d = descriptor_in s.zones zone in
    data_step s zone (after_append s.geometry.capacity count) (h.rules.owners.held zone held) (λ z. refl) (λ z. omega arith)
    (held_token d.info.sealed (d.info.written + count == s.geometry.capacity) (nat_lt 0 d.info.written) (nat_lt 0 (d.info.written + count)) (is_idle_owner d.owner) held) h

pub finish_keeps_writing : FinishKeepsWriting
finish_keeps_writing s zone h data_zone = data_step s zone _ data_zone (λ z. refl) (λ z. omega arith) (λ taken. absurd (false≢true taken)) h
