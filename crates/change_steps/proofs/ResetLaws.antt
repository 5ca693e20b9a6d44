-- Zones that nothing needs, reset one by one.
use Rattle.std.specs.Prelude.{◌≡◌, ℕ, List, [], ◌∷◌, ◌++◌, Contains, Err, refl}
use Rattle.std.proofs.Common.{sym, ◌∙◌, ap, subst, append_assoc}
use Rattle.std.proofs.lemmas.List.{append-nil}
use Rattle.std.proofs.lemmas.List.Elements.{Contains-append_left, Contains-push}
use Rattle.fs_model.specs.FsState.{FsState}
use Rattle.fs_model.specs.Trace.{each, Refines, intermediate_states}
use Rattle.fs_model.specs.declared.error.FsError.TheVariants.{DevFault}
use Rattle.fs_model.specs.LogSteps.{reset_zone, resettable_zones}
use Rattle.fs_model.proofs.TraceLaws.{refines_stops}
use Rattle.fs_model.proofs.SureLaws.{sure_resets}
use Rattle.change_steps.specs.Resetting.{after_reset, ResetsBegin, ResetsGoOn, ResetsArePassed, ResetsEnd, ResetsAnswer, ResetsKeepFiles}
use Rattle.change_steps.specs.Recording.{KeepsFiles}
use Rattle.change_steps.proofs.RecordLaws.{same_files, both_keep}
use Rattle.change_steps.proofs.Traces.{fault_then}

-- no zone is reset yet
pub resets_begin : ResetsBegin
resets_begin s = record { before = []; others = resettable_zones s; zones = refl; state = refl; left = refl }

-- one more zone after some
last_of_more : (zones : List ℕ) (zone : ℕ) (s : FsState) → (each reset_zone (zones ++ zone ∷ []) s).last ≡ after_reset zone (each reset_zone zones s).last
last_of_more [] zone s = refl
last_of_more (z ∷ zs) zone s = last_of_more zs zone (after_reset z s)

-- the lowest zone that is left is reset
pub resets_go_on : ResetsGoOn
resets_go_on s t zone others first rest way = record {
  before = way.before ++ zone ∷ [];
  others = others;
  zones = way.zones ∙ ap (λ zs. way.before ++ zs) (sym way.left ∙ first) ∙ sym (append_assoc way.before (zone ∷ []) others);
  state = ap (λ u. after_reset zone u) way.state ∙ sym (last_of_more way.before zone s);
  left = rest;
}

-- resets begin in their first state
begins_there : (zones : List ℕ) (s : FsState) → Refines (each reset_zone zones) s (Err DevFault) s
begins_there [] s = Contains-push [] s
begins_there (z ∷ zs) s =
    refines_stops (reset_zone z) (λ _. each reset_zone zs) s s DevFault (Contains-append_left (s ∷ []) (after_reset z s ∷ []) s (Contains-push [] s))

-- the state after some zones is passed by the resets of these and more
passed_after : (before others : List ℕ) (s : FsState) → Refines (each reset_zone (before ++ others)) s (Err DevFault) (each reset_zone before s).last
passed_after [] others s = begins_there others s
passed_after (z ∷ zs) others s =
    fault_then (reset_zone z) (each reset_zone (zs ++ others)) s (after_reset z s) (each reset_zone zs (after_reset z s)).last (refl, refl)
    (passed_after zs others (after_reset z s))

-- each state on the way is passed
pub resets_are_passed : ResetsArePassed
resets_are_passed s t way =
    let P : List ℕ → Type 0 = λ zs. Contains (intermediate_states (each reset_zone zs s)) t in
    let Q : FsState → Type 0 = λ u. Contains (intermediate_states (each reset_zone (way.before ++ way.others) s)) u in
    subst P (sym way.zones) (subst Q (sym way.state) (passed_after way.before way.others s))

-- where no zone is left all are reset
pub resets_end : ResetsEnd
resets_end s t way none =
    way.state
    ∙ ap (λ zs. (each reset_zone zs s).last) (sym (append-nil way.before) ∙ ap (λ zs. way.before ++ zs) (sym none ∙ way.left) ∙ sym way.zones)

-- resets are never refused
pub resets_answer : ResetsAnswer
resets_answer s = sure_resets.ok s

-- a reset of each zone keeps the files and the log
pub each_keeps : (zones : List ℕ) (s : FsState) → KeepsFiles s (each reset_zone zones s).last × ((each reset_zone zones s).last.log ≡ s.log)
each_keeps [] s = (same_files s, refl)
each_keeps (z ∷ zs) s =
    let rest = each_keeps zs (after_reset z s) in
    (both_keep (record { geometry = refl; rows = refl; greatest = refl; writers = refl }) rest.0, rest.1)

-- resets keep the files and the log
pub resets_keep_files : ResetsKeepFiles
resets_keep_files s t way =
    let P : FsState → Type 0 = λ u. KeepsFiles s u × (u.log ≡ s.log) in
    subst P (sym way.state) (each_keeps way.before s)
