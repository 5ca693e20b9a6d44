use Rattle.std.proofs.Common.{◌≡◌, ℕ, ◌+◌, ◌<◌, Bool, true, false, List, length, rules, sym, ◌∙◌, refl}
use Rattle.std.specs.List.{All}
use Rattle.std.specs.List.Sorted.{IsNonDecreasingBy, IsPermutation}
use Rattle.std.proofs.lemmas.List.Sorted.{IsNonDecreasingBy-from_sort_by_key, All-permutation}
use Rattle.record_model.specs.declared.types.Extent.{Extent}
use Rattle.log_model.specs.Mounted.{overlap}
use Rattle.mount_replay.specs.Neighbours.{extent_at, Reaches, IsBehind}
use Rattle.mount_replay.proofs.OverlapLaws.{apart_room, HasByte, overlap-permutation, reached_overlap, apart_overlap}
use Rattle.mount_replay.proofs.overlap.overlap.Goals as goal

pub reaches_next-requires : goal.reaches_next-requires
reaches_next-requires c =
    IsNonDecreasingBy-from_sort_by_key (λ (x : Extent). x.start) _ c.sort_unstable_by_key.ensures.sorted (λ a r q k. search rules)

-- what the walk over the neighbours says of the list that was sorted
walked : (b : Bool) (xs ys : List Extent) → IsPermutation xs ys → All HasByte xs → IsNonDecreasingBy (λ x. x.start) ys
    → (b ≡ true → (i : ℕ) × (i + 1 < length ys) × Reaches (extent_at ys i) (extent_at ys (i + 1)))
    → (b ≡ false → (i : ℕ) → i + 1 < length ys → IsBehind (extent_at ys i) (extent_at ys (i + 1))) → b ≡ overlap xs
walked true xs ys same all rise reached apart =
    let found = reached refl in
    sym (reached_overlap ys found.0 rise (All-permutation HasByte xs ys same all) found.1 found.2) ∙ overlap-permutation xs ys same all
walked false xs ys same all rise reached apart = sym (apart_overlap ys rise (apart refl)) ∙ overlap-permutation xs ys same all

pub returns-clause-exact : goal.returns-clause-exact
returns-clause-exact c =
    let rise : IsNonDecreasingBy (λ (x : Extent). x.start) c.sort_unstable_by_key.new.self =
    IsNonDecreasingBy-from_sort_by_key (λ (x : Extent). x.start) _ c.sort_unstable_by_key.ensures.sorted (λ a r q k. search rules) in
    walked c.reaches_next.result c.args.extents.now c.sort_unstable_by_key.new.self c.sort_unstable_by_key.ensures.permutation c.requires rise c.reaches_next.ensures.reached c.reaches_next.ensures.apart

pub returns-clause-room : goal.returns-clause-room
returns-clause-room c = λ none n all. apart_room c.args.extents.now c.sort_unstable_by_key.new.self n c.sort_unstable_by_key.ensures.permutation (c.reaches_next.ensures.apart none) all
