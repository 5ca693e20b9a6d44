-- A zone of a table is that of its state.
use Rattle.std.proofs.Common.{◌≡◌, ℕ, zero, suc, ◌+◌, ◌<◌, false, List, [], ◌∷◌, map, length, get_or, refl, ◌∙◌, ap, arith}
use Rattle.std.specs.List.{enumerate_from}
use Rattle.zone_image.specs.Infos.{info_at}
use Rattle.fs_model.specs.FsState.{FsState, ZoneDescriptor, descriptor_in, descriptor_at, state_of, zone_states}
use Rattle.zone_alloc.specs.ZoneTableState.{ZoneTableState, no_state, state_at}
use Rattle.fs_tables.specs.Steps.{infos_in}

-- a zone with its live counts, numbered from the first one
state_here : (s : FsState) (n i : ℕ) (zs : List ZoneDescriptor) → n < length zs → get_or (map (state_of s) (enumerate_from i zs)) n no_state ≡ state_of s (i + n, descriptor_in zs n)
state_here s n i [] in_range = absurd (omega arith)
state_here s zero i (z ∷ zs) in_range =
    let here : i ≡ i + 0 = omega arith in
    ap (λ m. state_of s (m, z)) here
state_here s (suc n) i (z ∷ zs) in_range =
    let next : i + 1 + n ≡ i + suc n = omega arith in
    let short : n < length zs = omega arith in
    state_here s n (i + 1) zs short ∙ ap (λ m. state_of s (m, descriptor_in zs n)) next

-- a zone of a table with its live counts
pub state_at_is : (s : FsState) (t : ZoneTableState) (n : ℕ) → t.zones ≡ zone_states s → n < length s.zones → state_at t n ≡ state_of s (n, descriptor_at s n)
state_at_is s t n are in_range =
    let here : 0 + n ≡ n = omega arith in
    ap (λ zs. get_or zs n no_state) are ∙ state_here s n 0 s.zones in_range ∙ ap (λ m. state_of s (m, descriptor_at s n)) here

-- a zone that isn't sealed is there
unsealed_from : (zs : List ZoneDescriptor) (n : ℕ) → (descriptor_in zs n).info.sealed ≡ false → n < length zs
unsealed_from [] n unsealed = absurd cc
unsealed_from (z ∷ zs) zero unsealed = omega arith
unsealed_from (z ∷ zs) (suc n) unsealed = let rest = unsealed_from zs n unsealed in omega arith

pub unsealed_is_there : (s : FsState) (n : ℕ) → (descriptor_at s n).info.sealed ≡ false → n < length s.zones
unsealed_is_there s n unsealed = unsealed_from s.zones n unsealed

-- its number and seal
info_here : (zs : List ZoneDescriptor) (n : ℕ) → n < length zs → info_at (map (λ z. z.info) zs) n ≡ (descriptor_in zs n).info
info_here [] n in_range = absurd (omega arith)
info_here (z ∷ zs) zero in_range = refl
info_here (z ∷ zs) (suc n) in_range = info_here zs n (omega arith)

pub info_at_is : (s : FsState) (n : ℕ) → n < length s.zones → info_at (infos_in s) n ≡ (descriptor_at s n).info
info_at_is s n in_range = info_here s.zones n in_range
