-- Loops over the zones of an image.
use Rattle.std.proofs.Common.{◌≡◌, ℕ, zero, suc, ◌+◌, ◌*◌, ◌<◌, min, max, Bool, List, [], ◌∷◌, ◌++◌, length, take, drop, get_or, set, refl, sym, ◌∙◌, ap, arith, append_assoc}
use Rattle.std.proofs.lemmas.List.{set_at, drop_more, take_more, length-take-le, take_all, drop_all, append-nil}
use Rattle.zone_image.specs.Image.{Zone, no_zone}
use Rattle.zone_image.specs.Changes.{chunks, zone_crashed, zones_crashed}
use Rattle.zone_image.proofs.BlockLaws.{length-chunks, take-chunks, chunks-take}

-- the first items are copied
pub copy_more : (from to : List Zone) (i : ℕ) (z : Zone) → i < length from → i < length to → z ≡ get_or from i no_zone → set (take i from ++ drop i to) i z ≡ take (i + 1) from ++ drop (i + 1) to
copy_more from to i z in_from in_to same =
    ap (λ (l : List Zone). set (take i from ++ l) i z) (drop_more to i no_zone in_to)
    ∙ set_at (take i from) (get_or to i no_zone) (drop (i + 1) to) z i (length-take-le i from (omega arith))
    ∙ ap (λ (y : Zone). take i from ++ y ∷ drop (i + 1) to) same
    ∙ sym (append_assoc (take i from) (get_or from i no_zone ∷ []) (drop (i + 1) to))
    ∙ ap (λ (l : List Zone). l ++ drop (i + 1) to) (sym (take_more from i no_zone in_from))

pub copy_all : (from to : List Zone) → length from ≡ length to → take (length to) from ++ drop (length to) to ≡ from
copy_all from to same =
    ap (λ (l : List Zone). take (length to) from ++ l) (drop_all (length to) to (omega arith))
    ∙ append-nil (take (length to) from)
    ∙ take_all (length to) from (omega (arith, same))

-- the first zones after a crash, the others before it
abbrev pub crash_first : ℕ → List Zone → List ℕ → List Zone
crash_first zero zs keep = zs
crash_first (suc i) [] keep = []
crash_first (suc i) (z ∷ zs) [] = zone_crashed z 0 ∷ crash_first i zs []
crash_first (suc i) (z ∷ zs) (k ∷ keep) = zone_crashed z k ∷ crash_first i zs keep

-- the next zone is as it was
pub crash_here : (i : ℕ) (zs : List Zone) (keep : List ℕ) → get_or (crash_first i zs keep) i no_zone ≡ get_or zs i no_zone
crash_here zero zs keep = refl
crash_here (suc i) [] keep = refl
crash_here (suc i) (z ∷ zs) [] = crash_here i zs []
crash_here (suc i) (z ∷ zs) (k ∷ keep) = crash_here i zs keep

crash_next : (i : ℕ) (zs : List Zone) (keep : List ℕ) → i < length zs → crash_first (suc i) zs keep ≡ set (crash_first i zs keep) i (zone_crashed (get_or zs i no_zone) (get_or keep i 0))
crash_next i [] keep in_range = absurd (omega arith)
crash_next zero (z ∷ zs) [] in_range = refl
crash_next zero (z ∷ zs) (k ∷ keep) in_range = refl
crash_next (suc i) (z ∷ zs) [] in_range = ap (λ l. zone_crashed z 0 ∷ l) (crash_next i zs [] (omega arith))
crash_next (suc i) (z ∷ zs) (k ∷ keep) in_range = ap (λ l. zone_crashed z k ∷ l) (crash_next i zs keep (omega arith))

pub crash_more : (i : ℕ) (zs : List Zone) (keep : List ℕ) → i < length zs → set (crash_first i zs keep) i (zone_crashed (get_or zs i no_zone) (get_or keep i 0)) ≡ crash_first (i + 1) zs keep
crash_more i zs keep in_range =
    let next : i + 1 ≡ suc i = omega arith in
    sym (ap (λ n. crash_first n zs keep) next ∙ crash_next i zs keep in_range)

pub crash_all : (zs : List Zone) (keep : List ℕ) → crash_first (length zs) zs keep ≡ zones_crashed zs keep
crash_all [] keep = refl
crash_all (z ∷ zs) [] = ap (λ l. zone_crashed z 0 ∷ l) (crash_all zs [])
crash_all (z ∷ zs) (k ∷ keep) = ap (λ l. zone_crashed z k ∷ l) (crash_all zs keep)

-- a zone whose blocks stand in these bytes
abbrev pub zone_with : ℕ → ℕ → List ℕ → ℕ → Bool → Zone
zone_with block count bytes kept sealed = record { blocks = chunks block count bytes; kept = kept; sealed = sealed }

-- a buffer cut to the blocks that are left
pub cut_zone : (block written kept keep left : ℕ) (bytes cut : List ℕ) (sealed : Bool) → left ≡ min written (max kept keep) → cut ≡ take (left * block) bytes
    → zone_with block left cut left sealed ≡ zone_crashed (zone_with block written bytes kept sealed) keep
cut_zone block written kept keep left bytes cut sealed left_is cut_is =
    let same : left ≡ min (length (chunks block written bytes)) (max kept keep) = left_is ∙ ap (λ n. min n (max kept keep)) (sym (length-chunks block written bytes)) in
    let blocks : chunks block left cut ≡ take left (chunks block written bytes) =
    ap (chunks block left) cut_is ∙ chunks-take block left bytes ∙ sym (take-chunks block left written bytes (omega (arith, left_is))) in
    let first : zone_with block left cut left sealed ≡ record { blocks = take left (chunks block written bytes); kept = left; sealed = sealed } =
    (λ i. record { blocks = blocks i; kept = left; sealed = sealed }) in
    let second : ◌≡◌ {A = Zone} (record { blocks = take left (chunks block written bytes); kept = left; sealed = sealed }) (zone_crashed (zone_with block written bytes kept sealed) keep) =
    (λ i. record { blocks = take (same i) (chunks block written bytes); kept = same i; sealed = sealed }) in
    first ∙ second
