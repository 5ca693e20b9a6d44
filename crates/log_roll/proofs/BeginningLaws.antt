-- Where the beginning of a log is found.
use Rattle.std.proofs.Common.{◌≡◌, ℕ, Bool, true, false, List, [], Option, Some, None, refl, sym, ap, ◌∙◌}
use Rattle.std.specs.Prelude.{cond}
use Rattle.zone_image.specs.declared.Geometry.{Geometry}
use Rattle.zone_image.specs.Image.{Image, zone_at}
use Rattle.log_model.specs.LogScan.{Scan, scan, with_payload}
use Rattle.log_model.specs.Format.{begins_in, first_of, first_payload, looks_formatted}
use Rattle.log_roll.specs.Beginnings.{has_magic}

-- a zone of an image, looked at
abbrev pub looks : Image → ℕ → Bool
looks i zone = looks_formatted (first_payload i zone)

-- the lowest zone by what the zones look like
abbrev lowest : Bool → Bool → Bool → Option ℕ
lowest a b c = cond a (Some 0) (cond b (Some 1) (cond c (Some 2) None))

-- it is the one in which an image begins
pub begins_by : (i : Image) (a b c : Bool) → a ≡ looks i 0 → b ≡ looks i 1 → c ≡ looks i 2 → lowest a b c ≡ begins_in i
unfolding begins_in
begins_by i a b c first second third =
    ap (λ x. lowest x b c) first ∙ (ap (λ x. lowest (looks i 0) x c) second ∙ ap (lowest (looks i 0) (looks i 1)) third)

-- the first zone
pub begins_first : (i : Image) → true ≡ looks i 0 → Some 0 ≡ begins_in i
begins_first i first = begins_by i true (looks i 1) (looks i 2) first refl refl

-- the second
pub begins_second : (i : Image) → false ≡ looks i 0 → true ≡ looks i 1 → Some 1 ≡ begins_in i
begins_second i first second = begins_by i false true (looks i 2) first second refl

-- the first payload of a zone, by its scan
pub payload_by : (g : Geometry) (i : Image) (zone : ℕ) (whole : Scan) → i.geometry ≡ g → scan g.block (zone_at i zone).blocks ≡ whole → looks_formatted (first_of whole.payloads) ≡ looks i zone
payload_by g i zone whole shape is = sym (ap (λ s. looks_formatted (first_of (scan s.block (zone_at i zone).blocks).payloads)) shape ∙ ap (λ c. looks_formatted (first_of c.payloads)) is)

-- a zone without a payload
pub none_looks : (whole : Scan) → whole.payloads ≡ [] → false ≡ looks_formatted (first_of whole.payloads)
none_looks whole none = sym (ap (λ ps. looks_formatted (first_of ps)) none)

-- a zone with one
pub magic_looks : (whole rest : Scan) (block : ℕ) (bytes : List ℕ) → whole ≡ with_payload block bytes rest → has_magic bytes ≡ looks_formatted (first_of whole.payloads)
magic_looks whole rest block bytes is = sym (ap (λ (c : Scan). looks_formatted (first_of c.payloads)) is)
