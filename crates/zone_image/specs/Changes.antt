-- What the changing calls of a device make of its image.
use Rattle.std.specs.Prelude.{min, max, Bool, ℕ, zero, suc, ◌/◌, true, ◌||◌, List, [], ◌∷◌, ◌++◌, length, take, drop, map, replicate, ◌==◌}
use Rattle.zone_image.specs.declared.Geometry.{Geometry}
use Rattle.std.specs.List.{concat}
use Rattle.zone_image.specs.Image.{Zone, Image, no_zone, zone_at}

-- k blocks of the bytes
abbrev pub chunks : ℕ → ℕ → List ℕ → List (List ℕ)
chunks block zero bytes = []
chunks block (suc k) bytes = take block bytes ∷ chunks block k (drop block bytes)

-- the bytes as blocks
abbrev pub blocks_in : Geometry → List ℕ → List (List ℕ)
blocks_in g bytes = chunks g.block (length bytes / g.block) bytes

-- the bytes of some blocks of a zone, from this block on
abbrev pub bytes_at : Image → ℕ → ℕ → ℕ → List ℕ
bytes_at i zone block count = concat (take count (drop block (zone_at i zone).blocks))

-- changes the item of this number
abbrev pub change_at : {A : Type 0} → ℕ → (A → A) → List A → List A
change_at n f [] = []
change_at zero f (x ∷ xs) = f x ∷ xs
change_at (suc n) f (x ∷ xs) = x ∷ change_at n f xs

-- a zone with blocks written at its end; it is sealed once it has as many as its capacity
abbrev pub zone_appended : ℕ → List (List ℕ) → Zone → Zone
zone_appended capacity added z =
    record { blocks = z.blocks ++ added; kept = z.kept; sealed = z.sealed || (length (z.blocks ++ added) == capacity) }

-- a sealed zone
abbrev pub zone_finished : Zone → Zone
zone_finished z = record z { sealed = true }

-- a zone whose blocks are all durable
abbrev pub zone_synced : Zone → Zone
zone_synced z = record z { kept = length z.blocks }

-- an image with one zone changed
abbrev pub with_zone : Image → ℕ → (Zone → Zone) → Image
with_zone i zone f = record i { zones = change_at zone f i.zones }

-- after an append of these blocks to a zone
abbrev pub appended : Image → ℕ → List (List ℕ) → Image
appended i zone added = with_zone i zone (zone_appended i.geometry.capacity added)

-- after a finish
abbrev pub finished : Image → ℕ → Image
finished i zone = with_zone i zone zone_finished

-- after a reset
abbrev pub emptied : Image → ℕ → Image
emptied i zone = with_zone i zone (λ _. no_zone)

-- after a sync
abbrev pub synced : Image → Image
synced i = record i { zones = map zone_synced i.zones }

-- the first blocks of a zone that a crash leaves where it is asked to keep so many: never less than the durable ones
abbrev pub blocks_left : Zone → ℕ → ℕ
blocks_left z keep = min (length z.blocks) (max z.kept keep)

-- a zone after a crash that keeps so many blocks
abbrev pub zone_crashed : Zone → ℕ → Zone
zone_crashed z keep = record { blocks = take (blocks_left z keep) z.blocks; kept = blocks_left z keep; sealed = z.sealed }

-- zones after a crash, each with its number of blocks
abbrev pub zones_crashed : List Zone → List ℕ → List Zone
zones_crashed [] keep = []
zones_crashed (z ∷ zs) [] = zone_crashed z 0 ∷ zones_crashed zs []
zones_crashed (z ∷ zs) (k ∷ keep) = zone_crashed z k ∷ zones_crashed zs keep

-- after a crash that keeps so many blocks of each zone
abbrev pub crashed : Image → List ℕ → Image
crashed i keep = record i { zones = zones_crashed i.zones keep }

-- with other content in one zone
abbrev pub with_content : Image → ℕ → List (List ℕ) → ℕ → Bool → Image
with_content i zone blocks kept sealed = with_zone i zone (λ _. record { blocks = blocks; kept = kept; sealed = sealed })

-- a new device: all zones are empty
abbrev pub blank : Geometry → Image
blank g = record { geometry = g; zones = replicate g.zones no_zone }
