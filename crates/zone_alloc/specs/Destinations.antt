-- Where the live blocks of a zone may go.
use Rattle.std.specs.Prelude.{ℕ, ◌+◌, ◌-◌, max, Bool, true, ◌&&◌, ◌||◌, List, [], ◌∷◌, filter, Option, Some, None, is_some, nat_lt, nat_le, if◌then◌else◌}
use Rattle.fs_model.specs.declared.policy.Before.{Before}
use Rattle.fs_model.specs.ZonePolicy.{Numbered, is_empty, is_idle_active, room_of, tokens_taken, first, or_else}
use Rattle.fs_model.specs.VictimPolicy.{garbage, is_candidate, in_own, in_zone, finish_own, release_own, room_lost, own_zone}
use Rattle.zone_alloc.specs.declared.collecting.Destinations.{Destinations}

-- one more than the greatest room of an active zone that nobody holds, and 0 where there is none
abbrev pub room_bound : ℕ → List Numbered → ℕ
room_bound capacity [] = 0
room_bound capacity (z ∷ zs) = if is_idle_active z then max (room_of capacity z.1 + 1) (room_bound capacity zs) else room_bound capacity zs

-- the zone, where it is allowed
abbrev pub allowed_zone : Bool → Option Numbered → Option Numbered
allowed_zone allowed z = if allowed then z else None

-- the collector may open an empty zone: in place of the one that it holds, or with one more token
abbrev pub may_open : ℕ → List Numbered → Bool
may_open limit zs = is_some (own_zone zs) || nat_le (tokens_taken zs + 1) (limit - 1)

-- where live blocks may go, for all candidates
abbrev pub destinations_of : ℕ → ℕ → List Numbered → Destinations
destinations_of capacity limit zs = record {
  capacity = capacity;
  own = own_zone zs;
  empty = allowed_zone (may_open limit zs) (first (filter is_empty zs));
  room_bound = room_bound capacity zs;
}

-- the collector's own zone, or an empty one
abbrev pub near_destination : Destinations → ℕ → Option (ℕ × Before)
near_destination d live = or_else (in_own d.capacity live d.own) (in_zone true (finish_own d.own) d.empty)

-- whether a block is gained there, or where that is nowhere, in some active zone
abbrev pub gains_at : Destinations → ℕ → Option (ℕ × Before) → Bool
gains_at d live None = nat_lt live d.room_bound && nat_lt live d.capacity
gains_at d live (Some place) = nat_lt (live + room_lost d.capacity place.1 d.own) d.capacity

-- whether so many live blocks have a destination at which a block is gained
abbrev pub gains : Destinations → ℕ → Bool
gains d live = gains_at d live (near_destination d live)

-- where so many live blocks go: the lowest active zone with room for them comes last
abbrev pub place_of : Destinations → List Numbered → ℕ → Option (ℕ × Before)
place_of d zs live =
    or_else (near_destination d live)
    (in_zone true (release_own d.own) (first (filter (λ z. is_idle_active z && nat_le live (room_of d.capacity z.1)) zs)))

-- a candidate that has a destination
abbrev pub is_eligible : ℕ → Destinations → Numbered → Bool
is_eligible threshold d z = is_candidate d.capacity threshold z && gains d z.1.live

-- what of a zone is live, in percent
abbrev pub live_percent : ℕ → Numbered → ℕ
live_percent capacity z = 100 - garbage capacity z.1
