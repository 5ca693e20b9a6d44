-- Which zones are looked for or counted, and by what they are compared.
use Rattle.std.specs.Prelude.{ℕ, Bool, ◌&&◌, ◌==◌, nat_lt, nat_le}
use Rattle.fs_model.specs.declared.zones.ZoneState.{ZoneState}
use Rattle.fs_model.specs.ZonePolicy.{Numbered, takes_a_token, is_collectors, is_open, is_empty, is_idle_active, difference, room_of}
use Rattle.fs_model.specs.VictimPolicy.{is_resettable}
use Rattle.zone_alloc.specs.declared.zone_test.ZoneTest.{ZoneTest}
use Rattle.zone_alloc.specs.declared.zone_test.ZoneTest.TheVariants.{TakesToken, Collectors, CollectorsOpen, Empty, IdleActive, Near, Equal, Roomy, Resettable}
use Rattle.zone_alloc.specs.declared.zone_test.ZoneKey.{ZoneKey}
use Rattle.zone_alloc.specs.declared.zone_test.ZoneKey.TheVariants.{Difference, Room}

-- whether a zone is one of those that are looked for
abbrev pub passes : ZoneTest → ZoneState → Bool
passes TakesToken z = takes_a_token (0, z)
passes Collectors z = is_collectors z
passes CollectorsOpen z = is_collectors z && is_open z
passes Empty z = is_empty (0, z)
passes IdleActive z = is_idle_active (0, z)
passes (Near hint) z = is_idle_active (0, z) && nat_lt (difference z.hint hint) 50
passes (Equal hint) z = is_idle_active (0, z) && (difference z.hint hint == 50)
passes (Roomy capacity live) z = is_idle_active (0, z) && nat_le live (room_of capacity z)
passes Resettable z = is_resettable (0, z)

-- the same of a zone with its number
abbrev pub is_wanted : ZoneTest → Numbered → Bool
is_wanted test z = passes test z.1

-- the number by which a zone is compared
abbrev pub key_of : ZoneKey → ZoneState → ℕ
key_of (Difference hint) z = difference z.hint hint
key_of (Room capacity) z = room_of capacity z

-- the same of a zone with its number
abbrev pub numbered_key : ZoneKey → Numbered → ℕ
numbered_key key z = key_of key z.1
