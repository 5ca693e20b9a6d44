-- The room that a log has left.
use Rattle.std.specs.Prelude.{ℕ, ◌+◌, ◌-◌, Bool, nat_lt, if◌then◌else◌}
use Rattle.zone_image.specs.declared.ZoneInfo.{ZoneInfo}

-- blocks that a zone with this number and seal may still take
abbrev pub room_left : ℕ → ZoneInfo → ℕ
room_left capacity info = if info.sealed then 0 else capacity - info.written

-- a record of so many blocks needs a roll: a block is to stay for the end record
abbrev pub must_roll : ℕ → ZoneInfo → ℕ → Bool
must_roll capacity info blocks = nat_lt (room_left capacity info) (blocks + 1)
