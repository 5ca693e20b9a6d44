use Rattle.std.proofs.Common.{◌≡◌, ◌-◌, vec_len, vec_capacity}
use Rattle.extent_map.specs.Naming.{rows_left}
use Rattle.extent_map.proofs.TakenLaws.{left_from}
use Rattle.extent_map.proofs.taken.take_names.Given as goal

-- what is still to be taken makes the rows that are left
abbrev pub invariant-rows : goal.invariant-rows
invariant-rows l = (left_from l.taken l.at l.rows.items ≡ rows_left l.taken l.fn.rows.items) × (vec_capacity l.rows ≡ vec_capacity l.fn.rows)

-- the rows that are left to be looked at
abbrev pub decreases-rows : goal.decreases-rows
decreases-rows l = vec_len l.rows - l.at
