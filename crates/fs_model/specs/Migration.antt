-- The steps of a migration, and settling.
use Rattle.std.specs.Prelude.{ℕ, zero, suc, ◌+◌, ◌*◌, ◌-◌, ◌%◌, min, Bool, true, false, not, ◌&&◌, ◌||◌, List, [], ◌∷◌, ◌++◌, length, filter, Option, Some, None, is_none, Result, Ok, Err, nat_lt, ◌==◌, if◌then◌else◌}
use Rattle.std.specs.List.{list_any}
use Rattle.zone_image.specs.Image.{zone_of}
use Rattle.record_model.specs.declared.types.Extent.{Extent}
use Rattle.fs_model.specs.declared.error.FsError.{FsError}
use Rattle.fs_model.specs.declared.zones.Move.{Move}
use Rattle.fs_model.specs.declared.policy.Plan.{Plan}
use Rattle.fs_model.specs.ZonePolicy.{first, total_blocks}
use Rattle.fs_model.specs.VictimPolicy.{victim}
use Rattle.fs_model.specs.FsState.{FsState, TableRow, next_address, row_of, descriptor_at, zone_states, collects, touched, working_entry}
use Rattle.fs_model.specs.Trace.{Action, done, step, ◌>>=◌, ◌>>◌, from_state, when, on_part}
use Rattle.fs_model.specs.FileSteps as file_steps
use Rattle.fs_model.specs.LogSteps as log_steps
use Rattle.fs_model.specs.LogSteps.{FsAction, NoValue}

-- a migration under way: the file at hand, its extents that are copied, and the blocks copied of the next one
pub record MigrationState : Type 0 where
  pub victim : ℕ
  pub dest : ℕ
  pub id : Option ℕ
  pub moves : List Move
  pub copied : ℕ

-- a file system with what its collector does
pub record Collecting : Type 0 where
  pub fs : FsState
  pub migration : Option MigrationState

-- what is done to a file system and its migration
abbrev pub CollectorAction : Type 0 → Type 0
CollectorAction A = Action Collecting A

-- does it to the file system alone
abbrev pub on_fs : {A : Type 0} → FsAction A → CollectorAction A
on_fs m = on_part (λ s. s.fs) (λ s p. record { fs = p; migration = s.migration }) m

-- a step that changes the migration
abbrev pub set_migration : Option MigrationState → CollectorAction NoValue
set_migration m = step (λ s. record { fs = s.fs; migration = m })

-- the plan that the policy names
abbrev pub plan_of : FsState → Option Plan
plan_of s = victim s.geometry (collects s) (zone_states s)

-- begins a plan
abbrev pub begin : Plan → CollectorAction NoValue
begin p = on_fs (file_steps.hold p) >> set_migration (Some (record { victim = p.victim; dest = p.dest; id = None; moves = []; copied = 0 }))

-- the extents of a file that lie in a zone and haven't been copied
abbrev pub uncopied_in : FsState → ℕ → List Move → TableRow → List Extent
uncopied_in s zone ms r =
    filter (λ x. (zone_of s.geometry x.start == zone) && not (list_any (λ m. m.from == x.start) ms)) (working_entry r).extents

-- the next extent of a file that isn't copied
abbrev pub first_uncopied : FsState → ℕ → List Move → Option TableRow → Option Extent
first_uncopied s zone ms None = None
first_uncopied s zone ms (Some r) = first (uncopied_in s zone ms r)

-- the file of the least id that has extents in the zone
abbrev pub next_file : FsState → ℕ → List TableRow → Option ℕ
next_file s zone [] = None
next_file s zone (r ∷ rs) = if nat_lt 0 (length (uncopied_in s zone [] r)) then Some r.entry.id else next_file s zone rs

-- what a copying call answers
pub data Copied : Type 0 where
  One : (id from to : ℕ) → Copied
  Ready : (id : ℕ) → Copied
  Done : Copied

-- copies so many blocks
abbrev pub copy_piece : MigrationState → ℕ → CollectorAction NoValue
copy_piece m k =
    on_fs (log_steps.append_blocks m.dest k) >> from_state (λ s. set_migration (Some (record m { copied = m.copied + k })))

-- the blocks of an extent in pieces of the copy buffer; k bounds them
abbrev pub copy_blocks : ℕ → MigrationState → ℕ → ℕ → CollectorAction NoValue
copy_blocks zero m piece blocks = done tt
copy_blocks (suc k) m piece blocks =
    if nat_lt m.copied blocks
    then (copy_piece m (min piece (blocks - m.copied)) >> copy_blocks k (record m { copied = m.copied + min piece (blocks - m.copied) }) piece blocks)
    else done tt

-- where the copy of an extent begins, of which some blocks are copied already
abbrev pub copy_start : FsState → MigrationState → Extent → ℕ
copy_start s m x = next_address s m.dest - m.copied * s.geometry.block + x.start % s.geometry.block

-- the migration with this extent copied
abbrev pub with_move : MigrationState → ℕ → ℕ → ℕ → MigrationState
with_move m id start to = record m { id = Some id; moves = m.moves ++ (record { from = start; to = to }) ∷ []; copied = 0 }

-- copies so many blocks of an extent, whose copy begins there
abbrev pub copy_extent_to : ℕ → MigrationState → ℕ → Extent → ℕ → ℕ → CollectorAction Copied
copy_extent_to to m id x piece blocks =
    set_migration (Some (record m { id = Some id }))
    >> copy_blocks blocks (record m { id = Some id }) piece blocks
    >> set_migration (Some (with_move m id x.start to))
    >> done (One id x.start to)

-- copies the blocks of an extent that aren't copied yet
abbrev pub copy_extent : MigrationState → ℕ → Extent → CollectorAction Copied
copy_extent m id x = from_state (λ s.
    copy_extent_to (copy_start s.fs m x) m id x (min s.fs.geometry.capacity 256) (touched s.fs.geometry.block x))

-- copies an extent, or is ready where none is left
abbrev pub copy_or_ready : MigrationState → ℕ → Option Extent → CollectorAction Copied
copy_or_ready m id None = done (Ready id)
copy_or_ready m id (Some x) = copy_extent m id x

-- the file at hand is kept while blocks of it are copied, even where it is gone
abbrev pub copy_file : MigrationState → Option ℕ → CollectorAction Copied
copy_file m None = done Done
copy_file m (Some id) = from_state (λ s. copy_or_ready m id (first_uncopied s.fs m.victim m.moves (row_of id s.fs.rows)))

-- some of the file at hand is copied
abbrev pub has_copied : MigrationState → Bool
has_copied m = nat_lt 0 (length m.moves) || nat_lt 0 m.copied

-- copies the next extent
abbrev pub copy_next : MigrationState → CollectorAction Copied
copy_next m = from_state (λ s. copy_file m (if has_copied m then m.id else next_file s.fs m.victim s.fs.rows))

-- the migration with no file at hand
abbrev pub without_file : MigrationState → MigrationState
without_file m = record m { id = None; moves = []; copied = 0 }

-- whether the file was there
abbrev pub publish : MigrationState → ℕ → CollectorAction Bool
publish m id = from_state (λ s.
    if is_none (row_of id s.fs.rows) then (set_migration (Some (without_file m)) >> done false)
    else (on_fs (file_steps.replace id m.moves) >> set_migration (Some (without_file m)) >> done true))

-- resets the victim; a destination that is full is given back
abbrev pub retire : MigrationState → CollectorAction NoValue
retire m =
    on_fs (file_steps.reset_victim m.victim)
    >> from_state (λ s. when (descriptor_at s.fs m.dest).info.sealed (on_fs (file_steps.give_back m.dest false)))
    >> set_migration None

-- what one round of a collector does
pub data Round : Type 0 where
  NothingToDo : Round
  Begun : Round
  CopiedOne : Round
  Published : Round
  Dropped : Round
  Retired : Round

-- what follows a copy in the same round
abbrev pub after_copy : Option MigrationState → Copied → CollectorAction Round
after_copy None c = done CopiedOne
after_copy (Some m) (One id from to) = done CopiedOne
after_copy (Some m) (Ready id) = publish m id >>= (λ there. done (if there then Published else Dropped))
after_copy (Some m) Done = retire m >> done Retired

-- begins a plan, if there is one
abbrev pub start_round : Option Plan → CollectorAction Round
start_round None = done NothingToDo
start_round (Some p) = begin p >> done Begun

-- begins where nothing is under way, and else copies, and publishes or retires where that comes next
abbrev pub round_of : Option MigrationState → CollectorAction Round
round_of None = from_state (λ s. start_round (plan_of s.fs))
round_of (Some m) = copy_next m >>= (λ c. from_state (λ s. after_copy s.migration c))

-- one round of a collector
unfoldable pub round : CollectorAction Round
round = from_state (λ s. round_of s.migration)

-- nothing was to do
abbrev pub is_nothing : Round → Bool
is_nothing NothingToDo = true
is_nothing _ = false

-- one more where a round retired a victim
abbrev pub retired_after : Round → ℕ → ℕ
retired_after Retired n = n + 1
retired_after _ n = n

-- rounds until there is nothing to do, counting what they retire; k bounds them
abbrev pub rounds : ℕ → ℕ → CollectorAction ℕ
rounds zero n = done n
rounds (suc k) n = round >>= (λ r. if is_nothing r then done n else rounds k (retired_after r n))

-- the rounds end here: the collector is refused, or has nothing to do, or they end later
abbrev pub ends_with : Result Round FsError → Bool → Bool
ends_with (Err e) later = true
ends_with (Ok r) later = is_nothing r || later

-- whether so many rounds are enough
abbrev pub are_enough : ℕ → Collecting → Bool
are_enough zero s = false
are_enough (suc k) s = ends_with (round s).answer (are_enough k (round s).last)

-- a migration has at most two rounds for each of its blocks and two more, and each one frees a block
abbrev pub round_bound : FsState → ℕ
round_bound s = (2 * s.geometry.capacity + 3) * (total_blocks s.geometry + 2)

-- ends the migration under way and goes on until no victim is left; answers how many were retired
unfoldable pub settle : CollectorAction ℕ
settle = from_state (λ s. rounds (round_bound s.fs) 0)
