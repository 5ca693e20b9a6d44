-- Worked cases of the collection, computed.
use Rattle.std.specs.Prelude.{◌≡◌, ℕ, zero, suc, ◌+◌, ◌*◌, ◌-◌, ◌^◌, true, false, Bool, List, [], ◌∷◌, ◌++◌, replicate, map, take, codes, Option, None, Ok, refl}
use Rattle.fs_model.specs.Opened.{collecting}
use Rattle.record_model.specs.declared.types.Extent.{Extent}
use Rattle.fs_model.specs.declared.zones.Owner.TheVariants.{Idle, Collector}
use Rattle.fs_model.specs.ZonePolicy.{free_percent}
use Rattle.fs_model.specs.FsState.{ZoneDescriptor, TableRow, descriptor_at, on_descriptor, zone_states}
use Rattle.fs_model.specs.Trace.{◌>>◌}
use Rattle.fs_model.specs.Migration as collector
use Rattle.fs_model.specs.Migration.{Collecting, CollectorAction, Round, round, settle}
use Rattle.fs_model.specs.declared.policy.Plan.{Plan}
use Rattle.fs_model.specs.LogSteps.{set_rows}
use Rattle.fs_model.specs.StepExamples.{g, zone, superblock, formatted}

-- a file of these bytes at the start of a zone
abbrev file_at : ℕ → ℕ → TableRow
file_at id len = record {
  entry = record { id = id; size = len; hint = 0; time = 7; active = 2 ^ 64 - 1; sparse = false; extents = (record { start = (2 + id) * 8192; len = len }) ∷ []; names = codes "f" ∷ [] };
  unrecorded = [];
  shown = len;
}

-- full zones, and one block in the last
abbrev files_from : ℕ → ℕ → List TableRow
files_from zero id = file_at id 512 ∷ []
files_from (suc k) id = file_at id 8192 ∷ files_from k (id + 1)

-- a full zone
abbrev pub full : ZoneDescriptor
full = record { info = record { written = 16; sealed = true }; owner = Idle; hint = 0 }

-- a device that is full but for five zones
abbrev crowded : Collecting
crowded = record {
  fs = record formatted {
    zones = zone 0 ∷ zone 9 ∷ zone 0 ∷ replicate 24 full ++ replicate 5 (zone 0);
    rows = files_from 23 1;
    log = record { zone = 1; superblock = record (superblock g) { flags = 1; sequence = 2 }; greatest = 2; can_end = true };
  };
  migration = None;
}

-- begin, copy, publish, retire
abbrev four_rounds : CollectorAction Round
four_rounds = round >> round >> round >> round

-- the log's zone, the victim and the destination
abbrev marks : Collecting → List (ℕ × Bool)
marks s = map (λ n. ((descriptor_at s.fs n).info.written, (descriptor_at s.fs n).info.sealed)) (1 ∷ 26 ∷ 27 ∷ [])

-- the victim is empty, and the destination has its block
collected_zone : marks (four_rounds crowded).last ≡ (10, false) ∷ (0, false) ∷ (1, false) ∷ []
unfolding collecting
collected_zone = refl

-- the first round begins it
first_round : (round crowded).answer ≡ Ok Round.Begun
unfolding collecting
first_round = refl

-- the fourth round retires the victim
collected_answer : (four_rounds crowded).answer ≡ Ok Round.Retired
unfolding collecting
collected_answer = refl

-- the extents of the last file
abbrev last_extents : List TableRow → List Extent
last_extents [] = []
last_extents (r ∷ []) = r.entry.extents
last_extents (r ∷ q ∷ rs) = last_extents (q ∷ rs)

-- its extent is in the destination
collected_extent : last_extents (four_rounds crowded).last.fs.rows ≡ (record { start = 221184; len = 512 }) ∷ []
unfolding collecting
collected_extent = refl

-- the file is deleted between copy and publish
abbrev deleted_between : CollectorAction Round
deleted_between = round >> round >> collector.on_fs (set_rows (take 23)) >> round

-- the copy is dropped
dropped : (deleted_between crowded).answer ≡ Ok Round.Dropped
unfolding collecting
dropped = refl

-- the victim is retired all the same, and the copy is left without a file
dropped_zones : marks ((deleted_between >> round) crowded).last ≡ (9, false) ∷ (0, false) ∷ (1, false) ∷ []
unfolding collecting
dropped_zones = refl

-- the plan that is left
abbrev plan_after : Collecting → Option Plan
plan_after s = collector.plan_of s.fs

-- after the victim is reset the free part is 20 percent, and no full zone has garbage
no_more : plan_after (four_rounds crowded).last ≡ None
unfolding collecting
no_more = refl

-- so much is free then
percent_after : free_percent g (zone_states (four_rounds crowded).last.fs) ≡ 20
unfolding collecting
percent_after = refl

-- settling retires one victim
settled_one : (settle crowded).answer ≡ Ok 1
unfolding collecting
settled_one = refl

-- and it leaves the same zones as the four rounds
settled_same : marks (settle crowded).last ≡ (10, false) ∷ (0, false) ∷ (1, false) ∷ []
unfolding collecting
settled_same = refl

-- one extent more than half a block: copied so that it keeps its place within the block
abbrev shifted : Collecting
shifted = record crowded { fs = record (crowded.fs) { rows = take 22 (files_from 23 1) ++ (record (file_at 24 100) { entry = record ((file_at 24 100).entry) { extents = (record { start = 26 * 8192 + 700; len = 100 }) ∷ [] } }) ∷ [] } }

-- the copy keeps the place within its block
shifted_extent : last_extents (four_rounds shifted).last.fs.rows ≡ (record { start = 27 * 8192 + 188; len = 100 }) ∷ []
unfolding collecting
shifted_extent = refl

-- the collector's own zone is empty, with the hint of an earlier victim; a plan that uses it leaves the hint
abbrev own_empty : Collecting
own_empty = record crowded { fs = record (crowded.fs) { zones = on_descriptor 27 (λ z. record z { owner = Collector; hint = 4 }) crowded.fs.zones } }

-- the hint is that of the zone's opening
kept_hint : (descriptor_at (round own_empty).last.fs 27).hint ≡ 4
unfolding collecting
kept_hint = refl
