-- Which log of the three metadata zones counts.
use Rattle.std.specs.Prelude.{ℕ, ◌+◌, Bool, true, false, not, ◌&&◌, max, List, [], ◌∷◌, ◌++◌, length, Option, Some, None, Result, Ok, Err, nat_lt, ◌==◌, if◌then◌else◌, filter, map}
use Rattle.std.specs.List.{list_any}
use Rattle.zone_image.specs.declared.Geometry.{Geometry}
use Rattle.zone_image.specs.Image.{Image, zone_at}
use Rattle.record_model.specs.FieldDecoding.{◌>>=◌}
use Rattle.record_model.specs.Decoding.{record_of}
use Rattle.record_model.specs.declared.types.Record.{Record}
use Rattle.record_model.specs.declared.types.Record.TheVariants.{Snapshot}
use Rattle.record_model.specs.declared.fault.DecodeFault.{DecodeFault}
use Rattle.superblock_core.specs.Superblock.{u32_at, superblock_of, fits}
use Rattle.log_model.specs.LogScan.{Scan, ScanEnd, scan, has_end, is_clean}
use Rattle.log_model.specs.LogScan.ScanEnd.{Clean, Torn, Bad}
use Rattle.superblock_core.specs.declared.superblock.Superblock.{Superblock}
use Rattle.superblock_core.specs.declared.superblock.SbError.{SbError}
use Rattle.superblock_core.specs.declared.superblock.SbError.TheVariants.{Magic, Version, Flags, Text}
use Rattle.log_model.specs.declared.selection.Chosen.{Chosen}
use Rattle.log_model.specs.declared.selection.Refusal.{Refusal}
use Rattle.log_model.specs.declared.selection.Refusal.TheVariants.{NoFileSystem, Unsupported, Differs, Damaged}
use Rattle.log_model.specs.declared.selection.DamageWhy.{DamageWhy}
use Rattle.log_model.specs.declared.selection.DamageWhy.TheVariants as why

-- a metadata zone that begins with a readable superblock
pub record LogAt : Type 0 where
  pub zone : ℕ
  pub superblock : Superblock
  pub scan : Scan

-- damage at a place
abbrev pub damaged : {A : Type 0} → ℕ → ℕ → DamageWhy → Result A Refusal
damaged zone block cause = Err (Damaged (record { zone = zone; block = block; why = cause }))

-- what a bad end of a log is named
abbrev pub bad_record : ℕ → ℕ → ℕ → DamageWhy
bad_record len stored computed = if len == 0 then why.NoLength else why.Sum stored computed

-- a superblock that states this device
abbrev pub fits_device : Geometry → Superblock → Bool
fits_device g s = fits s g

-- the log of a zone, by what its first payload is read as
abbrev pub log_with : Geometry → ℕ → Scan → List ℕ → Result Superblock SbError → Result (Option LogAt) Refusal
log_with g zone c payload (Err Magic) = Ok None
log_with g zone c payload (Err (Version found)) = Err (Unsupported zone (u32_at 45 payload) (u32_at 49 payload))
log_with g zone c payload (Err (Flags found)) = Err (Unsupported zone (u32_at 45 payload) (u32_at 49 payload))
log_with g zone c payload (Err (Text at)) = damaged zone 0 (why.Text at)
log_with g zone c payload (Ok s) =
    if fits_device g s then Ok (Some (record { zone = zone; superblock = s; scan = c }))
    else Err (Differs zone s.block s.zone_blocks s.zones)

-- a zone that is empty or begins with something else is skipped
abbrev pub log_of_zone : Geometry → ℕ → Scan → List (ℕ × List ℕ) → ScanEnd → Result (Option LogAt) Refusal
log_of_zone g zone c [] Clean = Ok None
log_of_zone g zone c [] (Torn block) = Ok None
log_of_zone g zone c [] (Bad block len stored computed) = damaged zone block (bad_record len stored computed)
log_of_zone g zone c (p ∷ ps) end =
    if length p.1 == 512 then log_with g zone c p.1 (superblock_of p.1) else Ok None

-- the logs with one in front, if there is one
abbrev pub add_log : Option LogAt → List LogAt → List LogAt
add_log None logs = logs
add_log (Some log) logs = log ∷ logs

-- the logs of the zones from this one on, or the first refusal
abbrev pub logs_from : Geometry → ℕ → List Scan → Result (List LogAt) Refusal
logs_from g zone [] = Ok []
logs_from g zone (c ∷ cs) = do
  first ← log_of_zone g zone c c.payloads c.end
  others ← logs_from g (zone + 1) cs
  Ok (add_log first others)

-- the first log whose sequence an earlier one has
abbrev pub twin : List LogAt → List LogAt → Option LogAt
twin earlier [] = None
twin earlier (log ∷ logs) =
    if list_any (λ l. l.superblock.sequence == log.superblock.sequence) earlier then Some log else twin (earlier ++ log ∷ []) logs

-- refused where two logs have one sequence
abbrev pub no_twin : List LogAt → Option LogAt → Result (List LogAt) Refusal
no_twin logs None = Ok logs
no_twin logs (Some log) = damaged log.zone 0 (why.Twin log.superblock.sequence)

-- a second payload has to be a snapshot
abbrev pub is_snapshot : ℕ → ℕ → Result Record DecodeFault → Result Bool Refusal
is_snapshot zone block (Ok (Snapshot files)) = Ok true
is_snapshot zone block (Ok r) = damaged zone block (why.Rule 1)
is_snapshot zone block (Err fault) = damaged zone block (why.Decode fault)

-- whether a log of these payloads has its snapshot yet, or its damage
abbrev pub snapshot_in : ℕ → ScanEnd → List (ℕ × List ℕ) → Result Bool Refusal
snapshot_in zone (Bad block len stored computed) payloads = damaged zone block (bad_record len stored computed)
snapshot_in zone end (s ∷ p ∷ ps) = is_snapshot zone p.0 (record_of p.1)
snapshot_in zone end payloads = Ok false

-- whether a log has its snapshot yet, or its damage
abbrev pub has_snapshot : LogAt → Result Bool Refusal
has_snapshot log = snapshot_in log.zone log.scan.end log.scan.payloads

-- a snapshot is there, or the log is damaged
abbrev pub decides : Result Bool Refusal → Bool
decides (Ok there) = there
decides (Err why) = true

-- a log without damage and without a snapshot is passed over; any other one isn't
abbrev pub counts : LogAt → Bool
counts log = decides (has_snapshot log)

-- the one of the higher sequence
abbrev pub newer : LogAt → Option LogAt → Option LogAt
newer log None = Some log
newer log (Some other) = if nat_lt log.superblock.sequence other.superblock.sequence then Some other else Some log

-- the log of the highest sequence
abbrev pub newest : List LogAt → Option LogAt
newest [] = None
newest (log ∷ logs) = newer log (newest logs)

-- the log, unless it is damaged
abbrev pub undamaged : Option LogAt → Result LogAt Refusal
undamaged None = Err NoFileSystem
undamaged (Some log) = do
  there ← has_snapshot log
  Ok log

-- the newest log that isn't passed over
abbrev pub current_log : List LogAt → Result LogAt Refusal
current_log logs = undamaged (newest (filter counts logs))

-- the highest sequence of these logs
abbrev pub greatest_sequence : List LogAt → ℕ
greatest_sequence [] = 0
greatest_sequence (log ∷ logs) = max log.superblock.sequence (greatest_sequence logs)

-- the log that counts among these, and the highest sequence
abbrev pub select_among : List LogAt → Result (LogAt × ℕ) Refusal
select_among found = do
  logs ← no_twin found (twin [] found)
  log ← current_log logs
  Ok (log, greatest_sequence logs)

-- the log that counts, and the highest sequence, of the scans of the metadata zones
unfoldable pub select_log : Geometry → List Scan → Result (LogAt × ℕ) Refusal
select_log g scans = logs_from g 0 scans >>= select_among

-- what is told of the log that counts
abbrev pub chosen_of : LogAt × ℕ → Chosen
chosen_of l = record {
  zone = l.0.zone;
  superblock = l.0.superblock;
  greatest = l.1;
  can_end = is_clean l.0.scan.end && not (has_end l.0.scan.payloads);
}

-- the scans of the three metadata zones
abbrev pub scans_of : Image → List Scan
scans_of i = map (λ z. scan i.geometry.block (zone_at i z).blocks) (0 ∷ 1 ∷ 2 ∷ [])

-- the log that counts on an image
abbrev pub selected_log : Image → Result Chosen Refusal
selected_log i = do
  l ← select_log i.geometry (scans_of i)
  Ok (chosen_of l)
