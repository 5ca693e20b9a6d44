-- The table of the selected log, mounted.
use Rattle.std.specs.Prelude.{◌≡◌, ◌≢◌, ℕ, true, false, List, [], ◌∷◌, ◌++◌, length, drop, map, None, Ok, refl}
use Rattle.std.proofs.Common.{◌∙◌, ap, sym}
use Rattle.std.proofs.lemmas.Bool.{or_parts}
use Rattle.std.specs.Str.{bytes_eq}
use Rattle.zone_image.specs.Image.{Image, zone_at}
use Rattle.record_model.specs.Numbers.{u32}
use Rattle.record_model.specs.FieldDecoding.{◌>>=◌}
use Rattle.record_model.specs.Decoding.{record_of}
use Rattle.record_model.specs.declared.types.Record.TheVariants.{Snapshot}
use Rattle.log_model.specs.LogScan.{ScanEnd, blocks_of, has_end}
use Rattle.log_model.specs.LogScan.ScanEnd.{Clean, Torn, Bad}
use Rattle.log_model.specs.LogSelection.{LogAt, scans_of, snapshot_in}
use Rattle.log_model.specs.FileTable.{Table, after_record, replay_log}
use Rattle.log_model.specs.Mounted.{in_zone, checked_table, recovered_entry, broken_rule, table_of, table_in, tree_of, mounted_in}
use Rattle.log_model.specs.MountedLogLaws.{HasTable, SelectedTableMounts, RecordMounts, PartMounts, NewLogMounts}
use Rattle.log_model.proofs.AppendLaws.{record_behind_selected, part_behind_selected}
use Rattle.log_model.proofs.NewLogLaws.{whole_snapshot}
use Rattle.log_model.proofs.LogReplayLaws.{added_record_is_replayed}
use Rattle.log_model.proofs.SnapshotLaws.{snapshot_is_replayed}
use Rattle.log_model.proofs.SelectedLog.{Selected, selected_from}
use Rattle.log_model.proofs.GrowingLog.{selected_has_snapshot}

-- the table of an image whose log replays
pub table_from : (i : Image) (log : LogAt) (greatest : ℕ) (es : Table) → HasTable i log greatest es → broken_rule i es ≡ None → table_in i ≡ Ok (map (recovered_entry i) es)
unfolding table_in table_of
table_from i log greatest es h ok =
    ap (λ r. r >>= (λ l. table_of i l.0)) h.selected
    ∙ (ap (λ r. in_zone log.zone r >>= (λ t. checked_table i log t (broken_rule i t))) h.table
    ∙ ap (checked_table i log es) ok)

pub selected_table_mounts : SelectedTableMounts
unfolding mounted_in
selected_table_mounts i log greatest es h ok =
    let table : table_in i ≡ Ok (map (recovered_entry i) es) = table_from i log greatest es h ok in
    record { table = table; tree = ap (λ r. r >>= (λ t. Ok (tree_of i t))) table }

-- a log of no payload has no snapshot
no_payload : (zone : ℕ) (end : ScanEnd) → snapshot_in zone end [] ≡ Ok true → ⊥
no_payload zone Clean h = cc
no_payload zone (Torn block) h = cc
no_payload zone (Bad block len stored computed) h = cc

-- a selected log has a payload
pub some_payload : (i : Image) (log : LogAt) (greatest : ℕ) (es : Table) → HasTable i log greatest es → log.scan.payloads ≢ []
some_payload i log greatest es h none =
    let s : Selected i.geometry (scans_of i) log greatest = selected_from i.geometry (scans_of i) log greatest h.selected in
    no_payload log.zone log.scan.end (ap (snapshot_in log.zone log.scan.end) (sym none) ∙ selected_has_snapshot s.logs log s.current)

-- one payload more, behind the first
pub behind_first : (payloads : List (ℕ × List ℕ)) (p : ℕ × List ℕ) → payloads ≢ [] → drop 1 (payloads ++ p ∷ []) ≡ drop 1 payloads ++ p ∷ []
behind_first [] p some = absurd (some refl)
behind_first (q ∷ qs) p some = refl

-- without its first payload a log has no end record still
pub end_behind : (payloads : List (ℕ × List ℕ)) → has_end payloads ≡ false → has_end (drop 1 payloads) ≡ false
end_behind [] h = refl
end_behind (p ∷ ps) h = (or_parts (bytes_eq p.1 (u32 4)) (has_end ps) h).1

pub record_mounts : RecordMounts
record_mounts i j log greatest payload r es next h clean none fits reads after appends ok =
    let blocks : ℕ = length (zone_at i log.zone).blocks in
    selected_table_mounts j (record log { scan = record { payloads = log.scan.payloads ++ (blocks, payload) ∷ []; end = Clean } }) greatest next
    (record {
      selected = record_behind_selected i j log greatest payload h.selected clean fits appends;
      table =
          ap replay_log (behind_first log.scan.payloads (blocks, payload) (some_payload i log greatest es h))
          ∙ added_record_is_replayed (drop 1 log.scan.payloads) blocks payload r es next h.table (end_behind log.scan.payloads none) reads after;
    })
    ok

pub part_mounts : PartMounts
part_mounts i j log greatest k payload es h clean fits some less appends ok =
    selected_table_mounts j (record log { scan = record { payloads = log.scan.payloads; end = Torn (length (zone_at i log.zone).blocks) } }) greatest es
    (record { selected = part_behind_selected i j log greatest k payload h.selected clean fits some less appends; table = h.table }) ok

-- the snapshot alone, replayed
snapshot_alone : (at : ℕ) (snapshot : List ℕ) (es : Table) → record_of snapshot ≡ Ok (Snapshot es) → after_record (Snapshot es) [] ≡ Ok es → replay_log ((at, snapshot) ∷ []) ≡ Ok es
unfolding replay_log
snapshot_alone at snapshot es reads after = added_record_is_replayed [] at snapshot (Snapshot es) [] es refl refl reads after

pub new_log_mounts : NewLogMounts
new_log_mounts i j zone log greatest payload snapshot s es h next fits reads table right fills ok =
    let n : ℕ = blocks_of i.geometry.block (length payload) in
    selected_table_mounts j (record { zone = zone; superblock = s; scan = record { payloads = (0, payload) ∷ (n, snapshot) ∷ []; end = Clean } }) s.sequence es
    (record {
      selected = whole_snapshot i j zone log greatest payload snapshot s es h next fits reads fills;
      table = snapshot_alone n snapshot es reads (snapshot_is_replayed es [] table right);
    })
    ok
