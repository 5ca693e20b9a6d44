-- Folding a log, one payload after another.
use Rattle.std.proofs.Common.{◌≡◌, ℕ, zero, suc, ◌≤◌, Bool, false, ◌||◌, List, [], ◌∷◌, length, drop, Option, Some, None, Result, Ok, Err, refl, sym, ◌∙◌, ap, subst, arith, length-drop}
use Rattle.std.specs.List.{All}
use Rattle.zone_image.specs.declared.Geometry.{Geometry}
use Rattle.zoned_device.specs.Window.{window}
use Rattle.zone_image.specs.Image.{Image, zone_at}
use Rattle.std.proofs.lemmas.List.{nil_from_length}
use Rattle.std.proofs.lemmas.List.Elements.{All-map}
use Rattle.record_model.specs.declared.types.Record.{Record}
use Rattle.record_model.specs.FieldDecoding.{◌>>=◌}
use Rattle.record_model.specs.Decoding.{record_of}
use Rattle.log_model.specs.declared.selection.DamageWhy.{DamageWhy}
use Rattle.log_model.specs.AppendLaws.{scan_at}
use Rattle.log_model.specs.FileTable.{Table, placed, decoded, next_table, is_end, replay_from, replay_log}
use Rattle.log_model.specs.LogScan.{Scan, ScanEnd, with_payload, scan, scan_from, scan_within, first_item}
use Rattle.log_model.specs.Mounted.{last_block}
use Rattle.fs_model.specs.FsState.{TableRow, mounted_row}
use Rattle.extent_map.specs.Applying.{rows_of}
use Rattle.extent_map.specs.Records.{recorded_of}
use Rattle.meta_log.specs.Reader.{ReaderState, scan_left, unless_over}
use Rattle.mount_replay.specs.declared.log.LogRecord.{LogRecord}
use Rattle.mount_replay.specs.Folding.{folded, last_after}

-- everything is recorded
pub all_recorded : (rows : List TableRow) → rows ≡ rows_of (recorded_of rows) → All (λ r. r.unrecorded ≡ []) rows
all_recorded rows settled =
    subst (λ rs. All (λ r. r.unrecorded ≡ []) rs) (sym settled) (All-map (λ (r : TableRow). r.unrecorded ≡ []) mounted_row (recorded_of rows) (λ k d below. refl))

-- a table, and whether the log has ended
abbrev with_end : Bool → Table → Bool × Table
with_end b t = (b, t)

-- a payload that was folded, before the others
pub replay_more : (ended : Bool) (es next : Table) (p : ℕ × List ℕ) (ps : List (ℕ × List ℕ)) (now : Bool) → folded ended es p ≡ Ok (now, next) → replay_from ended es (p ∷ ps) ≡ replay_from now next ps
replay_more ended es next p ps now is = go (placed p.0 (decoded (record_of p.1))) is
  where
    after : (r : Record) (t : Result Table (ℕ × DamageWhy)) → (t >>= (λ n. Ok (with_end (ended || is_end r) n))) ≡ Ok (now, next) → (t >>= (λ n. replay_from (ended || is_end r) n ps)) ≡ replay_from now next ps
    after r (Ok n) e =
        let same : with_end (ended || is_end r) n ≡ (now, next) = cc in
        ap (λ (p : Bool × Table). replay_from p.0 p.1 ps) same
    after r (Err f) e = cc

    go : (d : Result Record (ℕ × DamageWhy)) → (d >>= (λ r. placed p.0 (next_table ended r es) >>= (λ n. Ok (with_end (ended || is_end r) n)))) ≡ Ok (now, next)
        → (d >>= (λ r. placed p.0 (next_table ended r es) >>= (λ n. replay_from (ended || is_end r) n ps))) ≡ replay_from now next ps
    go (Ok r) e = after r (placed p.0 (next_table ended r es)) e
    go (Err f) e = cc

-- a payload that is refused, before the others
pub replay_stops : (ended : Bool) (es : Table) (p : ℕ × List ℕ) (ps : List (ℕ × List ℕ)) (f : ℕ × DamageWhy) → folded ended es p ≡ Err f → replay_from ended es (p ∷ ps) ≡ Err f
replay_stops ended es p ps f is = go (placed p.0 (decoded (record_of p.1))) is
  where
    after : (r : Record) (t : Result Table (ℕ × DamageWhy)) → (t >>= (λ n. Ok (with_end (ended || is_end r) n))) ≡ Err f → (t >>= (λ n. replay_from (ended || is_end r) n ps)) ≡ Err f
    after r (Ok n) e = cc
    after r (Err g) e = cc

    go : (d : Result Record (ℕ × DamageWhy)) → (d >>= (λ r. placed p.0 (next_table ended r es) >>= (λ n. Ok (with_end (ended || is_end r) n)))) ≡ Err f
        → (d >>= (λ r. placed p.0 (next_table ended r es) >>= (λ n. replay_from (ended || is_end r) n ps))) ≡ Err f
    go (Ok r) e = after r (placed p.0 (next_table ended r es)) e
    go (Err g) e = cc

-- the block of the last payload
pub last_is : (b : ℕ) (p : ℕ × List ℕ) (ps : List (ℕ × List ℕ)) → last_block (p ∷ ps) ≡ last_after b (p ∷ ps)
last_is b p [] = refl
last_is b p (q ∷ ps) = last_is p.0 q ps

-- behind the last block nothing is left
no_scan : (k block at : ℕ) → (scan_within k block at []).payloads ≡ []
unfolding scan_within first_item
no_scan zero block at = refl
no_scan (suc k) block at = refl

pub none_left : (s : ReaderState) (blocks : List (List ℕ)) → length blocks ≤ s.next → (scan_left s blocks).payloads ≡ []
none_left s blocks past = go s.ended
  where
    empty : drop s.next blocks ≡ []
    empty = nil_from_length (drop s.next blocks) (length-drop s.next blocks ∙ omega arith)

    go : (e : Option ScanEnd) → (unless_over e (scan_from s.block_size s.next (drop s.next blocks))).payloads ≡ []
    go None = ap (λ (bs : List (List ℕ)). (scan_from s.block_size s.next bs).payloads) empty ∙ no_scan zero s.block_size s.next
    go (Some e) = refl

-- a record was taken and folded
pub fold_more : (ended now : Bool) (es next : Table) (whole rest : Scan) (r : LogRecord) (all : Result Table (ℕ × DamageWhy)) → whole ≡ with_payload r.block r.payload rest
    → folded ended es (r.block, r.payload) ≡ Ok (now, next) → replay_from ended es whole.payloads ≡ all → replay_from now next rest.payloads ≡ all
fold_more ended now es next whole rest r all takes is before =
    sym (replay_more ended es next (r.block, r.payload) rest.payloads now is)
    ∙ sym (ap (λ (s : Scan). replay_from ended es s.payloads) takes)
    ∙ before

-- a record was taken and refused
pub fold_stops : (ended : Bool) (es : Table) (whole rest : Scan) (r : LogRecord) (all : Result Table (ℕ × DamageWhy)) (f : ℕ × DamageWhy) → whole ≡ with_payload r.block r.payload rest
    → folded ended es (r.block, r.payload) ≡ Err f → replay_from ended es whole.payloads ≡ all → all ≡ Err f
fold_stops ended es whole rest r all f takes is before =
    sym before
    ∙ ap (λ (s : Scan). replay_from ended es s.payloads) takes
    ∙ replay_stops ended es (r.block, r.payload) rest.payloads f is

-- no record is left
pub fold_ends : (ended : Bool) (es : Table) (whole : Scan) (all : Result Table (ℕ × DamageWhy)) → whole.payloads ≡ [] → replay_from ended es whole.payloads ≡ all → all ≡ Ok es
fold_ends ended es whole all none before = sym before ∙ ap (replay_from ended es) none

pub last_more : (last : ℕ) (whole rest : Scan) (r : LogRecord) (all : ℕ) → whole ≡ with_payload r.block r.payload rest → last_after last whole.payloads ≡ all → last_after r.block rest.payloads ≡ all
last_more last whole rest r all takes before = sym (ap (λ (s : Scan). last_after last s.payloads) takes) ∙ before

pub last_ends : (last : ℕ) (whole : Scan) (all : ℕ) → whole.payloads ≡ [] → last_after last whole.payloads ≡ all → last ≡ all
last_ends last whole all none before = sym (ap (last_after last) none) ∙ before

-- ---- a log whose first payload is its superblock

-- a new reader has the whole log of its zone before it
pub new_reader : (r : ReaderState) (i : Image) (g : Geometry) (zone written : ℕ) → r ≡ record { zone = zone; block_size = g.block; window = window g; written = written; next = 0; ended = None; held = [] } → g ≡ i.geometry
    → scan_left r (zone_at i r.zone).blocks ≡ scan_at i zone
unfolding scan
new_reader r i g zone written is shape =
    ap (λ (s : ReaderState). scan_left s (zone_at i s.zone).blocks) is ∙ ap (λ (h : Geometry). scan h.block (zone_at i zone).blocks) shape

-- a log of no payload
pub nothing_replayed : (whole : Scan) (es : Table) → es ≡ [] → whole.payloads ≡ [] → replay_log (drop 1 whole.payloads) ≡ Ok es
unfolding replay_log
nothing_replayed whole es none empty = ap (λ ps. replay_log (drop 1 ps)) empty ∙ ap Ok (sym none)

-- the payloads behind the first
pub rest_replayed : (whole rest : Scan) (r : LogRecord) (es : Table) → es ≡ [] → whole ≡ with_payload r.block r.payload rest → replay_log (drop 1 whole.payloads) ≡ replay_from false es rest.payloads
unfolding replay_log
rest_replayed whole rest r es none takes = ap (λ (s : Scan). replay_log (drop 1 s.payloads)) takes ∙ ap (λ (t : Table). replay_from false t rest.payloads) (sym none)

-- the last payload of these
first_last : (p : ℕ × List ℕ) (ps : List (ℕ × List ℕ)) → last_block (p ∷ ps) ≡ last_after p.0 ps
first_last p [] = refl
first_last p (q ∷ ps) = last_is p.0 q ps

pub rest_last : (whole rest : Scan) (r : LogRecord) → whole ≡ with_payload r.block r.payload rest → last_after r.block rest.payloads ≡ last_block whole.payloads
rest_last whole rest r takes = sym (ap (λ (s : Scan). last_block s.payloads) takes ∙ first_last (r.block, r.payload) rest.payloads)
