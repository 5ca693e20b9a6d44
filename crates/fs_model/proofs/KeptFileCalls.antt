-- What the calls of writers and of the collector leave alone.
use Rattle.std.specs.Prelude.{◌≡◌, ℕ, ◌*◌, Bool, true, false, not, ◌&&◌, ◌||◌, ◌==◌, nat_lt, List, [], ◌∷◌, length, Option, Some, None, refl, if◌then◌else◌}
use Rattle.std.proofs.Common.{sym, ◌∙◌, ap, subst}
use Rattle.std.proofs.lemmas.Bool.{false≢true, eq-eqb, eqb-true}
use Rattle.record_model.specs.declared.types.Extent.{Extent}
use Rattle.log_model.specs.Headroom.{blocks_of_record}
use Rattle.record_model.specs.declared.types.Record.TheVariants as records
use Rattle.fs_model.specs.declared.error.FsError.TheVariants.{Gone, SequenceEnd, NoSpace, Busy}
use Rattle.fs_model.specs.declared.zones.Owner.{Owner}
use Rattle.fs_model.specs.declared.zones.Owner.TheVariants.{Writer, Collector, Victim}
use Rattle.fs_model.specs.declared.zones.Move.{Move}
use Rattle.fs_model.specs.declared.error.FsError.{FsError}
use Rattle.fs_model.specs.declared.policy.Before.{Before}
use Rattle.fs_model.specs.declared.policy.Before.TheVariants as befores
use Rattle.fs_model.specs.declared.policy.Plan.{Plan}
use Rattle.fs_model.specs.declared.policy.Choice.{Choice}
use Rattle.fs_model.specs.declared.policy.Choice.TheVariants as choices
use Rattle.fs_model.specs.ZonePolicy.{choose_zone, is_idle_owner}
use Rattle.fs_model.specs.FsState.{FsState, ZoneDescriptor, TableRow, descriptor_at, zone_states, collects, next_address, row_of, on_row, room_in}
use Rattle.fs_model.specs.Trace.{◌>>◌, from_state, refuse_if, when}
use Rattle.fs_model.specs.LogSteps.{FsAction, NoValue, finish_zone, set_descriptor, append_blocks, add_record, set_owner, open_zone, set_row, must_roll, at_sequence_end, block_of, refuse_above}
use Rattle.fs_model.specs.FileSteps.{or_gone, commit, commit_blocks, commit_record, committed, take_chosen, with_recovery_point, recovery_point_blocks, record_recovery_point, take_zone, note, note_extent, extents_with, extent_need, show, shown_row, finish_short, give_back, moved, replace_by, replace, reset_victim, take_for, release_previous, open_destination, hold}
use Rattle.fs_model.specs.Untouched.{is_one_of, zones_before, zones_of_plan}
use Rattle.fs_model.proofs.KeptStates.{Keeps, keeps_done, keeps_refuse, keeps_from, keeps_when, keeps_refuse_if, keeps_bind, keeps_then}
use Rattle.fs_model.proofs.KeptZones.{keeps_zone, keeps_append, keeps_finish, keeps_record}
use Rattle.fs_model.proofs.KeptFiles.{keeps_rows, row_changed}
use Rattle.fs_model.proofs.KeptCalls.{same_owner, keeps_tests, keeps_need, keeps_dead}
use Rattle.fs_model.proofs.IdleZones.{IsIdleAt, NamesIdle, choice_idle}

-- a list of one number has it
is_itself : (n : ℕ) → is_one_of (n ∷ []) n ≡ true
is_itself n = ap (λ b. b || false) (eq-eqb n n refl)

-- ---- files

-- a file that is named is changed
keeps_row : {zones : List ℕ} → (id : ℕ) (g : TableRow → TableRow) → ((r : TableRow) → (g r).entry.id ≡ r.entry.id) → (s : FsState) → Keeps zones (id ∷ []) (set_row id g) s
keeps_row id g same s = keeps_rows (on_row id g) (row_changed (id ∷ []) id g s.rows (is_itself id) same)

-- a commit of a file that is there
keeps_commit_blocks : (blocks now id : ℕ) (r : TableRow) (s : FsState) → r.entry.id ≡ id → Keeps [] (id ∷ []) (commit_blocks blocks now r) s
keeps_commit_blocks blocks now id r s is =
    let P : ℕ → Type 0 = λ i. Keeps [] (i ∷ []) (commit_blocks blocks now r) s in
    subst P is
    (keeps_then (keeps_then (keeps_then
    (keeps_tests blocks s)
    (keeps_record blocks _))
    (keeps_row r.entry.id (committed now) (λ q. refl) _))
    (keeps_dead _))

-- the first of some files, or a later one
first_or_later : (id : ℕ) (c : Bool) (q r : TableRow) (later : Option TableRow) → (q.entry.id == id) ≡ c → (later ≡ Some r → r.entry.id ≡ id)
    → (if c then Some q else later) ≡ Some r → r.entry.id ≡ id
first_or_later id true q r later is rest h = let same : q ≡ r = cc in ap (λ p. p.entry.id) (sym same) ∙ eqb-true q.entry.id id is
first_or_later id false q r later is rest h = rest h

-- the file of an id has this id
pub has_id : (id : ℕ) (rows : List TableRow) (r : TableRow) → row_of id rows ≡ Some r → r.entry.id ≡ id
has_id id [] r h = cc
has_id id (q ∷ qs) r h = first_or_later id (q.entry.id == id) q r (row_of id qs) refl (has_id id qs r) h

-- goes on with a file that is there, and its id is the one that was asked for
keeps_or_gone : {A : Type 0} {zones ids : List ℕ} → (id : ℕ) (there : Option TableRow) (f : TableRow → FsAction A) (s : FsState)
    → ((r : TableRow) → there ≡ Some r → Keeps zones ids (f r) s) → Keeps zones ids (or_gone f there) s
keeps_or_gone id None f s k = keeps_refuse Gone
keeps_or_gone id (Some r) f s k = k r refl

-- a commit touches its file alone
pub keeps_commit : (id now : ℕ) (s : FsState) → Keeps [] (id ∷ []) (commit id now) s
unfolding commit
keeps_commit id now s =
    let f : TableRow → FsAction NoValue = λ r. from_state (λ t. commit_blocks (blocks_of_record (block_of t) (commit_record now r)) now r) in
    keeps_from (λ t. or_gone f (row_of id t.rows))
    (keeps_or_gone id (row_of id s.rows) f s (λ r there.
    keeps_from (λ t. commit_blocks (blocks_of_record (block_of t) (commit_record now r)) now r)
    (keeps_commit_blocks (blocks_of_record (block_of s) (commit_record now r)) now id r s (has_id id s.rows r there))))

-- bytes that come to be shown are those of the file alone
pub keeps_show : (id now : ℕ) (s : FsState) → Keeps [] (id ∷ []) (show id now) s
unfolding show
keeps_show id now s = keeps_row id (shown_row now) (λ r. refl) s

-- an extent is noted of the file alone
pub keeps_note : (id : ℕ) (x : Extent) (s : FsState) → Keeps [] (id ∷ []) (note_extent id x) s
unfolding note_extent
keeps_note id x s =
    let grows : TableRow → Bool = λ r. nat_lt (length r.unrecorded) (length (extents_with r.unrecorded x)) in
    let f : TableRow → FsAction NoValue = λ r. from_state (λ t. when (grows r) (refuse_above t (extent_need t id)) >> set_row id (note x)) in
    keeps_from (λ t. or_gone f (row_of id t.rows))
    (keeps_or_gone id (row_of id s.rows) f s (λ r there.
    keeps_from (λ t. when (grows r) (refuse_above t (extent_need t id)) >> set_row id (note x))
    (keeps_then (keeps_when (grows r) (λ _. keeps_need s (extent_need s id) s)) (keeps_row id (note x) (λ q. refl) _))))

-- a replacement of a file that is there
keeps_replace_by : (blocks id : ℕ) (ms : List Move) (s : FsState) → Keeps [] (id ∷ []) (replace_by blocks id ms) s
keeps_replace_by blocks id ms s =
    keeps_then (keeps_then
    (keeps_tests blocks s)
    (keeps_record blocks _))
    (keeps_row id (moved ms) (λ r. refl) _)

-- a replacement touches its file alone
pub keeps_replace : (id : ℕ) (ms : List Move) (s : FsState) → Keeps [] (id ∷ []) (replace id ms) s
unfolding replace
keeps_replace id ms s =
    let f : TableRow → FsAction NoValue = λ r. from_state (λ t. replace_by (blocks_of_record (block_of t) (records.Replace (moved ms r).entry)) id ms) in
    keeps_from (λ t. or_gone f (row_of id t.rows))
    (keeps_or_gone id (row_of id s.rows) f s (λ r there.
    keeps_from (λ t. replace_by (blocks_of_record (block_of t) (records.Replace (moved ms r).entry)) id ms)
    (keeps_replace_by (blocks_of_record (block_of s) (records.Replace (moved ms r).entry)) id ms s)))

-- ---- zones

-- a change of a zone that is named
keeps_named : {ids : List ℕ} → (zone : ℕ) (f : ZoneDescriptor → ZoneDescriptor) (s : FsState) → Keeps (zone ∷ []) ids (set_descriptor zone f) s
keeps_named zone f s = keeps_zone zone f (λ data_zone out held. false≢true (sym out ∙ is_itself zone))

-- blocks go to the zone alone
pub keeps_put : (zone k : ℕ) (s : FsState) → Keeps (zone ∷ []) [] (append_blocks zone k) s
keeps_put zone k s = keeps_append zone k (λ data_zone out held. false≢true (sym out ∙ is_itself zone))

-- a zone with little room is finished
keeps_short : (zone : ℕ) (s : FsState) → Keeps (zone ∷ []) [] (finish_short zone) s
keeps_short zone s =
    let little : FsState → Bool = λ t. not (descriptor_at t zone).info.sealed && nat_lt (room_in t zone * 100) (t.log.superblock.finish_threshold * t.geometry.capacity) in
    keeps_from (λ t. when (little t) (finish_zone zone)) (keeps_when (little s) (λ _. keeps_named zone _ s))

-- a zone that is given back is the only one that is touched
pub keeps_give_back : (zone : ℕ) (close : Bool) (s : FsState) → Keeps (zone ∷ []) [] (give_back zone close) s
unfolding give_back
keeps_give_back zone close s = keeps_then (keeps_when close (λ _. keeps_short zone s)) (keeps_named zone _ _)

-- the victim's reset touches it alone
pub keeps_reset_victim : (zone : ℕ) (s : FsState) → Keeps (zone ∷ []) [] (reset_victim zone) s
unfolding reset_victim
keeps_reset_victim zone s = keeps_then (keeps_named zone _ s) (keeps_named zone _ _)

-- a zone that nobody holds is opened
keeps_open : {ids : List ℕ} → (owner : Owner) (hint zone : ℕ) (s : FsState) → IsIdleAt s zone → Keeps [] ids (open_zone owner hint zone) s
keeps_open owner hint zone s idle = keeps_zone zone _ (λ data_zone out held. false≢true (sym held ∙ idle))

-- one is finished
keeps_finished : {ids : List ℕ} → (zone : ℕ) (s : FsState) → IsIdleAt s zone → Keeps [] ids (finish_zone zone) s
keeps_finished zone s idle = keeps_finish zone (λ data_zone out held. false≢true (sym held ∙ idle))

-- the zone that was chosen is opened
keeps_chosen : {ids : List ℕ} → (id hint : ℕ) (c : Choice) (s : FsState) → NamesIdle s c → Keeps [] ids (take_chosen id hint c) s
keeps_chosen id hint (choices.Take zone) s idle = keeps_then (keeps_open (Writer id) hint zone s idle) (keeps_done zone)
keeps_chosen id hint (choices.Fresh zone) s idle = keeps_then (keeps_open (Writer id) hint zone s idle) (keeps_done zone)
keeps_chosen id hint (choices.FinishFresh old zone) s idle =
    keeps_then (keeps_then (keeps_finished old s idle.0)
    (keeps_open (Writer id) hint zone (finish_zone old s).last
    (ap (λ o. is_idle_owner o) (same_owner old zone (λ z. record z { info = record { written = z.info.written; sealed = true } }) s.zones (λ z. refl)) ∙ idle.1)))
    (keeps_done zone)
keeps_chosen id hint choices.Busy s idle = keeps_refuse Busy
keeps_chosen id hint choices.NoSpace s idle = keeps_refuse NoSpace

-- a sparse file's recovery point is its own
keeps_recovery_point : (id : ℕ) (r : TableRow) (zone : ℕ) (s : FsState) → r.entry.id ≡ id → Keeps [] (id ∷ []) (record_recovery_point r zone) s
keeps_recovery_point id r zone s is =
    let P : ℕ → Type 0 = λ i. Keeps [] (i ∷ []) (record_recovery_point r zone) s in
    let body : FsState → FsAction NoValue = λ t. add_record (recovery_point_blocks t r) >> set_row r.entry.id (with_recovery_point (next_address t zone)) in
    subst P is
    (keeps_from (λ t. when r.entry.sparse (body t))
    (keeps_when r.entry.sparse (λ _. keeps_then (keeps_record (recovery_point_blocks s r) s) (keeps_row r.entry.id (with_recovery_point (next_address s zone)) (λ q. refl) _))))

-- what follows a test
keeps_tested : {A : Type 0} {zones ids : List ℕ} {m : FsAction A} → (broken : Bool) (e : FsError) (s : FsState) → Keeps zones ids m s → Keeps zones ids (refuse_if broken e >> m) s
keeps_tested true e s k = keeps_then (keeps_refuse_if true e) k
keeps_tested false e s k = keeps_then (keeps_refuse_if false e) k

-- a zone for the writer of this file
keeps_taken : (id : ℕ) (r : TableRow) (s : FsState) → r.entry.id ≡ id → Keeps [] (id ∷ []) (take_for id r s) s
keeps_taken id r s is =
    let hint : ℕ = r.entry.hint in
    let broken : Bool = r.entry.sparse && must_roll s (recovery_point_blocks s r) && at_sequence_end s in
    keeps_tested broken SequenceEnd s
    (keeps_bind (keeps_chosen id hint (choose_zone s.geometry (collects s) (zone_states s) hint) s (choice_idle s s.geometry (collects s) hint))
    (λ zone. keeps_then (keeps_recovery_point id r zone _ is) (keeps_done zone)))

-- a zone that a writer takes is one that nobody held
pub keeps_take_zone : (id : ℕ) (s : FsState) → Keeps [] (id ∷ []) (take_zone id) s
unfolding take_zone
keeps_take_zone id s =
    let f : TableRow → FsAction ℕ = λ r. from_state (take_for id r) in
    keeps_from (λ t. or_gone f (row_of id t.rows))
    (keeps_or_gone id (row_of id s.rows) f s (λ r there. keeps_from (take_for id r) (keeps_taken id r s (has_id id s.rows r there))))

-- ---- a plan

-- the second of two tests holds
second_holds : (a b : Bool) → b ≡ true → (a || b) ≡ true
second_holds true b h = refl
second_holds false b h = h

-- a change of one of these zones
keeps_one_of : {ids : List ℕ} → (zones : List ℕ) (zone : ℕ) (f : ZoneDescriptor → ZoneDescriptor) (s : FsState) → is_one_of zones zone ≡ true → Keeps zones ids (set_descriptor zone f) s
keeps_one_of zones zone f s named = keeps_zone zone f (λ data_zone out held. false≢true (sym out ∙ named))

-- what is done first with the zone that the collector holds
keeps_previous : (zones : List ℕ) (b : Before) (s : FsState) → ((zone : ℕ) → is_one_of (zones_before b) zone ≡ true → is_one_of zones zone ≡ true) → Keeps zones [] (release_previous b) s
keeps_previous zones befores.Nothing s named = keeps_done tt
keeps_previous zones (befores.Finish zone) s named =
    keeps_then (keeps_one_of zones zone _ s (named zone (is_itself zone))) (keeps_one_of zones zone _ _ (named zone (is_itself zone)))
keeps_previous zones (befores.Release zone) s named = keeps_one_of zones zone _ s (named zone (is_itself zone))

-- a plan is pinned: its zones alone are touched
pub keeps_hold : (p : Plan) (s : FsState) → Keeps (zones_of_plan p) [] (hold p) s
unfolding hold
keeps_hold p s =
    let zones : List ℕ = zones_of_plan p in
    let rest : ℕ → Bool = λ n. is_one_of (zones_before p.before) n in
    let victim_named : is_one_of zones p.victim ≡ true = ap (λ b. b || ((p.dest == p.victim) || rest p.victim)) (eq-eqb p.victim p.victim refl) in
    let dest_named : is_one_of zones p.dest ≡ true = second_holds (p.victim == p.dest) ((p.dest == p.dest) || rest p.dest) (ap (λ b. b || rest p.dest) (eq-eqb p.dest p.dest refl)) in
    keeps_then
    (keeps_previous zones p.before s (λ n h. second_holds (p.victim == n) ((p.dest == n) || rest n) (second_holds (p.dest == n) (rest n) h)))
    (pins p victim_named dest_named _)
  where
    pins : (p : Plan) → is_one_of (zones_of_plan p) p.victim ≡ true → is_one_of (zones_of_plan p) p.dest ≡ true → (t : FsState)
        → Keeps (zones_of_plan p) [] (from_state (λ u. open_destination (descriptor_at u p.victim).hint p.dest >> set_owner Victim p.victim)) t
    pins p victim_named dest_named t =
        let hint : ℕ = (descriptor_at t p.victim).hint in
        keeps_from (λ u. open_destination (descriptor_at u p.victim).hint p.dest >> set_owner Victim p.victim)
        (keeps_then
        (keeps_from (λ u. when (is_idle_owner (descriptor_at u p.dest).owner) (open_zone Collector hint p.dest))
        (keeps_when (is_idle_owner (descriptor_at t p.dest).owner) (λ _. keeps_one_of (zones_of_plan p) p.dest _ t dest_named)))
        (keeps_one_of (zones_of_plan p) p.victim _ _ victim_named))
