-- The log of a state and of a device, before a record is stored and once it is.
use Rattle.std.proofs.Common.{◌≡◌, ℕ, zero, suc, ◌+◌, ◌-◌, ◌^◌, ◌<◌, ◌≤◌, Bool, true, false, ◌==◌, List, [], ◌∷◌, ◌++◌, length, length-append, nat_lt, Result, Ok, Err, refl, sym, ◌∙◌, ap, subst, arith}
use Rattle.std.specs.Prelude.{IsErrOf, if◌then◌else◌}
use Rattle.std.proofs.lemmas.Bool.{le-ltb}
use Rattle.zone_image.specs.declared.Geometry.{Geometry}
use Rattle.zone_image.specs.declared.ZoneInfo.{ZoneInfo}
use Rattle.zone_image.specs.Infos.{info_at, infos_appended}
use Rattle.record_model.specs.Encoding.{payload_of}
use Rattle.record_model.specs.Numbers.{u32}
use Rattle.record_model.specs.declared.types.Record.{Record}
use Rattle.record_model.specs.declared.types.Record.TheVariants.{Snapshot, Update, Deletion, End, Replace}
use Rattle.log_model.specs.declared.selection.Chosen.{Chosen}
use Rattle.fs_model.specs.FsState.{FsState, ZoneDescriptor, descriptor_at, descriptor_in, on_descriptor}
use Rattle.fs_model.specs.LogSteps.{after_append, at_sequence_end, next_log, roll}
use Rattle.log_roll.specs.declared.roll_error.RollError.{RollError}
use Rattle.log_roll.specs.declared.roll_error.RollError.TheVariants.{SequenceEnd, MetaFull, DevFault, NoMemory}
use Rattle.log_roll.specs.Rolling.{NoValue, RefusesAs, roll_need, roll_refusal}
use Rattle.fs_tables.specs.MountedTables.{AreSound}
use Rattle.fs_tables.specs.Steps.{TakesBlocks, infos_in, with_emptied_metadata}
use Rattle.fs_tables.proofs.RollLaws.{filled, roll_ends, some_zones}
use Rattle.fs_tables.proofs.ZoneReads.{info_at_is}
use Rattle.fs_core.specs.Storing.{new_log_blocks}

-- the number and the seal of the log's zone, as the device tells them
pub log_info : (s : FsState) → AreSound s → (infos : List ZoneInfo) → infos_in s ≡ infos → (log : Chosen) → log ≡ s.log → info_at infos log.zone ≡ (descriptor_at s s.log.zone).info
log_info s sound infos told log is =
    let few : s.log.zone < length s.zones = omega (arith, sound.log_zone, some_zones s sound) in
    ap (λ (l : Chosen). info_at infos l.zone) is ∙ ap (λ (ns : List ZoneInfo). info_at ns s.log.zone) (sym told) ∙ info_at_is s s.log.zone few

-- the new log's zone has its blocks alone
rolled_here : (next capacity blocks : ℕ) (zs : List ZoneDescriptor) → next < 3 → 3 ≤ length zs → blocks < capacity
    → (descriptor_in (on_descriptor next (after_append capacity blocks) (with_emptied_metadata zs)) next).info ≡ record { written = blocks; sealed = false }
rolled_here next capacity blocks [] low long less = absurd (omega arith)
rolled_here next capacity blocks (a ∷ []) low long less = absurd (omega arith)
rolled_here next capacity blocks (a ∷ b ∷ []) low long less = absurd (omega arith)
rolled_here zero capacity blocks (a ∷ b ∷ c ∷ rest) low long less = ap (λ (y : ZoneDescriptor). y.info) (filled capacity blocks less a)
rolled_here (suc zero) capacity blocks (a ∷ b ∷ c ∷ rest) low long less = ap (λ (y : ZoneDescriptor). y.info) (filled capacity blocks less b)
rolled_here (suc (suc zero)) capacity blocks (a ∷ b ∷ c ∷ rest) low long less = ap (λ (y : ZoneDescriptor). y.info) (filled capacity blocks less c)
rolled_here (suc (suc (suc n))) capacity blocks (a ∷ b ∷ c ∷ rest) low long less = absurd (omega arith)

-- behind a roll there is room for a record
pub takes_behind_roll : (s u : FsState) (blocks : ℕ) → AreSound s → u ≡ (roll s).last → new_log_blocks s + blocks < s.geometry.capacity → TakesBlocks u blocks
takes_behind_roll s u blocks sound is room =
    let less : new_log_blocks s < s.geometry.capacity = omega arith in
    let long = some_zones s sound in
    let ends = roll_ends s sound.log_zone long less in
    let here = rolled_here (next_log s).zone s.geometry.capacity (new_log_blocks s) s.zones (omega arith) long less in
    subst (λ v. TakesBlocks v blocks) (sym (is ∙ ends.last))
    (record { unsealed = ap (λ (info : ZoneInfo). info.sealed) here; room = let written = ap (λ (info : ZoneInfo). info.written) here in omega (arith, written, room) })

-- the log after a roll
pub rolled_log : (s : FsState) → AreSound s → new_log_blocks s < s.geometry.capacity → (roll s).last.log ≡ next_log s
rolled_log s sound less = ap (λ (u : FsState). u.log) (roll_ends s sound.log_zone (some_zones s sound) less).last

-- a choice of refusals of which none is made
neither : (a b : Bool) (x y : RollError) → a ≡ false → b ≡ false → (let r : Result NoValue RollError = if a then Err x else if b then Err y else Ok tt in r) ≡ Ok tt
neither true b x y no_first no_second = absurd cc
neither false true x y no_first no_second = absurd cc
neither false false x y no_first no_second = refl

-- nothing is against a roll
pub nothing_refused : (s : FsState) (g : Geometry) (old : Chosen) (len : ℕ) → old.greatest ≡ s.log.greatest → at_sequence_end s ≡ false → roll_need g.block len ≤ g.capacity → roll_refusal g old len ≡ Ok tt
nothing_refused s g old len same left room =
    neither (old.greatest == 2 ^ 32 - 1) (nat_lt g.capacity (roll_need g.block len)) SequenceEnd (MetaFull (roll_need g.block len) g.capacity)
    (ap (λ n. n == 2 ^ 32 - 1) same ∙ left) (le-ltb g.capacity (roll_need g.block len) room)

-- a roll that nothing was against can only meet a fault
pub only_fault : (refusal : Result NoValue RollError) (why : RollError) → refusal ≡ Ok tt → RefusesAs refusal (Err why) → (IsErrOf {T = Chosen} (Err why) NoMemory → ⊥) → IsErrOf {T = Chosen} (Err why) DevFault
only_fault refusal why open_yet refused memory = by_cause why (subst (λ r. RefusesAs r (Err why)) open_yet refused) memory
  where
    by_cause : (w : RollError) → RefusesAs (Ok tt) (Err w) → (IsErrOf {T = Chosen} (Err w) NoMemory → ⊥) → IsErrOf {T = Chosen} (Err w) DevFault
    by_cause SequenceEnd h m = absurd (h tt)
    by_cause (MetaFull need capacity) h m = absurd (h tt)
    by_cause DevFault h m = refl
    by_cause NoMemory h m = absurd (m refl)

-- the same append to the same zones
pub same_append : (g h : Geometry) (is js : List ZoneInfo) (m n k l : ℕ) → g ≡ h → is ≡ js → m ≡ n → k ≡ l → infos_appended g is m k ≡ infos_appended h js n l
same_append g h is js m n k l shape told zone count =
    ap (λ x. infos_appended x is m k) shape ∙ ap (λ (x : List ZoneInfo). infos_appended h x m k) told ∙ ap (λ x. infos_appended h js x k) zone ∙ ap (λ x. infos_appended h js n x) count

-- bytes behind some others
behind : (front rest : List ℕ) → 1 ≤ length front → 1 ≤ length (front ++ rest)
behind front rest some = omega (arith, length-append front rest)

-- each payload has a byte
pub some_bytes : (r : Record) → 1 ≤ length (payload_of r)
unfolding payload_of
some_bytes (Snapshot files) = behind (u32 1) _ (omega arith)
some_bytes (Update e) = behind (u32 2) _ (omega arith)
some_bytes (Deletion id name) = behind (u32 3) _ (omega arith)
some_bytes End = omega arith
some_bytes (Replace e) = behind (u32 5) _ (omega arith)
