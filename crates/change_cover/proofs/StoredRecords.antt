-- A record that is added to the log of an image at rest, after a roll or not.
use Rattle.std.specs.Prelude.{◌+◌, [], ◌∷◌, Ok, refl}
use Rattle.std.proofs.Common.{◌∙◌, ap, sym, subst, ⊎_elim}
use Rattle.record_model.specs.Encoding.{payload_of}
use Rattle.record_model.specs.declared.types.Record.TheVariants.{Snapshot}
use Rattle.log_model.specs.FileTree.{apply}
use Rattle.fs_model.specs.FsState.{recorded}
use Rattle.fs_model.specs.CrashClauses.{shown_tree}
use Rattle.crash_cover.specs.AtRest.{IsAtRest, with_record}
use Rattle.crash_cover.specs.Recovery.{RecoversTable}
use Rattle.change_records.specs.Recorded.{entries}
use Rattle.change_records.proofs.Writable.{payload_reads_again}
use Rattle.change_cover.specs.Rests.{HaveNoPoints, AreShown}
use Rattle.change_cover.specs.Stored.{NextLogFollows, ChangeMakesTable, ChangeMakesBehind, RecordStands, RecordBehindRollStands, RecordLeaves, RecordBehindRollLeaves}
use Rattle.change_cover.proofs.LeftTrees.{recovered_is_left, changed_is_left, left_of_more}

pub next_log_follows : NextLogFollows
next_log_follows s = refl

pub change_makes_table : ChangeMakesTable
change_makes_table i s c r after rests is = record {
  rest = rests.rest;
  spelled = refl;
  short = is.short;
  change = r;
  reads = payload_reads_again r is.spelled is.short;
  goes_on = is.goes_on;
  after = is.makes.replayed;
  pinned = is.adds.pinned i rests.rest.pinned;
}

pub change_makes_behind : ChangeMakesBehind
change_makes_behind i s c r after rests is can = record {
  reads = payload_reads_again (Snapshot (recorded s)) can.writable can.short;
  makes = change_makes_table i s c r after rests is;
}

pub record_stands : RecordStands
record_stands i j s next c r after stands is becomes shown at goes_on =
    let rests = stands.rests in
    let makes = change_makes_table i s c r after rests is in
    let log = with_record i rests.log (payload_of r) in
    record {
      rests = record {
        log = log;
        greatest = rests.greatest;
        rest =
            subst (λ rows. IsAtRest j log rests.greatest (entries rows)) (sym becomes.rows)
            (at rests.log rests.greatest (payload_of r) (recorded s) (entries after) makes);
        selected = goes_on rests.log rests.greatest (payload_of r) (recorded s) (entries after) makes ∙ ap (λ l. Ok l) (sym becomes.log);
      };
      shown = subst AreShown (sym becomes.rows) shown;
      points = subst (λ rows. HaveNoPoints (entries rows)) (sym becomes.rows) is.names.points;
    }

pub record_behind_roll_stands : RecordBehindRollStands
record_behind_roll_stands i j s next c r after stands is can becomes shown at goes_on =
    let rests = stands.rests in
    let makes = change_makes_behind i s c r after rests is can in
    let new = at rests.log rests.greatest (payload_of r) (recorded s) (entries after) makes in
    record {
      rests = record {
        log = new.0;
        greatest = s.log.greatest + 1;
        rest = subst (λ rows. IsAtRest j new.0 (s.log.greatest + 1) (entries rows)) (sym becomes.rows) new.1;
        selected = goes_on rests.log rests.greatest (payload_of r) (recorded s) (entries after) makes ∙ ap (λ l. Ok l) (sym becomes.log);
      };
      shown = subst AreShown (sym becomes.rows) shown;
      points = subst (λ rows. HaveNoPoints (entries rows)) (sym becomes.rows) is.names.points;
    }

pub record_leaves : RecordLeaves
record_leaves i j s c r after stands is left =
    let rests = stands.rests in
    let before = shown_tree i s in
    ⊎_elim
    (λ (old : RecoversTable i (recorded s) j). left_of_more i j [] (before ∷ []) (apply c before ∷ []) (recovered_is_left i j s rests stands.shown old))
    (λ (new : RecoversTable i (entries after) j). left_of_more i j (before ∷ []) (apply c before ∷ []) [] (changed_is_left i j s c after stands is.names new))
    (left rests.log rests.greatest (payload_of r) (recorded s) (entries after) (change_makes_table i s c r after rests is))

pub record_behind_roll_leaves : RecordBehindRollLeaves
record_behind_roll_leaves i j s c r after stands is can left =
    let rests = stands.rests in
    let before = shown_tree i s in
    ⊎_elim
    (λ (old : RecoversTable i (recorded s) j). left_of_more i j [] (before ∷ []) (apply c before ∷ []) (recovered_is_left i j s rests stands.shown old))
    (λ (new : RecoversTable i (entries after) j). left_of_more i j (before ∷ []) (apply c before ∷ []) [] (changed_is_left i j s c after stands is.names new))
    (left rests.log rests.greatest (payload_of r) (recorded s) (entries after) (change_makes_behind i s c r after rests is can))
