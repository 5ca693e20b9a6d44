use Rattle.extent_map.specs.Records.{recorded_of}
use Rattle.mount_replay.proofs.FoldLaws.{all_recorded}
use Rattle.mount_replay.proofs.SoundLaws.{record_keeps_sound}
use Rattle.mount_replay.proofs.records.fold_record.Goals as goal

pub apply-requires-clause-recorded : goal.apply-requires-clause-recorded
apply-requires-clause-recorded c = all_recorded c.args.table.now.rows c.requires.settled

pub returns-in-Ok-apply-clause-sound : goal.returns-in-Ok-apply-clause-sound
returns-in-Ok-apply-clause-sound c =
    record_keeps_sound (recorded_of c.args.table.now.rows) (recorded_of c.apply.new.self.rows) c.in-Ok.record c.requires.sound c.in-Ok.ensures.valid c.in-Ok-apply.ensures.made.made
