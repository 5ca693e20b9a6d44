use Rattle.state_rules.proofs.WritingData.{note_keeps_writing}
use Rattle.state_rules.proofs.writing.law_note_keeps_writing.Goals as goal

pub returns : goal.returns
returns c = note_keeps_writing
