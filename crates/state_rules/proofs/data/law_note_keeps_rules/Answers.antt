use Rattle.state_rules.proofs.NoteRules.{note_keeps_rules}
use Rattle.state_rules.proofs.data.law_note_keeps_rules.Goals as goal

pub returns : goal.returns
returns c = note_keeps_rules
