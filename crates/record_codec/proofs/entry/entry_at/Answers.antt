use Rattle.record_codec.specs.Place.{place}
use Rattle.record_codec.proofs.DraftedReading.{drafted_entry-same}
use Rattle.record_codec.proofs.entry.entry_at.Goals as goal

pub returns : goal.returns
returns c = rw (drafted_entry-same (place c.args.c)) at c.drafted_entry_at.ensures
