use Rattle.std.proofs.Common.{◌≡◌, ◌≤◌, ℕ, length}
use Rattle.record_codec.specs.Draft.{empty_draft}
use Rattle.record_codec.specs.DraftedField.{drafted_fields_at}
use Rattle.record_codec.specs.Place.{place}
use Rattle.record_codec.proofs.entry.fields_at.Given as goal

abbrev pub invariant-loop-c : goal.invariant-loop-c
invariant-loop-c l =
    (k : ℕ) × (length l.c.rest.now ≤ k) × (drafted_fields_at k l.draft (place l.c) ≡ drafted_fields_at (length l.start.rest.now) empty_draft (place l.start))

abbrev pub decreases-loop-c : goal.decreases-loop-c
decreases-loop-c l = length l.c.rest.now
