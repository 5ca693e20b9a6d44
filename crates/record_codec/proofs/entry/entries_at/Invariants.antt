use Rattle.std.proofs.Common.{◌≡◌, ◌≤◌, ℕ, [], length}
use Rattle.record_model.specs.Decoding.{entries_at}
use Rattle.record_codec.specs.Place.{place}
use Rattle.record_codec.proofs.entry.entries_at.Given as goal

abbrev pub invariant-loop-c : goal.invariant-loop-c
invariant-loop-c l =
    (k : ℕ) × (length l.c.rest.now ≤ k) × (entries_at k l.files.items (place l.c) ≡ entries_at (length l.start.rest.now) [] (place l.start))

abbrev pub decreases-loop-c : goal.decreases-loop-c
decreases-loop-c l = length l.c.rest.now
