use Rattle.std.proofs.Common.{◌≡◌, take}
use Rattle.std.specs.Prelude.{flat_map}
use Rattle.fs_report.specs.Lines.{listed_of, listed_text}
use Rattle.fs_report.proofs.listing.texts_of.Given as goal

-- the texts of the lines so far
abbrev pub invariant-loop-line : goal.invariant-loop-line
invariant-loop-line l = l.text.items ≡ flat_map (λ line. listed_text l.folder (listed_of line)) (take l.line-index l.lines)
