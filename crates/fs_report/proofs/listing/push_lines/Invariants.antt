use Rattle.std.proofs.Common.{◌≡◌, ◌++◌, take, map}
use Rattle.fs_report.specs.Lines.{listed_of}
use Rattle.fs_report.proofs.listing.push_lines.Given as goal

-- a line for each name so far
abbrev pub invariant-loop-name : goal.invariant-loop-name
invariant-loop-name l =
    map listed_of l.lines.items
    ≡ map listed_of l.fn.lines.items ++ map (λ name. record { name = name; size = l.file.size; time = l.file.time }) (take l.name-index l.name-items)
