use Rattle.std.proofs.Common.{◌≡◌, ◌+◌, true, false, length, rules, sym, ◌∙◌, arith}
use Rattle.std.specs.Prelude.{◌==◌}
use Rattle.extent_map.proofs.NoteLaws.{last_longer, last_apart}
use Rattle.extent_map.proofs.extents.lengthens_last.Goals as goal

pub returns-then-not-follows-clause-apart : goal.returns-then-not-follows-clause-apart
returns-then-not-follows-clause-apart c = λ _.
    let last = c.index.result.now in
    let count : c.len-len.result ≡ length c.args.extents.now.items = search rules in
    let apart : (last.start + last.len == c.args.extent.now.start) ≡ false = sym c.follows.ensures ∙ c.if-not-follows.true in
    last_apart c.args.extents.now.items c.len-len.result c.args.extent.now last count (omega (arith, c.if-len-eq0.false)) c.index.ensures apart

pub returns-clause-longer : goal.returns-clause-longer
returns-clause-longer c = λ _.
    let last = c.index.result.now in
    let count : c.len-len.result ≡ length c.args.extents.now.items = search rules in
    let follows : (last.start + last.len == c.args.extent.now.start) ≡ true = sym c.follows.ensures ∙ c.if-not-follows.false in
    last_longer c.args.extents.now.items c.len-len.result c.args.extent.now last count (omega (arith, c.if-len-eq0.false)) c.index.ensures follows
