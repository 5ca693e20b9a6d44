use Rattle.std.proofs.Common.{ℕ, List, Some, ap, ◌∙◌, arith, if◌then◌else◌}
use Rattle.std.proofs.lemmas.List.{take_all}
use Rattle.log_model.specs.FileTable.{is_among}
use Rattle.extent_map.specs.Holding.{holder_of}
use Rattle.extent_map.proofs.HolderLaws.{given_more}
use Rattle.extent_map.proofs.holders.Holders.give.Goals as goal

pub loop-name-preserved : goal.loop-name-preserved
loop-name-preserved c =
    given_more c.args.self.now c.loop-name.self c.give_one.new.self c.args.names.now c.loop-name.name-index c.args.id c.name-item.result (omega arith) c.name-item.is
    c.in_ok-give_one.ensures c.loop-name.invariant

pub returns : goal.returns
returns c = λ name.
    c.loop-name.invariant name
    ∙ ap (λ (names : List (List ℕ)). if is_among names name then Some c.args.id else holder_of name c.args.self.now) (take_all c.loop-name.name-index c.args.names.now c.loop-name-test.false)
