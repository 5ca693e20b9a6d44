use Rattle.std.proofs.lemmas.Result.{on_ok_weaker}
use Rattle.host_tree.proofs.LastEntries.{writing_long, writing_there, writing_added, writing_others, writing_same}
use Rattle.host_tree.proofs.entries.extend_open.Goals as goal

pub extend_last-requires : goal.extend_last-requires
extend_last-requires c = writing_long c.args.files.now.items c.args.opened c.requires.writing c.requires.there

pub returns-clause-still_there : goal.returns-clause-still_there
returns-clause-still_there c = writing_there c.args.files.now.items c.extend_last.new.files.items c.args.opened c.requires.writing c.requires.there c.extend_last.ensures.long

pub returns-clause-added : goal.returns-clause-added
returns-clause-added c =
    on_ok_weaker c.extend_last.result (λ done. writing_added c.args.files.now.items c.extend_last.new.files.items c.args.opened c.args.piece.now c.requires.writing c.requires.there done) c.extend_last.ensures.done

pub returns-clause-others : goal.returns-clause-others
returns-clause-others c =
    on_ok_weaker c.extend_last.result (λ done. writing_others c.args.files.now.items c.extend_last.new.files.items c.args.opened c.args.piece.now c.requires.writing done) c.extend_last.ensures.done

pub returns-clause-same_file : goal.returns-clause-same_file
returns-clause-same_file c =
    on_ok_weaker c.extend_last.result (λ done. writing_same c.args.files.now.items c.extend_last.new.files.items c.args.opened c.args.piece.now c.requires.writing done) c.extend_last.ensures.done
