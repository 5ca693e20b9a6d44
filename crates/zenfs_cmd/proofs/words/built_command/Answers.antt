use Rattle.std.proofs.Common.{Global, ap, map, sym, ◌∙◌, subst}
use Rattle.std.specs.Prelude.{IfSome, option_map, string_bytes}
use Rattle.command_words.specs.Commands.{command_meant}
use Rattle.zenfs_cmd.specs.Words.{HasAuxPath}
use Rattle.zenfs_cmd.proofs.WordLaws.{aux_path_kept}
use Rattle.zenfs_cmd.proofs.words.built_command.Goals as goal

pub returns-in-Ok-Some-clause-aux_path : goal.returns-in-Ok-Some-clause-aux_path
returns-in-Ok-Some-clause-aux_path c =
    c.if_built.ensures.aux_path
    (subst (λ o. IfSome o HasAuxPath) (sym c.in-Ok-Some.ensures.exact ∙ ap (option_map command_meant) c.in-Ok-Some.field-0-is)
    (aux_path_kept (map (string_bytes {Z = Global}) c.args.words.now)))
