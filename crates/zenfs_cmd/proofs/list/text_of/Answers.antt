use Rattle.std.proofs.Common.{refl}
use Rattle.std.proofs.lemmas.Result.{IfErr-weaker, on_ok_weaker}
use Rattle.std.specs.Option.{option_copied}
use Rattle.zone_image.specs.Counts.{Rose}
use Rattle.command_model.specs.CommandLine.Command.{ListFiles}
use Rattle.zenfs_cmd.proofs.ReasonLaws.{is_mounted, name_refused, shows}
use Rattle.zenfs_cmd.proofs.list.text_of.Goals as goal

pub returns-in-Ok-clause-allowed : goal.returns-in-Ok-clause-allowed
returns-in-Ok-clause-allowed g c = λ at.
    let D = g.D.ZonedDevice in
    let dev = c.args.dev in
    on_ok_weaker c.text_under-text.result
    (λ named told. shows (ListFiles at (option_copied c.args.prefix)) D.tells (D.absent dev) (D.image dev) c.in-Ok.fs.state refl (c.in-Ok.ensures.there told) named (c.in-Ok.ensures.state told))
    (c.text_under-text.ensures.named at)

pub returns-in-Ok-clause-refused : goal.returns-in-Ok-clause-refused
returns-in-Ok-clause-refused g c = λ at.
    let D = g.D.ZonedDevice in
    let dev = c.args.dev in
    IfErr-weaker c.text_under-text.result _ _ (λ cause reason.
    name_refused (ListFiles at (option_copied c.args.prefix)) (Rose (D.faults dev) (D.faults c.unmount.result)) (λ _. ⊥)
    D.tells (D.absent dev) (D.image dev) cause c.in-Ok.ensures.there (λ told. is_mounted (D.image dev) c.in-Ok.fs.state (c.in-Ok.ensures.state told)) reason)
    (c.text_under-text.ensures.refused at)
