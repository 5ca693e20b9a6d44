use Rattle.std.specs.Prelude.{◌++◌, codes}
use Rattle.command_model.specs.RefusalTexts.{hex_digits}
use Rattle.fs_report.proofs.Saying.{said}
use Rattle.fs_report.proofs.refusal_line.say_checksums.Goals as goal

pub returns-clause-said : goal.returns-clause-said
returns-clause-said g c = λ told.
    said _ _ _ (codes "checksum stored " ++ hex_digits 8 c.args.stored ++ codes " computed ") (hex_digits 8 c.args.computed) (said _ _ _ (codes "checksum stored " ++ hex_digits 8 c.args.stored) (codes " computed ") (said _ _ _ (codes "checksum stored ") (hex_digits 8 c.args.stored) (c.in_ok-write_all.ensures.whole told)
    (c.in_ok-say_hex.ensures.said told))
    (c.in_ok-write_all-2.ensures.whole told))
    (c.in_ok-say_hex-2.ensures.said told)
