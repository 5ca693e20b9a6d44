use Rattle.std.proofs.Common.{◌≡◌, arith}
use Rattle.std.proofs.lemmas.Grind.{common_steps}
use Rattle.record_model.specs.Encoding.{payload_of}
use Rattle.record_codec.proofs.RecordLaws.{record_again}
use Rattle.record_codec.proofs.Roundtrip.{payload_spells}
use Rattle.record_codec.proofs.encoder.encode.Goals as goal

pub returns-clause-spelled : goal.returns-clause-spelled
returns-clause-spelled c =
    let written : c.from_vec.result ≡ payload_of c.args.value.now = grind (arith, common_steps) in
    λ h. payload_spells c.from_vec.result c.args.value.now written h c.requires

pub returns-clause-read_again : goal.returns-clause-read_again
returns-clause-read_again c =
    let written : c.from_vec.result ≡ payload_of c.args.value.now = grind (arith, common_steps) in
    λ h. record_again c.from_vec.result c.args.value.now (payload_spells c.from_vec.result c.args.value.now written h c.requires)
