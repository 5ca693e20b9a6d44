use Rattle.std.proofs.Common.{arith}
use Rattle.record_codec.proofs.RecordLaws.{is_found, is_only}
use Rattle.record_codec.proofs.Valid.{is_valid}
use Rattle.record_codec.proofs.decoder.decode.Goals as goal

pub returns-clause-found : goal.returns-clause-found
returns-clause-found c =
    is_found c.args.payload.now c.record_of.result (λ i. omega (arith, c.type_inv.payload i)) c.record_of.ensures

pub returns-clause-valid : goal.returns-clause-valid
returns-clause-valid c =
    is_valid c.args.payload.now c.record_of.result (is_found c.args.payload.now c.record_of.result (λ i. omega (arith, c.type_inv.payload i)) c.record_of.ensures)

pub returns-clause-only : goal.returns-clause-only
returns-clause-only c = λ r short spelled. is_only c.args.payload.now c.record_of.result r c.record_of.ensures spelled
