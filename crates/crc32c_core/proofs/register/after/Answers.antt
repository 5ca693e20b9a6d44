use Rattle.std.proofs.Common.{◌*◌, ◌/◌, length}
use Rattle.std.proofs.lemmas.List.{take-append-drop}
use Rattle.crc32c_core.proofs.Pieces.{register_after-append}
use Rattle.crc32c_core.proofs.register.after.Goals as goal

pub returns : goal.returns
returns c =
    let whole = take-append-drop (8 * (length c.args.bytes.now / 8)) c.args.bytes.now in
    let both = register_after-append c.args.register c.split_at.result.0.now c.split_at.result.1.now in
    cc
