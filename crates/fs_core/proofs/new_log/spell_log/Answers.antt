use Rattle.std.proofs.Common.{◌^◌, ◌<◌, length, sym, subst}
use Rattle.record_model.specs.Encoding.{payload_of}
use Rattle.change_cover.proofs.RoomLaws.{may_mount_is_short}
use Rattle.fs_core.proofs.new_log.spell_log.Goals as goal

pub encode-requires : goal.encode-requires
encode-requires c =
    let s = c.args.tables.now.state in
    let sound = c.valid.ensures.sound in
    subst (λ r. length (payload_of r) < 2 ^ 32) (sym c.in_ok-record.ensures.made) (may_mount_is_short s sound.valid sound.settled c.requires)
