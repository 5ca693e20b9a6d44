use Rattle.mount_replay.proofs.RecoveryLaws.{address_bound, point_zone}
use Rattle.mount_replay.proofs.recovered.frame_start.Goals as goal

pub returns-clause-addresses : goal.returns-clause-addresses
returns-clause-addresses c =
    let g = c.args.geometry.now in
    address_bound g c.args.start c.written_of.result c.block_of.result c.requires.valid (point_zone g c.args.infos.now c.args.start c.requires.point) c.written_of.type_inv
