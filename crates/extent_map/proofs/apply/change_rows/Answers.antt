use Rattle.extent_map.specs.Records.{recorded_of}
use Rattle.extent_map.proofs.ApplyLaws.{snapshot_is, end_is}
use Rattle.extent_map.proofs.apply.change_rows.Goals as goal

pub returns-in-Snapshot-clause-made : goal.returns-in-Snapshot-clause-made
returns-in-Snapshot-clause-made c =
    let made = rw c.items.ensures at c.take_snapshot.ensures.made in
    rw (c.in-Snapshot.is, snapshot_is c.in-Snapshot.files (recorded_of c.args.rows.now.items)) made

pub returns-in-Snapshot-clause-refused : goal.returns-in-Snapshot-clause-refused
returns-in-Snapshot-clause-refused c =
    let refused = rw c.items.ensures at c.take_snapshot.ensures.refused in
    rw (c.in-Snapshot.is, snapshot_is c.in-Snapshot.files (recorded_of c.args.rows.now.items)) refused

pub returns-in-End-clause-made : goal.returns-in-End-clause-made
returns-in-End-clause-made c = rw c.in-End.is (end_is (recorded_of c.args.rows.now.items))
