use Rattle.std.proofs.Common.{◌∙◌, ◌++◌, refl}
use Rattle.std.specs.List.{flat_map}
use Rattle.record_model.specs.Numbers.{u64}
use Rattle.record_model.specs.Encoding.{entry_bytes, payload_of, slice}
use Rattle.record_codec.proofs.Lengths.{told_payload, deletion_inside}
use Rattle.record_codec.proofs.length.encoded_len.Goals as goal

pub returns-in-Snapshot : goal.returns-in-Snapshot
unfolding payload_of
returns-in-Snapshot c =
    rw c.in-Snapshot.is (told_payload 1 _ _ (flat_map (λ e. slice (entry_bytes e)) c.in-Snapshot.files) (rw c.items.ensures at c.files_len.ensures) c.tagged_len.ensures)

pub returns-in-Update : goal.returns-in-Update
unfolding payload_of
returns-in-Update c =
    rw c.in-Update.is (told_payload 2 _ _ (entry_bytes c.in-Update.file) c.entry_len.ensures c.tagged_len-in-Update.ensures)

pub returns-in-Deletion : goal.returns-in-Deletion
unfolding payload_of
returns-in-Deletion c =
    rw c.in-Deletion.is (told_payload 3 _ _ (u64 c.in-Deletion.id ++ slice c.in-Deletion.name) (c.deletion_len.ensures ∙ deletion_inside c.in-Deletion.id c.in-Deletion.name) c.tagged_len-in-Deletion.ensures)

pub returns-in-End : goal.returns-in-End
unfolding payload_of
returns-in-End c = rw c.in-End.is refl

pub returns-in-Replace : goal.returns-in-Replace
unfolding payload_of
returns-in-Replace c =
    rw c.in-Replace.is (told_payload 5 _ _ (entry_bytes c.in-Replace.file) c.entry_len-in-Replace.ensures c.tagged_len-in-Replace.ensures)
