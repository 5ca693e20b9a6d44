use Rattle.std.proofs.Common.{◌^◌, arith}
use Rattle.record_model.specs.Encoding.{entry_bytes, slice}
use Rattle.record_model.specs.declared.types.FileEntry.{FileEntry}
use Rattle.record_codec.proofs.Entries.{part_fits, slice_len}
use Rattle.record_codec.proofs.encoder.push_files.Goals as goal

pub push_sliced_entry-requires : goal.push_sliced_entry-requires
push_sliced_entry-requires c =
    let fits = part_fits (λ (e : FileEntry). slice (entry_bytes e)) c.args.files.now c.loop-file.file-index c.file-item.result (2 ^ 64) c.loop-file-test.true c.file-item.is c.requires in
    omega (arith, fits, slice_len (entry_bytes c.file-item.result))
