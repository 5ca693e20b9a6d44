use Rattle.std.proofs.Common.{◌≡◌, length, take}
use Rattle.std.specs.List.{flat_map}
use Rattle.record_model.specs.Encoding.{entry_bytes, slice}
use Rattle.record_codec.specs.Length.{told}
use Rattle.record_codec.proofs.length.files_len.Given as goal

abbrev pub invariant-loop-file : goal.invariant-loop-file
invariant-loop-file l = l.len ≡ told (length (flat_map (λ e. slice (entry_bytes e)) (take l.file-index l.files)))
