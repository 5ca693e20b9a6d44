-- Reading an entry's fields beside those kept by kind.
use Rattle.std.specs.Prelude.{ℕ, zero, suc, length, Result, Ok, ◌==◌, if◌then◌else◌}
use Rattle.record_model.specs.FieldDecoding.{Cursor, Reads, at_place, field_by, ◌>>=◌}
use Rattle.record_model.specs.declared.fault.DecodeFault.{DecodeFault}
use Rattle.record_model.specs.declared.types.FileEntry.{FileEntry}
use Rattle.record_model.specs.declared.field.Field.{Field}
use Rattle.record_codec.specs.Draft.{EntryDraft, empty_draft, with_field, finished, has_drafted_tag, has_drafted_name}

-- a whole field, where the fields of this draft stand before it
unfoldable pub drafted_field_at : EntryDraft → Cursor → Reads Field
drafted_field_at d c = field_by (λ tag. has_drafted_tag tag d) (λ name. has_drafted_name name d) c

-- one field more, and the place behind it
unfoldable pub drafted_step : EntryDraft → Cursor → Result (EntryDraft × Cursor) DecodeFault
drafted_step d c = do
  f ← at_place c.at (drafted_field_at d c)
  Ok (with_field f.0 d, f.1)

-- the fields to the end of the bytes
unfoldable pub drafted_fields_at : ℕ → EntryDraft → Cursor → Result EntryDraft DecodeFault
drafted_fields_at zero d c = Ok d
drafted_fields_at (suc k) d c =
    if length c.rest == 0 then Ok d else (do
      next ← drafted_step d c
      drafted_fields_at k next.0 next.1)

-- an entry that is all of the bytes
unfoldable pub drafted_entry_at : Cursor → Result FileEntry DecodeFault
drafted_entry_at c = do
  d ← drafted_fields_at (length c.rest) empty_draft c
  finished c.at d
