-- The decoder's place, as the definition of reading has it.
use Rattle.record_model.specs.FieldDecoding as decoding
use Rattle.record_codec.specs.declared.cursor.Cursor.{Cursor}

-- a place with the bytes from there, without where they lie in memory
abbrev pub place : Cursor → decoding.Cursor
place c = record { at = c.at; rest = c.rest.now }
