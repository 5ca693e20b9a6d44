-- Scans of logs, computed.
use Rattle.std.specs.Prelude.{◌≡◌, ℕ, List, [], ◌∷◌, ◌++◌, length, replicate, take, refl}
use Rattle.record_model.specs.Encoding.{payload_of}
use Rattle.record_model.specs.declared.types.Record.TheVariants.{End}
use Rattle.log_model.specs.LogScan.{record_bytes, scan}
use Rattle.log_model.specs.LogScan.ScanEnd.{Clean, Torn, Bad}
use Rattle.log_model.specs.Opened.{scanning}
use Rattle.log_model.specs.ExampleImages.{blocks, first, snapshot}

-- a new log: a superblock of two blocks, and an empty snapshot of one
abbrev new_log : List (List ℕ)
new_log = blocks (first 1 ∷ snapshot [] ∷ [])

-- three blocks in all
three_blocks : length new_log ≡ 3
unfolding scanning
three_blocks = refl

-- its two payloads, and nothing behind
new_log_is_clean : scan 512 new_log ≡ record { payloads = (0, first 1) ∷ (2, snapshot []) ∷ []; end = Clean }
unfolding scanning
new_log_is_clean = refl

-- one of the superblock's blocks alone
half_superblock_is_torn : scan 512 (take 1 new_log) ≡ record { payloads = []; end = Torn 0 }
unfolding scanning
half_superblock_is_torn = refl

-- no block
empty_zone_is_clean : scan 512 [] ≡ record { payloads = []; end = Clean }
unfolding scanning
empty_zone_is_clean = refl

-- bytes behind a payload aren't looked at
padding_is_free : scan 512 ((record_bytes (payload_of End) ++ replicate 500 255) ∷ []) ≡ record { payloads = (0, payload_of End) ∷ []; end = Clean }
unfolding scanning
padding_is_free = refl

-- a stated length of 0, with the checksum of the length alone
no_length_is_bad : scan 512 (replicate 512 0 ∷ []) ≡ record { payloads = []; end = Bad 0 0 0 0x3A117BA6 }
unfolding scanning
no_length_is_bad = refl
