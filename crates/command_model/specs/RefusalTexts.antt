-- Refusals: their texts and exit statuses.
use Rattle.std.specs.Prelude.{ℕ, zero, suc, ◌+◌, ◌/◌, ◌%◌, List, [], ◌∷◌, ◌++◌, codes, decimal, nat_lt, if◌then◌else◌}
use Rattle.record_model.specs.declared.fault.Why.{Why}
use Rattle.record_model.specs.declared.fault.Why.TheVariants.{Short, Tag, Twice, Missing, Range}
use Rattle.log_model.specs.declared.selection.DamageWhy.{DamageWhy}
use Rattle.log_model.specs.declared.selection.DamageWhy.TheVariants as why
use Rattle.log_model.specs.declared.selection.Refusal.{Refusal}
use Rattle.log_model.specs.declared.selection.Refusal.TheVariants.{NoFileSystem, Unsupported, Differs, Damaged}

-- why a program is refused
pub data Cause : Type 0 where
  Words : Cause
  DeviceFault : Cause
  HostFault : Cause
  OutputFault : Cause
  ScriptFault : Cause
  OutOfMemory : Cause
  NotAnImage : Cause
  ImageExists : Cause
  BadGeometry : Cause
  FsExists : (zone : ℕ) → Cause
  NoMount : (refusal : Refusal) → Cause
  BadName : (name : List ℕ) → Cause
  Clash : (name : List ℕ) → Cause
  BadHints : (line : ℕ) → Cause
  NotFound : (name : List ℕ) → Cause
  NameExists : (name : List ℕ) → Cause
  IdsEnd : Cause
  SequenceEnd : Cause
  MetaFull : (need capacity : ℕ) → Cause
  NoSpace : Cause
  ScriptTooLong : Cause
  BadScript : (line : ℕ) → Cause
  TooManyJobs : (jobs most : ℕ) → Cause

-- a record's fault with its place
abbrev pub fault_text : ℕ → Why → List ℕ
fault_text at Short = codes "record short at " ++ decimal at
fault_text at (Tag tag) = codes "record tag " ++ decimal tag ++ codes " at " ++ decimal at
fault_text at (Twice tag) = codes "record field " ++ decimal tag ++ codes " twice at " ++ decimal at
fault_text at (Missing tag) = codes "record field " ++ decimal tag ++ codes " missing at " ++ decimal at
fault_text at Range = codes "record range at " ++ decimal at

-- the byte of a hexadecimal digit, in lower case
abbrev pub hex_digit : ℕ → ℕ
hex_digit d = if nat_lt d 10 then 48 + d else 87 + d

-- the last n hexadecimal digits of a number
abbrev pub hex_digits : ℕ → ℕ → List ℕ
hex_digits zero v = []
hex_digits (suc n) v = hex_digits n (v / 16) ++ hex_digit (v % 16) ∷ []

-- the cause of damage
abbrev pub damage_text : DamageWhy → List ℕ
damage_text (why.Sum stored computed) = codes "checksum stored " ++ hex_digits 8 stored ++ codes " computed " ++ hex_digits 8 computed
damage_text why.NoLength = codes "no length"
damage_text (why.Text at) = codes "text at " ++ decimal at
damage_text (why.Decode fault) = fault_text fault.at fault.why
damage_text (why.Twin sequence) = codes "two logs of sequence " ++ decimal sequence
damage_text (why.Rule rule) = codes "rule " ++ decimal rule

-- why an image doesn't mount
abbrev pub mount_text : Refusal → List ℕ
mount_text NoFileSystem = codes "no file system"
mount_text (Unsupported zone version flags) =
    codes "zone " ++ decimal zone ++ codes ": unsupported version " ++ decimal version ++ codes " flags " ++ decimal flags
mount_text (Differs zone block zone_blocks zones) =
    codes "zone " ++ decimal zone ++ codes ": superblock states block " ++ decimal block ++ codes " zone " ++ decimal zone_blocks
    ++ codes " count " ++ decimal zones
mount_text (Damaged damage) =
    codes "damaged: zone " ++ decimal damage.zone ++ codes " block " ++ decimal damage.block ++ codes ": " ++ damage_text damage.why

-- the text of a cause
abbrev pub cause_text : Cause → List ℕ
cause_text Words = codes "bad command line"
cause_text DeviceFault = codes "device fault"
cause_text HostFault = codes "host fault"
cause_text OutputFault = codes "output fault"
cause_text ScriptFault = codes "script fault"
cause_text OutOfMemory = codes "out of memory"
cause_text NotAnImage = codes "not a zoned image"
cause_text ImageExists = codes "image exists"
cause_text BadGeometry = codes "bad geometry"
cause_text (FsExists zone) = codes "file system exists in zone " ++ decimal zone
cause_text (NoMount refusal) = mount_text refusal
cause_text (BadName name) = name ++ codes ": bad name"
cause_text (Clash name) = name ++ codes ": clashes in the backup"
cause_text (BadHints line) = codes "hints line " ++ decimal line
cause_text (NotFound name) = name ++ codes ": not found"
cause_text (NameExists name) = name ++ codes ": exists"
cause_text IdsEnd = codes "file ids at their end"
cause_text SequenceEnd = codes "sequence at its end"
cause_text (MetaFull need capacity) = codes "metadata full: " ++ decimal need ++ codes " of " ++ decimal capacity ++ codes " blocks"
cause_text NoSpace = codes "no space"
cause_text ScriptTooLong = codes "script too long"
cause_text (BadScript line) = codes "script line " ++ decimal line
cause_text (TooManyJobs jobs most) = decimal jobs ++ codes " jobs, at most " ++ decimal most

-- what a program prints where it is refused
unfoldable pub refusal_text : List ℕ → Cause → List ℕ
refusal_text program cause = program ++ codes ": " ++ cause_text cause ++ 10 ∷ []

-- the exit status of an image that doesn't mount
abbrev pub mount_status : Refusal → ℕ
mount_status (Damaged damage) = 5
mount_status _ = 1

-- the exit status of a cause
unfoldable pub status_of : Cause → ℕ
status_of Words = 2
status_of DeviceFault = 3
status_of HostFault = 3
status_of OutputFault = 3
status_of ScriptFault = 3
status_of OutOfMemory = 4
status_of (NoMount refusal) = mount_status refusal
status_of _ = 1
