-- What a reading function returned, beside what the definition reads.
use Rattle.std.specs.Prelude.{◌≡◌, ⊤, Result, Ok, Err}
use Rattle.record_model.specs.declared.fault.DecodeFault.{DecodeFault}
use Rattle.record_model.specs.declared.fault.Why.{Why}
use Rattle.record_codec.specs.declared.error.DecodeError.{DecodeError}
use Rattle.record_codec.specs.declared.error.DecodeError.TheVariants as decode_errors
use Rattle.record_codec.specs.declared.error.FieldError.{FieldError}
use Rattle.record_codec.specs.declared.error.FieldError.TheVariants as field_errors

-- what a function returned, seen by view, is what reading gives
abbrev pub Returns : {X Y E : Type 0} → (X → Y) → Result X E → Result Y E → Type 0
Returns view (Ok x) read = read ≡ Ok (view x)
Returns view (Err e) read = read ≡ Err e

-- a field wasn't read: this is why, unless memory is wanting
abbrev pub FieldFails : {Y : Type 0} → FieldError → Result Y Why → Type 0
FieldFails (field_errors.Bad why) read = read ≡ Err why
FieldFails field_errors.NoMemory read = ⊤

-- what a function returned for a field is what reading gives, unless memory is wanting
abbrev pub GivesField : {X Y : Type 0} → (X → Y) → Result X FieldError → Result Y Why → Type 0
GivesField view (Ok x) read = read ≡ Ok (view x)
GivesField view (Err e) read = FieldFails e read

-- a payload wasn't read: this is its fault, unless memory is wanting
abbrev pub Fails : {Y : Type 0} → DecodeError → Result Y DecodeFault → Type 0
Fails (decode_errors.Bad fault) read = read ≡ Err fault
Fails decode_errors.NoMemory read = ⊤

-- what a function returned, seen by view, is what reading gives, unless memory is wanting
abbrev pub GivesBy : {X Y : Type 0} → (X → Y) → Result X DecodeError → Result Y DecodeFault → Type 0
GivesBy view (Ok x) read = read ≡ Ok (view x)
GivesBy view (Err e) read = Fails e read

-- what a function returned is what reading gives, the value or the first fault, unless memory is wanting
abbrev pub Gives : {Y : Type 0} → Result Y DecodeError → Result Y DecodeFault → Type 0
Gives (Ok x) read = read ≡ Ok x
Gives (Err e) read = Fails e read
