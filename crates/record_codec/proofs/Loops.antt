-- One step of the loop over an entry's fields.
use Rattle.std.proofs.Common.{◌≡◌, ℕ, zero, suc, ◌-◌, ◌≤◌, ◌<◌, false, eqb, length, Result, Ok, Err, refl, sym, ap, ◌∙◌, arith}
use Rattle.std.proofs.lemmas.Bool.{eq-eqb, ne_eqb}
use Rattle.record_model.specs.FieldDecoding.{Cursor}
use Rattle.record_model.specs.declared.fault.DecodeFault.{DecodeFault}
use Rattle.record_codec.specs.declared.error.DecodeError.{DecodeError}
use Rattle.record_codec.specs.declared.error.DecodeError.TheVariants as decode_errors
use Rattle.record_codec.specs.Draft.{EntryDraft}
use Rattle.record_codec.specs.DraftedField.{drafted_step, drafted_fields_at}
use Rattle.record_codec.specs.Outcome.{Fails}

pub fields_go : (k : ℕ) (d : EntryDraft) (c : Cursor) (next : EntryDraft) (after : Cursor) (total : Result EntryDraft DecodeFault)
    → length c.rest ≤ k → 0 < length c.rest → drafted_step d c ≡ Ok (next, after) → drafted_fields_at k d c ≡ total → drafted_fields_at (k - 1) next after ≡ total
unfolding drafted_fields_at
fields_go zero d c next after total le some step so_far = absurd (omega arith)
fields_go (suc k) d c next after total le some step so_far =
    let same : suc k - 1 ≡ k = omega arith in
    let more : eqb (length c.rest) 0 ≡ false = ne_eqb _ _ (λ none. omega arith) in
    let one : drafted_fields_at (suc k) d c ≡ drafted_fields_at k next after = rw (more, step) refl in
    ap (λ (n : ℕ). drafted_fields_at n next after) same ∙ sym one ∙ so_far

pub fields_stop : (e : DecodeError) (k : ℕ) (d : EntryDraft) (c : Cursor) (total : Result EntryDraft DecodeFault)
    → length c.rest ≤ k → 0 < length c.rest → Fails e (drafted_step d c) → drafted_fields_at k d c ≡ total → Fails e total
unfolding drafted_fields_at
fields_stop decode_errors.NoMemory k d c total le some step so_far = tt
fields_stop (decode_errors.Bad fault) zero d c total le some step so_far = absurd (omega arith)
fields_stop (decode_errors.Bad fault) (suc k) d c total le some step so_far =
    let more : eqb (length c.rest) 0 ≡ false = ne_eqb _ _ (λ none. omega arith) in
    let one : drafted_fields_at (suc k) d c ≡ Err fault = rw (more, step) refl in
    sym so_far ∙ one

pub fields_end : (k : ℕ) (d : EntryDraft) (c : Cursor) → length c.rest ≡ 0 → drafted_fields_at k d c ≡ Ok d
unfolding drafted_fields_at
fields_end zero d c none = refl
fields_end (suc k) d c none = rw (eq-eqb _ _ none) refl
