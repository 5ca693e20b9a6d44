-- A payload that spells an end record is the one that does.
use Rattle.std.specs.Prelude.{◌≡◌, ℕ, ◌-◌, ◌^◌, ◌≤◌, Bool, true, false, cond, List, [], ◌∷◌, length, take, drop, Option, Some, None, Result, Ok, Err, nat_lt, ◌==◌, refl}
use Rattle.std.proofs.Common.{◌∙◌, ap, sym, arith}
use Rattle.std.proofs.lemmas.Bool.{ltb-false, eqb-true, both_ways}
use Rattle.std.specs.Int.{w32, w64, from_le_bytes}
use Rattle.record_model.specs.Name.{is_name}
use Rattle.record_model.specs.Numbers.{u32}
use Rattle.record_model.specs.FieldDecoding.{Cursor, Reads, at_place, number, slice_at, ranged, advance, ◌>>=◌}
use Rattle.record_model.specs.Decoding.{record_kind_of, sliced, inside_at, ended, snapshot_at, update_at, replacement_at, deletion_at, entries_at, entry_at, record_with, record_of}
use Rattle.record_model.specs.declared.field.RecordKind.{RecordKind}
use Rattle.record_model.specs.declared.field.RecordKind.TheVariants as kinds
use Rattle.record_model.specs.declared.types.Record.{Record}
use Rattle.record_model.specs.declared.types.Record.TheVariants.{Snapshot, Update, Deletion, End, Replace}
use Rattle.record_model.specs.declared.fault.DecodeFault.{DecodeFault}
use Rattle.record_model.specs.declared.fault.Why.TheVariants.{Short, Range}
use Rattle.log_model.specs.FileTable.{is_end}
use Rattle.log_model.proofs.SelectedLog.{went_on, ok_is}

-- the same, where it is known whether bytes are left
ended_cases : {A : Type 0} → (none : Bool) (x y : A) (c : Cursor) → (length c.rest == 0) ≡ none
    → cond {A = Result A DecodeFault} none (Ok x) (Err (record { at = c.at; why = Range })) ≡ Ok y → (x ≡ y) × (length c.rest ≡ 0)
ended_cases true x y c test h = (ok_is h, eqb-true (length c.rest) 0 test)
ended_cases false x y c test h = cc

-- what was read to the end of the bytes is the result
pub ended_is : {A : Type 0} → (x y : A) (c : Cursor) → ended x c ≡ Ok y → (x ≡ y) × (length c.rest ≡ 0)
ended_is x y c h = ended_cases (length c.rest == 0) x y c refl h

-- a result that went on to an Ok has what each of its continuations gives
pub last_of : {A B E : Type 0} → (r : Result A E) (f : A → Result B E) (y : B) (P : B → Type 0) → ((x : A) → f x ≡ Ok y → P y) → (r >>= f) ≡ Ok y → P y
last_of r f y P step h = let a = went_on r f y h in step a.0 a.2

-- what a slice holds is an end only where what reads it gives one
sliced_no_end : (f : Cursor → Result Record DecodeFault) (c : Cursor) (r : Record) → ((d : Cursor) (s : Record) → f d ≡ Ok s → is_end s ≡ false)
    → sliced f c ≡ Ok r → is_end r ≡ false
sliced_no_end f c r other h =
    let a = went_on (inside_at c) (λ s. f s.0 >>= (λ x. ended x s.1)) r h in
    let b = went_on (f a.0.0) (λ x. ended x a.0.1) r a.2 in
    ap is_end (sym (ended_is b.0 r a.0.1 b.2).0) ∙ other a.0.0 b.0 b.1

-- a snapshot is no end
snapshot_no_end : (c : Cursor) (r : Record) → snapshot_at c ≡ Ok r → is_end r ≡ false
snapshot_no_end c r h = last_of (entries_at (length c.rest) [] c) (λ files. Ok (Snapshot files)) r (λ x. is_end x ≡ false) (λ files is. ap is_end (sym (ok_is is))) h

-- nor is an update
update_no_end : (c : Cursor) (r : Record) → update_at c ≡ Ok r → is_end r ≡ false
update_no_end c r h = last_of (entry_at c) (λ e. Ok (Update e)) r (λ x. is_end x ≡ false) (λ e is. ap is_end (sym (ok_is is))) h

-- nor is a replacement
replacement_no_end : (c : Cursor) (r : Record) → replacement_at c ≡ Ok r → is_end r ≡ false
replacement_no_end c r h = last_of (entry_at c) (λ e. Ok (Replace e)) r (λ x. is_end x ≡ false) (λ e is. ap is_end (sym (ok_is is))) h

-- nor is a deletion
deletion_no_end : (c : Cursor) (r : Record) → deletion_at c ≡ Ok r → is_end r ≡ false
deletion_no_end c r h =
    last_of (at_place c.at (number w64 c)) _ r (λ x. is_end x ≡ false)
    (λ id a. last_of (at_place c.at (ranged (nat_lt id.0 (2 ^ 64 - 1)) id.0)) _ r (λ x. is_end x ≡ false)
    (λ known b. last_of (at_place id.1.at (slice_at id.1)) _ r (λ x. is_end x ≡ false)
    (λ s d. last_of (at_place id.1.at (ranged (is_name s.0) s.0)) _ r (λ x. is_end x ≡ false)
    (λ name e. ap is_end (sym (ended_is (Deletion known name) r s.1 e).0)) d) b) a) h

-- only the end's tag reads an end, and nothing follows it
kind_of_end : (tag : ℕ) (kind : Option RecordKind) (c : Cursor) (r : Record) → record_with tag kind c ≡ Ok r → is_end r ≡ true → (kind ≡ Some kinds.End) × (length c.rest ≡ 0)
kind_of_end tag None c r h e = cc
kind_of_end tag (Some kinds.Snapshot) c r h e = absurd (both_ways (is_end r) (sliced_no_end snapshot_at c r snapshot_no_end h) e)
kind_of_end tag (Some kinds.Update) c r h e = absurd (both_ways (is_end r) (sliced_no_end update_at c r update_no_end h) e)
kind_of_end tag (Some kinds.Deletion) c r h e = absurd (both_ways (is_end r) (sliced_no_end deletion_at c r deletion_no_end h) e)
kind_of_end tag (Some kinds.End) c r h e = (refl, (ended_is End r c h).1)
kind_of_end tag (Some kinds.Replace) c r h e = absurd (both_ways (is_end r) (sliced_no_end replacement_at c r replacement_no_end h) e)

-- the tag of an end is 4
end_tag : (a b d f g : Bool) (tag : ℕ) → (tag == 4) ≡ f
    → cond a (Some kinds.Snapshot) (cond b (Some kinds.Update) (cond d (Some kinds.Deletion) (cond f (Some kinds.End) (cond g (Some kinds.Replace) None)))) ≡ Some kinds.End → tag ≡ 4
end_tag true b d f g tag test h = cc
end_tag false true d f g tag test h = cc
end_tag false false true f g tag test h = cc
end_tag false false false true g tag test h = eqb-true tag 4 test
end_tag false false false false true tag test h = cc
end_tag false false false false false tag test h = cc

-- the bytes of the end's tag alone
end_bytes : (payload : List ℕ) → 4 ≤ length payload → from_le_bytes w32 (take 4 payload) ≡ 4 → length (drop 4 payload) ≡ 0 → payload ≡ u32 4
end_bytes [] long tag none = absurd (omega arith)
end_bytes (a ∷ []) long tag none = absurd (omega arith)
end_bytes (a ∷ b ∷ []) long tag none = absurd (omega arith)
end_bytes (a ∷ b ∷ c ∷ []) long tag none = absurd (omega arith)
end_bytes (a ∷ b ∷ c ∷ d ∷ e ∷ rest) long tag none = absurd (omega arith)
end_bytes (a ∷ b ∷ c ∷ d ∷ []) long tag none =
    let first : a ≡ 4 = omega arith in
    let second : b ≡ 0 = omega arith in
    let third : c ≡ 0 = omega arith in
    let fourth : d ≡ 0 = omega arith in
    cc

-- a tag is read where there are four bytes
tag_read : (short : Bool) (n : ℕ) (c : Cursor) (t : ℕ × Cursor) → nat_lt (length c.rest) 4 ≡ short
    → at_place 0 (cond {A = Reads ℕ} short (Err Short) (Ok (n, advance 4 c))) ≡ Ok t → (4 ≤ length c.rest) × ((n, advance 4 c) ≡ t)
tag_read true n c t test h = cc
tag_read false n c t test h = (ltb-false (length c.rest) 4 test, ok_is h)

-- a payload that spells an end record is its tag
pub end_payload : (payload : List ℕ) (r : Record) → record_of payload ≡ Ok r → is_end r ≡ true → payload ≡ u32 4
unfolding record_of
end_payload payload r h e =
    let whole : Cursor = record { at = 0; rest = payload } in
    let tag = went_on (at_place 0 (number w32 whole)) (λ t. record_with t.0 (record_kind_of t.0) t.1) r h in
    let read = tag_read (nat_lt (length payload) 4) (from_le_bytes w32 (take 4 payload)) whole tag.0 refl tag.1 in
    let kind = kind_of_end tag.0.0 (record_kind_of tag.0.0) tag.0.1 r tag.2 e in
    let four : tag.0.0 ≡ 4 = end_tag (tag.0.0 == 1) (tag.0.0 == 2) (tag.0.0 == 3) (tag.0.0 == 4) (tag.0.0 == 5) tag.0.0 refl kind.0 in
    let value : from_le_bytes w32 (take 4 payload) ≡ tag.0.0 = ap (λ p. p.0) read.1 in
    let rest : drop 4 payload ≡ tag.0.1.rest = ap (λ p. p.1.rest) read.1 in
    end_bytes payload read.0 (value ∙ four) (ap (λ bs. length bs) rest ∙ kind.1)
