-- The text of an identifier is read as it was written.
use Rattle.std.proofs.Common.{◌≡◌, ℕ, ◌-◌, ◌^◌, ◌<◌, ◌==◌, List, [], ◌∷◌, ◌++◌, length, take, replicate, slice_index, Option, Some, None, if◌then◌else◌, refl, sym, ap, ◌∙◌, inl}
use Rattle.std.proofs.Math.Seq.{take-append_seam}
use Rattle.std.specs.Int.{w128, to_be_bytes, from_be_bytes}
use Rattle.std.specs.Option.{option_map}
use Rattle.uuid.specs.Text.{parsed, parsed_hyphenated, hyphenated_text, lower}
use Rattle.uuid.proofs.TextLemmas.{by_index_length}
use Rattle.uuid.proofs.RoundTrips.{parses_hyphenated_text}
use Rattle.superblock_core.specs.Superblock.{uuid_of, uuid_in, uuid_text}
use Rattle.superblock_core.specs.Text.{padded}
use Rattle.superblock_core.proofs.WholeNumbers.{number_again, bytes_fit}

-- a text of 36 bytes can only be the hyphenated form
pub parsed-of-36 : (text : List ℕ) → length text ≡ 36 → parsed text ≡ parsed_hyphenated text
parsed-of-36 text is = rw is refl

pub length-uuid_text : (id : ℕ) → length (uuid_text id) ≡ 36
unfolding uuid_text
length-uuid_text id = by_index_length 36 _

at_end : (xs : List ℕ) → slice_index (xs ++ 0 ∷ []) (length xs) ≡ 0
at_end [] = refl
at_end (x ∷ xs) = at_end xs

get_or_end : (xs : List ℕ) (n : ℕ) → length xs ≡ n → slice_index (xs ++ 0 ∷ []) n ≡ 0
get_or_end xs n is = ap (slice_index (xs ++ 0 ∷ [])) (sym is) ∙ at_end xs

-- the identifier is read from its text
uuid_of-text : (id : ℕ) → id < 2 ^ 128 → uuid_of (uuid_text id) ≡ Some id
unfolding uuid_text
uuid_of-text id fits =
    let bytes = to_be_bytes w128 id in
    ap (option_map (from_be_bytes w128)) (sym (parses_hyphenated_text lower bytes (inl refl) refl (bytes_fit id))) ∙ ap Some (number_again id fits)

-- the identifier is read from its field
pub uuid_in-field : (id : ℕ) → id < 2 ^ 128 → uuid_in (padded 37 (uuid_text id)) ≡ Some id
uuid_in-field id fits =
    let long = length-uuid_text id in
    let zeros : replicate (37 - length (uuid_text id)) 0 ≡ 0 ∷ [] = ap (λ n. replicate (37 - n) 0) long in
    let whole : padded 37 (uuid_text id) ≡ uuid_text id ++ 0 ∷ [] = ap (λ z. uuid_text id ++ z) zeros in
    let last : slice_index (uuid_text id ++ 0 ∷ []) 36 ≡ 0 = get_or_end (uuid_text id) 36 long in
    let front : take 36 (uuid_text id ++ 0 ∷ []) ≡ uuid_text id = ap (λ n. take n (uuid_text id ++ 0 ∷ [])) (sym long) ∙ take-append_seam (uuid_text id) (0 ∷ []) in
    ap uuid_in whole ∙ ap (λ b. if b == 0 then uuid_of (take 36 (uuid_text id ++ 0 ∷ [])) else None) last ∙ ap uuid_of front ∙ uuid_of-text id fits

none_of : {A B : Type 0} (f : A → B) (o : Option A) → ((a : A) → o ≡ Some a → ⊥) → None ≡ option_map f o
none_of f None no_value = refl
none_of f (Some a) no_value = absurd (no_value a refl)

-- a text that doesn't parse is no identifier's
pub no_identifier : (text : List ℕ) → length text ≡ 36 → ((u : List ℕ) → parsed text ≡ Some u → ⊥) → None ≡ uuid_of text
no_identifier text long none = none_of (from_be_bytes w128) (parsed_hyphenated text) (λ u is. none u (parsed-of-36 text long ∙ is))

-- the text and a zero fill the field
pub padded-text : (id : ℕ) (text : List ℕ) → text ≡ uuid_text id → text ++ 0 ∷ [] ≡ padded 37 (uuid_text id)
padded-text id text is =
    ap (λ t. t ++ 0 ∷ []) is ∙ ap (λ n. uuid_text id ++ replicate (37 - n) 0) (sym (length-uuid_text id))

-- the text of the bytes of a number is the identifier's
pub written-text : (id : ℕ) (bytes text : List ℕ) → text ≡ hyphenated_text lower bytes → bytes ≡ to_be_bytes w128 id → text ≡ uuid_text id
unfolding uuid_text
written-text id bytes text is of = is ∙ ap (hyphenated_text lower) of
