-- What stays of bytes that a piece is written over, and where the piece stands.
use Rattle.std.proofs.Common.{◌≡◌, ℕ, ◌+◌, ◌-◌, ◌≤◌, List, ◌++◌, length, take, drop, sym, ◌∙◌, ap, arith, append_assoc, length-append, length-drop}
use Rattle.std.proofs.lemmas.List.{take-append-le, take-take, take_at, drop_at, length-take-le, drop-drop, drop-take}
use Rattle.image_backend.specs.Contents.{patched, SameOutside}

module _ (at : ℕ) (piece bytes : List ℕ) (fits : at + length piece ≤ length bytes) where
  long_before : length (take at bytes) ≡ at
  long_before = length-take-le at bytes (omega arith)

  long_front : length (take at bytes ++ piece) ≡ at + length piece
  long_front = length-append (take at bytes) piece ∙ ap (λ n. n + length piece) long_before

  take_before : take at (patched at piece bytes) ≡ take at bytes
  take_before = take-append-le at (take at bytes ++ piece) (drop (at + length piece) bytes) (omega (arith, long_front)) ∙ take_at (take at bytes) piece at long_before

  drop_behind : drop (at + length piece) (patched at piece bytes) ≡ drop (at + length piece) bytes
  drop_behind = drop_at (take at bytes ++ piece) (drop (at + length piece) bytes) (at + length piece) long_front

  -- the piece, and what stood behind it
  pub from_piece : drop at (patched at piece bytes) ≡ piece ++ drop (at + length piece) bytes
  from_piece = ap (drop at) (append_assoc (take at bytes) piece (drop (at + length piece) bytes)) ∙ drop_at (take at bytes) (piece ++ drop (at + length piece) bytes) at long_before

  pub length_patched : length (patched at piece bytes) ≡ length bytes
  length_patched = omega (arith, length-append (take at bytes ++ piece) (drop (at + length piece) bytes), long_front, length-drop (at + length piece) bytes)

  pub patched_outside : SameOutside at (length piece) bytes (patched at piece bytes)
  patched_outside = record { before = take_before; behind = drop_behind; long = length_patched }

module _ {at count : ℕ} {old new : List ℕ} (same : SameOutside at count old new) where
  -- a part before the range
  pub before_same : (start size : ℕ) → start + size ≤ at → take size (drop start new) ≡ take size (drop start old)
  before_same start size within =
      sym (drop-take start size new)
      ∙ ap (drop start) (sym (take-take (start + size) at new within) ∙ ap (take (start + size)) same.before ∙ take-take (start + size) at old within)
      ∙ drop-take start size old

  -- all from a place behind the range on
  pub behind_same : (start : ℕ) → at + count ≤ start → drop start new ≡ drop start old
  behind_same start behind =
      let there : (at + count) + (start - (at + count)) ≡ start = omega arith in
      ap (λ k. drop k new) (sym there) ∙ sym (drop-drop (start - (at + count)) (at + count) new) ∙ ap (drop (start - (at + count))) same.behind ∙ drop-drop (start - (at + count)) (at + count) old
      ∙ ap (λ k. drop k old) there
