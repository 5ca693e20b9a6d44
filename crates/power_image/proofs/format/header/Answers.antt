use Rattle.std.proofs.Common.{◌≡◌, ◌++◌, List, ℕ, length, take, replicate, ◌≤◌, sym, ap, ◌∙◌, arith}
use Rattle.std.proofs.lemmas.List.{take_all}
use Rattle.crc32c_core.specs.Checksum.{crc32c, masked}
use Rattle.image_backend.specs.Format.{u32}
use Rattle.power_image.specs.Layout.{magic, header_bytes, header_front}
use Rattle.power_image.proofs.format.header.Goals as goal

-- a piece is added behind a front
added : (new old front piece : List ℕ) → new ≡ old ++ piece → old ≡ front → new ≡ front ++ piece
added new old front piece is before = is ∙ ap (λ o. o ++ piece) before

pub returns : goal.returns
unfolding header_bytes
returns c =
    let long : length c.put-6.new.out ≤ 32 = omega arith in
    let text : take 8 (c.copy_from_slice.new.self ++ replicate 24 0) ≡ magic = ap (λ (t : List ℕ). take 8 (t ++ replicate 24 0)) c.copy_from_slice.ensures.after in
    let front : take 28 c.put-5.new.out ≡ header_front c.args.geometry.now =
    added _ _ _ _ c.put-5.ensures (added _ _ _ _ c.put-4.ensures (added _ _ _ _ c.put-3.ensures (added _ _ _ _ c.put-2.ensures (added _ _ _ _ c.put.ensures text)))) in
    let sum : c.mask-checksum.result ≡ masked (crc32c (header_front c.args.geometry.now)) = c.mask-checksum.ensures ∙ ap masked (c.crc32c.ensures ∙ ap crc32c front) in
    sym (take_all 32 c.put-6.new.out long) ∙ added _ _ _ _ c.put-6.ensures front ∙ ap (λ n. header_front c.args.geometry.now ++ u32 n) sum
