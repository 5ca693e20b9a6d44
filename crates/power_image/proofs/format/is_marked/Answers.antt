use Rattle.std.proofs.Common.{◌≡◌, ℕ, Bool, true, false, not, ◌&&◌, eqb, take, drop, refl, sym, ap, ◌∙◌, arith, length-drop}
use Rattle.std.proofs.lemmas.List.{take_all}
use Rattle.byteorder.specs.Endian.{little_number}
use Rattle.std.specs.Str.{bytes_eq}
use Rattle.crc32c_core.specs.Checksum.{crc32c, masked}
use Rattle.image_backend.specs.Format.{u32_at}
use Rattle.power_image.specs.Layout.{is_marked, magic}
use Rattle.power_image.proofs.format.is_marked.Goals as goal

not_false : (b : Bool) → false ≡ not b → b ≡ true
not_false true h = refl
not_false false h = cc

both : (text : Bool) (a b x y : ℕ) → text ≡ true → a ≡ x → b ≡ y → eqb a b ≡ (text && eqb x y)
both text a b x y is first second = ap (λ t. t && eqb a b) (sym is) ∙ ap (λ n. text && eqb n b) first ∙ ap (λ n. text && eqb x n) second

pub returns : goal.returns
unfolding is_marked
returns c =
    let text : bytes_eq (take 8 c.args.header.now) magic ≡ true = not_false (bytes_eq (take 8 c.args.header.now) magic) (sym c.if-ne.false ∙ c.ne.ensures) in
    let stored : c.read_u32-stored.result ≡ u32_at 28 c.args.header.now = c.read_u32-stored.ensures ∙ ap (little_number 4) (take_all 4 (drop 28 c.args.header.now) (omega (arith, length-drop 28 c.args.header.now))) in
    let computed : c.mask-computed.result ≡ masked (crc32c (take 28 c.args.header.now)) = c.mask-computed.ensures ∙ ap masked c.crc32c.ensures in
    both (bytes_eq (take 8 c.args.header.now) magic) _ _ _ _ text stored computed
