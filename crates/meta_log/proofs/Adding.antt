-- The blocks that an append of a record writes.
use Rattle.std.proofs.Common.{◌≡◌, ℕ, ◌*◌, ◌/◌, ◌%◌, ◌<◌, List, length, ap, ◌∙◌}
use Rattle.std.proofs.Math.Nat.{mul-div_cancel, mul-mod_left}
use Rattle.zone_image.specs.declared.Geometry.{Geometry}
use Rattle.zone_image.specs.Changes.{blocks_in, chunks}

-- whole blocks have no rest
pub no_rest : (bytes : List ℕ) (n block : ℕ) → 0 < block → length bytes ≡ n * block → length bytes % block ≡ 0
no_rest bytes n block positive is = ap (λ l. l % block) is ∙ mul-mod_left n block

-- whole blocks are counted by their length
pub count_of : (bytes : List ℕ) (n block : ℕ) → 0 < block → length bytes ≡ n * block → length bytes / block ≡ n
count_of bytes n block positive is = ap (λ l. l / block) is ∙ mul-div_cancel n positive

-- the blocks of bytes that are known as blocks
pub blocks_known : (g : Geometry) (bytes : List ℕ) (n : ℕ) (blocks : List (List ℕ)) → 0 < g.block → length bytes ≡ n * g.block → chunks g.block n bytes ≡ blocks → blocks_in g bytes ≡ blocks
blocks_known g bytes n blocks positive is known = ap (λ k. chunks g.block k bytes) (count_of bytes n g.block positive is) ∙ known
