-- A superblock that is read has known flags.
use Rattle.std.proofs.Common.{◌≡◌, ℕ, ◌≤◌, Bool, true, false, List, Option, Some, None, Result, Ok, Err, nat_lt, refl, subst}
use Rattle.std.specs.Prelude.{cond}
use Rattle.std.proofs.lemmas.Bool.{ltb-false}
use Rattle.superblock_core.specs.declared.superblock.Superblock.{Superblock}
use Rattle.superblock_core.specs.declared.superblock.SbError.{SbError}
use Rattle.superblock_core.specs.declared.superblock.SbError.TheVariants.{Magic, Version, Flags}
use Rattle.superblock_core.specs.Superblock.{u32_at, superblock_of, with_numbers, with_text}

-- what is read, by what each test says
flags_by_tests : (other_magic other_version above : Bool) (bytes : List ℕ) (id : Option ℕ) (path text : Option (List ℕ)) (version flags : ℕ) (s : Superblock) → nat_lt 1 (u32_at 49 bytes) ≡ above
    → ◌≡◌ {A = Result Superblock SbError} (cond other_magic (Err Magic) (cond other_version (Err (Version version)) (cond above (Err (Flags flags))
    (with_text 4 id (λ i. with_text 69 path (λ p. with_text 325 text (λ v. Ok (with_numbers bytes i p v)))))))) (Ok s)
    → s.flags ≤ 1
flags_by_tests true other_version above bytes id path text version flags s low h = cc
flags_by_tests false true above bytes id path text version flags s low h = cc
flags_by_tests false false true bytes id path text version flags s low h = cc
flags_by_tests false false false bytes None path text version flags s low h = cc
flags_by_tests false false false bytes (Some i) None text version flags s low h = cc
flags_by_tests false false false bytes (Some i) (Some p) None version flags s low h = cc
flags_by_tests false false false bytes (Some i) (Some p) (Some v) version flags s low h =
    let is : with_numbers bytes i p v ≡ s = cc in
    let low_too : u32_at 49 bytes ≤ 1 = ltb-false 1 (u32_at 49 bytes) low in
    subst (λ (t : Superblock). t.flags ≤ 1) is low_too

-- a superblock that is read has known flags
pub flags_known : (bytes : List ℕ) (s : Superblock) → superblock_of bytes ≡ Ok s → s.flags ≤ 1
unfolding superblock_of
flags_known bytes s h = flags_by_tests _ _ (nat_lt 1 (u32_at 49 bytes)) bytes _ _ _ _ _ s refl h
