-- What is found among the entries of a tree in memory.
use Rattle.std.proofs.Common.{◌≡◌, ℕ, zero, suc, ◌+◌, ◌-◌, ◌<◌, ◌≤◌, Bool, true, false, cond, ◌&&◌, List, [], ◌∷◌, ◌++◌, length, Option, Some, None, refl, ap, sym, ◌∙◌, subst, arith, slice_set, slice_index_or}
use Rattle.std.proofs.lemmas.List.{length_push}
use Rattle.std.specs.Str.{bytes_eq}
use Rattle.std.specs.Cmp.Lexicographic.{nat_list_eq_equiv}
use Rattle.host_tree.specs.declared.host_file.HostFile.{HostFile}
use Rattle.host_tree.specs.declared.host_tree.OpenMode.TheVariants as mode
use Rattle.host_tree.specs.declared.mem_tree.Opened.{Opened}
use Rattle.host_tree.specs.declared.mem_tree.Opened.TheVariants as opened
use Rattle.std.specs.Option.{unwrap_or}
use Rattle.host_tree.specs.HostFiles.{OpenFile, OthersSame, is_at, open_bytes}
use Rattle.host_tree.specs.MemTreeState.{is_of, last_of, file_at, no_file, entry_at, last_file, empty_file, grown, extended, opened_as, mode_of, open_in, IsThere}

-- a directory and a path are themselves
pub is_itself : (dir path : List ℕ) → is_at dir path dir path ≡ true
is_itself dir path = subst (λ b. b && bytes_eq path path ≡ true) (sym (nat_list_eq_equiv.refl dir)) (nat_list_eq_equiv.refl path)

-- what is found once an entry more stands behind the others
pub last_pushed : (found : Option (List ℕ)) (xs : List HostFile) (f : HostFile) (dir path : List ℕ)
    → last_of found (xs ++ f ∷ []) dir path ≡ cond (is_of dir path f) (Some f.bytes) (last_of found xs dir path)
last_pushed found [] f dir path = refl
last_pushed found (x ∷ xs) f dir path = last_pushed (cond (is_of dir path x) (Some x.bytes) found) xs f dir path

-- what an entry is found as that stands behind the others
pub pushed_counts : (xs : List HostFile) (f : HostFile) → file_at (xs ++ f ∷ []) f.dir f.path ≡ Some f.bytes
pushed_counts xs f = last_pushed None xs f f.dir f.path ∙ ap (λ b. cond b (Some f.bytes) (file_at xs f.dir f.path)) (is_itself f.dir f.path)

-- it hides no other file
pub pushed_others : (xs : List HostFile) (f : HostFile) (d p : List ℕ) → is_at d p f.dir f.path ≡ false → file_at (xs ++ f ∷ []) d p ≡ file_at xs d p
pushed_others xs f d p other = last_pushed None xs f d p ∙ ap (λ b. cond b (Some f.bytes) (file_at xs d p)) other

-- the last of entries that are some
last_behind : (f : HostFile) (ys : List HostFile) → 0 < length ys → last_file (f ∷ ys) ≡ last_file ys
last_behind f [] long = absurd (omega (arith, long))
last_behind f (g ∷ ys) long = refl

pub last_push : (xs : List HostFile) (f : HostFile) → last_file (xs ++ f ∷ []) ≡ f
last_push [] f = refl
last_push (x ∷ xs) f = last_behind x (xs ++ f ∷ []) (omega (arith, length_push xs f)) ∙ last_push xs f

-- the last entry counts
pub last_counts : (found : Option (List ℕ)) (xs : List HostFile) → 0 < length xs → last_of found xs (last_file xs).dir (last_file xs).path ≡ Some (last_file xs).bytes
last_counts found [] long = absurd (omega (arith, long))
last_counts found (f ∷ []) long = ap (λ b. cond b (Some f.bytes) found) (is_itself f.dir f.path)
last_counts found (f ∷ g ∷ fs) long =
    last_counts (cond (is_of (last_file (g ∷ fs)).dir (last_file (g ∷ fs)).path f) (Some f.bytes) found) (g ∷ fs) (omega arith)

-- as many entries stand once the last one has more bytes
pub extended_long : (xs : List HostFile) (piece : List ℕ) → length (extended xs piece) ≡ length xs
extended_long [] piece = refl
extended_long (f ∷ []) piece = refl
extended_long (f ∷ g ∷ fs) piece = ap suc (extended_long (g ∷ fs) piece)

-- it is the same file then
pub extended_same : (xs : List HostFile) (piece : List ℕ) → opened_as (last_file (extended xs piece)) 0 ≡ opened_as (last_file xs) 0
extended_same [] piece = refl
extended_same (f ∷ []) piece = refl
extended_same (f ∷ g ∷ fs) piece =
    ap (λ (x : HostFile). opened_as x 0) (last_behind f (extended (g ∷ fs) piece) (omega (arith, extended_long (g ∷ fs) piece))) ∙ extended_same (g ∷ fs) piece

-- and it has the bytes
pub extended_counts : (found : Option (List ℕ)) (xs : List HostFile) (piece : List ℕ) → 0 < length xs
    → last_of found (extended xs piece) (last_file xs).dir (last_file xs).path ≡ Some ((last_file xs).bytes ++ piece)
extended_counts found [] piece long = absurd (omega (arith, long))
extended_counts found (f ∷ []) piece long = ap (λ b. cond b (Some (f.bytes ++ piece)) found) (is_itself f.dir f.path)
extended_counts found (f ∷ g ∷ fs) piece long =
    extended_counts (cond (is_of (last_file (g ∷ fs)).dir (last_file (g ∷ fs)).path f) (Some f.bytes) found) (g ∷ fs) piece (omega arith)

-- all other files are as they were
pub extended_others : (found : Option (List ℕ)) (xs : List HostFile) (piece d p : List ℕ) → is_at d p (last_file xs).dir (last_file xs).path ≡ false
    → last_of found (extended xs piece) d p ≡ last_of found xs d p
extended_others found [] piece d p other = refl
extended_others found (f ∷ []) piece d p other =
    ap (λ b. cond b (Some (f.bytes ++ piece)) found) other ∙ sym (ap (λ b. cond b (Some f.bytes) found) other)
extended_others found (f ∷ g ∷ fs) piece d p other = extended_others (cond (is_of d p f) (Some f.bytes) found) (g ∷ fs) piece d p other

-- the last entry is set by its number
pub set_last : (xs : List HostFile) (n : ℕ) (d : HostFile) (piece : List ℕ) → length xs ≡ n + 1 → slice_set xs n (grown (slice_index_or xs n d) piece) ≡ extended xs piece
set_last [] n d piece long = absurd (omega (arith, long))
set_last (f ∷ []) zero d piece long = refl
set_last (f ∷ []) (suc n) d piece long = absurd (omega (arith, long))
set_last (f ∷ g ∷ fs) zero d piece long = absurd (omega (arith, long))
set_last (f ∷ g ∷ fs) (suc n) d piece long = ap (λ l. f ∷ l) (set_last (g ∷ fs) n d piece (omega (arith, long)))

-- ---- what a created file and a written one are

module _ (xs ys : List HostFile) (dir path : List ℕ) (done : ys ≡ xs ++ empty_file dir path ∷ []) where
  -- a file that was created is the last one
  pub created_which : opened_as (last_file ys) 0 ≡ record { dir = dir; path = path; place = 0 }
  created_which = ap (λ (l : List HostFile). opened_as (last_file l) 0) done ∙ ap (λ (f : HostFile). opened_as f 0) (last_push xs (empty_file dir path))

  -- it is empty
  pub created_empty : file_at ys dir path ≡ Some []
  created_empty = ap (λ (l : List HostFile). file_at l dir path) done ∙ pushed_counts xs (empty_file dir path)

  -- all others are as they were
  pub created_others : OthersSame dir path (file_at xs) (file_at ys)
  created_others = λ d p other. ap (λ (l : List HostFile). file_at l d p) done ∙ pushed_others xs (empty_file dir path) d p other

-- the bytes of the last entry are those of the file that is open
pub last_bytes : (xs : List HostFile) → 0 < length xs → open_bytes (file_at xs) (opened_as (last_file xs) 0) ≡ (last_file xs).bytes
last_bytes xs long = ap (λ (o : Option (List ℕ)). unwrap_or o []) (last_counts None xs long)

-- what it has once a piece was added
pub written_is : (xs : List HostFile) (piece : List ℕ) → 0 < length xs
    → file_at (extended xs piece) (last_file xs).dir (last_file xs).path ≡ Some (open_bytes (file_at xs) (opened_as (last_file xs) 0) ++ piece)
written_is xs piece long = extended_counts None xs piece long ∙ ap (λ (bytes : List ℕ). Some (bytes ++ piece)) (sym (last_bytes xs long))

-- ---- the same of what is open

-- what is written is the last entry, and there is one
pub writing_long : (xs : List HostFile) (o : Opened) → mode_of o ≡ mode.Writing → IsThere xs o → 0 < length xs
writing_long xs opened.Closed is there = absurd (cc is)
writing_long xs (opened.Reading entry place) is there = absurd (cc is)
writing_long xs opened.Writing is there = there

pub writing_there : (xs ys : List HostFile) (o : Opened) → mode_of o ≡ mode.Writing → IsThere xs o → length ys ≡ length xs → IsThere ys o
writing_there xs ys opened.Closed is there same = absurd (cc is)
writing_there xs ys (opened.Reading entry place) is there same = absurd (cc is)
writing_there xs ys opened.Writing is there same = omega (arith, there, same)

pub writing_added : (xs ys : List HostFile) (o : Opened) (piece : List ℕ) → mode_of o ≡ mode.Writing → IsThere xs o → ys ≡ extended xs piece
    → file_at ys (open_in xs o).dir (open_in xs o).path ≡ Some (open_bytes (file_at xs) (open_in xs o) ++ piece)
writing_added xs ys opened.Closed piece is there done = absurd (cc is)
writing_added xs ys (opened.Reading entry place) piece is there done = absurd (cc is)
writing_added xs ys opened.Writing piece is there done = ap (λ (l : List HostFile). file_at l (last_file xs).dir (last_file xs).path) done ∙ written_is xs piece there

pub writing_others : (xs ys : List HostFile) (o : Opened) (piece : List ℕ) → mode_of o ≡ mode.Writing → ys ≡ extended xs piece
    → OthersSame (open_in xs o).dir (open_in xs o).path (file_at xs) (file_at ys)
writing_others xs ys opened.Closed piece is done = absurd (cc is)
writing_others xs ys (opened.Reading entry place) piece is done = absurd (cc is)
writing_others xs ys opened.Writing piece is done = λ d p other. ap (λ (l : List HostFile). file_at l d p) done ∙ extended_others None xs piece d p other

pub writing_same : (xs ys : List HostFile) (o : Opened) (piece : List ℕ) → mode_of o ≡ mode.Writing → ys ≡ extended xs piece → open_in ys o ≡ open_in xs o
writing_same xs ys opened.Closed piece is done = absurd (cc is)
writing_same xs ys (opened.Reading entry place) piece is done = absurd (cc is)
writing_same xs ys opened.Writing piece is done = ap (λ (l : List HostFile). opened_as (last_file l) 0) done ∙ extended_same xs piece
