-- The search for the entry that counts.
use Rattle.std.proofs.Common.{◌≡◌, ℕ, ◌<◌, ◌≤◌, Bool, true, false, ◌&&◌, List, Option, None, Some, refl, ap, sym, ◌∙◌, arith, length}
use Rattle.std.specs.Str.{bytes_eq}
use Rattle.std.proofs.lemmas.Slice.Eq.{bytes_eq-Decides}
use Rattle.host_tree.specs.declared.host_file.HostFile.{HostFile}
use Rattle.host_tree.specs.HostFiles.{OpenFile}
use Rattle.host_tree.specs.MemTreeState.{is_of, file_at, entry_at, opened_as, IsPlace, IsFound}

-- the bytes of the entry that was found, if one was
abbrev pub bytes_found : List HostFile → Option ℕ → Option (List ℕ)
bytes_found files None = None
bytes_found files (Some entry) = Some (entry_at files entry).bytes

-- the entry that was found is one, and of this directory and path
abbrev pub IsNamed : List HostFile → List ℕ → List ℕ → Option ℕ → Type 0
IsNamed files dir path None = Unit {0}
IsNamed files dir path (Some entry) = (entry < length files) × (is_of dir path (entry_at files entry) ≡ true)

left_true : (a b : Bool) → (a && b) ≡ true → a ≡ true
left_true true b e = refl
left_true false b e = e

right_true : (a b : Bool) → (a && b) ≡ true → b ≡ true
right_true true b e = e
right_true false b e = absurd (cc e)

-- a file at its start
abbrev at_start : List ℕ → List ℕ → OpenFile
at_start dir path = record { dir = dir; path = path; place = 0 }

pub found_is : (files : List HostFile) (dir path : List ℕ) (found : Option ℕ) → IsNamed files dir path found → bytes_found files found ≡ file_at files dir path → IsFound files dir path found
found_is files dir path None named same = sym same
found_is files dir path (Some entry) named same =
    let f = entry_at files entry in
    let dir_is : f.dir ≡ dir = (bytes_eq-Decides f.dir dir).0 (left_true (bytes_eq f.dir dir) (bytes_eq f.path path) named.1) in
    let path_is : f.path ≡ path = (bytes_eq-Decides f.path path).0 (right_true (bytes_eq f.dir dir) (bytes_eq f.path path) named.1) in (
      record {
        within = named.0;
        counts = ap (λ d. file_at files d f.path) dir_is ∙ ap (λ p. file_at files dir p) path_is ∙ sym same;
        inside = omega arith;
      },
      ap (λ d. at_start d f.path) dir_is ∙ ap (λ p. at_start dir p) path_is,
    )
