-- Scripts of the load program: a line each turn.
use Rattle.std.specs.Prelude.{ℕ, ◌+◌, Bool, true, false, max, List, [], ◌∷◌, ◌++◌, codes, Option, Some, None, Result, Ok, Err, nat_le, ◌==◌, if◌then◌else◌}
use Rattle.std.specs.List.{slice_split}
use Rattle.std.specs.Str.{bytes_eq}
use Rattle.record_model.specs.Name.{is_name}
use Rattle.fs_model.specs.declared.operations.Op.{Op}
use Rattle.fs_model.specs.declared.operations.Op.TheVariants as ops
use Rattle.command_model.specs.Options.{Word, ◌>>=◌, only_if, number_up_to}

-- a job and what it does
pub record Line : Type 0 where
  pub job : ℕ
  pub op : Op

-- a number within its limits
abbrev pub number_within : ℕ → ℕ → Word → Option ℕ
number_within least most w = number_up_to most w >>= (λ n. only_if (nat_le least n) n)

-- a name of the file system; between spaces it has none
abbrev pub name_in : Word → Option Word
name_in w = only_if (is_name w) w

-- whether a file is sparse
abbrev pub kind_in : Word → Option Bool
kind_in w = if bytes_eq w (codes "s") then Some true else if bytes_eq w (codes "b") then Some false else None

-- an operation on one name
abbrev pub on_one : (Word → Op) → List Word → Option Op
on_one make (w ∷ []) = name_in w >>= (λ name. Some (make name))
on_one make _ = None

-- an operation on two names
abbrev pub on_two : (Word → Word → Op) → List Word → Option Op
on_two make (v ∷ w ∷ []) = name_in v >>= (λ old. name_in w >>= (λ new. Some (make old new)))
on_two make _ = None

-- an operation on none
abbrev pub on_none : Op → List Word → Option Op
on_none op [] = Some op
on_none op _ = None

-- makes a file and opens it
abbrev pub open_of : List Word → Option Op
open_of (n ∷ h ∷ k ∷ []) = do
  name ← name_in n
  hint ← number_up_to 5 h
  sparse ← kind_in k
  Some (ops.Open name hint sparse)
open_of _ = None

-- appends a byte so many times
abbrev pub append_of : List Word → Option Op
append_of (c ∷ b ∷ []) = do
  count ← number_within 1 65536 c
  byte ← number_up_to 255 b
  Some (ops.Append count byte)
append_of _ = None

-- the operation of a word and those after it
abbrev pub op_of : Word → List Word → Option Op
op_of w ws =
    if bytes_eq w (codes "open") then open_of ws
    else if bytes_eq w (codes "append") then append_of ws
    else if bytes_eq w (codes "sync") then on_none ops.Sync ws
    else if bytes_eq w (codes "close") then on_none ops.Close ws
    else if bytes_eq w (codes "link") then on_two ops.Link ws
    else if bytes_eq w (codes "rename") then on_two ops.Rename ws
    else if bytes_eq w (codes "delete") then on_one ops.Delete ws
    else if bytes_eq w (codes "read") then on_one ops.Read ws
    else None

-- a line of words, the first of them the job
abbrev pub line_of_words : List Word → Option Line
line_of_words (j ∷ w ∷ ws) = number_within 1 9999 j >>= (λ job. op_of w ws >>= (λ op. Some (record { job = job; op = op })))
line_of_words _ = None

-- a line of bytes, without its newline
abbrev pub line_of : List ℕ → Option Line
line_of bytes = line_of_words (slice_split (λ b. b == 32) bytes)

-- one more line, or the number of this one
abbrev pub with_line : ℕ → List Line → Option Line → Result (List Line) ℕ
with_line n seen None = Err n
with_line n seen (Some line) = Ok (seen ++ line ∷ [])

-- goes on after a line that is right
abbrev pub then_lines : Result (List Line) ℕ → (List Line → Result (List Line) ℕ) → Result (List Line) ℕ
then_lines (Err n) f = Err n
then_lines (Ok seen) f = f seen

-- the lines of bytes, the part of a line so far being kept; each line ends with a newline
abbrev pub lines_from : ℕ → List ℕ → List Line → List ℕ → Result (List Line) ℕ
lines_from n [] seen [] = Ok seen
lines_from n (b ∷ part) seen [] = Err n
lines_from n part seen (b ∷ bs) =
    if b == 10 then then_lines (with_line n seen (line_of part)) (λ more. lines_from (n + 1) [] more bs)
    else lines_from n (part ++ b ∷ []) seen bs

-- the lines of a script, or the number of the first wrong one
unfoldable pub script : List ℕ → Result (List Line) ℕ
script bytes = lines_from 1 [] [] bytes

-- the number of jobs, which is the greatest of a line
abbrev pub jobs_of : List Line → ℕ
jobs_of [] = 0
jobs_of (l ∷ ls) = max l.job (jobs_of ls)
