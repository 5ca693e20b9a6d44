-- What the words of a command give.
use Rattle.std.proofs.Common.{◌≡◌, Bool, true, false, List, [], ◌∷◌, refl}
use Rattle.std.specs.Prelude.{Option, Some, None, IfSome, codes}
use Rattle.log_model.specs.Format.{is_aux_path}
use Rattle.command_model.specs.CommandLine as line
use Rattle.command_model.specs.CommandLine.{Verb, command, command_with, geometry_in, path, shape_of, src_file, dst_file, threshold_in, verb_of, image}
use Rattle.command_model.specs.Options.{Word, Setting, ◌>>=◌, only_if, value_in, settings_of}
use Rattle.zenfs_cmd.specs.Words.{HasAuxPath}

-- what holds of each value that a step may give
then : {A B : Type 0} (P : B → Type 0) (o : Option A) (f : A → Option B) → ((x : A) → IfSome (f x) P) → IfSome (o >>= f) P
then P None f each = tt
then P (Some x) f each = each x

-- the same where the value passed a test
then_if : {A B : Type 0} (P : B → Type 0) (b : Bool) (x : A) (f : A → Option B) → (b ≡ true → IfSome (f x) P) → IfSome (only_if b x >>= f) P
then_if P true x f each = each refl
then_if P false x f each = tt

-- the auxiliary path of a command keeps its rule
kept_with : (verb : Verb) (ss : List Setting) → IfSome (command_with verb ss) HasAuxPath
kept_with line.Mkimage ss = then HasAuxPath (value_in image ss) _ (λ at. then HasAuxPath (geometry_in ss) _ (λ g. tt))
kept_with line.Mkfs ss =
    then HasAuxPath (value_in image ss) _ (λ at.
    then HasAuxPath (value_in (codes "--aux_path") ss) _ (λ aux.
    then_if HasAuxPath (is_aux_path aux) aux _ (λ rule.
    then HasAuxPath (threshold_in (value_in (codes "--finish_threshold") ss)) _ (λ threshold. rule))))
kept_with line.List_ ss = then HasAuxPath (value_in image ss) _ (λ at. tt)
kept_with line.Df ss = then HasAuxPath (value_in image ss) _ (λ at. tt)
kept_with line.Dump_ ss = then HasAuxPath (value_in image ss) _ (λ at. tt)
kept_with line.Info ss = then HasAuxPath (value_in image ss) _ (λ at. tt)
kept_with line.Backup_ ss = then HasAuxPath (value_in image ss) _ (λ at. then HasAuxPath (value_in path ss) _ (λ dir. tt))
kept_with line.Restore_ ss = then HasAuxPath (value_in image ss) _ (λ at. then HasAuxPath (value_in path ss) _ (λ dir. tt))
kept_with line.Link_ ss =
    then HasAuxPath (value_in image ss) _ (λ at. then HasAuxPath (value_in src_file ss) _ (λ old. then HasAuxPath (value_in dst_file ss) _ (λ new. tt)))
kept_with line.Rename_ ss =
    then HasAuxPath (value_in image ss) _ (λ at. then HasAuxPath (value_in src_file ss) _ (λ old. then HasAuxPath (value_in dst_file ss) _ (λ new. tt)))
kept_with line.Delete_ ss = then HasAuxPath (value_in image ss) _ (λ at. then HasAuxPath (value_in path ss) _ (λ name. tt))

pub aux_path_kept : (words : List Word) → IfSome (command words) HasAuxPath
unfolding command
aux_path_kept [] = tt
aux_path_kept (w ∷ ws) =
    then HasAuxPath (verb_of w) _ (λ verb. then HasAuxPath (settings_of (shape_of verb) ws) _ (λ settings. kept_with verb settings))
