-- Of which command some words are, and what clap is told of it.
use Rattle.std.proofs.Common.{◌≡◌, ◌∙◌, Bool, true, not, ◌&&◌, List, [], ◌∷◌, ◌++◌, map, drop, Option, Some, None, IfSome, codes, refl, sym, ap, subst}
use Rattle.std.specs.List.{list_all}
use Rattle.clap.proofs.WalkLemmas.{both}
use Rattle.log_model.specs.Format.{is_aux_path}
use Rattle.command_model.specs.Options.{Word, Setting, Shape, ◌>>=◌, only_if, is_one_of, is_set, settings_of, value_in}
use Rattle.command_model.specs.CommandLine.{Command, Verb, command, command_with, dst_file, force, geometry_in, image, path, shape_of, src_file, threshold_in, verb_of}
use Rattle.command_model.specs.CommandLine.Command.{MakeImage, MakeFs, ListFiles, ShowSpace, Dump, ShowInfo, Backup, Restore, LinkFile, RenameFile, DeleteFile}
use Rattle.command_model.specs.CommandLine.Verb.{Mkimage, Mkfs, List_, Df, Dump_, Info, Backup_, Restore_, Link_, Rename_, Delete_}
use Rattle.clap_words.specs.Told.{dashed, verb_in}
use Rattle.command_words.specs.Commands.{command_after}
use Rattle.clap_words.proofs.Lookups.{is_plain_name}
use Rattle.clap_words.proofs.Lookups.{dashed_same}
use Rattle.clap_words.proofs.Cuts.{bound}
use Rattle.clap_words.proofs.Accepted.{IsTold}

-- ---- a verb makes its own command

abbrev Makes : Verb → Option Command → Type 0
Makes verb o = IfSome o (λ c. verb_in c ≡ verb)

of_bind : {A : Type 0} (verb : Verb) (o : Option A) (f : A → Option Command) → ((x : A) → Makes verb (f x)) → Makes verb (o >>= f)
of_bind verb None f h = tt
of_bind verb (Some x) f h = h x

module _ (ss : List Setting) where
  made : (verb : Verb) → Makes verb (command_with verb ss)
  made Mkimage = of_bind Mkimage (value_in image ss) (λ at. geometry_in ss >>= (λ g. Some (MakeImage at g (is_set force ss))))
      (λ at. of_bind Mkimage (geometry_in ss) (λ g. Some (MakeImage at g (is_set force ss))) (λ g. refl))
  made Mkfs = of_bind Mkfs (value_in image ss) (λ at. value_in (codes "--aux_path") ss >>= (λ aux. only_if (is_aux_path aux) aux >>= (λ right. threshold_in (value_in (codes "--finish_threshold") ss) >>= (λ threshold. Some (MakeFs at right threshold (is_set (codes "--enable_gc") ss) (is_set force ss))))))
      (λ at. of_bind Mkfs (value_in (codes "--aux_path") ss) (λ aux. only_if (is_aux_path aux) aux >>= (λ right. threshold_in (value_in (codes "--finish_threshold") ss) >>= (λ threshold. Some (MakeFs at right threshold (is_set (codes "--enable_gc") ss) (is_set force ss)))))
      (λ aux. of_bind Mkfs (only_if (is_aux_path aux) aux) (λ right. threshold_in (value_in (codes "--finish_threshold") ss) >>= (λ threshold. Some (MakeFs at right threshold (is_set (codes "--enable_gc") ss) (is_set force ss))))
      (λ right. of_bind Mkfs (threshold_in (value_in (codes "--finish_threshold") ss)) (λ threshold. Some (MakeFs at right threshold (is_set (codes "--enable_gc") ss) (is_set force ss))) (λ threshold. refl))))
  made List_ = of_bind List_ (value_in image ss) (λ at. Some (ListFiles at (value_in path ss))) (λ at. refl)
  made Df = of_bind Df (value_in image ss) (λ at. Some (ShowSpace at)) (λ at. refl)
  made Dump_ = of_bind Dump_ (value_in image ss) (λ at. Some (Dump at)) (λ at. refl)
  made Info = of_bind Info (value_in image ss) (λ at. Some (ShowInfo at)) (λ at. refl)
  made Backup_ = of_bind Backup_ (value_in image ss) (λ at. value_in path ss >>= (λ dir. Some (Backup at dir (value_in (codes "--backup_path") ss))))
      (λ at. of_bind Backup_ (value_in path ss) (λ dir. Some (Backup at dir (value_in (codes "--backup_path") ss))) (λ dir. refl))
  made Restore_ = of_bind Restore_ (value_in image ss) (λ at. value_in path ss >>= (λ dir. Some (Restore at dir (value_in (codes "--restore_path") ss))))
      (λ at. of_bind Restore_ (value_in path ss) (λ dir. Some (Restore at dir (value_in (codes "--restore_path") ss))) (λ dir. refl))
  made Link_ = of_bind Link_ (value_in image ss) (λ at. value_in src_file ss >>= (λ old. value_in dst_file ss >>= (λ new. Some (LinkFile at old new))))
      (λ at. of_bind Link_ (value_in src_file ss) (λ old. value_in dst_file ss >>= (λ new. Some (LinkFile at old new)))
      (λ old. of_bind Link_ (value_in dst_file ss) (λ new. Some (LinkFile at old new)) (λ new. refl)))
  made Rename_ = of_bind Rename_ (value_in image ss) (λ at. value_in src_file ss >>= (λ old. value_in dst_file ss >>= (λ new. Some (RenameFile at old new))))
      (λ at. of_bind Rename_ (value_in src_file ss) (λ old. value_in dst_file ss >>= (λ new. Some (RenameFile at old new)))
      (λ old. of_bind Rename_ (value_in dst_file ss) (λ new. Some (RenameFile at old new)) (λ new. refl)))
  made Delete_ = of_bind Delete_ (value_in image ss) (λ at. value_in path ss >>= (λ name. Some (DeleteFile at name)))
      (λ at. of_bind Delete_ (value_in path ss) (λ name. Some (DeleteFile at name)) (λ name. refl))

-- the words behind a first word are this command's
pub behind : (ws : List Word) (w : Word) (rest : List Word) (cmd : Command) → ws ≡ w ∷ rest → Some cmd ≡ command ws → command_after (verb_in cmd) [] rest ≡ Some cmd
unfolding command
behind ws w rest cmd is e =
    let whole : (verb_of w >>= (λ verb. settings_of (shape_of verb) rest >>= command_with verb)) ≡ Some cmd = sym (e ∙ ap command is) in
    let a = bound (verb_of w) (λ verb. settings_of (shape_of verb) rest >>= command_with verb) cmd whole in
    let b = bound (settings_of (shape_of a.0) rest) (command_with a.0) cmd a.2 in
    let same : verb_in cmd ≡ a.0 = subst (Makes a.0) b.2 (made b.0 a.0) in
    ap (λ (v : Verb). command_after v [] rest) same ∙ a.2

-- ---- what clap is told

abbrev has_good_names : Shape → Bool
has_good_names shape =
    list_all (λ w. is_plain_name (drop 2 w)) (shape.required ++ shape.optional)
    && (list_all (λ w. is_plain_name (drop 2 w)) shape.flags
    && list_all (λ f. not (is_one_of (shape.required ++ shape.optional) f)) shape.flags)

good_names : (verb : Verb) → has_good_names (shape_of verb) ≡ true
good_names Mkimage = refl
good_names Mkfs = refl
good_names List_ = refl
good_names Df = refl
good_names Dump_ = refl
good_names Info = refl
good_names Backup_ = refl
good_names Restore_ = refl
good_names Link_ = refl
good_names Rename_ = refl
good_names Delete_ = refl

pub all_dashed : (p : Word → Bool) (xs : List Word) → list_all (λ w. p (drop 2 w)) (map dashed xs) ≡ list_all p xs
all_dashed p [] = refl
all_dashed p (x ∷ xs) = ap (λ (b : Bool). p x && b) (all_dashed p xs)

apart_dashed : (values flags : List Word) → list_all (λ f. not (is_one_of (map dashed values) f)) (map dashed flags) ≡ list_all (λ f. not (is_one_of values f)) flags
apart_dashed values [] = refl
apart_dashed values (f ∷ fs) =
    ap (λ (b : Bool). not b && list_all (λ f. not (is_one_of (map dashed values) f)) (map dashed fs)) (dashed_same values f)
    ∙ ap (λ (b : Bool). not (is_one_of values f) && b) (apart_dashed values fs)

pub told_of : (verb : Verb) (values flags : List Word) → map dashed values ≡ (shape_of verb).required ++ (shape_of verb).optional → map dashed flags ≡ (shape_of verb).flags
    → IsTold (shape_of verb) values flags
told_of verb values flags v f =
    let one = both (list_all (λ w. is_plain_name (drop 2 w)) ((shape_of verb).required ++ (shape_of verb).optional)) _ (good_names verb) in
    let two = both (list_all (λ w. is_plain_name (drop 2 w)) (shape_of verb).flags) (list_all (λ f. not (is_one_of ((shape_of verb).required ++ (shape_of verb).optional) f)) (shape_of verb).flags) one.1 in
    record {
      values_are = v;
      flags_are = f;
      plain_values = sym (all_dashed is_plain_name values) ∙ ap (λ (ws : List Word). list_all (λ w. is_plain_name (drop 2 w)) ws) v ∙ one.0;
      plain_flags = sym (all_dashed is_plain_name flags) ∙ ap (λ (ws : List Word). list_all (λ w. is_plain_name (drop 2 w)) ws) f ∙ two.0;
      apart = sym (apart_dashed values flags)
          ∙ ap (λ (ws : List Word). list_all (λ x. not (is_one_of ws x)) (map dashed flags)) v
          ∙ ap (λ (ws : List Word). list_all (λ x. not (is_one_of ((shape_of verb).required ++ (shape_of verb).optional) x)) ws) f ∙ two.1;
    }
