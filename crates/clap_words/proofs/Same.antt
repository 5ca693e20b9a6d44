-- The command of what clap found is that of the settings.
use Rattle.std.proofs.Common.{◌≡◌, ◌∙◌, Bool, true, false, cond, not, ◌&&◌, List, [], ◌++◌, map, drop, fold, Option, Some, codes, refl, sym, ap, subst, bytes_eq}
use Rattle.std.specs.List.{list_all}
use Rattle.std.specs.Option.{option_map_or}
use Rattle.clap.proofs.WalkLemmas.{both}
use Rattle.clap.specs.Walk.{Row, first_of, with_default}
use Rattle.clap.specs.Simple.{matches_of}
use Rattle.clap.specs.Takes.{takes}
use Rattle.log_model.specs.Format.{is_aux_path}
use Rattle.command_model.specs.Options.{Word, Setting, Shape, ◌>>=◌, only_if, is_one_of, is_set, number_in, settings_of, takes_value, value_in}
use Rattle.command_model.specs.CommandLine.{Command, Verb, command_with, dst_file, force, geometry_in, image, path, shape_of, src_file, threshold_in}
use Rattle.command_model.specs.CommandLine.Command.{MakeImage, MakeFs, ListFiles, ShowSpace, Dump, ShowInfo, Backup, Restore, LinkFile, RenameFile, DeleteFile}
use Rattle.command_model.specs.CommandLine.Verb.{Mkimage, Mkfs, List_, Df, Dump_, Info, Backup_, Restore_, Link_, Rename_, Delete_}
use Rattle.clap_words.specs.Told.{app_for, app_with, bare_names, dashed, rules_for}
use Rattle.command_words.specs.Commands.{command_after}
use Rattle.clap_words.specs.Law.{ReadsCommands}
use Rattle.clap_words.specs.Found.{flag_names, is_flagged, settings_found, value_names}
use Rattle.clap_words.proofs.Lookups.{passes_named, told, undashed}
use Rattle.clap_words.proofs.Cuts.{bound, not_true}
use Rattle.clap_words.proofs.Rows.{AllRight, row_of_setting}
use Rattle.clap_words.proofs.Accepted.{IsTold, takes_is}
use Rattle.clap_words.proofs.Taken.{taken}
use Rattle.clap_words.proofs.Commands.{all_dashed, told_of}
use Rattle.clap_words.proofs.Defaults.{flag_held, value_held}
use Rattle.clap_words.proofs.Findings.{flag_found, value_found}

-- two lists of settings are alike in a command's options
pub record SameOptions (shape : Shape) (xs ys : List Setting) : Type 0 where
  pub value : (w : Word) → takes_value shape w ≡ true → value_in w xs ≡ value_in w ys
  pub flag : (w : Word) → is_one_of shape.flags w ≡ true → is_set w xs ≡ is_set w ys

module _ (xs ys : List Setting) where
  geometry_same : SameOptions (shape_of Mkimage) xs ys → geometry_in xs ≡ geometry_in ys
  geometry_same s = λ i. (s.value (codes "--block") refl i >>= number_in) >>= (λ block.
      (s.value (codes "--zone_blocks") refl i >>= number_in) >>= (λ zone_blocks.
      (s.value (codes "--capacity") refl i >>= number_in) >>= (λ capacity.
      (s.value (codes "--zones") refl i >>= number_in) >>= (λ zones.
      (s.value (codes "--active") refl i >>= number_in) >>= (λ active.
      Some (record { block = block; zone_blocks = zone_blocks; capacity = capacity; zones = zones; active_limit = active }))))))

  same_command : (verb : Verb) → SameOptions (shape_of verb) xs ys → command_with verb xs ≡ command_with verb ys
  same_command Mkimage s = λ i. s.value image refl i >>= (λ at. geometry_same s i >>= (λ g. Some (MakeImage at g (s.flag force refl i))))
  same_command Mkfs s = λ i. s.value image refl i >>= (λ at. s.value (codes "--aux_path") refl i >>= (λ aux. only_if (is_aux_path aux) aux >>= (λ right.
      threshold_in (s.value (codes "--finish_threshold") refl i) >>= (λ threshold.
      Some (MakeFs at right threshold (s.flag (codes "--enable_gc") refl i) (s.flag force refl i))))))
  same_command List_ s = λ i. s.value image refl i >>= (λ at. Some (ListFiles at (s.value path refl i)))
  same_command Df s = λ i. s.value image refl i >>= (λ at. Some (ShowSpace at))
  same_command Dump_ s = λ i. s.value image refl i >>= (λ at. Some (Dump at))
  same_command Info s = λ i. s.value image refl i >>= (λ at. Some (ShowInfo at))
  same_command Backup_ s = λ i. s.value image refl i >>= (λ at. s.value path refl i >>= (λ dir. Some (Backup at dir (s.value (codes "--backup_path") refl i))))
  same_command Restore_ s = λ i. s.value image refl i >>= (λ at. s.value path refl i >>= (λ dir. Some (Restore at dir (s.value (codes "--restore_path") refl i))))
  same_command Link_ s = λ i. s.value image refl i >>= (λ at. s.value src_file refl i >>= (λ old. s.value dst_file refl i >>= (λ new. Some (LinkFile at old new))))
  same_command Rename_ s = λ i. s.value image refl i >>= (λ at. s.value src_file refl i >>= (λ old. s.value dst_file refl i >>= (λ new. Some (RenameFile at old new))))
  same_command Delete_ s = λ i. s.value image refl i >>= (λ at. s.value path refl i >>= (λ name. Some (DeleteFile at name)))

-- ---- each option is one of those that are looked for

abbrev is_known_flag : Word → Bool
is_known_flag n = is_one_of flag_names n && not (is_one_of value_names n)

abbrev has_known_names : Shape → Bool
has_known_names shape = list_all (λ w. is_one_of value_names (drop 2 w)) (shape.required ++ shape.optional) && list_all (λ w. is_known_flag (drop 2 w)) shape.flags

known_names : (verb : Verb) → has_known_names (shape_of verb) ≡ true
known_names Mkimage = refl
known_names Mkfs = refl
known_names List_ = refl
known_names Df = refl
known_names Dump_ = refl
known_names Info = refl
known_names Backup_ = refl
known_names Restore_ = refl
known_names Link_ = refl
known_names Rename_ = refl
known_names Delete_ = refl

text_is : (b : Bool) → bytes_eq (cond b (codes "true") (codes "false")) (codes "true") ≡ b
text_is true = refl
text_is false = refl

module _ (verb : Verb) (values flags : List Word) (t : IsTold (shape_of verb) values flags) where
  abbrev shape : Shape
  shape = shape_of verb

  two_tests : (list_all (λ w. is_one_of value_names (drop 2 w)) (shape.required ++ shape.optional) ≡ true) × (list_all (λ w. is_known_flag (drop 2 w)) shape.flags ≡ true)
  two_tests = both (list_all (λ w. is_one_of value_names (drop 2 w)) (shape.required ++ shape.optional)) (list_all (λ w. is_known_flag (drop 2 w)) shape.flags) (known_names verb)

  known_value : (name : Word) → is_one_of values name ≡ true → is_one_of value_names name ≡ true
  known_value name is = passes_named (is_one_of value_names) values name
      (sym (all_dashed (is_one_of value_names) values) ∙ ap (λ (ws : List Word). list_all (λ w. is_one_of value_names (drop 2 w)) ws) t.values_are ∙ two_tests.0) is

  known_flag : (name : Word) → is_one_of flags name ≡ true → is_known_flag name ≡ true
  known_flag name is = passes_named is_known_flag flags name
      (sym (all_dashed is_known_flag flags) ∙ ap (λ (ws : List Word). list_all (λ w. is_known_flag (drop 2 w)) ws) t.flags_are ∙ two_tests.1) is

  flag_no_value : (name : Word) → is_one_of flags name ≡ true → is_one_of values name ≡ false
  flag_no_value name is = not_true (is_one_of values name) (passes_named (λ f. not (is_one_of values f)) flags name t.apart is)

  value_no_flag : (name : Word) → is_one_of values name ≡ true → is_one_of flags name ≡ false
  value_no_flag name is = by (is_one_of flags name) refl
    where
      by : (b : Bool) → is_one_of flags name ≡ b → is_one_of flags name ≡ false
      by false e = e
      by true e = let bad = flag_no_value name e in cc

  module _ (ss : List Setting) (right : AllRight values ss) (rows : List Row) (rows_are : rows ≡ fold with_default (map row_of_setting ss) (told values flags)) where
    value_same : (w : Word) → takes_value shape w ≡ true → value_in w (settings_found rows) ≡ value_in w ss
    value_same w takes =
        let u = undashed values w (sym (takes_is shape values flags t w) ∙ takes) in
        let name : Word = u.0 in
        let same : value_in (dashed name) (settings_found rows) ≡ value_in (dashed name) ss =
        value_found rows name (known_value name u.2) ∙ ap (first_of name) rows_are ∙ value_held name values flags ss right u.2 (value_no_flag name u.2) in
        subst (λ (x : Word). value_in x (settings_found rows) ≡ value_in x ss) (sym u.1) same

    flag_same : (w : Word) → is_one_of shape.flags w ≡ true → is_set w (settings_found rows) ≡ is_set w ss
    flag_same w is =
        let u = undashed flags w (ap (λ (ws : List Word). is_one_of ws w) t.flags_are ∙ is) in
        let name : Word = u.0 in
        let k = both (is_one_of flag_names name) (not (is_one_of value_names name)) (known_flag name u.2) in
        let same : is_set (dashed name) (settings_found rows) ≡ is_set (dashed name) ss =
        flag_found rows name (not_true (is_one_of value_names name) k.1) k.0
        ∙ ap (λ (rs : List Row). is_flagged name rs) rows_are
        ∙ ap (λ (o : Option Word). option_map_or (λ v. bytes_eq v (codes "true")) o false) (flag_held name values flags ss right (flag_no_value name u.2) u.2)
        ∙ text_is (is_set (dashed name) ss) in
        subst (λ (x : Word). is_set x (settings_found rows) ≡ is_set x ss) (sym u.1) same

    found_same : command_with verb (settings_found rows) ≡ command_with verb ss
    found_same = same_command (settings_found rows) ss verb (record { value = value_same; flag = flag_same })

  module _ (ws : List Word) (cmd : Command) (e : command_after verb [] ws ≡ Some cmd) where
    -- clap takes the words of a command
    pub taken_words : takes (app_with (rules_for values flags)) ws ≡ true
    taken_words =
        let a = bound (settings_of shape ws) (command_with verb) cmd e in
        (taken shape values flags t ws a.0 a.1).takes

    -- and finds the command's settings
    pub found_again : (rows : List Row) → rows ≡ matches_of (app_with (rules_for values flags)) ws → command_with verb (settings_found rows) ≡ Some cmd
    found_again rows is =
        let a = bound (settings_of shape ws) (command_with verb) cmd e in
        let k = taken shape values flags t ws a.0 a.1 in
        found_same a.0 k.right rows (is ∙ k.rows) ∙ a.2

-- ---- of each verb

told_required : (verb : Verb) → map dashed (bare_names ((shape_of verb).required ++ (shape_of verb).optional)) ≡ (shape_of verb).required ++ (shape_of verb).optional
told_required Mkimage = refl
told_required Mkfs = refl
told_required List_ = refl
told_required Df = refl
told_required Dump_ = refl
told_required Info = refl
told_required Backup_ = refl
told_required Restore_ = refl
told_required Link_ = refl
told_required Rename_ = refl
told_required Delete_ = refl

told_flags : (verb : Verb) → map dashed (bare_names (shape_of verb).flags) ≡ (shape_of verb).flags
told_flags Mkimage = refl
told_flags Mkfs = refl
told_flags List_ = refl
told_flags Df = refl
told_flags Dump_ = refl
told_flags Info = refl
told_flags Backup_ = refl
told_flags Restore_ = refl
told_flags Link_ = refl
told_flags Rename_ = refl
told_flags Delete_ = refl

pub reads_commands : ReadsCommands
reads_commands verb ws cmd e =
    let values = bare_names ((shape_of verb).required ++ (shape_of verb).optional) in
    let flags = bare_names (shape_of verb).flags in
    let t = told_of verb values flags (told_required verb) (told_flags verb) in
    (taken_words verb values flags t ws cmd e, found_again verb values flags t ws cmd e (matches_of (app_for verb) ws) refl)
