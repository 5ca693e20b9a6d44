-- The records that a file system writes, replayed.
use Rattle.std.specs.Prelude.{◌≡◌, ◌≢◌, ℕ, ◌+◌, ◌<◌, Bool, true, false, not, ◌||◌, ◌&&◌, cond, List, [], ◌∷◌, ◌++◌, Some, None, is_some, Ok, ◌==◌, filter, refl}
use Rattle.std.proofs.Common.{◌∙◌, ap, sym, subst, arith}
use Rattle.std.proofs.lemmas.Bool.{eq-eqb, eqb-true, ne_eqb, or_parts, or_from}
use Rattle.std.proofs.lemmas.Bool.Decides.{same_from_decides}
use Rattle.std.proofs.lemmas.List.{append-nil, map-append}
use Rattle.std.proofs.lemmas.List.Folds.{list_any-append}
use Rattle.std.proofs.lemmas.List.Sums.{sum_by-append}
use Rattle.std.proofs.lemmas.Slice.Eq.{bytes_eq-Decides}
use Rattle.std.specs.Bool.{Decides}
use Rattle.std.specs.List.{AllByRecursion, list_any}
use Rattle.std.specs.Str.{bytes_eq}
use Rattle.zone_image.specs.Image.{Image}
use Rattle.record_model.specs.FieldDecoding.{◌>>=◌}
use Rattle.record_model.specs.declared.types.Extent.{Extent}
use Rattle.record_model.specs.declared.types.FileEntry.{FileEntry}
use Rattle.record_model.specs.declared.types.Record.TheVariants.{Update}
use Rattle.log_model.specs.FileTable.{Table, file_of, with_entry, is_among, is_named, names_left, take_names, set_entry, shares_name, has_right_size, size_of, grown, unless_broken, delete_from, after_record}
use Rattle.log_model.specs.FileTree.{Tree, TreeFile, apply, id_of, renamed, on_file, drop_name, link_in, rename_in}
use Rattle.log_model.specs.Frames.{bytes_of}
use Rattle.log_model.specs.Mounted.{file_in, tree_of}
use Rattle.log_model.specs.TableLaws.{IdsRise, IsTable, IsUnused, IsNameOf, created, with_names, with_extents, DeleteIsReplayed, CreateIsReplayed, LinkIsReplayed, RenameIsReplayed, RenameOverIsReplayed, GrowIsReplayed, ReplaceKeepsTree}
use Rattle.log_model.proofs.TableLaws.{put_in, others_of, kept_whole, nothing_lost, tree_without, placed_in, placed_last, taken_others, rise_taken, file_taken, nothing_taken, only_file, tree_put}
use Rattle.log_model.proofs.SelectionLaws.{some_is}

-- whether two names are equal doesn't depend on their order
turned : (b : Bool) (x y : List ℕ) → Decides b (y ≡ x) → Decides b (x ≡ y)
turned b x y h = (λ is. sym (h.0 is), λ same. h.1 (sym same))

pub bytes_eq_sym : (x y : List ℕ) → bytes_eq x y ≡ bytes_eq y x
bytes_eq_sym x y = same_from_decides (bytes_eq x y) (bytes_eq y x) (bytes_eq-Decides x y) (turned (bytes_eq y x) x y (bytes_eq-Decides y x))

-- what holds of the head of a table, or of a file behind it
head_has : (here : Bool) (P : FileEntry → Type 0) (id : ℕ) (f : FileEntry) (fs : Table) (e : FileEntry) → P f → (file_of id fs ≡ Some e → P e)
    → cond here (Some f) (file_of id fs) ≡ Some e → P e
head_has true P id f fs e h behind is = subst P (some_is is) h
head_has false P id f fs e h behind is = behind is

-- what holds of each file holds of the file of an id
pub file_has : (P : FileEntry → Type 0) (id : ℕ) (es : Table) (e : FileEntry) → AllByRecursion P es → file_of id es ≡ Some e → P e
file_has P id [] e h is = cc
file_has P id (f ∷ fs) e h is = head_has (f.id == id) P id f fs e h.0 (file_has P id fs e h.1) is

pub delete_is_replayed : DeleteIsReplayed
unfolding after_record apply
delete_is_replayed i es e name h = record {
  next = take_names (name ∷ []) es;
  replayed =
      ap (λ o. delete_from o name es) h.entry
      ∙ ap (λ b. unless_broken (not b) 4 (take_names (name ∷ []) es)) h.among;
  tree = tree_without i name es;
}

-- an entry takes the place of its file where the others lose no more than these names
pub placed : (taken : List (List ℕ)) (e old : FileEntry) (es : Table) → IdsRise 0 es → file_of e.id (take_names taken es) ≡ Some old
    → AllByRecursion (λ f. f.id ≢ e.id → names_left e.names f.names ≡ names_left taken f.names) es → set_entry e es ≡ put_in e (take_names taken es)
placed taken e old es rise is same =
    ap (with_entry e) (taken_others e.names taken e.id es same) ∙ placed_in 0 e old (take_names taken es) (rise_taken 0 taken es rise) is

-- an update of a known file puts it in its place, unless its size is wrong
pub update_known : (u e : FileEntry) (es : Table) → file_of u.id es ≡ Some e → has_right_size (grown (Some e) u) ≡ true
    → after_record (Update u) es ≡ Ok (set_entry (grown (Some e) u) es)
unfolding after_record
update_known u e es is right =
    ap (λ o. unless_broken (not (has_right_size (grown o u))) 5 (set_entry (grown o u) es)) is
    ∙ ap (λ b. unless_broken (not b) 5 (set_entry (grown (Some e) u) es)) right

-- the same entry with other names
abbrev renamed_to : FileEntry → List (List ℕ) → FileEntry
renamed_to e names = record e { names = names }

-- an update without extents has those that the file had
pub names_update : (e : FileEntry) (names : List (List ℕ)) → grown (Some e) (with_names e names) ≡ renamed_to e names
names_update e names = ap (λ xs. record (renamed_to e names) { extents = xs }) (append-nil e.extents)

-- what follows of each entry
pub all_from : (P Q : FileEntry → Type 0) (es : Table) → ((f : FileEntry) → P f → Q f) → AllByRecursion P es → AllByRecursion Q es
all_from P Q [] step h = tt
all_from P Q (f ∷ fs) step h = (step f h.0, all_from P Q fs step h.1)

-- an update of a file's names is replayed, where the others lose no more than these, and the file none
pub named_again : (i : Image) (es : Table) (e : FileEntry) (names taken : List (List ℕ)) (change : TreeFile → TreeFile) → IsTable es → file_of e.id es ≡ Some e
    → has_right_size e ≡ true → names_left taken e.names ≡ e.names → file_in i (renamed_to e names) ≡ change (file_in i e)
    → AllByRecursion (λ f. f.id ≢ e.id → names_left names f.names ≡ names_left taken f.names) es
    → (next : Table) × (after_record (Update (with_names e names)) es ≡ Ok next) × (tree_of i next ≡ on_file e.id change (tree_of i (take_names taken es)))
named_again i es e names taken change table is right kept changed same =
    let named : is_named e ≡ true = file_has (λ f. is_named f ≡ true) e.id es e table.named is in
    let still : file_of e.id (take_names taken es) ≡ Some e = file_taken e.id taken e es kept named is in
    let right_again : has_right_size (grown (Some e) (with_names e names)) ≡ true = ap has_right_size (names_update e names) ∙ right in (
      put_in (renamed_to e names) (take_names taken es),
      update_known (with_names e names) e es is right_again
          ∙ ap (λ x. Ok x) (ap (λ g. set_entry g es) (names_update e names) ∙ placed taken (renamed_to e names) e es table.ids still same),
      tree_put i (renamed_to e names) change (take_names taken es)
          (all_from (λ f. f.id ≡ e.id → f ≡ e) (λ f. f.id ≡ e.id → file_in i (renamed_to e names) ≡ change (file_in i f)) (take_names taken es)
          (λ f only at. changed ∙ ap (λ x. change (file_in i x)) (sym (only at)))
          (only_file 0 e.id e (take_names taken es) (rise_taken 0 taken es table.ids) still)),
    )

-- the first item, which passes two tests, or not
filter_head : (a b : Bool) (q : List ℕ → Bool) (x : List ℕ) (both one : List (List ℕ)) → q x ≡ b → both ≡ filter (λ y. not (q y)) one
    → cond (not (a || b)) (x ∷ both) both ≡ filter (λ y. not (q y)) (cond (not a) (x ∷ one) one)
filter_head true b q x both one is same = same
filter_head false true q x both one is same = same ∙ ap (λ c. cond (not c) (x ∷ filter (λ y. not (q y)) one) (filter (λ y. not (q y)) one)) (sym is)
filter_head false false q x both one is same =
    ap (λ ys. x ∷ ys) same ∙ ap (λ c. cond (not c) (x ∷ filter (λ y. not (q y)) one) (filter (λ y. not (q y)) one)) (sym is)

-- what passes two tests one after the other
filter_both : (p q r : List ℕ → Bool) (xs : List (List ℕ)) → ((x : List ℕ) → r x ≡ (p x || q x)) → filter (λ x. not (r x)) xs ≡ filter (λ x. not (q x)) (filter (λ x. not (p x)) xs)
filter_both p q r [] same = refl
filter_both p q r (x ∷ xs) same =
    ap (λ b. cond (not b) (x ∷ filter (λ y. not (r y)) xs) (filter (λ y. not (r y)) xs)) (same x)
    ∙ filter_head (p x) (q x) q x (filter (λ y. not (r y)) xs) (filter (λ y. not (p y)) xs) refl (filter_both p q r xs same)

-- names of two lists are taken one list after the other
pub left_append : (xs ys names : List (List ℕ)) → names_left (xs ++ ys) names ≡ names_left ys (names_left xs names)
left_append xs ys names = filter_both (is_among xs) (is_among ys) (is_among (xs ++ ys)) names (λ n. list_any-append (λ m. bytes_eq m n) xs ys)

-- a name that isn't among some isn't one of them
pub unused_any : (names : List (List ℕ)) (new : List ℕ) → is_among names new ≡ false → list_any (is_among (new ∷ [])) names ≡ false
unused_any [] new h = refl
unused_any (n ∷ ns) new h =
    let parts = or_parts (bytes_eq n new) (is_among ns new) h in
    or_from (bytes_eq new n || false) (list_any (is_among (new ∷ [])) ns) (or_from (bytes_eq new n) false (bytes_eq_sym new n ∙ parts.0) refl) (unused_any ns new parts.1)

-- a file without a name loses nothing where it is taken
pub unused_kept : (names : List (List ℕ)) (new : List ℕ) → is_among names new ≡ false → names_left (new ∷ []) names ≡ names
unused_kept names new h = kept_whole (is_among (new ∷ [])) names (unused_any names new h)

-- the file of a name that no file has
pub unused_table : (new : List ℕ) (es : Table) → IsTable es → IsUnused new es → take_names (new ∷ []) es ≡ es
unused_table new es table unused =
    nothing_taken (new ∷ []) es
    (all_from (λ f. is_among f.names new ≡ false) (λ f. names_left (new ∷ []) f.names ≡ f.names) es (λ f h. unused_kept f.names new h) unused) table.named

pub link_is_replayed : LinkIsReplayed
unfolding apply
link_is_replayed i es e old new table name right unused =
    let loses = all_from (λ f. f.id ≢ e.id → shares_name e f ≡ false) (λ f. f.id ≢ e.id → names_left (e.names ++ new ∷ []) f.names ≡ names_left (new ∷ []) f.names) es
    (λ f apart other. left_append e.names (new ∷ []) f.names ∙ ap (names_left (new ∷ [])) (nothing_lost e f (apart other)))
    (table.apart e name.entry) in
    let kept : names_left (new ∷ []) e.names ≡ e.names = unused_kept e.names new (file_has (λ f. is_among f.names new ≡ false) e.id es e unused name.entry) in
    let made = named_again i es e (e.names ++ new ∷ []) (new ∷ []) (λ f. record f { names = f.names ++ new ∷ [] }) table name.entry right kept refl loses in
    record {
      next = made.0;
      replayed = made.1;
      tree =
          made.2
          ∙ (ap (λ t. on_file e.id (λ f. record f { names = f.names ++ new ∷ [] }) (tree_of i t)) (unused_table new es table unused)
          ∙ ap (λ o. link_in o new (tree_of i es)) (sym name.found));
    }

-- two tests that agree where a third fails keep the same of a list where it fails
pub same_kept : (a q r : List ℕ → Bool) (xs : List (List ℕ)) → list_any a xs ≡ false → ((x : List ℕ) → a x ≡ false → r x ≡ q x)
    → filter (λ x. not (r x)) xs ≡ filter (λ x. not (q x)) xs
same_kept a q r [] h same = refl
same_kept a q r (x ∷ xs) h same =
    let parts = or_parts (a x) (list_any a xs) h in
    ap (λ b. cond (not b) (x ∷ filter (λ y. not (r y)) xs) (filter (λ y. not (r y)) xs)) (same x parts.0)
    ∙ ap (λ ys. cond (not (q x)) (x ∷ ys) ys) (same_kept a q r xs parts.1 same)

-- a test beside one that implies it
absorbed : (x y : Bool) → (x || (y && x)) ≡ x
absorbed true y = refl
absorbed false true = refl
absorbed false false = refl

-- the renamed name or another one, beside the rest
renamed_head : (is_old : Bool) (old new m n : List ℕ) (rest had : Bool) → bytes_eq m n ≡ false → rest ≡ (had && bytes_eq new n)
    → (bytes_eq (cond is_old new m) n || rest) ≡ ((is_old || had) && bytes_eq new n)
renamed_head true old new m n rest had other same = ap (λ r. bytes_eq new n || r) same ∙ absorbed (bytes_eq new n) had
renamed_head false old new m n rest had other same = ap (λ b. b || rest) other ∙ same

-- another name is among renamed ones where it is the new one, and there was an old one
pub renamed_among : (old new n : List ℕ) (names : List (List ℕ)) → is_among names n ≡ false → is_among (renamed old new names) n ≡ (is_among names old && bytes_eq new n)
renamed_among old new n [] h = refl
renamed_among old new n (m ∷ ms) h =
    let parts = or_parts (bytes_eq m n) (is_among ms n) h in
    renamed_head (bytes_eq m old) old new m n (is_among (renamed old new ms) n) (is_among ms old) parts.0 (renamed_among old new n ms parts.1)

-- or false
or_false : (b : Bool) → b ≡ (b || false)
or_false true = refl
or_false false = refl

-- a file that shares no name loses the new name at most where renamed ones are taken
pub renamed_left : (e f : FileEntry) (old new : List ℕ) → shares_name e f ≡ false → is_among e.names old ≡ true
    → names_left (renamed old new e.names) f.names ≡ names_left (new ∷ []) f.names
renamed_left e f old new apart among =
    same_kept (is_among e.names) (is_among (new ∷ [])) (is_among (renamed old new e.names)) f.names apart
    (λ n other. renamed_among old new n e.names other ∙ (ap (λ b. b && bytes_eq new n) among ∙ or_false (bytes_eq new n)))

-- the update of a rename, replayed
pub renamed_again : (i : Image) (es : Table) (e : FileEntry) (old new : List ℕ) → IsTable es → IsNameOf i es old e → has_right_size e ≡ true → is_among e.names new ≡ false
    → (next : Table) × (after_record (Update (with_names e (renamed old new e.names))) es ≡ Ok next)
    × (tree_of i next ≡ on_file e.id (λ f. record f { names = renamed old new f.names }) (tree_of i (take_names (new ∷ []) es)))
renamed_again i es e old new table name right free =
    named_again i es e (renamed old new e.names) (new ∷ []) (λ f. record f { names = renamed old new f.names }) table name.entry right
    (unused_kept e.names new free) refl
    (all_from (λ f. f.id ≢ e.id → shares_name e f ≡ false) (λ f. f.id ≢ e.id → names_left (renamed old new e.names) f.names ≡ names_left (new ∷ []) f.names) es
    (λ f apart other. renamed_left e f old new (apart other) name.among) (table.apart e name.entry))

pub rename_is_replayed : RenameIsReplayed
unfolding apply
rename_is_replayed i es e old new table name right unused none =
    let made = renamed_again i es e old new table name right (file_has (λ f. is_among f.names new ≡ false) e.id es e unused name.entry) in
    record {
      next = made.0;
      replayed = made.1;
      tree =
          made.2
          ∙ (ap (λ t. on_file e.id (λ f. record f { names = renamed old new f.names }) (tree_of i t)) (unused_table new es table unused)
          ∙ (ap (λ o. rename_in o None old new (tree_of i es)) (sym name.found) ∙ ap (λ o. rename_in (id_of old (tree_of i es)) o old new (tree_of i es)) (sym none)));
    }

pub rename_over_is_replayed : RenameOverIsReplayed
unfolding apply
rename_over_is_replayed i es e other old new table name right there apart free =
    let made = renamed_again i es e old new table name right free in
    record {
      next = made.0;
      replayed = made.1;
      tree =
          made.2
          ∙ (ap (on_file e.id (λ f. record f { names = renamed old new f.names })) (tree_without i new es)
          ∙ (ap (λ b. cond b (tree_of i es) (on_file e.id (λ f. record f { names = renamed old new f.names }) (drop_name new (tree_of i es)))) (sym (ne_eqb e.id other.id apart))
          ∙ (ap (λ o. rename_in o (Some other.id) old new (tree_of i es)) (sym name.found) ∙ ap (λ o. rename_in (id_of old (tree_of i es)) o old new (tree_of i es)) (sym there.found))));
    }

-- no file has an id above all
pub none_above : (id : ℕ) (es : Table) → AllByRecursion (λ f. f.id < id) es → file_of id es ≡ None
none_above id [] h = refl
none_above id (f ∷ fs) h =
    ap (λ b. cond b (Some f) (file_of id fs)) (ne_eqb f.id id (λ same. omega (arith, h.0))) ∙ none_above id fs h.1

-- all entries have other ids
pub others_below : (id : ℕ) (es : Table) → AllByRecursion (λ f. f.id < id) es → others_of id es ≡ es
others_below id [] h = refl
others_below id (f ∷ fs) h =
    ap (λ b. cond (not b) (f ∷ others_of id fs) (others_of id fs)) (ne_eqb f.id id (λ same. omega (arith, h.0))) ∙ ap (λ es. f ∷ es) (others_below id fs h.1)

-- the update of a new file is its entry
pub update_new : (u : FileEntry) (es : Table) → file_of u.id es ≡ None → has_right_size u ≡ true → after_record (Update u) es ≡ Ok (set_entry u es)
unfolding after_record
update_new u es is right =
    ap (λ o. unless_broken (not (has_right_size (grown o u))) 5 (set_entry (grown o u) es)) is ∙ ap (λ b. unless_broken (not b) 5 (set_entry u es)) right

pub create_is_replayed : CreateIsReplayed
unfolding apply
create_is_replayed i es id name hint sparse time table above unused =
    let it : FileEntry = created id name hint sparse time in
    record {
      next = es ++ it ∷ [];
      replayed =
          update_new it es (none_above id es above) refl
          ∙ ap (λ x. Ok x)
          (ap (λ os. with_entry it (take_names (name ∷ []) os)) (others_below id es above)
          ∙ (ap (with_entry it) (unused_table name es table unused) ∙ placed_last it es above));
      tree = map-append (file_in i) es (it ∷ []);
    }

-- no names taken leave all
pub left_none : (names : List (List ℕ)) → names_left [] names ≡ names
left_none [] = refl
left_none (n ∷ ns) = ap (λ ms. n ∷ ms) (left_none ns)

-- of every entry
pub all_of : (P : FileEntry → Type 0) (es : Table) → ((f : FileEntry) → P f) → AllByRecursion P es
all_of P [] h = tt
all_of P (f ∷ fs) h = (h f, all_of P fs h)

-- an entry with the names that its file has takes its place
pub same_names : (es : Table) (e it : FileEntry) → IsTable es → file_of e.id es ≡ Some e → it.id ≡ e.id → it.names ≡ e.names → set_entry it es ≡ put_in it es
same_names es e it table is same_id same_list =
    let named : is_named e ≡ true = file_has (λ f. is_named f ≡ true) e.id es e table.named is in
    let found : file_of it.id (take_names [] es) ≡ Some e =
    ap (λ id. file_of id (take_names [] es)) same_id ∙ file_taken e.id [] e es (left_none e.names) named is in
    let lost : AllByRecursion (λ f. f.id ≢ it.id → names_left it.names f.names ≡ names_left [] f.names) es =
    all_from (λ f. f.id ≢ e.id → shares_name e f ≡ false) (λ f. f.id ≢ it.id → names_left it.names f.names ≡ names_left [] f.names) es
    (λ f apart other.
    ap (λ ns. names_left ns f.names) same_list
    ∙ (nothing_lost e f (apart (λ same. other (same ∙ sym same_id))) ∙ sym (left_none f.names)))
    (table.apart e is) in
    placed [] it e es table.ids found lost
    ∙ ap (put_in it) (nothing_taken [] es (all_of (λ f. names_left [] f.names ≡ f.names) es (λ f. left_none f.names)) table.named)

-- it changes the one file
tree_same_names : (i : Image) (es : Table) (e it : FileEntry) (change : TreeFile → TreeFile) → IsTable es → file_of e.id es ≡ Some e → it.id ≡ e.id
    → file_in i it ≡ change (file_in i e) → tree_of i (put_in it es) ≡ on_file it.id change (tree_of i es)
tree_same_names i es e it change table is same changed =
    tree_put i it change es
    (all_from (λ f. f.id ≡ e.id → f ≡ e) (λ f. f.id ≡ it.id → file_in i it ≡ change (file_in i f)) es
    (λ f only at. changed ∙ ap (λ x. change (file_in i x)) (sym (only (at ∙ same))))
    (only_file 0 e.id e es table.ids is))

-- the sizes of joined extents
pub size_append : (xs ys : List Extent) → size_of (xs ++ ys) ≡ size_of xs + size_of ys
size_append xs ys = sum_by-append (λ x. x.len) xs ys

pub grow_is_replayed : GrowIsReplayed
unfolding apply
grow_is_replayed i es e added time active table is right =
    let u : FileEntry = with_extents e added time active in
    let it : FileEntry = record u { extents = e.extents ++ added } in
    let size : e.size + size_of added ≡ size_of (e.extents ++ added) = omega (arith, eqb-true e.size (size_of e.extents) right, size_append e.extents added) in
    record {
      next = put_in it es;
      replayed = update_known u e es is (eq-eqb (e.size + size_of added) (size_of (e.extents ++ added)) size) ∙ ap (λ x. Ok x) (same_names es e it table is refl refl);
      tree = tree_same_names i es e it (λ f. record f { bytes = bytes_of i (e.extents ++ added); time = time }) table is refl refl;
    }

-- the one or the other, which are the same
either_same : (b : Bool) (f : TreeFile) → cond b f f ≡ f
either_same true f = refl
either_same false f = refl

-- a file changed into itself
on_file_same : (id : ℕ) (fs : Tree) → on_file id (λ f. f) fs ≡ fs
on_file_same id [] = refl
on_file_same id (f ∷ fs) = ap (λ gs. cond (f.id == id) f f ∷ gs) (on_file_same id fs) ∙ ap (λ g. g ∷ fs) (either_same (f.id == id) f)

pub replace_keeps_tree : ReplaceKeepsTree
unfolding after_record
replace_keeps_tree i es e moved table is size bytes =
    let it : FileEntry = record e { extents = moved } in (
      put_in it es,
      ap (λ o. unless_broken (not (is_some o)) 3 es >>= (λ a. unless_broken (not (has_right_size it)) 5 (set_entry it es))) is
          ∙ (ap (λ b. unless_broken (not b) 5 (set_entry it es)) (eq-eqb e.size (size_of moved) size)
          ∙ ap (λ x. Ok x) (same_names es e it table is refl refl)),
      tree_same_names i es e it (λ f. f) table is refl (ap (λ b. record (file_in i e) { bytes = b }) bytes) ∙ on_file_same e.id (tree_of i es),
    )
