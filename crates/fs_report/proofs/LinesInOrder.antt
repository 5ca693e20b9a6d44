-- Lines sorted by their names are the list's lines in order.
use Rattle.std.proofs.Common.{◌≡◌, ℕ, Bool, true, false, cond, List, [], ◌∷◌, ◌++◌, map, refl, ap, sym, subst, ◌∙◌}
use Rattle.std.specs.Prelude.{Option, Some, None, filter, flat_map, nat_eq}
use Rattle.std.specs.List.{starts_with}
use Rattle.record_model.specs.declared.types.FileEntry.{FileEntry}
use Rattle.std.specs.Cmp.{IsStrictWeakOrder}
use Rattle.std.specs.Cmp.Lexicographic.{slice_cmp, nat_list_cmp_total}
use Rattle.std.specs.Ordering.{is_lt, nat_cmp}
use Rattle.std.proofs.lemmas.List.Sorted.{ranks_by}
use Rattle.fs_report.specs.declared.listing.Line.{Line}
use Rattle.fs_report.specs.Lines.{folder_of, listed_of, listed_text}
use Rattle.command_model.specs.ReportTexts.{Listed, insert_listed, is_listed, list_line, list_text, listed_in_order, listed_names}
use Rattle.fs_report.proofs.StableSort.{insert_by, sorted_by}

-- a line whose name comes first
abbrev pub line_before : Line → Line → Bool
line_before a b = is_lt (slice_cmp nat_cmp a.name.now b.name.now)

-- it is an order
pub lines_ordered : IsStrictWeakOrder line_before
lines_ordered = ranks_by nat_list_cmp_total (λ l. l.name.now)

-- a line put in place is listed in place
inserted_listed : (x : Line) (ys : List Line) → map listed_of (insert_by line_before lines_ordered x ys) ≡ insert_listed (listed_of x) (map listed_of ys)
inserted_listed x [] = refl
inserted_listed x (y ∷ ys) =
    elim (line_before y x) as (λ b. map listed_of (cond b (y ∷ insert_by line_before lines_ordered x ys) (x ∷ y ∷ ys)) ≡ cond b (listed_of y ∷ insert_listed (listed_of x) (map listed_of ys)) (listed_of x ∷ listed_of y ∷ map listed_of ys)) [
      | true ↦ ap (λ ls. listed_of y ∷ ls) (inserted_listed x ys)
      | false ↦ refl
    ]

-- sorted lines are listed in order
pub sorted_listed : (xs : List Line) → map listed_of (sorted_by line_before lines_ordered xs) ≡ listed_in_order (map listed_of xs)
sorted_listed [] = refl
sorted_listed (x ∷ xs) = inserted_listed x (sorted_by line_before lines_ordered xs) ∙ ap (insert_listed (listed_of x)) (sorted_listed xs)

-- a name is listed where it begins as it should
begins_listed : (prefix : Option (List ℕ)) (l : Listed) → is_listed prefix l ≡ starts_with nat_eq l.name (folder_of prefix)
begins_listed None l = refl
begins_listed (Some prefix) l = refl

-- the texts of names that begin so are those of the names that are listed
texts_filtered : (prefix : Option (List ℕ)) (xs : List Listed) → flat_map (listed_text (folder_of prefix)) xs ≡ flat_map list_line (filter (is_listed prefix) xs)
texts_filtered prefix [] = refl
texts_filtered prefix (x ∷ xs) =
    subst (λ b. listed_text (folder_of prefix) x ++ flat_map (listed_text (folder_of prefix)) xs ≡ flat_map list_line (cond b (x ∷ filter (is_listed prefix) xs) (filter (is_listed prefix) xs))) (sym (begins_listed prefix x))
    (elim (starts_with nat_eq x.name (folder_of prefix)) as (λ b. cond b (list_line x) [] ++ flat_map (listed_text (folder_of prefix)) xs ≡ flat_map list_line (cond b (x ∷ filter (is_listed prefix) xs) (filter (is_listed prefix) xs))) [
      | true ↦ ap (λ text. list_line x ++ text) (texts_filtered prefix xs)
      | false ↦ texts_filtered prefix xs
    ])

-- the texts of lines are those of the names that they list
texts_listed : (folder : List ℕ) (xs : List Line) → flat_map (λ line. listed_text folder (listed_of line)) xs ≡ flat_map (listed_text folder) (map listed_of xs)
texts_listed folder [] = refl
texts_listed folder (x ∷ xs) = ap (λ text. listed_text folder (listed_of x) ++ text) (texts_listed folder xs)

-- the texts of the sorted lines of some files are their list
pub text_is_list : (files : List FileEntry) (prefix : Option (List ℕ)) (lines in_order : List Line) (text : List ℕ) → map listed_of lines ≡ flat_map listed_names files → map listed_of in_order ≡ listed_in_order (map listed_of lines) → text ≡ flat_map (λ line. listed_text (folder_of prefix) (listed_of line)) in_order → text ≡ list_text files prefix
unfolding list_text
text_is_list files prefix lines in_order text of_files sorted is =
    is ∙ texts_listed (folder_of prefix) in_order ∙ ap (flat_map (listed_text (folder_of prefix))) (sorted ∙ ap listed_in_order of_files) ∙ texts_filtered prefix (listed_in_order (flat_map listed_names files))
