use Rattle.std.proofs.Common.{◌≡◌, ℕ, List, [], ◌++◌, ap, ◌∙◌}
use Rattle.std.specs.Prelude.{codes}
use Rattle.superblock_core.specs.declared.superblock.Superblock.{Superblock}
use Rattle.superblock_core.specs.Superblock.{uuid_text}
use Rattle.command_model.specs.ReportTexts.{info_text, line, number_line, text_line}
use Rattle.fs_report.proofs.superblock_lines.info_text.Goals as goal

-- the lines, group by group, are the lines
grouped : (s : Superblock) (none one two three four : List ℕ) → none ≡ [] → one ≡ none ++ line (codes "Magic: 5a454e46") ++ text_line (codes "UUID") (uuid_text s.id) → two ≡ one ++ number_line (codes "Sequence") s.sequence ++ number_line (codes "Version") 2 ++ number_line (codes "Flags") s.flags → three ≡ two ++ number_line (codes "Block size") s.block ++ number_line (codes "Zone size") s.zone_blocks ++ number_line (codes "Zone count") s.zones ++ number_line (codes "Finish threshold") s.finish_threshold → four ≡ three ++ text_line (codes "Auxiliary path") s.aux_path ++ text_line (codes "ZenFS version") s.version_text → four ≡ info_text s
unfolding info_text
grouped s none one two three four start a b c d =
    d ∙ ap (λ t. t ++ text_line (codes "Auxiliary path") s.aux_path ++ text_line (codes "ZenFS version") s.version_text)
    (c ∙ ap (λ t. t ++ number_line (codes "Block size") s.block ++ number_line (codes "Zone size") s.zone_blocks ++ number_line (codes "Zone count") s.zones ++ number_line (codes "Finish threshold") s.finish_threshold)
    (b ∙ ap (λ t. t ++ number_line (codes "Sequence") s.sequence ++ number_line (codes "Version") 2 ++ number_line (codes "Flags") s.flags)
    (a ∙ ap (λ t. t ++ line (codes "Magic: 5a454e46") ++ text_line (codes "UUID") (uuid_text s.id)) start)))

pub returns : goal.returns
returns c =
    c.from_vec.ensures
    ∙ grouped c.args.superblock.now _ _ _ _ _ c.new-text.ensures.items c.in_ok-push_names.ensures c.in_ok-push_counts.ensures c.in_ok-push_shape.ensures c.in_ok-push_texts.ensures
