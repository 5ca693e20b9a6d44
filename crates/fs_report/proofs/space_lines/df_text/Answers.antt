use Rattle.std.proofs.Common.{◌≡◌, ℕ, ◌*◌, List, [], ◌++◌, ap, ◌∙◌}
use Rattle.std.specs.Prelude.{codes, decimal}
use Rattle.zone_image.specs.declared.Geometry.{Geometry}
use Rattle.fs_model.specs.declared.policy.Space.{Space}
use Rattle.command_model.specs.ReportTexts.{amplification, df_text, number_line, text_line}
use Rattle.fs_report.proofs.space_lines.df_text.Goals as goal

-- the lines, group by group, are the lines
grouped : (g : Geometry) (s : Space) (none one two three : List ℕ) → none ≡ [] → one ≡ none ++ number_line (codes "Free") (s.free * g.block) → two ≡ one ++ number_line (codes "Used") s.used ++ number_line (codes "Reclaimable") s.reclaimable → three ≡ two ++ text_line (codes "Space amplification") (decimal (amplification s.reclaimable s.used) ++ codes "%") → three ≡ df_text g s
unfolding df_text
grouped g s none one two three start a b c =
    c ∙ ap (λ t. t ++ text_line (codes "Space amplification") (decimal (amplification s.reclaimable s.used) ++ codes "%"))
    (b ∙ ap (λ t. t ++ number_line (codes "Used") s.used ++ number_line (codes "Reclaimable") s.reclaimable)
    (a ∙ ap (λ t. t ++ number_line (codes "Free") (s.free * g.block)) start))

pub returns : goal.returns
returns c =
    c.from_vec.ensures
    ∙ grouped c.args.geometry.now c.args.space.now _ _ _ _ c.new-text.ensures.items c.in_ok-push_free.ensures c.in_ok-push_used.ensures c.in_ok-push_amplification.ensures
