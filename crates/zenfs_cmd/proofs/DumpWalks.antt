-- A dump that is built of all files and zones is the dump.
use Rattle.std.specs.Prelude.{◌≡◌, ℕ, ◌+◌, ◌<◌, ◌≤◌, Bool, true, false, cond, List, [], ◌∷◌, ◌++◌, length, map, filter, flat_map, get_or, refl}
use Rattle.std.proofs.Common.{◌∙◌, ap, sym, append_assoc, append-nil}
use Rattle.std.specs.List.{enumerate_from}
use Rattle.record_model.specs.declared.types.FileEntry.{FileEntry}
use Rattle.log_model.specs.FileTable.{Table}
use Rattle.fs_model.specs.declared.zones.ZoneState.{ZoneState}
use Rattle.fs_model.specs.ZonePolicy.{Numbered}
use Rattle.zone_alloc.specs.ZoneTableState.{no_state}
use Rattle.zone_alloc.proofs.ZoneWalks.{zone_here, zones_from, zones_from-end, zones_from-step}
use Rattle.command_model.specs.DumpText.{dump_file, dump_text, dump_zone, is_dumped}
use Rattle.fs_report.specs.DumpState.{text_of_parts, zone_part}

-- the part of a file
abbrev pub file_part : FileEntry → List (List ℕ)
file_part e = dump_file e ∷ []

-- the parts of files are their texts
pub file_parts : (es : Table) → flat_map file_part es ≡ map dump_file es
file_parts [] = refl
file_parts (e ∷ es) = ap (λ ts. dump_file e ∷ ts) (file_parts es)

-- a zone adds its text if it is dumped
part_choice : (b : Bool) (z : Numbered) (texts : List (List ℕ)) (rest : List Numbered) → texts ≡ map dump_zone rest
    → cond b (dump_zone z ∷ []) [] ++ texts ≡ map dump_zone (cond b (z ∷ rest) rest)
part_choice true z texts rest h = ap (λ ts. dump_zone z ∷ ts) h
part_choice false z texts rest h = h

-- the parts of zones are the texts of those that are dumped
pub zone_parts : (zs : List Numbered) → flat_map zone_part zs ≡ map dump_zone (filter is_dumped zs)
zone_parts [] = refl
zone_parts (z ∷ zs) = part_choice (is_dumped z) z (flat_map zone_part zs) (filter is_dumped zs) (zone_parts zs)

-- a zone more
pub zones_go_on : (done next whole : List (List ℕ)) (zs : List ZoneState) (n : ℕ) (z : ZoneState) → n < length zs → z ≡ get_or zs n no_state → next ≡ done ++ zone_part (n, z)
    → done ++ flat_map zone_part (zones_from n zs) ≡ whole → next ++ flat_map zone_part (zones_from (n + 1) zs) ≡ whole
zones_go_on done next whole zs n z within is more so_far =
    ap (λ made. made ++ flat_map zone_part (zones_from (n + 1) zs)) (more ∙ ap (λ (s : ZoneState). done ++ zone_part (n, s)) is)
    ∙ append_assoc done (zone_part (zone_here zs n)) (flat_map zone_part (zones_from (n + 1) zs))
    ∙ ap (λ rest. done ++ flat_map zone_part rest) (sym (zones_from-step zs n within)) ∙ so_far

-- no zone more
pub zones_end : (before done : List (List ℕ)) (zs : List ZoneState) (n : ℕ) → length zs ≤ n → done ++ flat_map zone_part (zones_from n zs) ≡ before ++ flat_map zone_part (zones_from 0 zs)
    → done ≡ before ++ map dump_zone (filter is_dumped (enumerate_from 0 zs))
zones_end before done zs n past so_far =
    sym (append-nil done) ∙ ap (λ rest. done ++ flat_map zone_part rest) (sym (zones_from-end zs n past)) ∙ so_far
    ∙ ap (λ made. before ++ made) (zone_parts (enumerate_from 0 zs))

-- the text of all parts is the dump
pub dump_of_parts : (files zones : List (List ℕ)) (es : Table) (zs : List ZoneState) → files ≡ map dump_file es → zones ≡ map dump_zone (filter is_dumped (enumerate_from 0 zs))
    → text_of_parts files zones ≡ dump_text es zs
unfolding dump_text text_of_parts
dump_of_parts files zones es zs made numbered =
    ap (λ texts. text_of_parts texts zones) made ∙ ap (λ texts. text_of_parts (map dump_file es) texts) numbered
