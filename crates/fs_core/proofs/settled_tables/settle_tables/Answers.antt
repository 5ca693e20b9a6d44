use Rattle.std.proofs.Common.{◌≡◌, ◌<◌, ◌∙◌, map, false, ap, sym, subst, arith}
use Rattle.std.specs.Prelude.{drop}
use Rattle.zone_image.specs.Infos.{active_zones, info_at}
use Rattle.fs_model.specs.FsState.{FsState}
use Rattle.change_steps.specs.Recording.{after_roll}
use Rattle.change_steps.specs.WriteMount.{cleared_state}
use Rattle.change_steps.proofs.RecordLaws.{roll_keeps_files}
use Rattle.fs_model.specs.LogSteps.{next_log}
use Rattle.fs_model.specs.TreeSteps.{cleared}
use Rattle.log_store.proofs.RollCallLaws.{new_info}
use Rattle.change_cover.specs.Rests.{Becomes}
use Rattle.fs_tables.specs.Steps.{infos_in, rolled_infos}
use Rattle.fs_tables.specs.Tokens.{HasFreeToken}
use Rattle.fs_core.proofs.NewLogs.{large_blocks}
use Rattle.fs_core.proofs.SettledWrites.{settled_can_write, superblock_is_some}
use Rattle.fs_core.proofs.Tokens.{cleared_token, rolled_becomes, rolled_data, token_clears}
use Rattle.fs_core.proofs.settled_tables.settle_tables.Goals as goal

pub returns-clause-state : goal.returns-clause-state
returns-clause-state c =
    c.roll.ensures.state ∙ ap after_roll (c.clear_points.ensures ∙ ap cleared_state c.finish_any.ensures.state ∙ sym (token_clears c.args.tables.now.state))

pub returns-clause-becomes : goal.returns-clause-becomes
returns-clause-becomes c =
    let s = c.args.tables.now.state in
    let mid = c.clear_points.new.self.state in
    rolled_becomes s mid c.roll.new.self.state c.args.blocks (cleared_token s mid (c.clear_points.ensures ∙ ap cleared_state c.finish_any.ensures.state)) c.valid-2.ensures.sound
    c.roll.ensures.state c.requires.blocks c.requires.room

pub returns-clause-shape : goal.returns-clause-shape
returns-clause-shape c =
    let s = c.args.tables.now.state in
    let mid = c.clear_points.new.self.state in
    ap (λ (t : FsState). t.geometry) c.roll.ensures.state
    ∙ ((roll_keeps_files mid).geometry ∙ (cleared_token s mid (c.clear_points.ensures ∙ ap cleared_state c.finish_any.ensures.state)).geometry)

pub returns-clause-writes : goal.returns-clause-writes
returns-clause-writes c =
    let s = c.args.tables.now.state in
    let mid = c.clear_points.new.self.state in
    let new = c.roll.new.self.state in
    let sound = c.valid.ensures.sound in
    let there = c.valid-3.ensures.sound in
    let is = cleared_token s mid (c.clear_points.ensures ∙ ap cleared_state c.finish_any.ensures.state) in
    let shape : new.geometry ≡ s.geometry = ap (λ (t : FsState). t.geometry) c.roll.ensures.state ∙ ((roll_keeps_files mid).geometry ∙ is.geometry) in
    let becomes : Becomes (next_log s) (map cleared s.rows) new =
    rolled_becomes s mid new c.args.blocks is c.valid-2.ensures.sound c.roll.ensures.state c.requires.blocks c.requires.room in
    let seals = ap (drop 3) c.roll.ensures.infos ∙ rolled_data (infos_in mid) c.args.log.zone c.args.blocks ∙ ap (λ t. drop 3 (infos_in t)) c.clear_points.ensures in
    let limit = ap (λ (t : FsState). t.geometry.active_limit) c.roll.ensures.state ∙ ap (λ g. g.active_limit) (roll_keeps_files mid).geometry
    ∙ ap (λ (t : FsState). t.geometry.active_limit) c.clear_points.ensures in
    let free : HasFreeToken new =
    subst (λ infos. active_zones infos < new.geometry.active_limit) (sym seals)
    (subst (λ n. active_zones (drop 3 (infos_in c.finish_any.new.tables.state)) < n) (sym limit) c.finish_any.ensures.free) in
    let zone : new.log.zone ≡ c.args.log.zone = ap (λ l. l.zone) (becomes.log ∙ sym c.requires.log) in
    let low : c.args.log.zone < 3 = omega (arith, there.log_zone, zone) in
    let info : info_at (infos_in new) new.log.zone ≡ record { written = c.args.blocks; sealed = false } =
    ap (λ infos. info_at infos new.log.zone) c.roll.ensures.infos
    ∙ (ap (λ n. info_at (rolled_infos (infos_in mid) c.args.log.zone c.args.blocks) n) zone ∙ new_info (infos_in mid) c.args.log.zone c.args.blocks low) in
    settled_can_write s new c.args.blocks sound there c.requires.may becomes shape free info
    (omega (arith, c.requires.blocks, superblock_is_some s.geometry.block (large_blocks s sound)))
