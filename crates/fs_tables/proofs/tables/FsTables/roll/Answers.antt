use Rattle.std.proofs.Common.{ℕ, ◌<◌, sym, ◌∙◌, ap, subst, arith}
use Rattle.zone_image.specs.declared.ZoneInfo.{ZoneInfo}
use Rattle.log_model.specs.declared.selection.Chosen.{Chosen}
use Rattle.fs_model.specs.FsState.{FsState, descriptor_at, on_descriptor}
use Rattle.fs_model.specs.LogSteps.{after_append, append_blocks, next_log}
use Rattle.fs_tables.specs.Steps.{infos_in, rolled_infos, with_emptied_metadata}
use Rattle.fs_tables.proofs.RollLaws.{rolled, roll_ends, emptied_here, some_zones, infos_after_roll}
use Rattle.fs_tables.proofs.tables.FsTables.roll.Goals as goal

pub append-requires-clause-unsealed : goal.append-requires-clause-unsealed
append-requires-clause-unsealed c =
    let s = c.args.self.now.state in
    let low : c.args.log.zone < 3 = omega (arith, ap (λ (l : Chosen). l.zone) c.requires.next) in
    ap (λ (r : FsState). (descriptor_at r c.args.log.zone).info.sealed) c.reset_metadata.ensures.state
    ∙ ap (λ (i : ZoneInfo). i.sealed) (emptied_here s.zones c.args.log.zone (some_zones s c.reset_metadata.ensures.sound) low)

pub append-requires-clause-takes : goal.append-requires-clause-takes
append-requires-clause-takes c =
    let s = c.args.self.now.state in
    let low : c.args.log.zone < 3 = omega (arith, ap (λ (l : Chosen). l.zone) c.requires.next) in
    omega (
      arith,
      ap (λ (r : FsState). (descriptor_at r c.args.log.zone).info.written) c.reset_metadata.ensures.state,
      ap (λ (i : ZoneInfo). i.written) (emptied_here s.zones c.args.log.zone (some_zones s c.reset_metadata.ensures.sound) low),
      ap (λ (r : FsState). r.geometry.capacity) c.reset_metadata.ensures.state,
      c.requires.room,
    )

pub returns-clause-state : goal.returns-clause-state
returns-clause-state c =
    let s = c.args.self.now.state in
    let sound = c.reset_metadata.ensures.sound in
    let room = subst (λ (n : ℕ). n < s.geometry.capacity) c.requires.blocks c.requires.room in
    let ends = roll_ends s sound.log_zone (some_zones s sound) room in
    let with_log = λ (r : FsState). record r { log = c.args.log } in
    c.set_log.ensures.state
    ∙ ap with_log c.append.ensures.state
    ∙ ap (λ (r : FsState). with_log (append_blocks c.args.log.zone c.args.blocks r).last) c.reset_metadata.ensures.state
    ∙ ap (λ (l : Chosen). record s { zones = on_descriptor l.zone (after_append s.geometry.capacity c.args.blocks) (with_emptied_metadata s.zones); log = l }) c.requires.next
    ∙ ap (rolled s) c.requires.blocks
    ∙ sym ends.last

pub returns-clause-answer : goal.returns-clause-answer
returns-clause-answer c =
    let s = c.args.self.now.state in
    let sound = c.reset_metadata.ensures.sound in
    let room = subst (λ (n : ℕ). n < s.geometry.capacity) c.requires.blocks c.requires.room in
    (roll_ends s sound.log_zone (some_zones s sound) room).answer

pub returns-clause-infos : goal.returns-clause-infos
returns-clause-infos c =
    let s = c.args.self.now.state in
    let sound = c.reset_metadata.ensures.sound in
    let room = subst (λ (n : ℕ). n < s.geometry.capacity) c.requires.blocks c.requires.room in
    ap infos_in (returns-clause-state c)
    ∙ infos_after_roll s sound room
    ∙ sym (ap (rolled_infos (infos_in s) (next_log s).zone) c.requires.blocks)
    ∙ sym (ap (λ (l : Chosen). rolled_infos (infos_in s) l.zone c.args.blocks) c.requires.next)
