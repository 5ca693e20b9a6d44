use Rattle.std.proofs.Common.{◌≡◌, ℕ, ◌-◌, ◌*◌, ◌++◌, List, drop, sym, ◌∙◌, ap, subst, arith, append-nil}
use Rattle.std.specs.List.{All}
use Rattle.std.proofs.lemmas.List.Elements.{All-append}
use Rattle.zone_image.specs.Infos.{info_at}
use Rattle.zone_image.specs.Image.{zone_at}
use Rattle.zone_image.proofs.ReadLaws.{reads_nothing}
use Rattle.record_model.specs.declared.types.Extent.{Extent}
use Rattle.log_model.specs.Frames.{extent_if_any}
use Rattle.mount_replay.specs.FrameWalk.{frames_from}
use Rattle.mount_replay.specs.declared.frames.FrameStart.{FrameStart}
use Rattle.mount_replay.specs.Rules.{IsWrittenExtent}
use Rattle.mount_replay.proofs.WrittenLaws.{possible_as, told_as, all_if_any, rest_extent}
use Rattle.mount_replay.proofs.RecoveryLaws.{recovers_nothing, recovers_frames, recovers_rest, recovered_point, point_zone}
use Rattle.mount_replay.proofs.recovered.push_recovered.Goals as goal

pub returns-then-not-is_recovered-clause-found : goal.returns-then-not-is_recovered-clause-found
returns-then-not-is_recovered-clause-found g c = λ told.
    let D = g.D.ZonedDevice in
    let dev = c.args.dev.now in
    let shape = c.args.geometry.now in
    let infos = c.args.infos.now in
    let possible = possible_as shape (D.geometry dev) infos (D.infos dev) c.requires.same_geometry c.requires.same_infos (g.met.D.ZonedDevice.possible dev c.requires.is_known) in
    let image = told_as shape (D.geometry dev) infos (D.infos dev) (D.image dev) c.requires.same_geometry c.requires.same_infos (g.met.D.ZonedDevice.told dev told c.requires.is_known) in
    let none = recovers_nothing shape infos (D.image dev) c.args.entry.now possible image (sym c.is_recovered.ensures ∙ c.if-not-is_recovered.true) in
    sym (ap (λ (es : List Extent). c.args.extents.now.items ++ es) none ∙ append-nil c.args.extents.now.items)

pub returns-then-not-entry-clause-found : goal.returns-then-not-entry-clause-found
returns-then-not-entry-clause-found g c = λ told.
    let D = g.D.ZonedDevice in
    let dev = c.args.dev.now in
    let shape = c.args.geometry.now in
    let infos = c.args.infos.now in
    let entry = c.args.entry.now in
    let possible = possible_as shape (D.geometry dev) infos (D.infos dev) c.requires.same_geometry c.requires.same_infos (g.met.D.ZonedDevice.possible dev c.requires.is_known) in
    let image = told_as shape (D.geometry dev) infos (D.infos dev) (D.image dev) c.requires.same_geometry c.requires.same_infos (g.met.D.ZonedDevice.told dev told c.requires.is_known) in
    let within = point_zone shape infos entry.active (recovered_point shape infos entry (sym c.is_recovered.ensures ∙ c.if-not-is_recovered.false)) in
    let rest = recovers_rest shape infos (D.image dev) entry possible image within (sym c.is_recovered.ensures ∙ c.if-not-is_recovered.false) c.if-not-entry.true in
    c.in_ok-push_rest.ensures
    ∙ ap (λ (f : FrameStart). c.args.extents.now.items ++ extent_if_any f.start ((f.written - f.first) * shape.block)) c.frame_start-from.ensures.exact
    ∙ ap (λ (es : List Extent). c.args.extents.now.items ++ es) (sym rest)

pub returns-in_err-block-clause-device : goal.returns-in_err-block-clause-device
returns-in_err-block-clause-device g c = reads_nothing g.met.D.ZonedDevice.moments c.args.dev.now c.requires.is_known

pub returns-clause-found : goal.returns-clause-found
returns-clause-found g c = λ told.
    let D = g.D.ZonedDevice in
    let dev = c.args.dev.now in
    let shape = c.args.geometry.now in
    let infos = c.args.infos.now in
    let entry = c.args.entry.now in
    let possible = possible_as shape (D.geometry dev) infos (D.infos dev) c.requires.same_geometry c.requires.same_infos (g.met.D.ZonedDevice.possible dev c.requires.is_known) in
    let image = told_as shape (D.geometry dev) infos (D.infos dev) (D.image dev) c.requires.same_geometry c.requires.same_infos (g.met.D.ZonedDevice.told dev told c.requires.is_known) in
    let frames = recovers_frames shape infos (D.image dev) entry possible image (sym c.is_recovered.ensures ∙ c.if-not-is_recovered.false) c.if-not-entry.false in
    c.in_ok-walk_frames.ensures.found told
    ∙ ap (λ (f : FrameStart). c.args.extents.now.items ++ frames_from shape.block f.start (drop f.first (zone_at (D.image dev) f.zone).blocks)) c.frame_start-from.ensures.exact
    ∙ ap (λ (es : List Extent). c.args.extents.now.items ++ es) (sym frames)

pub returns-then-not-entry-clause-lie : goal.returns-then-not-entry-clause-lie
returns-then-not-entry-clause-lie g c = λ all.
    let D = g.D.ZonedDevice in
    let dev = c.args.dev.now in
    let shape = c.args.geometry.now in
    let infos = c.args.infos.now in
    let f : FrameStart = c.frame_start-from.result in
    let exact = c.frame_start-from.ensures.exact in
    let possible = possible_as shape (D.geometry dev) infos (D.infos dev) c.requires.same_geometry c.requires.same_infos (g.met.D.ZonedDevice.possible dev c.requires.is_known) in
    let written : f.written ≡ (info_at infos f.zone).written = ap (λ (s : FrameStart). s.written) exact ∙ ap (λ (z : ℕ). (info_at infos z).written) (sym (ap (λ (s : FrameStart). s.zone) exact)) in
    let len : ℕ = (f.written - f.first) * shape.block in
    subst (All (IsWrittenExtent shape infos)) (sym c.in_ok-push_rest.ensures)
    (All-append (IsWrittenExtent shape infos) c.args.extents.now.items (extent_if_any f.start len) all
    (all_if_any (IsWrittenExtent shape infos) f.start len
    (λ some. rest_extent shape infos f.zone f.first f.start len possible c.frame_start-from.ensures.is_data c.frame_start-from.ensures.is_zone c.frame_start-from.ensures.place some
    (omega (arith, c.frame_start-from.ensures.within, written)) (ap (λ (n : ℕ). (n - f.first) * shape.block) written))))
