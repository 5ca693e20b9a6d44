use Rattle.std.proofs.Common.{ℕ, List, length, ap, ◌<◌, [], ◌∷◌, sym, subst, refl, ◌∙◌, IsTrue, arith}
use Rattle.zone_image.specs.declared.Geometry.{Geometry}
use Rattle.zone_image.specs.Image.{is_valid}
use Rattle.record_model.specs.Encoding.{payload_of}
use Rattle.record_model.specs.declared.types.Record.TheVariants.{Snapshot}
use Rattle.superblock_core.specs.Superblock.{superblock_of}
use Rattle.log_roll.specs.FormatLeaves.{HasNewLog}
use Rattle.log_roll.proofs.FormatSelects.{formatted_log}
use Rattle.log_roll.specs.Formatting.{LeftByFormat}
use Rattle.log_roll.proofs.FormatMoments.{format_passed, unformatted}
use Rattle.zoned_device.proofs.DeviceLaws.{done_as, nothing_done}
use Rattle.log_roll.proofs.Formatted.{formatted_is, formatted_infos, empty_snapshot}
use Rattle.log_roll.proofs.formatting.format_in_order.Goals as goal

pub returns-in-Ok-write_format-clause-infos : goal.returns-in-Ok-write_format-clause-infos
returns-in-Ok-write_format-clause-infos g c =
    let D = g.D.ZonedDevice in
    let dev = c.args.dev.now in
    let shape : Geometry = c.args.geometry.now in
    let valid : IsTrue (is_valid shape) = subst (λ s. IsTrue (is_valid s)) (sym c.requires.same_geometry) (g.met.D.ZonedDevice.possible dev c.requires.is_known).valid in
    let some : 0 < shape.zones = grind (arith, valid) in
    c.in-Ok-write_format.ensures.infos
    ∙ formatted_infos shape c.args.superblock.now c.encode.new.out (1 ∷ 0 ∷ 0 ∷ 0 ∷ 0 ∷ []) some valid c.encode.array_long c.encode.ensures.bytes empty_snapshot refl

pub returns-in-Ok-write_format-clause-image : goal.returns-in-Ok-write_format-clause-image
returns-in-Ok-write_format-clause-image g c = λ told.
    let D = g.D.ZonedDevice in
    let dev = c.args.dev.now in
    let shape : Geometry = c.args.geometry.now in
    let valid : IsTrue (is_valid shape) = subst (λ s. IsTrue (is_valid s)) (sym c.requires.same_geometry) (g.met.D.ZonedDevice.possible dev c.requires.is_known).valid in
    let some : 0 < shape.zones = grind (arith, valid) in
    c.in-Ok-write_format.ensures.image told
    ∙ formatted_is shape c.args.superblock.now c.encode.new.out (1 ∷ 0 ∷ 0 ∷ 0 ∷ 0 ∷ []) some valid c.encode.array_long c.encode.ensures.bytes empty_snapshot refl

pub returns-in-Ok-write_format-clause-log : goal.returns-in-Ok-write_format-clause-log
returns-in-Ok-write_format-clause-log g c = λ told.
    let D = g.D.ZonedDevice in
    let dev = c.args.dev.now in
    let shape : Geometry = c.args.geometry.now in
    let valid : IsTrue (is_valid shape) = subst (λ s. IsTrue (is_valid s)) (sym c.requires.same_geometry) (g.met.D.ZonedDevice.possible dev c.requires.is_known).valid in
    let some : 0 < shape.zones = grind (arith, valid) in
    let s = c.args.superblock.now in
    subst (λ j. HasNewLog 0 s (payload_of (Snapshot [])) j) (sym (c.in-Ok-write_format.ensures.image told
    ∙ formatted_is shape c.args.superblock.now c.encode.new.out (1 ∷ 0 ∷ 0 ∷ 0 ∷ 0 ∷ []) some valid c.encode.array_long c.encode.ensures.bytes empty_snapshot refl))
    (formatted_log shape s valid (ap superblock_of (sym c.encode.ensures.bytes) ∙ c.encode.ensures.reads_back) (ap (λ (bs : List ℕ). length bs) (sym c.encode.ensures.bytes) ∙ c.encode.array_long) c.requires.fits)

pub returns-in-Ok-write_format-clause-device : goal.returns-in-Ok-write_format-clause-device
returns-in-Ok-write_format-clause-device g c =
    let D = g.D.ZonedDevice in
    let dev = c.args.dev.now in
    let shape : Geometry = c.args.geometry.now in
    let o = c.args.order in
    done_as g.met.D.ZonedDevice.moments _ (LeftByFormat shape c.args.superblock.now (D.image dev)) c.in-Ok-write_format.ensures.device (λ failed. cc) (λ none. cc)
    (λ j told passed. format_passed shape (D.geometry dev) (D.infos dev) (D.image dev) c.args.superblock.now c.encode.new.out (1 ∷ 0 ∷ 0 ∷ 0 ∷ 0 ∷ []) o.first o.second o.third c.requires.same_geometry
    (g.met.D.ZonedDevice.possible dev c.requires.is_known) (g.met.D.ZonedDevice.told dev told c.requires.is_known) c.requires.all (c.requires.ordered told)
    (record { bytes = c.encode.ensures.bytes; reads = c.encode.ensures.reads_back; size = c.encode.array_long; device = c.requires.fits }) empty_snapshot j passed)

pub returns-clause-device : goal.returns-clause-device
returns-clause-device g c =
    let D = g.D.ZonedDevice in
    let dev = c.args.dev.now in
    let shape : Geometry = c.args.geometry.now in
    let o = c.args.order in
    done_as g.met.D.ZonedDevice.moments _ (LeftByFormat shape c.args.superblock.now (D.image dev)) c.in-Err-write_format.ensures.device (λ failed. refl) (λ failed. refl)
    (λ j told passed. format_passed shape (D.geometry dev) (D.infos dev) (D.image dev) c.args.superblock.now c.encode.new.out (1 ∷ 0 ∷ 0 ∷ 0 ∷ 0 ∷ []) o.first o.second o.third c.requires.same_geometry
    (g.met.D.ZonedDevice.possible dev c.requires.is_known) (g.met.D.ZonedDevice.told dev told c.requires.is_known) c.requires.all (c.requires.ordered told)
    (record { bytes = c.encode.ensures.bytes; reads = c.encode.ensures.reads_back; size = c.encode.array_long; device = c.requires.fits }) empty_snapshot j passed)

pub returns-in-Err-clause-device : goal.returns-in-Err-clause-device
returns-in-Err-clause-device g c =
    let D = g.D.ZonedDevice in
    let dev = c.args.dev.now in
    done_as g.met.D.ZonedDevice.moments _ (LeftByFormat c.args.geometry.now c.args.superblock.now (D.image dev))
    (nothing_done g.met.D.ZonedDevice.moments dev (LeftByFormat c.args.geometry.now c.args.superblock.now (D.image dev)) c.requires.is_known (λ j crash. unformatted c.args.geometry.now c.args.superblock.now (D.image dev) j crash))
    (λ none. absurd none) (λ none. cc) (λ j told p. p)
