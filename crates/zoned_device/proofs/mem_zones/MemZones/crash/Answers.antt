use Rattle.std.proofs.Common.{◌≡◌, Some, sym, ◌∙◌, ap, subst}
use Rattle.zone_image.specs.Image.{IsCrash}
use Rattle.zone_image.specs.Changes.{crashed}
use Rattle.zone_image.specs.Infos.{IsValidImage}
use Rattle.zone_image.proofs.CrashLaws.{crashed_is_crash, valid_crash}
use Rattle.zoned_device.specs.Content.{Content, IsValidContent}
use Rattle.zoned_device.specs.MemState.{MemState, image_of, IsKnown}
use Rattle.zoned_device.proofs.mem_zones.MemZones.crash.Goals as goal

pub returns-clause-crash : goal.returns-clause-crash
returns-clause-crash c =
    let keep = c.args.keep.now in
    let old : ◌≡◌ {A = MemState} (record { content = Some c.in-Some.record; calls = c.self.inside.calls }) c.args.self =
    sym (ap (λ o. record { content = o; calls = c.self.inside.calls }) c.in-Some.is) ∙ c.self.view_is in
    let was : IsValidContent c.in-Some.record = subst IsKnown (sym old) c.requires.is_known in
    let valid : IsValidImage (image_of c.args.self) = subst (λ (m : MemState). IsValidImage (image_of m)) old was.standing in
    let left : c.crash.new.self.standing ≡ crashed (image_of c.args.self) keep =
    ap (λ (d : Content). d.standing) c.crash.ensures ∙ ap (λ (m : MemState). crashed (image_of m) keep) old in
    subst (IsCrash (image_of c.args.self)) (sym left) (crashed_is_crash (image_of c.args.self) keep valid)

pub returns-clause-known : goal.returns-clause-known
returns-clause-known c =
    let old : ◌≡◌ {A = MemState} (record { content = Some c.in-Some.record; calls = c.self.inside.calls }) c.args.self =
    sym (ap (λ o. record { content = o; calls = c.self.inside.calls }) c.in-Some.is) ∙ c.self.view_is in
    let was : IsValidContent c.in-Some.record = subst IsKnown (sym old) c.requires.is_known in
    let standing = valid_crash c.in-Some.record.standing (crashed c.in-Some.record.standing c.args.keep.now) was.standing (crashed_is_crash c.in-Some.record.standing c.args.keep.now was.standing) in
    subst IsValidContent (sym c.crash.ensures) (record { standing = standing; moments = tt })
