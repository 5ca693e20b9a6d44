use Rattle.std.proofs.Common.{◌≡◌, ℕ, ◌+◌, List, ◌^◌, ◌<◌, ◌≤◌, true, false, sym, ◌∙◌, ap, subst, refl, arith}
use Rattle.std.specs.List.{All, AllZip}
use Rattle.std.proofs.lemmas.List.Elements.{All-weaker}
use Rattle.zone_image.specs.declared.Geometry.{Geometry}
use Rattle.zone_image.specs.declared.ZoneInfo.{ZoneInfo}
use Rattle.zone_image.specs.Address.{device_bytes}
use Rattle.zone_image.specs.Infos.{IsPossible}
use Rattle.record_model.specs.declared.types.Extent.{Extent}
use Rattle.record_model.specs.Grammar.{IsExtent}
use Rattle.log_model.specs.FileTable.{size_of}
use Rattle.log_model.specs.Mounted.{overlap, all_extents, broken_rule}
use Rattle.mount_replay.specs.Recovering.{IsFound}
use Rattle.mount_replay.specs.Rules.{IsWrittenExtent}
use Rattle.mount_replay.specs.SoundTables.{IsSoundTable}
use Rattle.mount_replay.proofs.FoundLaws.{written_files, found_extents, found_lie, found_table, found_writable, sized_extents, sized_right, damaged_as, undamaged_broken}
use Rattle.mount_replay.proofs.RecoveredTables.{found_is_table}
use Rattle.mount_replay.proofs.RuleLaws.{broken_by}
use Rattle.mount_replay.proofs.WrittenLaws.{possible_as, told_as, in_data_zone, ends_within, device_small, extent_in_range}
use Rattle.mount_replay.proofs.checks.found_files.Goals as goal

-- the bytes of extents that stay apart and lie in data zones
bytes_fit : (g : Geometry) (infos : List ZoneInfo) (xs : List Extent) → IsPossible g infos → All (IsWrittenExtent g infos) xs → ((n : ℕ) → All (λ x. x.start + x.len ≤ n) xs → size_of xs ≤ n) → size_of xs < 2 ^ 64
bytes_fit g infos xs possible lie room =
    let all : All (λ (x : Extent). x.start + x.len ≤ device_bytes g) xs = All-weaker (IsWrittenExtent g infos) (λ (x : Extent). x.start + x.len ≤ device_bytes g) (λ x is. ends_within g x (in_data_zone g infos x possible is)) xs lie in
    omega (arith, room (device_bytes g) all, device_small g possible.valid)

pub returns-then-not-are_all_written-clause-damaged : goal.returns-then-not-are_all_written-clause-damaged
returns-then-not-are_all_written-clause-damaged g c = λ told.
    let D = g.D.ZonedDevice in
    let dev = c.args.dev.now in
    let shape = c.args.geometry.now in
    let infos = c.args.infos.now in
    let i = D.image dev in
    let xs = c.args.files.now in
    let possible = possible_as shape (D.geometry dev) infos (D.infos dev) c.requires.same_geometry c.requires.same_infos (g.met.D.ZonedDevice.possible dev c.requires.is_known) in
    let image = told_as shape (D.geometry dev) infos (D.infos dev) i c.requires.same_geometry c.requires.same_infos (g.met.D.ZonedDevice.told dev told c.requires.is_known) in
    damaged_as c.args.last.zone c.args.last.block 8 (broken_rule i xs) c.broken.result c.broken.ensures
    (broken_by shape infos i possible image xs false _ _ (sym c.if-not-are_all_written.true ∙ c.are_all_written.ensures) refl refl)

pub returns-in-Err-clause-damaged : goal.returns-in-Err-clause-damaged
returns-in-Err-clause-damaged g c = λ told.
    undamaged_broken c.args.last.zone c.args.last.block (broken_rule (g.D.ZonedDevice.image c.args.dev.now) c.args.files.now) c.in-Err.e c.in-Err.ensures.only

pub overlap-requires : goal.overlap-requires
overlap-requires g c =
    let D = g.D.ZonedDevice in
    let dev = c.args.dev.now in
    let shape = c.args.geometry.now in
    let infos = c.args.infos.now in
    let i = D.image dev in
    let xs = c.args.files.now in
    let possible = possible_as shape (D.geometry dev) infos (D.infos dev) c.requires.same_geometry c.requires.same_infos (g.met.D.ZonedDevice.possible dev c.requires.is_known) in
    let ys = c.recover_files.new.files in
    let zip : AllZip (IsFound D.tells shape infos i) xs ys = c.in-Ok.ensures.found in
    let passed = sym c.if-not-are_all_written.false ∙ c.are_all_written.ensures in
    let lie : All (IsWrittenExtent shape infos) (all_extents ys) = found_lie D.tells shape infos i xs ys zip (written_files shape infos xs (sym passed) c.requires.sound.writable) in
    let all : c.deref_mut.result.now ≡ all_extents ys = c.deref_mut.ensures.value ∙ c.in_ok-extents.ensures in
    subst (All (λ x. 0 < x.len)) (sym all) (All-weaker (IsWrittenExtent shape infos) (λ (x : Extent). 0 < x.len) (λ x is. is.some) (all_extents ys) lie)

pub returns-then-overlap-clause-damaged : goal.returns-then-overlap-clause-damaged
returns-then-overlap-clause-damaged g c = λ told.
    let D = g.D.ZonedDevice in
    let dev = c.args.dev.now in
    let shape = c.args.geometry.now in
    let infos = c.args.infos.now in
    let i = D.image dev in
    let xs = c.args.files.now in
    let possible = possible_as shape (D.geometry dev) infos (D.infos dev) c.requires.same_geometry c.requires.same_infos (g.met.D.ZonedDevice.possible dev c.requires.is_known) in
    let image = told_as shape (D.geometry dev) infos (D.infos dev) i c.requires.same_geometry c.requires.same_infos (g.met.D.ZonedDevice.told dev told c.requires.is_known) in
    let ys = c.recover_files.new.files in
    let zip : AllZip (IsFound D.tells shape infos i) xs ys = c.in-Ok.ensures.found in
    let passed = sym c.if-not-are_all_written.false ∙ c.are_all_written.ensures in
    let lie : All (IsWrittenExtent shape infos) (all_extents ys) = found_lie D.tells shape infos i xs ys zip (written_files shape infos xs (sym passed) c.requires.sound.writable) in
    let all = c.deref_mut.ensures.value ∙ c.in_ok-extents.ensures ∙ found_extents D.tells shape infos i xs ys told zip in
    damaged_as c.args.last.zone c.args.last.block 9 (broken_rule i xs) c.broken-then-overlap.result c.broken-then-overlap.ensures
    (broken_by shape infos i possible image xs true true _ passed (sym c.if-overlap.true ∙ c.overlap.ensures.exact ∙ ap overlap all) refl)

pub returns-then-not-have_points-clause-damaged : goal.returns-then-not-have_points-clause-damaged
returns-then-not-have_points-clause-damaged g c = λ told.
    let D = g.D.ZonedDevice in
    let dev = c.args.dev.now in
    let shape = c.args.geometry.now in
    let infos = c.args.infos.now in
    let i = D.image dev in
    let xs = c.args.files.now in
    let possible = possible_as shape (D.geometry dev) infos (D.infos dev) c.requires.same_geometry c.requires.same_infos (g.met.D.ZonedDevice.possible dev c.requires.is_known) in
    let image = told_as shape (D.geometry dev) infos (D.infos dev) i c.requires.same_geometry c.requires.same_infos (g.met.D.ZonedDevice.told dev told c.requires.is_known) in
    let ys = c.recover_files.new.files in
    let zip : AllZip (IsFound D.tells shape infos i) xs ys = c.in-Ok.ensures.found in
    let passed = sym c.if-not-are_all_written.false ∙ c.are_all_written.ensures in
    let lie : All (IsWrittenExtent shape infos) (all_extents ys) = found_lie D.tells shape infos i xs ys zip (written_files shape infos xs (sym passed) c.requires.sound.writable) in
    let all = c.deref_mut.ensures.value ∙ c.in_ok-extents.ensures ∙ found_extents D.tells shape infos i xs ys told zip in
    damaged_as c.args.last.zone c.args.last.block 10 (broken_rule i xs) c.broken-then-not-have_points.result c.broken-then-not-have_points.ensures
    (broken_by shape infos i possible image xs true false false passed (sym c.if-overlap.false ∙ c.overlap.ensures.exact ∙ ap overlap all) (sym c.if-not-have_points.true ∙ c.have_points-have_points.ensures))

pub set_sizes-requires : goal.set_sizes-requires
set_sizes-requires g c =
    let D = g.D.ZonedDevice in
    let dev = c.args.dev.now in
    let shape = c.args.geometry.now in
    let infos = c.args.infos.now in
    let i = D.image dev in
    let xs = c.args.files.now in
    let possible = possible_as shape (D.geometry dev) infos (D.infos dev) c.requires.same_geometry c.requires.same_infos (g.met.D.ZonedDevice.possible dev c.requires.is_known) in
    let ys = c.recover_files.new.files in
    let zip : AllZip (IsFound D.tells shape infos i) xs ys = c.in-Ok.ensures.found in
    let passed = sym c.if-not-are_all_written.false ∙ c.are_all_written.ensures in
    let lie : All (IsWrittenExtent shape infos) (all_extents ys) = found_lie D.tells shape infos i xs ys zip (written_files shape infos xs (sym passed) c.requires.sound.writable) in
    let all : c.deref_mut.result.now ≡ all_extents ys = c.deref_mut.ensures.value ∙ c.in_ok-extents.ensures in
    let fits : size_of (all_extents ys) < 2 ^ 64 = bytes_fit shape infos (all_extents ys) possible lie (subst (λ es. (n : ℕ) → All (λ x. x.start + x.len ≤ n) es → size_of es ≤ n) all (c.overlap.ensures.room c.if-overlap.false)) in
    fits

pub returns-clause-keeps : goal.returns-clause-keeps
returns-clause-keeps g c = λ told.
    let D = g.D.ZonedDevice in
    let dev = c.args.dev.now in
    let shape = c.args.geometry.now in
    let infos = c.args.infos.now in
    let i = D.image dev in
    let xs = c.args.files.now in
    let possible = possible_as shape (D.geometry dev) infos (D.infos dev) c.requires.same_geometry c.requires.same_infos (g.met.D.ZonedDevice.possible dev c.requires.is_known) in
    let image = told_as shape (D.geometry dev) infos (D.infos dev) i c.requires.same_geometry c.requires.same_infos (g.met.D.ZonedDevice.told dev told c.requires.is_known) in
    let ys = c.recover_files.new.files in
    let zip : AllZip (IsFound D.tells shape infos i) xs ys = c.in-Ok.ensures.found in
    let passed = sym c.if-not-are_all_written.false ∙ c.are_all_written.ensures in
    let lie : All (IsWrittenExtent shape infos) (all_extents ys) = found_lie D.tells shape infos i xs ys zip (written_files shape infos xs (sym passed) c.requires.sound.writable) in
    let all = c.deref_mut.ensures.value ∙ c.in_ok-extents.ensures ∙ found_extents D.tells shape infos i xs ys told zip in
    broken_by shape infos i possible image xs true false true passed (sym c.if-overlap.false ∙ c.overlap.ensures.exact ∙ ap overlap all) (sym c.if-not-have_points.false ∙ c.have_points-have_points.ensures)

pub returns-clause-found : goal.returns-clause-found
returns-clause-found g c = λ told.
    let D = g.D.ZonedDevice in
    let dev = c.args.dev.now in
    let shape = c.args.geometry.now in
    let infos = c.args.infos.now in
    let i = D.image dev in
    let xs = c.args.files.now in
    let possible = possible_as shape (D.geometry dev) infos (D.infos dev) c.requires.same_geometry c.requires.same_infos (g.met.D.ZonedDevice.possible dev c.requires.is_known) in
    let ys = c.recover_files.new.files in
    let zip : AllZip (IsFound D.tells shape infos i) xs ys = c.in-Ok.ensures.found in
    let passed = sym c.if-not-are_all_written.false ∙ c.are_all_written.ensures in
    let lie : All (IsWrittenExtent shape infos) (all_extents ys) = found_lie D.tells shape infos i xs ys zip (written_files shape infos xs (sym passed) c.requires.sound.writable) in
    c.set_sizes.ensures ∙ found_table D.tells shape infos i xs ys told c.requires.sound.sized zip

pub returns-clause-sound : goal.returns-clause-sound
returns-clause-sound g c =
    let D = g.D.ZonedDevice in
    let dev = c.args.dev.now in
    let shape = c.args.geometry.now in
    let infos = c.args.infos.now in
    let i = D.image dev in
    let xs = c.args.files.now in
    let possible = possible_as shape (D.geometry dev) infos (D.infos dev) c.requires.same_geometry c.requires.same_infos (g.met.D.ZonedDevice.possible dev c.requires.is_known) in
    let ys = c.recover_files.new.files in
    let zip : AllZip (IsFound D.tells shape infos i) xs ys = c.in-Ok.ensures.found in
    let passed = sym c.if-not-are_all_written.false ∙ c.are_all_written.ensures in
    let lie : All (IsWrittenExtent shape infos) (all_extents ys) = found_lie D.tells shape infos i xs ys zip (written_files shape infos xs (sym passed) c.requires.sound.writable) in
    let all : c.deref_mut.result.now ≡ all_extents ys = c.deref_mut.ensures.value ∙ c.in_ok-extents.ensures in
    let fits : size_of (all_extents ys) < 2 ^ 64 = bytes_fit shape infos (all_extents ys) possible lie (subst (λ es. (n : ℕ) → All (λ x. x.start + x.len ≤ n) es → size_of es ≤ n) all (c.overlap.ensures.room c.if-overlap.false)) in
    subst IsSoundTable (sym c.set_sizes.ensures) (record {
      table = found_is_table D.tells shape infos i xs ys zip c.requires.sound.table;
      sized = sized_right ys;
      writable =
          found_writable D.tells shape infos i xs ys zip c.requires.sound.writable
          (All-weaker (IsWrittenExtent shape infos) IsExtent (λ x is. extent_in_range shape x possible.valid (in_data_zone shape infos x possible is)) (all_extents ys) lie) fits;
    })

pub returns-clause-lie : goal.returns-clause-lie
returns-clause-lie g c =
    let D = g.D.ZonedDevice in
    let dev = c.args.dev.now in
    let shape = c.args.geometry.now in
    let infos = c.args.infos.now in
    let i = D.image dev in
    let xs = c.args.files.now in
    let possible = possible_as shape (D.geometry dev) infos (D.infos dev) c.requires.same_geometry c.requires.same_infos (g.met.D.ZonedDevice.possible dev c.requires.is_known) in
    let ys = c.recover_files.new.files in
    let zip : AllZip (IsFound D.tells shape infos i) xs ys = c.in-Ok.ensures.found in
    let passed = sym c.if-not-are_all_written.false ∙ c.are_all_written.ensures in
    let lie : All (IsWrittenExtent shape infos) (all_extents ys) = found_lie D.tells shape infos i xs ys zip (written_files shape infos xs (sym passed) c.requires.sound.writable) in
    subst (All (IsWrittenExtent shape infos)) (sym (ap all_extents c.set_sizes.ensures ∙ sized_extents ys)) lie

pub returns-clause-fits : goal.returns-clause-fits
returns-clause-fits g c =
    let D = g.D.ZonedDevice in
    let dev = c.args.dev.now in
    let shape = c.args.geometry.now in
    let infos = c.args.infos.now in
    let i = D.image dev in
    let xs = c.args.files.now in
    let possible = possible_as shape (D.geometry dev) infos (D.infos dev) c.requires.same_geometry c.requires.same_infos (g.met.D.ZonedDevice.possible dev c.requires.is_known) in
    let ys = c.recover_files.new.files in
    let zip : AllZip (IsFound D.tells shape infos i) xs ys = c.in-Ok.ensures.found in
    let passed = sym c.if-not-are_all_written.false ∙ c.are_all_written.ensures in
    let lie : All (IsWrittenExtent shape infos) (all_extents ys) = found_lie D.tells shape infos i xs ys zip (written_files shape infos xs (sym passed) c.requires.sound.writable) in
    let all : c.deref_mut.result.now ≡ all_extents ys = c.deref_mut.ensures.value ∙ c.in_ok-extents.ensures in
    let fits : size_of (all_extents ys) < 2 ^ 64 = bytes_fit shape infos (all_extents ys) possible lie (subst (λ es. (n : ℕ) → All (λ x. x.start + x.len ≤ n) es → size_of es ≤ n) all (c.overlap.ensures.room c.if-overlap.false)) in
    subst (λ (es : List Extent). size_of es < 2 ^ 64) (sym (ap all_extents c.set_sizes.ensures ∙ sized_extents ys)) fits
