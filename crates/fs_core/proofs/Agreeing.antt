-- A mounted file system agrees with its image.
use Rattle.std.specs.Prelude.{◌≡◌, List, [], ◌∷◌, Bool, true, false, map, Ok}
use Rattle.std.specs.List.{AllZip}
use Rattle.std.proofs.Common.{◌∙◌, sym, ap, refl}
use Rattle.zone_image.specs.Image.{Image, Zone}
use Rattle.zone_image.specs.Infos.{IsImage, info_of}
use Rattle.zone_image.specs.declared.Geometry.{Geometry}
use Rattle.zone_image.specs.declared.ZoneInfo.{ZoneInfo}
use Rattle.log_model.specs.LogSelection.{selected_log}
use Rattle.log_model.specs.Mounted.{table_in}
use Rattle.log_model.proofs.SelectedLog.{ok_is, went_on}
use Rattle.fs_model.specs.CrashClauses.{Agrees, SameZone}
use Rattle.fs_model.specs.FsState.{FsState, ZoneDescriptor, state_in, state_with}
use Rattle.change_cover.specs.Rests.{Rests}
use Rattle.fs_tables.specs.Steps.{infos_in}

-- zones of the same numbers and seals
same_zones : (ms : List ZoneDescriptor) (zs : List Zone) → map (λ m. m.info) ms ≡ map info_of zs → AllZip SameZone ms zs
same_zones [] [] h = tt
same_zones [] (z ∷ zs) h = absurd cc
same_zones (m ∷ ms) [] h = absurd cc
same_zones (m ∷ ms) (z ∷ zs) h =
    let first : m.info ≡ info_of z = cc in
    let rest : map (λ n. n.info) ms ≡ map info_of zs = cc in
    ((ap (λ (i : ZoneInfo). i.written) first, ap (λ (i : ZoneInfo). i.sealed) first), same_zones ms zs rest)

-- the log of a state that was mounted
mounted_log : (i : Image) (s : FsState) → state_in i ≡ Ok s → selected_log i ≡ Ok s.log
mounted_log i s mounted =
    let table = went_on (table_in i) _ s mounted in
    let log = went_on (selected_log i) (λ l. Ok (state_with i table.0 l)) s table.2 in
    log.1 ∙ ap (λ (t : FsState). Ok t.log) (ok_is log.2)

-- the log of one that reads, and of one that writes
log_of_mode : (writing : Bool) (i : Image) (s : FsState) → (writing ≡ false → state_in i ≡ Ok s) → (writing ≡ true → Rests i s) → selected_log i ≡ Ok s.log
log_of_mode false i s reads rests = mounted_log i s (reads refl)
log_of_mode true i s reads rests = (rests refl).selected

-- the state agrees with the image of a device that has its zones
pub agrees_with : (writing : Bool) (g : Geometry) (infos : List ZoneInfo) (i : Image) (s : FsState) → IsImage g infos i → g ≡ s.geometry → infos_in s ≡ infos
    → (writing ≡ false → state_in i ≡ Ok s) → (writing ≡ true → Rests i s) → Agrees s i
agrees_with writing g infos i s image same told reads rests = record {
  geometry = sym (image.shape ∙ same);
  zones = same_zones s.zones i.zones (told ∙ sym image.told);
  log = log_of_mode writing i s reads rests;
}
