-- What a change leaves of the numbers and of the image.
use Rattle.std.proofs.Common.{◌≡◌, ℕ, zero, suc, ◌/◌, ◌<◌, not, ◌&&◌, ◌==◌, List, [], ◌∷◌, map, length, get_or, arith, refl, sym, ◌∙◌, ap, Result, Ok, Err}
use Rattle.std.specs.Prelude.{OnOk}
use Rattle.std.proofs.lemmas.List.{take_all}
use Rattle.zone_image.specs.declared.ZoneInfo.{ZoneInfo}
use Rattle.zone_image.specs.Image.{Image}
use Rattle.zone_image.specs.Infos.{infos_appended, Shows, ShowsSome}
use Rattle.zone_image.proofs.BlockLaws.{length-blocks_in}
use Rattle.zone_image.specs.Changes.{blocks_in, appended, synced}
use Rattle.image_backend.specs.declared.table.Slot.{Slot as Numbers}
use Rattle.image_backend.specs.Table.{TableState, no_slot, slot_at, slot_synced, slot_appended, table_infos, table_synced, with_slot, IsTable}
use Rattle.power_image.specs.Descriptors.{told}
use Rattle.power_image.specs.Table.{Known, descriptor_in, image_in, zones_alone}
use Rattle.power_image.specs.State.{Leaves, AreSettled, same_seal}
use Rattle.power_image.proofs.FileChanges.{image_synced, image_nothing}
use Rattle.power_image.proofs.Tables.{infos_with_no_more, infos_with_appended}

pub on_ok : {T E : Type 0} (r : Result T E) {P : Type 0} → P → OnOk r P
on_ok (Ok x) is = is
on_ok (Err e) is = tt

-- the numbers that a zone was given, and the image that they make
pub leaves_changed : (tells : Type 0) (t : TableState) (zone : ℕ) (given wanted : Numbers) (i : Image) (old : List ℕ) (zones : TableState) (new : List ℕ) → given ≡ wanted
    → image_in (with_slot t zone wanted) old ≡ i → Leaves tells (with_slot t zone given) (image_in (with_slot t zone given) old) zones new → Leaves tells (with_slot t zone wanted) i zones new
leaves_changed tells t zone given wanted i old zones new same image l = record {
  numbers = l.numbers ∙ ap (with_slot t zone) same;
  image = λ tells_it. l.image tells_it ∙ ap (λ (n : Numbers). image_in (with_slot t zone n) old) same ∙ image;
}

-- one change after another
pub leaves_then : (tells : Type 0) (t : TableState) (i : Image) (zones : TableState) (bytes : List ℕ) (last : TableState) (new : List ℕ)
    → Leaves tells t i zones bytes → Leaves tells zones (image_in zones bytes) last new → Leaves tells t i last new
leaves_then tells t i zones bytes last new first second = record {
  numbers = second.numbers ∙ first.numbers;
  image = λ tells_it. second.image tells_it ∙ first.image tells_it;
}

-- all blocks durable
pub leaves_synced : (tells : Type 0) (t : TableState) (old : List ℕ) (zones : TableState) (new : List ℕ) → Leaves tells t (image_in t old) zones new
    → Leaves tells (table_synced t) (synced (image_in t old)) (table_synced zones) new
leaves_synced tells t old zones new l = record {
  numbers = ap (λ (x : TableState). table_synced x) l.numbers;
  image = λ tells_it. image_synced zones (zones_alone zones.geometry new) ∙ ap synced (l.image tells_it);
}

synced_at : (slots : List Numbers) (n : ℕ) → get_or (map slot_synced slots) n no_slot ≡ slot_synced (get_or slots n no_slot)
synced_at [] n = refl
synced_at (s ∷ slots) zero = refl
synced_at (s ∷ slots) (suc n) = synced_at slots n

-- that settles no zone anew, and unsettles none
pub settled_synced : (k : Known) (from to : ℕ) → AreSettled k from to → AreSettled (record k { zones = table_synced k.zones }) from to
settled_synced k from to was n least below =
    ap (λ (s : Numbers). not (((told (descriptor_in k n)).written == s.written) && same_seal (told (descriptor_in k n)).sealed s.sealed)) (synced_at k.zones.slots n) ∙ was n least below

-- what is shown of it
pub shows_leaves : (tells : Type 0) (t : TableState) (i : Image) (infos : List ZoneInfo) (zones : TableState) (new : List ℕ) → table_infos t ≡ infos → Leaves tells t i zones new
    → Shows tells infos i (table_infos zones) (image_in zones new)
shows_leaves tells t i infos zones new told_infos l = record { same_infos = ap table_infos l.numbers ∙ told_infos; same_image = l.image }

module _ (tells : Type 0) (t : TableState) (zone : ℕ) (bytes old : List ℕ) (zones : TableState) (new : List ℕ) (is : IsTable t) (in_range : zone < t.geometry.zones) where
  -- an append that failed wrote nothing
  pub shows_none : Leaves tells t (image_in t old) zones new → ShowsSome t.geometry tells zone (blocks_in t.geometry bytes) (table_infos t) (image_in t old) (table_infos zones) (image_in zones new)
  shows_none l = record {
    count = 0;
    some = omega arith;
    shows = record {
      same_infos = ap table_infos l.numbers ∙ sym (infos_with_no_more t.geometry (table_infos t) zone is.possible in_range);
      same_image = λ tells_it. l.image tells_it ∙ sym (image_nothing t zone (zones_alone t.geometry old) is in_range);
    };
  }

  -- or it wrote all, and only its descriptor failed
  pub shows_all : Leaves tells (with_slot t zone (slot_appended t.geometry.capacity (length bytes / t.geometry.block) (slot_at t zone))) (appended (image_in t old) zone (blocks_in t.geometry bytes)) zones new
      → ShowsSome t.geometry tells zone (blocks_in t.geometry bytes) (table_infos t) (image_in t old) (table_infos zones) (image_in zones new)
  shows_all l = record {
    count = length (blocks_in t.geometry bytes);
    some = omega arith;
    shows = record {
      same_infos =
          ap table_infos l.numbers ∙ infos_with_appended t zone is in_range (length bytes / t.geometry.block)
          ∙ ap (infos_appended t.geometry (table_infos t) zone) (sym (length-blocks_in t.geometry bytes));
      same_image = λ tells_it. l.image tells_it
          ∙ ap (appended (image_in t old) zone) (sym (take_all (length (blocks_in t.geometry bytes)) (blocks_in t.geometry bytes) (omega arith)));
    };
  }
