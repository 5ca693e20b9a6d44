-- A record of changes when one more is kept.
use Rattle.std.proofs.Common.{◌≡◌, ℕ, ◌+◌, ◌*◌, ◌/◌, ◌%◌, ◌≤◌, List, [], ◌∷◌, ◌++◌, length, drop, refl, sym, ◌∙◌, ap, subst, arith, length-append, length-drop}
use Rattle.std.specs.Prelude.{nat_lt, nat_le, ◌&&◌, true}
use Rattle.std.specs.List.{All}
use Rattle.std.proofs.lemmas.Bool.{and_parts, ltb-true, leb-true}
use Rattle.std.proofs.Math.Nat.{le_trans}
use Rattle.std.proofs.lemmas.List.{drop-append-le, take-append-le, drop_at}
use Rattle.std.proofs.lemmas.List.Elements.{All-head, All-tail, All-push, All-weaker}
use Rattle.zone_image.specs.declared.Geometry.{Geometry}
use Rattle.zone_image.specs.Image.{Image}
use Rattle.zone_image.specs.Changes.{chunks, blocks_in}
use Rattle.zone_image.proofs.BlockLaws.{chunks-take, whole_bytes, length-blocks_in}
use Rattle.zoned_device.specs.declared.step.Step.{Step}
use Rattle.zoned_device.specs.declared.step.Kind.{Kind}
use Rattle.zoned_device.specs.declared.step.Kind.TheVariants as kind
use Rattle.zoned_device.specs.Content.{Change, Append, Finish, Reset, Sync, Event, Content, after, written_by, with_change, most_changes, most_bytes}
use Rattle.zoned_device.specs.Record.{kind_change, change_of, replayed, events_of, IsWithin, content_in, IsRecord}

pub geometry-after : (ch : Change) (i : Image) → (after ch i).geometry ≡ i.geometry
geometry-after (Append zone added) i = refl
geometry-after (Finish zone) i = refl
geometry-after (Reset zone) i = refl
geometry-after Sync i = refl

-- one step more
replayed-push : (block : ℕ) (bytes : List ℕ) (i : Image) (ss : List Step) (s : Step) → replayed block bytes i (ss ++ s ∷ []) ≡ after (change_of block bytes s) (replayed block bytes i ss)
replayed-push block bytes i [] s = refl
replayed-push block bytes i (x ∷ ss) s = replayed-push block bytes (after (change_of block bytes x) i) ss s

abbrev event_at : ℕ → List ℕ → Image → Step → Event
event_at block bytes i s = record { tick = s.tick; image = i; change = change_of block bytes s }

events-push : (block : ℕ) (bytes : List ℕ) (i : Image) (ss : List Step) (s : Step) → events_of block bytes i (ss ++ s ∷ []) ≡ events_of block bytes i ss ++ event_at block bytes (replayed block bytes i ss) s ∷ []
events-push block bytes i [] s = refl
events-push block bytes i (x ∷ ss) s = ap (λ (l : List Event). event_at block bytes i x ∷ l) (events-push block bytes (after (change_of block bytes x) i) ss s)

-- bytes behind those of the steps change none of them
same_blocks : (block from count : ℕ) (bytes more : List ℕ) → from + count * block ≤ length bytes → chunks block count (drop from (bytes ++ more)) ≡ chunks block count (drop from bytes)
same_blocks block from count bytes more within =
    ap (chunks block count) (drop-append-le from bytes more (omega arith))
    ∙ sym (chunks-take block count (drop from bytes ++ more))
    ∙ ap (chunks block count) (take-append-le (count * block) (drop from bytes) more (omega (arith, length-drop from bytes)))
    ∙ chunks-take block count (drop from bytes)

same_kind : (block : ℕ) (bytes more : List ℕ) (zone : ℕ) (k : Kind) → IsWithin block (length bytes) k → kind_change block (bytes ++ more) zone k ≡ kind_change block bytes zone k
same_kind block bytes more zone (kind.Append from count) within = ap (Append zone) (same_blocks block from count bytes more within)
same_kind block bytes more zone kind.Finish within = refl
same_kind block bytes more zone kind.Reset within = refl
same_kind block bytes more zone kind.Sync within = refl

module _ (block : ℕ) (bytes more : List ℕ) where
  abbrev Within : Step → Type 0
  Within s = IsWithin block (length bytes) s.kind

  replayed_longer : (i : Image) (ss : List Step) → All Within ss → replayed block (bytes ++ more) i ss ≡ replayed block bytes i ss
  replayed_longer i [] all = refl
  replayed_longer i (s ∷ ss) all =
      ap (λ ch. replayed block (bytes ++ more) (after ch i) ss) (same_kind block bytes more s.zone s.kind (All-head Within s ss all))
      ∙ replayed_longer (after (change_of block bytes s) i) ss (All-tail Within s ss all)

  events_longer : (i : Image) (ss : List Step) → All Within ss → events_of block (bytes ++ more) i ss ≡ events_of block bytes i ss
  events_longer i [] all = refl
  events_longer i (s ∷ ss) all =
      ap (λ ch. record { tick = s.tick; image = i; change = ch } ∷ events_of block (bytes ++ more) (after ch i) ss) (same_kind block bytes more s.zone s.kind (All-head Within s ss all))
      ∙ ap (λ (l : List Event). event_at block bytes i s ∷ l) (events_longer (after (change_of block bytes s) i) ss (All-tail Within s ss all))

  within_longer : (k : Kind) → IsWithin block (length bytes) k → IsWithin block (length (bytes ++ more)) k
  within_longer (kind.Append from count) within = omega (arith, length-append bytes more)
  within_longer kind.Finish within = tt
  within_longer kind.Reset within = tt
  within_longer kind.Sync within = tt

-- a record with one step more
module _ (standing start : Image) (steps : List Step) (steps_room : ℕ) (bytes : List ℕ) (bytes_room : ℕ) (is : IsRecord standing start steps steps_room bytes bytes_room)
    (s : Step) (ch : Change) (more : List ℕ) (bytes' : List ℕ) (longer : bytes' ≡ bytes ++ more) (done : change_of standing.geometry.block bytes' s ≡ ch)
    (new : Image) (changed : new ≡ after ch standing) (steps' : List Step) (pushed : steps' ≡ steps ++ s ∷ []) where
  block : ℕ
  block = standing.geometry.block

  same_block : new.geometry.block ≡ standing.geometry.block
  same_block = ap (λ (i : Image). i.geometry.block) changed ∙ ap (λ (g : Geometry). g.block) (geometry-after ch standing)

  same_geometry : new.geometry ≡ standing.geometry
  same_geometry = ap (λ (i : Image). i.geometry) changed ∙ geometry-after ch standing

  done_longer : change_of standing.geometry.block (bytes ++ more) s ≡ ch
  done_longer = ap (λ bs. change_of standing.geometry.block bs s) (sym longer) ∙ done

  -- the image before it
  replayed_before : replayed standing.geometry.block (bytes ++ more) start steps ≡ standing
  replayed_before = replayed_longer standing.geometry.block bytes more start steps is.within ∙ is.replay

  events_after : events_of new.geometry.block bytes' start steps' ≡ events_of standing.geometry.block bytes start steps ++ record { tick = s.tick; image = standing; change = ch } ∷ []
  events_after =
      ap (λ b. events_of b bytes' start steps') same_block
      ∙ ap (λ bs. events_of standing.geometry.block bs start steps') longer
      ∙ ap (events_of standing.geometry.block (bytes ++ more) start) pushed
      ∙ events-push standing.geometry.block (bytes ++ more) start steps s
      ∙ ap (λ (l : List Event). l ++ event_at standing.geometry.block (bytes ++ more) (replayed standing.geometry.block (bytes ++ more) start steps) s ∷ []) (events_longer standing.geometry.block bytes more start steps is.within)
      ∙ ap (λ (i : Image). events_of standing.geometry.block bytes start steps ++ event_at standing.geometry.block (bytes ++ more) i s ∷ []) replayed_before
      ∙ ap (λ (c : Change). events_of standing.geometry.block bytes start steps ++ record { tick = s.tick; image = standing; change = c } ∷ []) done_longer

  replayed_after : replayed new.geometry.block bytes' start steps' ≡ new
  replayed_after =
      ap (λ b. replayed b bytes' start steps') same_block
      ∙ ap (λ bs. replayed standing.geometry.block bs start steps') longer
      ∙ ap (replayed standing.geometry.block (bytes ++ more) start) pushed
      ∙ replayed-push standing.geometry.block (bytes ++ more) start steps s
      ∙ ap (λ c. after c (replayed standing.geometry.block (bytes ++ more) start steps)) done_longer
      ∙ ap (after ch) replayed_before
      ∙ sym changed

  -- what the record stands for
  pub content_after_step : length more ≡ written_by standing.geometry ch → content_in new start steps' bytes' ≡ with_change s.tick ch (content_in standing start steps bytes)
  content_after_step written =
      let count : length steps' ≡ length steps + 1 = omega (arith, ap length pushed, length-append steps (s ∷ [])) in
      let size : length bytes' ≡ length bytes + written_by standing.geometry ch = omega (arith, ap length longer, length-append bytes more, written) in
      λ i. record { standing = changed i; events = events_after i; changes = count i; bytes = size i }

  -- and it keeps what a record keeps
  pub record_after_step : (steps_room' bytes_room' : ℕ) → steps_room ≤ steps_room' → bytes_room ≤ bytes_room' → IsWithin standing.geometry.block (length bytes') s.kind
      → length steps + 1 ≤ most_changes → length bytes + length more ≤ most_bytes standing.geometry → IsRecord new start steps' steps_room' bytes' bytes_room'
  record_after_step steps_room' bytes_room' more_steps more_bytes within few small = record {
    replay = replayed_after;
    shape = is.shape ∙ sym same_geometry;
    within = all_steps within;
    room_for_steps = omega (arith, is.room_for_steps, more_steps);
    room_for_bytes = subst (λ (g : Geometry). most_bytes g ≤ bytes_room') (sym same_geometry) (le_trans is.room_for_bytes more_bytes);
    few = omega (arith, few, ap length pushed, length-append steps (s ∷ []));
    small = subst (λ (g : Geometry). length bytes' ≤ most_bytes g) (sym same_geometry) (subst (λ n. n ≤ most_bytes standing.geometry) (sym size) small);
  }
    where
      size : length bytes' ≡ length bytes + length more
      size = ap length longer ∙ length-append bytes more

      all_longer : All (λ (x : Step). IsWithin standing.geometry.block (length bytes') x.kind) steps
      all_longer =
          subst (λ (bs : List ℕ). All (λ (x : Step). IsWithin standing.geometry.block (length bs) x.kind) steps) (sym longer)
          (All-weaker (λ (x : Step). IsWithin standing.geometry.block (length bytes) x.kind) (λ (x : Step). IsWithin standing.geometry.block (length (bytes ++ more)) x.kind)
          (λ x w. within_longer standing.geometry.block bytes more x.kind w) steps is.within)

      all_steps : IsWithin standing.geometry.block (length bytes') s.kind → All (λ (x : Step). IsWithin new.geometry.block (length bytes') x.kind) steps'
      all_steps here =
          subst (λ b. All (λ (x : Step). IsWithin b (length bytes') x.kind) steps') (sym same_block)
          (subst (λ (ss : List Step). All (λ x. IsWithin standing.geometry.block (length bytes') x.kind) ss) (sym pushed)
          (All-push (λ (x : Step). IsWithin standing.geometry.block (length bytes') x.kind) steps s all_longer here))

-- what it means that there is room for a change more
pub room_for_step : (c d : Content) (n : ℕ) → d ≡ c → (nat_lt c.changes most_changes && nat_le (c.bytes + n) (most_bytes c.standing.geometry)) ≡ true
    → (d.changes + 1 ≤ most_changes) × (d.bytes + n ≤ most_bytes d.standing.geometry)
room_for_step c d n same room =
    let parts = and_parts (nat_lt c.changes most_changes) (nat_le (c.bytes + n) (most_bytes c.standing.geometry)) room in
    let few : c.changes + 1 ≤ most_changes = omega (arith, ltb-true c.changes most_changes parts.0) in
    subst (λ (e : Content). (e.changes + 1 ≤ most_changes) × (e.bytes + n ≤ most_bytes e.standing.geometry)) (sym same) (few, leb-true (c.bytes + n) (most_bytes c.standing.geometry) parts.1)

-- the step of an append stands for the blocks of its bytes
module _ (g : Geometry) (zone from count : ℕ) (xs ys zs : List ℕ) (longer : zs ≡ xs ++ ys) (begins : length xs ≡ from) (counts : count ≡ length ys / g.block) where
  pub appended_step : ◌≡◌ {A = Change} (Append zone (chunks g.block count (drop from zs))) (Append zone (blocks_in g ys))
  appended_step =
      ap (λ (l : List ℕ). Append zone (chunks g.block count (drop from l))) longer
      ∙ ap (λ (l : List ℕ). Append zone (chunks g.block count l)) (drop_at xs ys from begins)
      ∙ ap (λ n. Append zone (chunks g.block n ys)) counts

  pub appended_within : length ys % g.block ≡ 0 → from + count * g.block ≤ length zs
  appended_within whole =
      let size : length zs ≡ length xs + length ys = ap length longer ∙ length-append xs ys in
      let bytes : count * g.block ≡ length ys = ap (λ n. n * g.block) counts ∙ whole_bytes (length ys) g.block whole in
      omega (arith, size, bytes, begins)

-- an append writes its bytes
pub written_bytes : (g : Geometry) (zone : ℕ) (bytes : List ℕ) → length bytes % g.block ≡ 0 → length bytes ≡ written_by g (Append zone (blocks_in g bytes))
written_bytes g zone bytes whole = sym (ap (λ n. n * g.block) (length-blocks_in g bytes) ∙ whole_bytes (length bytes) g.block whole)
