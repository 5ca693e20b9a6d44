-- Refusals before anything is written.
use Rattle.std.proofs.Common.{◌≡◌, ℕ, List, Option, Some, None, Result, Ok, Err, refl, sym, subst}
use Rattle.std.specs.Prelude.{IfErr, OnOk, option_map}
use Rattle.fs_model.specs.declared.error.FsError.{FsError}
use Rattle.fs_model.specs.declared.error.FsError.TheVariants.{Stopped, Gone, InUse, NotFound, Exists, IdsEnd, SequenceEnd, MetaFull, NoSpace, Busy, NoMemory, DevFault}
use Rattle.fs_model.specs.FsState.{FsState, TableRow, row_named}
use Rattle.extent_map.specs.Lookups.{id_named}
use Rattle.fs_model.specs.LogSteps.{FsAction, block_of, rows_need}
use Rattle.log_model.specs.Headroom.{blocks_of_record}
use Rattle.record_model.specs.declared.types.Record.{Record}
use Rattle.fs_tables.specs.Needs.{IsNeed}
use Rattle.fs_tables.specs.declared.blocks.ChangeNeed.{ChangeNeed}
use Rattle.fs_model.specs.Trace.{Refines}
use Rattle.change_steps.specs.Endings.{Asks, Demand}
use Rattle.fs_core.specs.Granting.{IsGranted, IsWanting}
use Rattle.fs_core.specs.NameCalls.{IsRefusal}

-- what is wanting refuses what asks for it
pub wanting_refuses : {A : Type 0} (m : FsAction A) (x : A) (d : Demand) (s : FsState) (why : FsError) → Asks m x d s → IsWanting s d.blocks d.need why → IsRefusal m s why
wanting_refuses m x d s SequenceEnd asks lacks = record { steps = asks.sequence_end lacks; early = tt }
wanting_refuses {A = A} m x d s (MetaFull need capacity) asks lacks =
    record { steps = subst (λ n. Refines m s (Err (MetaFull need n)) s) (sym lacks.3) (asks.full need lacks.1 lacks.0 lacks.2); early = tt }
wanting_refuses m x d s Stopped asks lacks = absurd lacks
wanting_refuses m x d s Gone asks lacks = absurd lacks
wanting_refuses m x d s InUse asks lacks = absurd lacks
wanting_refuses m x d s NotFound asks lacks = absurd lacks
wanting_refuses m x d s Exists asks lacks = absurd lacks
wanting_refuses m x d s IdsEnd asks lacks = absurd lacks
wanting_refuses m x d s NoSpace asks lacks = absurd lacks
wanting_refuses m x d s Busy asks lacks = absurd lacks
wanting_refuses m x d s NoMemory asks lacks = absurd lacks
wanting_refuses m x d s DevFault asks lacks = absurd lacks

-- what follows of an answer Ok
pub ok_gives : {T E : Type 0} (P Q : Type 0) (r : Result T E) → OnOk r P → (P → Q) → OnOk r Q
ok_gives P Q (Ok x) h f = f h
ok_gives P Q (Err e) h f = tt

-- what follows of an error
pub err_gives : {T E : Type 0} (P Q : E → Type 0) (r : Result T E) → IfErr r P → ((e : E) → P e → Q e) → IfErr r Q
err_gives P Q (Ok x) h f = tt
err_gives P Q (Err e) h f = f e h

-- no file has the name
pub none_named : (name : List ℕ) (rows : List TableRow) → None ≡ id_named name rows → row_named name rows ≡ None
none_named name rows h = without (row_named name rows) h
  where
    without : (o : Option TableRow) → None ≡ option_map (λ (r : TableRow). r.entry.id) o → o ≡ None
    without None is = refl
    without (Some r) is = absurd cc

-- the file that has it
pub some_named : (name : List ℕ) (rows : List TableRow) (id : ℕ) → Some id ≡ id_named name rows → (r : TableRow) × (row_named name rows ≡ Some r) × (r.entry.id ≡ id)
some_named name rows id h = with_row (row_named name rows) h
  where
    with_row : (o : Option TableRow) → Some id ≡ option_map (λ (r : TableRow). r.entry.id) o → (r : TableRow) × (o ≡ Some r) × (r.entry.id ≡ id)
    with_row None is = absurd cc
    with_row (Some r) is = (r, refl, cc)

-- what is needed is granted
pub needed_granted : (s : FsState) (r : Record) (after : List TableRow) (need : ChangeNeed) → IsNeed need s r after → IsGranted s need.blocks (Some need.need)
    → IsGranted s (blocks_of_record (block_of s) r) (Some (rows_need s after (blocks_of_record (block_of s) r)))
needed_granted s r after need is granted =
    subst (λ n. IsGranted s (blocks_of_record (block_of s) r) (Some n)) is.room (subst (λ n. IsGranted s n (Some need.need)) is.change granted)

-- or it is wanting
pub needed_wanting : (s : FsState) (r : Record) (after : List TableRow) (need : ChangeNeed) (why : FsError) → IsNeed need s r after → IsWanting s need.blocks (Some need.need) why
    → IsWanting s (blocks_of_record (block_of s) r) (Some (rows_need s after (blocks_of_record (block_of s) r))) why
needed_wanting s r after need why is wanting =
    subst (λ n. IsWanting s (blocks_of_record (block_of s) r) (Some n) why) is.room (subst (λ n. IsWanting s n (Some need.need) why) is.change wanting)
