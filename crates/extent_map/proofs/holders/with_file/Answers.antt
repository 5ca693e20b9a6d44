use Rattle.std.proofs.Common.{◌≡◌, ◌++◌, ℕ, true, List, [], ◌∷◌, Option, Ok, Err, IfOk, ap, sym, subst, ◌∙◌}
use Rattle.std.specs.declared.alloc.AllocError.{AllocError}
use Rattle.std.specs.Prelude.{Result}
use Rattle.record_model.specs.declared.types.FileEntry.{FileEntry}
use Rattle.log_model.specs.FileTable.{Table}
use Rattle.extent_map.specs.Holding.{AreKnown, GivesNames, are_known_free}
use Rattle.extent_map.specs.declared.holders.Holders.{Holders}
use Rattle.extent_map.proofs.HolderLaws.{known_more}
use Rattle.extent_map.proofs.holders.with_file.Goals as goal

-- what is known once the names are given
given : (r : Result (Option Holders) AllocError) (holders : Option Holders) (e : FileEntry) → are_known_free holders e.id e.names ≡ true
    → IfOk r (λ new. GivesNames holders e.id e.names new) → IfOk r (λ new. (es : Table) → AreKnown holders es → AreKnown new (es ++ e ∷ []))
given (Ok new) holders e free gives = λ es known. known_more holders new e es gives free known
given (Err why) holders e free gives = tt

pub returns-then-are_free-clause-known : goal.returns-then-are_free-clause-known
returns-then-are_free-clause-known c =
    let entry : FileEntry = c.entry-entry.result.now in
    let free : are_known_free c.args.holders entry.id entry.names ≡ true =
    ap (λ (ns : List (List ℕ)). are_known_free c.args.holders entry.id ns) (sym c.items.ensures) ∙ sym c.are_free.ensures ∙ c.if-are_free.true in
    let gives : IfOk c.give.result (λ new. GivesNames c.args.holders entry.id entry.names new) =
    subst (λ (ns : List (List ℕ)). IfOk c.give.result (λ new. GivesNames c.args.holders entry.id ns new)) c.items-then-are_free.ensures c.give.ensures in
    subst (λ (e : FileEntry). IfOk c.give.result (λ new. (es : Table) → AreKnown c.args.holders es → AreKnown new (es ++ e ∷ []))) c.entry-entry.ensures.value
    (given c.give.result c.args.holders entry free gives)
