use Rattle.std.proofs.Common.{◌≡◌, true, false, List, ℕ, take}
use Rattle.std.specs.List.{list_any}
use Rattle.std.specs.Str.{bytes_eq}
use Rattle.record_codec.proofs.NameSetLaws.{among_first, among_later}
use Rattle.record_codec.proofs.read_names.ReadNames.has.Goals as goal

pub returns-then-is_among : goal.returns-then-is_among
returns-then-is_among c =
    let names : List (List ℕ) = c.self.inside.names.items in
    let few : list_any (bytes_eq c.args.name.now) (take 8 names) ≡ true = cc in
    let all = among_first names c.self.inside.later c.args.name.now c.self.invariant few in
    cc

pub returns-else-is_among : goal.returns-else-is_among
returns-else-is_among c =
    let names : List (List ℕ) = c.self.inside.names.items in
    let few : list_any (bytes_eq c.args.name.now) (take 8 names) ≡ false = cc in
    let all = among_later names c.self.inside.later c.args.name.now c.self.invariant few in
    cc
