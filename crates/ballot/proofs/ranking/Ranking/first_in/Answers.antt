use Rattle.std.proofs.Common.{◌≡◌, rules, tests}
use Rattle.std.proofs.lemmas.Iterator.{YieldsList-from_slice}
use Rattle.std.proofs.lemmas.Iterator.Search.{find_from_yields_List}
use Rattle.std.specs.List.{find}
use Rattle.std.specs.Option.{option_map}
use Rattle.irv.specs.Sets.{has}
use Rattle.ballot.specs.Values.{ranked}
use Rattle.ballot.proofs.Finding.{owner_found}
use Rattle.ballot.proofs.ranking.Ranking.first_in.Goals as goal

pub returns : goal.returns
returns c =
    let found : option_map (λ y. y.now) c.find.result ≡ find (has c.args.standing.now) (ranked c.args.self.now) = find_from_yields_List (has c.args.standing.now) _ _ c.find.result c.find.ensures.ran (YieldsList-from_slice (ranked c.args.self.now) cc) (λ x b q k. search (rules, tests)) in
    cc (owner_found c.args.standing.now (ranked c.args.self.now))
