use Rattle.std.proofs.Common.{◌+◌, drop, rules, tests, ◌∙◌}
use Rattle.std.proofs.lemmas.Iterator.{YieldsList-from_slice}
use Rattle.std.proofs.lemmas.Iterator.Consumers.{YieldsList-at, YieldsList-from_enumerate}
use Rattle.std.specs.Option.{option_map}
use Rattle.automata.specs.Clashes.{second_clash}
use Rattle.automata.proofs.LowestClash.{lowest_from}
use Rattle.tables.proofs.FindMap.{find_map_from_yields_List, first_numbered}
use Rattle.completion.proofs.clashes.lowest_clash.Goals as goal

pub returns : goal.returns
returns g c =
    let m = g.A.Algebra.model c.args.alg.now in
    let moves = c.args.moves.now in
    let is = find_map_from_yields_List (λ p. option_map (λ q. (p.0, q.0, q.1)) (second_clash m p.1 (p.0 + 1) (drop (p.0 + 1) moves))) _ c.find_map.result c.find_map.ensures.runs
    (YieldsList-from_enumerate (YieldsList-at c.enumerate.ensures.source (YieldsList-from_slice moves cc)) cc)
    (λ x o q k. search (rules, tests))
    ∙ first_numbered (λ i u. option_map (λ p. (i, p.0, p.1)) (second_clash m u (i + 1) (drop (i + 1) moves))) 0 0 moves in
    record { value = is; lowest = lowest_from m moves _ is }
