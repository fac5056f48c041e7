use Rattle.std.proofs.Common.{rules, tests, ◌∙◌}
use Rattle.std.proofs.lemmas.Iterator.{YieldsList-from_slice}
use Rattle.std.proofs.lemmas.Iterator.Adapters.{YieldsList-from_skip}
use Rattle.std.proofs.lemmas.Iterator.Consumers.{YieldsList-at, YieldsList-from_enumerate}
use Rattle.std.specs.Option.{option_map}
use Rattle.automata.specs.Clashes.{clash}
use Rattle.tables.proofs.FindMap.{find_map_from_yields_List, first_skipped}
use Rattle.completion.proofs.clashes.second_clash.Goals as goal

pub returns : goal.returns
returns g c =
    let m = g.A.Algebra.model c.args.alg.now in
    let moves = c.args.moves.now in
    find_map_from_yields_List (λ p. option_map (λ e. (p.0, e)) (clash m c.args.first.now p.1)) _ c.find_map.result c.find_map.ensures.runs
    (YieldsList-from_skip c.args.start (YieldsList-at c.skip.ensures.source (YieldsList-from_enumerate (YieldsList-at c.enumerate.ensures.source (YieldsList-from_slice moves cc)) cc)) cc)
    (λ x o q k. search (rules, tests))
    ∙ first_skipped (λ j v. option_map (λ e. (j, e)) (clash m c.args.first.now v)) 0 c.args.start moves
