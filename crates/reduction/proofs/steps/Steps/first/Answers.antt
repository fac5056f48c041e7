use Rattle.std.proofs.Common.{rules, tests}
use Rattle.std.proofs.lemmas.Iterator.{YieldsList-from_slice}
use Rattle.guards.specs.Lists.{first_some}
use Rattle.automata.specs.Telling.{step_by}
use Rattle.tables.proofs.FindMap.{find_map_from_yields_List}
use Rattle.reduction.specs.Marks.{in_round}
use Rattle.reduction.proofs.steps.Steps.first.Goals as goal

pub returns : goal.returns
returns g c =
    let s = c.args.self.now in
    find_map_from_yields_List (λ u. first_some (λ _ v. step_by (g.A.Algebra.model s.alg.now) (in_round s.marks.now s.round) s.lower s.higher u v) 0 s.moves.now) _ c.find_map.result
    c.find_map.ensures.runs (YieldsList-from_slice s.moves.now cc) (λ x o q k. search (rules, tests))
