use Rattle.std.proofs.Common.{◌∙◌, arith}
use Rattle.automata.specs.Limits.{most_states}
use Rattle.completion.proofs.ReachedStates.{all_fit, reached_order}
use Rattle.completion.proofs.reached.ReachedStates.new.Goals as goal

pub unreachable-requires : goal.unreachable-requires
unreachable-requires g c =
    absurd (omega (arith, c.in-Err.ensures most_states (omega arith), all_fit (g.A.Algebra.model c.args.graph.alg.now) c.args.graph.clause.now))

pub invariant_of-result : goal.invariant_of-result
invariant_of-result g c = record { all = c.in-Ok.ensures most_states (omega arith) ∙ reached_order (g.A.Algebra.model c.args.graph.alg.now) c.args.graph.clause.now }
