use Rattle.std.proofs.Common.{rules, tests}
use Rattle.automata.specs.Checking.{is_live}
use Rattle.guards.proofs.NumberedParts.{progress}
use Rattle.completion.proofs.FirstPassing.{first_passing, copied_first}
use Rattle.completion.proofs.live_moves.LiveMovesIterator.next.Goals as goal

pub returns-clause-steps : goal.returns-clause-steps
returns-clause-steps g c =
    rw (← c.self.view_is, c.copied.ensures) (copied_first c.find.result _ _
    (first_passing _ (is_live (g.A.Algebra.model c.self.inside.alg.now) c.self.inside.state) _ (λ x b q k. search (rules, tests)) c.self.inside.lines c.find.new.self c.find.result c.find.ensures.ran))

pub returns-clause-goes : goal.returns-clause-goes
returns-clause-goes g c = progress _ (λ _. tt) _ _ _ (returns-clause-steps g c)
