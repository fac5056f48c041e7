use Rattle.std.proofs.Common.{◌^◌, ◌<◌, arith}
use Rattle.guards.proofs.NumberedParts.{part_given, progress}
use Rattle.guards.proofs.algebra.PartsIterator.next.Goals as goal

pub returns-clause-steps : goal.returns-clause-steps
returns-clause-steps g c =
    let b : c.in_ok-number.number < 2 ^ 64 = omega arith in
    rw (← c.self.view_is, c.rest.ensures, c.in_ok-number.was) (part_given ((g.A.Algebra.model c.self.inside.alg.now).parts c.self.inside.a c.self.inside.b) c.in_ok-number.number c.checked_add-self-inside.result c.checked_add-self-inside.ensures b)

pub returns-clause-goes : goal.returns-clause-goes
returns-clause-goes g c = progress _ (λ _. tt) _ _ _ (returns-clause-steps g c)
