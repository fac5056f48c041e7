use Rattle.std.proofs.Common.{length, inl, refl, arith}
use Rattle.automata.specs.Limits.{most_moves}
use Rattle.machines.specs.Sizes.{check_sizes}
use Rattle.machines.proofs.CheckedCalls.{passed, rewritten_as, check_laws}
use Rattle.machines.proofs.LeastSizes.{all_long}
use Rattle.machines.proofs.clauses.OpenClause.check.Goals as goal

pub returns-in-Ok-clause-value : goal.returns-in-Ok-clause-value
returns-in-Ok-clause-value g c =
    let m = g.A.Algebra.model c.args.alg.now in
    let laws = g.met.A.Algebra.lawful c.args.alg.now in
    let work = c.args.work.now in
    let sizes = check_sizes (length c.args.table.now) work.spare work.marks work.parts work.others in
    let made = c.in-Ok.ensures.table in
    let long = all_long sizes (passed m c.args.self c.args.table.now sizes laws made.0).0 (length c.args.table.now, most_moves) (inl refl) in
    (made.0, rewritten_as m c.args.self c.args.table.now sizes laws made.0 _ c.rewrite.new.table made.1 made.2 made.3 (omega (arith, long, c.rewrite.auto.table)))

pub returns-in-Ok-clause-laws : goal.returns-in-Ok-clause-laws
returns-in-Ok-clause-laws g c = check_laws (g.A.Algebra.model c.args.alg.now) (g.met.A.Algebra.lawful c.args.alg.now) c.args.self c.args.table.now

pub returns-in-Err-clause-laws : goal.returns-in-Err-clause-laws
returns-in-Err-clause-laws g c = check_laws (g.A.Algebra.model c.args.alg.now) (g.met.A.Algebra.lawful c.args.alg.now) c.args.self c.args.table.now
