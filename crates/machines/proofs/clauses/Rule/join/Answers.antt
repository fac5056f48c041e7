use Rattle.std.proofs.Common.{length, inl, refl, arith}
use Rattle.automata.proofs.JoinMeanings.{join_laws}
use Rattle.automata.proofs.Sheets.{rules_match}
use Rattle.machines.specs.JoinCall.{clause_machine}
use Rattle.machines.specs.Runs.{rule_machine}
use Rattle.automata.specs.Limits.{most_moves}
use Rattle.machines.specs.Sizes.{join_sizes}
use Rattle.machines.proofs.JoinedCalls.{sized, joined_as, joined_kept, unjoined_kept}
use Rattle.machines.proofs.LeastSizes.{all_long}
use Rattle.machines.proofs.clauses.Rule.join.Goals as goal

pub returns-in-Ok-clause-value : goal.returns-in-Ok-clause-value
returns-in-Ok-clause-value g c =
    let m = g.A.Algebra.model c.args.alg.now in
    let laws = g.met.A.Algebra.lawful c.args.alg.now in
    let before = c.args.table.now in
    let clause_table = c.args.clause_table.now in
    let work = c.args.work.now in
    let sizes = join_sizes (length before) (length clause_table) work.spare work.marks work.pairs in
    let made = c.in-Ok.ensures.table in
    let long = all_long sizes (sized m laws c.args.self c.args.clause c.args.way before clause_table c.rejoin.new.table sizes made.0) (length before, most_moves) (inl refl) in
    (made.0, joined_as m laws c.args.self c.args.clause c.args.way before clause_table c.rejoin.new.table sizes made.0 _ made.1 made.2.2 made.3 (omega (arith, long, c.rejoin.auto.table)))

pub returns-in-Ok-clause-kept : goal.returns-in-Ok-clause-kept
returns-in-Ok-clause-kept g c =
    let m = g.A.Algebra.model c.args.alg.now in
    let laws = g.met.A.Algebra.lawful c.args.alg.now in
    let before = c.args.table.now in
    let clause_table = c.args.clause_table.now in
    let work = c.args.work.now in
    let sizes = join_sizes (length before) (length clause_table) work.spare work.marks work.pairs in
    let made = c.in-Ok.ensures.table in
    let long = all_long sizes (sized m laws c.args.self c.args.clause c.args.way before clause_table c.rejoin.new.table sizes made.0) (length before, most_moves) (inl refl) in
    joined_kept m laws c.args.self c.args.clause c.args.way before clause_table c.rejoin.new.table sizes made.0 (record { counts = c.in-Ok.counts; endings = c.in-Ok.endings; within = made.2 }) made.1 made.2.2 made.3 (omega (arith, long, c.rejoin.auto.table))

pub returns-in-Ok-clause-matches : goal.returns-in-Ok-clause-matches
returns-in-Ok-clause-matches g c = rules_match (g.A.Algebra.model c.args.alg.now) (g.met.A.Algebra.lawful c.args.alg.now)

pub returns-in-Ok-clause-laws : goal.returns-in-Ok-clause-laws
returns-in-Ok-clause-laws g c =
    join_laws (g.A.Algebra.model c.args.alg.now) (g.met.A.Algebra.lawful c.args.alg.now) (rule_machine c.args.self c.args.table.now) (clause_machine c.args.clause c.args.clause_table.now) c.args.way c.args.self.within.0 c.args.clause.within.0

pub returns-in-Err-clause-kept : goal.returns-in-Err-clause-kept
returns-in-Err-clause-kept g c =
    let m = g.A.Algebra.model c.args.alg.now in
    let laws = g.met.A.Algebra.lawful c.args.alg.now in
    let before = c.args.table.now in
    let clause_table = c.args.clause_table.now in
    let work = c.args.work.now in
    let sizes = join_sizes (length before) (length clause_table) work.spare work.marks work.pairs in
    let refused = c.in-Err.ensures.table in
    unjoined_kept m laws c.args.self c.args.clause c.args.way before clause_table c.rejoin.new.table sizes (record { value = record { rule = c.args.self; clause = c.args.clause }; why = c.in-Err.why }) refused.0 refl refused.1

pub returns-in-Err-clause-matches : goal.returns-in-Err-clause-matches
returns-in-Err-clause-matches g c = rules_match (g.A.Algebra.model c.args.alg.now) (g.met.A.Algebra.lawful c.args.alg.now)

pub returns-in-Err-clause-laws : goal.returns-in-Err-clause-laws
returns-in-Err-clause-laws g c =
    join_laws (g.A.Algebra.model c.args.alg.now) (g.met.A.Algebra.lawful c.args.alg.now) (rule_machine c.args.self c.args.table.now) (clause_machine c.args.clause c.args.clause_table.now) c.args.way c.args.self.within.0 c.args.clause.within.0
