use Rattle.std.proofs.Common.{sym}
use Rattle.std.proofs.lemmas.Bool.{ne_eqb}
use Rattle.reduction.proofs.MovesLeft.{none_joins}
use Rattle.reduction.proofs.pair_moves.first_joined.Goals as goal

pub returns-then-rule_line-pair : goal.returns-then-rule_line-pair
returns-then-rule_line-pair g c =
    sym (none_joins (g.A.Algebra.model c.args.alg.now) c.args.pair c.args.rule_line.now (ne_eqb _ _ c.if-rule_line-pair.true) c.args.clause_moves.now)
