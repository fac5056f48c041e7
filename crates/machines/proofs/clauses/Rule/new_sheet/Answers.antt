use Rattle.std.proofs.Common.{rules, [], ◌∷◌, length, inl, refl, arith}
use Rattle.automata.specs.Limits.{most_moves}
use Rattle.automata.proofs.Sheets.{rules_kept, rules_match}
use Rattle.machines.proofs.Promised.{new_sheet_kept}
use Rattle.machines.proofs.LeastSizes.{all_long}
use Rattle.machines.proofs.clauses.Rule.new_sheet.Goals as goal

pub returns-in_err-test_sizes-clause-promises : goal.returns-in_err-test_sizes-clause-promises
returns-in_err-test_sizes-clause-promises g c =
    let m = g.A.Algebra.model c.args.alg.now in
    let laws = g.met.A.Algebra.lawful c.args.alg.now in
    (rules_kept m laws, rules_match m laws)

pub returns-clause-kept : goal.returns-clause-kept
returns-clause-kept g c =
    let sizes = (length c.args.table.now, most_moves) ∷ [] in
    new_sheet_kept (g.A.Algebra.model c.args.alg.now) (g.met.A.Algebra.lawful c.args.alg.now) (record { states = 1; moves = 1 }) c.insert.result c.args.table.now
    (omega (arith, all_long sizes c.in_ok-test_sizes.ensures (length c.args.table.now, most_moves) (inl refl))) refl refl (search rules) _ (search rules)

pub returns-clause-promises : goal.returns-clause-promises
returns-clause-promises g c =
    let m = g.A.Algebra.model c.args.alg.now in
    let laws = g.met.A.Algebra.lawful c.args.alg.now in
    (rules_kept m laws, rules_match m laws)
