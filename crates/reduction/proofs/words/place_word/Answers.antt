use Rattle.std.proofs.Common.{◌≡◌, Some, sym, ◌∙◌, arith}
use Rattle.automata.specs.Limits.{most_rounds}
use Rattle.automata.specs.Rounds.{round_of}
use Rattle.automata.proofs.Separating.{round_of_some}
use Rattle.tables.specs.Machines.{machine_of}
use Rattle.reduction.proofs.words.place_word.Goals as goal

pub write_word-requires-clause-room : goal.write_word-requires-clause-room
write_word-requires-clause-room g c =
    let m = g.A.Algebra.model c.args.alg.now in
    let M = machine_of c.args.machine.now in
    let is : round_of m M most_rounds c.args.first c.args.second ≡ Some c.in_ok-round.round =
    sym (c.mark_rounds-rounds.ensures c.args.first c.args.second c.requires.below.0 c.requires.below.1) ∙ sym c.round.ensures ∙ c.in_ok-round.ensures.ok_part in
    let counts = (round_of_some m M most_rounds c.in_ok-round.round c.args.first c.args.second is).0 in
    (counts, omega (arith, c.requires.sizes.0))
