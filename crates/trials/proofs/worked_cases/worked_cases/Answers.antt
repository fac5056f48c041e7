use Rattle.std.proofs.Common.{refl}
use Rattle.guards.specs.Flags.{split}
use Rattle.automata.specs.Reduction.{kept}
use Rattle.automata.specs.Rounds.{round, round_of}
use Rattle.automata.specs.Search.{visit}
use Rattle.automata.specs.Telling.{word}
use Rattle.trials.proofs.worked_cases.worked_cases.Goals as goal

pub returns : goal.returns
unfolding split visit round round_of kept word
returns c = record { count = refl; right = (refl, (refl, (refl, (refl, (refl, ((refl, refl, refl, refl), ((refl, refl, refl, refl), (refl, tt)))))))) }
