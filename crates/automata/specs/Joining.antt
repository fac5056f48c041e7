-- What joining a clause to a rule means, and what the definitions that it goes by mean.
use Rattle.std.specs.Prelude.{◌≡◌, false, ◌↔◌, List}
use Rattle.guards.specs.Algebra.{Model}
use Rattle.std.specs.List.{list_any}
use Rattle.automata.specs.Book.{DayAfter}
use Rattle.automata.specs.Limits.{most_rounds}
use Rattle.automata.specs.Machine.{Machine, Day, Accepts, Proper}
use Rattle.automata.specs.Product.{start_pair, pair_targets, pairs, product}
use Rattle.automata.specs.Reduction.{kept, KeptStates}
use Rattle.automata.specs.Rounds.{separated_below}
use Rattle.automata.specs.Running.{stray}
use Rattle.automata.specs.Search.{Searched}
use Rattle.automata.specs.Sheet.{joining}
use Rattle.automata.specs.declared.joins.JoinBy.{JoinBy}

module _ {E G : Type 0} (alg : Model E G) (R N : Machine G) (way : JoinBy) where
  -- the rule S is proper and accepts just the days of both, of either, or of R without N
  pub record Joins (S : Machine G) : Type 0 where
    pub proper : Proper alg S
    pub days : (w : List E) → Day alg w → Accepts alg S 0 w ↔ DayAfter {G = G} (joining way) (Accepts alg R 0 w) (Accepts alg N 0 w)

  -- the join of proper machines
  abbrev pub JoinMeaning : Machine G → Type 0
  JoinMeaning S = Proper alg R → Proper alg N → Joins S

  pub record JoinLaws : Type 0 where
    -- where no move strays, the list has each pair that is reached from the starts once, and no other
    pub pairs_of : list_any (stray R.count) R.moves ≡ false → list_any (stray N.count) N.moves ≡ false → Searched (pair_targets alg R.moves N.moves) start_pair (pairs alg R N)
    -- the kept states are pairwise separated, and each state is not separated from a kept one at or below it
    pub kept_of : KeptStates (separated_below alg (product alg R N way) most_rounds) (product alg R N way).count (kept (separated_below alg (product alg R N way) most_rounds) (product alg R N way).count)
