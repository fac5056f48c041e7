-- Joining proper machines: the rule that is made accepts just the days that the way of joining tells.
use Rattle.std.proofs.Common.{◌<◌, ◌≤◌, length, ◌∙◌}
use Rattle.std.proofs.lemmas.Bool.Decides.{Decides-at}
use Rattle.guards.specs.Algebra.{Model, Laws}
use Rattle.automata.specs.Automaton.{accepted}
use Rattle.automata.specs.Joining.{JoinMeaning, JoinLaws}
use Rattle.automata.specs.Limits.{most_states, most_rounds}
use Rattle.automata.specs.Machine.{Machine}
use Rattle.automata.specs.Product.{pairs, product}
use Rattle.automata.specs.Reduction.{reduced}
use Rattle.automata.specs.Rounds.{separated_below}
use Rattle.automata.specs.Running.{automaton}
use Rattle.automata.specs.declared.joins.JoinBy.{JoinBy}
use Rattle.automata.proofs.KeptStates.{kept_states}
use Rattle.automata.proofs.MachineRuns.{automaton_accepts}
use Rattle.automata.proofs.Products.{product_proper, product_accepts}
use Rattle.automata.proofs.ReachedPairs.{pairs_searched}
use Rattle.automata.proofs.Reduced.{reduced_proper, reduced_days}
use Rattle.automata.proofs.Separating.{below_itself}
use Rattle.automata.proofs.StandingRules.{chosen_decides}

module _ {E G : Type 0} (alg : Model E G) (laws : Laws alg) (R N : Machine G) (way : JoinBy) where
  abbrev P : Machine G
  P = product alg R N way

  pub join_means : length (pairs alg R N) ≤ most_states → JoinMeaning alg R N way (reduced alg P)
  join_means few rule clause =
      let pp = product_proper alg laws R N rule clause way in
      let proper = reduced_proper alg laws P pp few in
      record {
        proper = proper;
        days = λ w d.
            let made = automaton_accepts alg laws (reduced alg P) proper 0 w proper.in_range.some d in
            let told = Decides-at _ _ (reduced_days alg laws P pp few w d ∙ product_accepts alg laws R N rule clause way w d)
            (chosen_decides G way (accepted (automaton alg R) 0 w) (accepted (automaton alg N) 0 w) (automaton_accepts alg laws R rule 0 w rule.in_range.some d) (automaton_accepts alg laws N clause 0 w clause.in_range.some d)) in
            (λ a. told.0 (made.1 a), λ a. made.0 (told.1 a));
      }

  pub join_laws : 0 < R.count → 0 < N.count → JoinLaws alg R N way
  join_laws some some' = record {
    pairs_of = λ strays strays'. pairs_searched alg laws R N some some' strays strays';
    kept_of = kept_states (separated_below alg P most_rounds) (below_itself alg P most_rounds) P.count;
  }
