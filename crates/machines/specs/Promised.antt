-- The promises, as the calls that keep them state them.
use Rattle.std.specs.Prelude.{ℕ, ◌<◌, ◌≤◌, List, [], length, take, IfOk, Result, MatchResult, ◌≢◌}
use Rattle.guards.specs.Algebra.{Model}
use Rattle.automata.specs.Limits.{most_moves, most_word, mark_bytes}
use Rattle.automata.specs.Promises.{Kept}
use Rattle.automata.specs.Sheet.{Fed, InHand, Comes}
use Rattle.automata.specs.Telling.{Shortest}
use Rattle.automata.specs.declared.moves.Move.{Move}
use Rattle.automata.specs.declared.refusals.Refusal.{Refusal}
use Rattle.machines.specs.Runs.{rule_machine, with_nothing}
use Rattle.machines.specs.declared.clauses.Rule.{Rule}

module _ {E G : Type 0} (alg : Model E G) where
  -- a new sheet comes by no calls, and the promises hold of its rule
  abbrev pub NewSheetKept : List (Move G) → Result Rule (Refusal E) → Type 0
  NewSheetKept after r = IfOk r (λ rule. Comes alg [] (with_nothing (rule_machine rule after)) × Kept alg [] (rule_machine rule after))

  -- by whatever calls the rule comes, two different states of it are told apart: the buffer shows a shortest day that just one of them accepts
  abbrev pub ToldShortest : Rule → List (Move G) → ℕ → ℕ → List E → List ℕ → List E → Result ℕ (Refusal E) → Type 0
  ToldShortest rule table p q before marks after r =
      (fs : List (Fed E G)) (hand : InHand G) → Comes alg fs (record { rule = rule_machine rule table; hand = hand })
      → (p ≢ q) → p < rule.counts.states → q < rule.counts.states
      → most_moves ≤ length table → most_word ≤ length before → mark_bytes ≤ length marks
      → MatchResult r (λ n. (n ≤ length after) × Shortest alg (rule_machine rule table) p q (take n after)) (λ _. ⊥)
