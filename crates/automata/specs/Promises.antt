-- The promises of a sheet, about the rule that stands after calls and the book of the calls.
use Rattle.std.specs.Prelude.{◌≡◌, ℕ, ◌<◌, ◌≤◌, Bool, true, ◌↔◌, List, Some, ◌≢◌}
use Rattle.guards.specs.Algebra.{Model}
use Rattle.automata.specs.Automaton.{run, Automaton, accepted, Valid, MatchOnce}
use Rattle.automata.specs.Book.{InBook}
use Rattle.automata.specs.Machine.{Machine, Day, LeadsTo, Accepts, Proper}
use Rattle.automata.specs.Running.{automaton}
use Rattle.automata.specs.Sheet.{Fed, Sheet, Comes}
use Rattle.automata.specs.Telling.{word_of, Shortest}

-- what holds of the rule R after the calls
pub record Kept {E G : Type 0} (alg : Model E G) (fs : List (Fed E G)) (R : Machine G) : Type 0 where
  pub proper : Proper alg R
  pub days : (w : List E) → Day alg w → Accepts alg R 0 w ↔ InBook alg fs w
  -- no automaton that accepts just the book's days has fewer states
  pub least : (N : Automaton E) → Valid alg.domain N → ((w : List E) → Day alg w → (accepted N N.start w ≡ true) ↔ InBook alg fs w) → R.count ≤ N.count
  -- a word tells any two states apart, and none does by fewer entries
  pub told : (p q : ℕ) → p < R.count → q < R.count → (p ≢ q) → (w : List E) × (word_of alg R p q ≡ Some w) × Shortest alg R p q w

-- a machine with states of the kind Q has for each state of R a state of its own: the one to which the day leads that leads R to that state
pub record OwnStates {E G : Type 0} (alg : Model E G) (R : Machine G) {Q : Type 0} (start : Q) (next : Q → E → Q) : Type 0 where
  pub day : ℕ → List E
  pub leads : (i : ℕ) → i < R.count → Day alg (day i) × LeadsTo alg R 0 (day i) i
  pub own : (i j : ℕ) → i < R.count → j < R.count → run next start (day i) ≡ run next start (day j) → i ≡ j

module _ {E G : Type 0} (alg : Model E G) where
  abbrev pub RulesKept : Type 0
  RulesKept = (fs : List (Fed E G)) (s : Sheet G) → Comes alg fs s → Kept alg fs s.rule

  -- a machine with states of the kind Q that accepts just the book's days has no fewer states than the rule
  abbrev pub LeastOfKind : Type 0 → Type 0
  LeastOfKind Q =
      (fs : List (Fed E G)) (s : Sheet G) → Comes alg fs s → (start : Q) (next : Q → E → Q) (endings : Q → Bool) →
      ((w : List E) → Day alg w → (endings (run next start w) ≡ true) ↔ InBook alg fs w) → OwnStates alg s.rule start next

  -- the rules of two sheets that accept the same days match in just one way
  abbrev pub RulesMatch : Type 0
  RulesMatch =
      (fs gs : List (Fed E G)) (s t : Sheet G) → Comes alg fs s → Comes alg gs t → ((w : List E) → Day alg w → Accepts alg s.rule 0 w ↔ Accepts alg t.rule 0 w) →
      MatchOnce alg.domain (automaton alg s.rule) (automaton alg t.rule)
