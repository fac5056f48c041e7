-- The word by which two states are told apart, on any table, and what it promises on a rule.
use Rattle.std.specs.Prelude.{ℕ, zero, suc, ◌+◌, ◌≤◌, min, max, Bool, cond, ◌&&◌, ◌⊎◌, List, [], ◌∷◌, length, Some, None, Option, ◌==◌}
use Rattle.std.specs.Option.{option_map}
use Rattle.guards.specs.Algebra.{Model}
use Rattle.guards.specs.Lists.{first_some}
use Rattle.automata.specs.Limits.{most_rounds}
use Rattle.automata.specs.Machine.{Machine, Day, Accepts}
use Rattle.automata.specs.Rounds.{separated, round_of}
use Rattle.automata.specs.declared.moves.Move.{Move}
use Rattle.automata.specs.declared.telling.WordStep.{WordStep}

module _ {E G : Type 0} (alg : Model E G) where
  -- the sample of the meet of two moves, from p and from q, that lead to states of which R holds
  abbrev pub step_by : (ℕ → ℕ → Bool) → ℕ → ℕ → Move G → Move G → Option (WordStep E)
  step_by R p q u v =
      cond ((u.from == p && v.from == q) && R u.to v.to) (option_map (λ e. record { sample = e; left = u.to; right = v.to }) (alg.sample (alg.meet u.guard v.guard))) None

  -- the first, by the moves of p and then those of q, in table order
  abbrev pub first_step : List (Move G) → (ℕ → ℕ → Bool) → ℕ → ℕ → Option (WordStep E)
  first_step vs R p q = first_some (λ _ u. first_some (λ _ v. step_by R p q u v) 0 vs) 0 vs

abbrev pub go_on : {E : Type 0} → Option (WordStep E) → (ℕ → ℕ → List E) → List E
go_on None word = []
go_on (Some s) word = s.sample ∷ word s.left s.right

module _ {E G : Type 0} (alg : Model E G) (M : Machine G) where
  -- the word of two states that are separated in round k: the lower state's move comes first
  unfoldable pub word : ℕ → ℕ → ℕ → List E
  word zero p q = []
  word (suc k) p q = go_on (first_step alg M.moves (separated alg M k) (min p q) (max p q)) (word k)

  abbrev pub word_in : Option ℕ → ℕ → ℕ → Option (List E)
  word_in None p q = None
  word_in (Some k) p q = Some (word k p q)

  -- the word of two states, if they are separated in a round that counts
  abbrev pub word_of : ℕ → ℕ → Option (List E)
  word_of p q = word_in (round_of alg M most_rounds p q) p q

  -- just one of the two states accepts the day
  abbrev pub JustOne : ℕ → ℕ → List E → Type 0
  JustOne p q w = (Accepts alg M p w × (Accepts alg M q w → ⊥)) ⊎ ((Accepts alg M p w → ⊥) × Accepts alg M q w)

  -- a shortest day that just one of the two states accepts, which has at most the count less two entries
  pub record Shortest (p q : ℕ) (w : List E) : Type 0 where
    pub day : Day alg w
    pub one : JustOne p q w
    pub shortest : (v : List E) → Day alg v → JustOne p q v → length w ≤ length v
    pub short : length w + 2 ≤ M.count
