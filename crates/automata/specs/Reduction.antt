-- Reduction: from the lowest up a state is kept if it is separated from every kept lower state.
use Rattle.std.specs.Prelude.{◌≡◌, ℕ, zero, suc, ◌<◌, Bool, true, false, cond, List, [], ◌∷◌, ◌++◌, map, length, filter, nat_eq, slice_index_or}
use Rattle.guards.specs.Algebra.{Model}
use Rattle.std.specs.List.{list_all, list_any}
use Rattle.guards.specs.Lists.{Member}
use Rattle.automata.specs.Limits.{most_rounds}
use Rattle.automata.specs.Machine.{Machine}
use Rattle.automata.specs.Rounds.{separated_below}
use Rattle.automata.specs.declared.moves.Move.{Move}

-- a test that tells which states are apart
module _ (apart : ℕ → ℕ → Bool) where
  -- the kept states below i, in order
  unfoldable pub kept : ℕ → List ℕ
  kept zero = []
  kept (suc i) = cond (list_all (λ r. apart r i) (kept i)) (kept i ++ (i ∷ [])) (kept i)

  -- the place of the first of the list from which q is not apart
  abbrev pub class_of : List ℕ → ℕ → ℕ
  class_of [] q = 0
  class_of (r ∷ rs) q = cond (apart r q) (suc (class_of rs q)) 0

  abbrev pub redirected : {G : Type 0} → List ℕ → Move G → Move G
  redirected ks v = record { from = class_of ks v.from; guard = v.guard; to = class_of ks v.to }

  -- the kept states with their moves, which lead to kept states, under new numbers
  abbrev pub reduced_to : {G : Type 0} → List ℕ → Machine G → Machine G
  reduced_to ks M = record {
    count = length ks;
    endings = λ j. slice_index_or (map M.endings ks) j false;
    moves = map (redirected ks) (filter (λ v. list_any (λ r. nat_eq r v.from) ks) M.moves);
  }

  -- a kept state is apart from every other, and any state is one from which some kept state at or below it is not apart
  pub record KeptStates (n : ℕ) (ks : List ℕ) : Type 0 where
    pub below : (r : ℕ) → Member r ks → r < n
    pub pairwise : (r s : ℕ) → Member r ks → Member s ks → r < s → apart r s ≡ true
    pub each : (q : ℕ) → q < n → ((r : ℕ) × Member r ks × (r < suc q) × (apart r q ≡ false))

module _ {E G : Type 0} (alg : Model E G) (M : Machine G) where
  -- the states that are separated in a round that counts are apart
  abbrev pub reduced : Machine G
  reduced = reduced_to (separated_below alg M most_rounds) (kept (separated_below alg M most_rounds) M.count) M
