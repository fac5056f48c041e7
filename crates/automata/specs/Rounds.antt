-- Rounds of separation: in which round two states of a machine are separated, on any table.
use Rattle.std.specs.Prelude.{ℕ, zero, suc, Bool, false, cond, not, ◌&&◌, ◌||◌, List, is_some, Some, None, Option, ◌==◌}
use Rattle.guards.specs.Algebra.{Model}
use Rattle.std.specs.List.{list_any}
use Rattle.automata.specs.Machine.{Machine}
use Rattle.automata.specs.declared.moves.Move.{Move}

-- just one of the two is true
abbrev pub differ : Bool → Bool → Bool
differ a b = cond a (not b) b

module _ {E G : Type 0} (alg : Model E G) where
  -- the moves go from p and from q, their meet admits something, and they lead to states of which R holds
  abbrev pub fit : (ℕ → ℕ → Bool) → ℕ → ℕ → Move G → Move G → Bool
  fit R p q u v = (u.from == p && v.from == q) && (R u.to v.to && is_some (alg.sample (alg.meet u.guard v.guard)))

  -- a move of p and a move of q are like that
  abbrev pub some_fit : List (Move G) → (ℕ → ℕ → Bool) → ℕ → ℕ → Bool
  some_fit vs R p q = list_any (λ u. list_any (fit R p q u) vs) vs

-- which states are separated in an earlier round, and which in this one
pub record Round : Type 0 where
  pub earlier : ℕ → ℕ → Bool
  pub now : ℕ → ℕ → Bool

module _ {E G : Type 0} (alg : Model E G) (M : Machine G) where
  -- the round after r
  abbrev pub later : Round → Round
  later r = record {
    earlier = λ p q. r.earlier p q || r.now p q;
    now = λ p q. not (p == q) && (not (r.earlier p q || r.now p q) && some_fit alg M.moves r.now p q);
  }

  -- in round 0 just one of two different states is an ending
  unfoldable pub round : ℕ → Round
  round zero = record { earlier = λ p q. false; now = λ p q. not (p == q) && differ (M.endings p) (M.endings q) }
  round (suc k) = later (round k)

  -- separated in round k, and in a round below k
  abbrev pub separated : ℕ → ℕ → ℕ → Bool
  separated k p q = (round k).now p q

  abbrev pub separated_below : ℕ → ℕ → ℕ → Bool
  separated_below k p q = (round k).earlier p q

  -- the round below k in which the two are separated
  unfoldable pub round_of : ℕ → ℕ → ℕ → Option ℕ
  round_of zero p q = None
  round_of (suc k) p q = cond (separated k p q) (Some k) (round_of k p q)
