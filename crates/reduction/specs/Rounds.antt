-- Rounds of separation by marks: what one round more marks, and when the marks tell the rounds of a machine.
use Rattle.std.specs.Prelude.{◌≡◌, ℕ, ◌+◌, ◌<◌, Bool, not, ◌&&◌, List, is_some, Some, None, Option, if◌then◌else◌, ◌==◌}
use Rattle.guards.specs.Algebra.{Model}
use Rattle.automata.specs.Machine.{Machine}
use Rattle.automata.specs.Rounds.{round_of}
use Rattle.automata.specs.declared.moves.Move.{Move}
use Rattle.reduction.specs.Marks.{apart_by, in_round, round_at}

-- the marks tell in which of the rounds below k each two states are separated
abbrev pub RoundMarks : {E G : Type 0} → Model E G → Machine G → ℕ → List ℕ → Type 0
RoundMarks alg M k marks = (p q : ℕ) → p < M.count → q < M.count → round_at marks p q ≡ round_of alg M k p q

-- the round after that one where two states are found, unless an earlier one separates them
abbrev pub later_round : ℕ → Bool → Option ℕ → Option ℕ
later_round round found None = if found then Some (round + 1) else None
later_round round found (Some k) = Some k

-- two different states that are found are separated in the round after that one, unless an earlier one separates them
abbrev pub NextMarks : ℕ → (ℕ → ℕ → Bool) → List ℕ → List ℕ → Type 0
NextMarks round found before after = (p q : ℕ) → round_at after p q ≡ later_round round (not (p == q) && found p q) (round_at before p q)

-- the moves go from different states that are not apart, their meet admits something, and they lead to states that the round separates
abbrev pub separates : {E G : Type 0} → Model E G → List ℕ → ℕ → Move G → Move G → Bool
separates alg marks round u v =
    not (u.from == v.from) && not (apart_by marks u.from v.from) && in_round marks round u.to v.to && is_some (alg.sample (alg.meet u.guard v.guard))
