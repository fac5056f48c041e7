-- Clashes: two moves from one state to different states whose meet admits something, and the lowest of them.
use Rattle.std.specs.Prelude.{◌≡◌, ℕ, ◌+◌, ◌<◌, ◌≤◌, cond, not, ◌&&◌, ◌⊎◌, List, drop, Some, None, Option, MatchOption, ◌==◌}
use Rattle.std.specs.Option.{option_map}
use Rattle.std.specs.List.{slice_get}
use Rattle.guards.specs.Algebra.{Model}
use Rattle.guards.specs.Lists.{first_some}
use Rattle.automata.specs.declared.moves.Move.{Move}

module _ {E G : Type 0} (alg : Model E G) where
  -- the sample of what two moves from one state to different states both admit
  abbrev pub clash : Move G → Move G → Option E
  clash u v = cond (u.from == v.from && not (u.to == v.to)) (alg.sample (alg.meet u.guard v.guard)) None

  -- the first of the moves, the first of which stands at place j, that clashes with u
  abbrev pub second_clash : Move G → ℕ → List (Move G) → Option (ℕ × E)
  second_clash u = first_some (λ j v. option_map (λ e. (j, e)) (clash u v))

  -- the first move that clashes with a later one, the first of those, and the sample of their meet
  abbrev pub lowest_clash : List (Move G) → Option (ℕ × ℕ × E)
  lowest_clash moves = first_some (λ i u. option_map (λ p. (i, p.0, p.1)) (second_clash u (i + 1) (drop (i + 1) moves))) 0 moves

  -- the moves at two places clash, the first before the second
  pub record ClashAt (moves : List (Move G)) (i j : ℕ) (e : E) : Type 0 where
    pub first : Move G
    pub second : Move G
    pub first_at : slice_get moves i ≡ Some first
    pub second_at : slice_get moves j ≡ Some second
    pub ordered : i < j
    pub sample : clash first second ≡ Some e

  -- no two moves clash, or these do, and none with a lower first place, nor with the same and a lower second
  abbrev pub Lowest : List (Move G) → Option (ℕ × ℕ × E) → Type 0
  Lowest moves r =
      MatchOption r ((i j : ℕ) (e : E) → ClashAt moves i j e → ⊥)
      (λ p. ClashAt moves p.0 p.1 p.2 × ((i j : ℕ) (e : E) → ClashAt moves i j e → (p.0 < i) ⊎ ((p.0 ≡ i) × (p.1 ≤ j))))
