-- Pairs: two models side by side.
use Rattle.std.specs.Prelude.{Bool, cond, ◌&&◌, List, [], ◌++◌, map, is_some, Some, None, Option}
use Rattle.guards.specs.Algebra.{Model}
use Rattle.guards.specs.declared.pair.Both.{Both}

abbrev pub both : {X Y : Type 0} → X → Y → Both X Y
both x y = record { first = x; second = y }

-- the pair of two values, or none if either is none
abbrev pub both_some : {X Y : Type 0} → Option X → Option Y → Option (Both X Y)
both_some None y = None
both_some (Some x) None = None
both_some (Some x) (Some y) = Some (both x y)

module _ {E₁ G₁ E₂ G₂ : Type 0} (m : Model E₁ G₁) (n : Model E₂ G₂) where
  -- the meaning of a pair: each side admits its entry
  abbrev pub pair_admit : Both G₁ G₂ → Both E₁ E₂ → Bool
  pair_admit g e = m.admits g.first e.first && n.admits g.second e.second

  abbrev pub pair_meet : Both G₁ G₂ → Both G₁ G₂ → Both G₁ G₂
  pair_meet a b = both (m.meet a.first b.first) (n.meet a.second b.second)

  -- each part of the first side beside the second side of a
  abbrev pub first_parts : Both G₁ G₂ → Both G₁ G₂ → List (Both G₁ G₂)
  first_parts a b = map (λ p. both p a.second) (m.parts a.first b.first)

  -- the meet of the first sides, if it admits something, beside each part of the second side
  abbrev pub second_parts : Both G₁ G₂ → Both G₁ G₂ → List (Both G₁ G₂)
  second_parts a b =
      cond (is_some (m.sample (m.meet a.first b.first))) (map (both (m.meet a.first b.first)) (n.parts a.second b.second)) []

  -- no part if either side of a admits nothing
  abbrev pub pair_parts : Both G₁ G₂ → Both G₁ G₂ → List (Both G₁ G₂)
  pair_parts a b = cond (is_some (m.sample a.first) && is_some (n.sample a.second)) (first_parts a b ++ second_parts a b) []

  abbrev pub pair_model : Model (Both E₁ E₂) (Both G₁ G₂)
  pair_model = record {
    domain = λ e. m.domain e.first && n.domain e.second;
    admits = pair_admit;
    whole = both m.whole n.whole;
    meet = pair_meet;
    sample = λ g. both_some (m.sample g.first) (n.sample g.second);
    parts = pair_parts;
  }
