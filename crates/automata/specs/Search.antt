-- Breadth-first search over nodes of any kind, and what it finds.
use Rattle.std.specs.Prelude.{◌≡◌, ℕ, zero, suc, Bool, true, cond, List, [], ◌∷◌, ◌++◌, drop}
use Rattle.std.specs.List.{list_any}
use Rattle.guards.specs.Lists.{Member}

-- the test tells whether two nodes are the same
pub record Tells {X : Type 0} (same : X → X → Bool) : Type 0 where
  pub itself : (x : X) → same x x ≡ true
  pub equal : (x y : X) → same x y ≡ true → x ≡ y

module _ {X : Type 0} (same : X → X → Bool) where
  -- the place of the first that is the same as x
  abbrev pub place_of : X → List X → ℕ
  place_of x [] = 0
  place_of x (y ∷ ys) = cond (same x y) 0 (suc (place_of x ys))

  -- one more at the end, if it is new
  abbrev pub add : List X → X → List X
  add found y = cond (list_any (same y) found) found (found ++ (y ∷ []))

  abbrev pub add_all : List X → List X → List X
  add_all found [] = found
  add_all found (y ∷ ys) = add_all (add found y) ys

  module _ (successors : X → List X) where
    abbrev pub visit_next : List X → (List X → List X) → List X → List X
    visit_next [] go found = found
    visit_next (x ∷ rest) go found = go (add_all found (successors x))

    -- visits the nodes found from place i on, in order, and adds the new successors of each at the end
    unfoldable pub visit : ℕ → ℕ → List X → List X
    visit zero i found = found
    visit (suc fuel) i found = visit_next (drop i found) (visit fuel (suc i)) found

    -- the nodes reached from x, breadth first; as much fuel as there are nodes visits them all
    abbrev pub reached : ℕ → X → List X
    reached fuel x = visit fuel 0 (x ∷ [])

-- none stands twice
abbrev pub NoRepeat : {X : Type 0} → List X → Type 0
NoRepeat [] = Unit {0}
NoRepeat (x ∷ xs) = (Member x xs → ⊥) × NoRepeat xs

-- y is reached from x by successors
pub data Reaches {X : Type 0} (successors : X → List X) (x : X) : X → Type 0 where
  itself : Reaches successors x x
  after : {y z : X} → Reaches successors x y → Member z (successors y) → Reaches successors x z

-- the list has each node that is reached from x once, and nothing else, and x stands first
pub record Searched {X : Type 0} (successors : X → List X) (x : X) (xs : List X) : Type 0 where
  pub first : (rest : List X) × (xs ≡ x ∷ rest)
  pub once : NoRepeat xs
  pub closed : (y z : X) → Member y xs → Member z (successors y) → Member z xs
  pub only : (y : X) → Member y xs → Reaches successors x y
