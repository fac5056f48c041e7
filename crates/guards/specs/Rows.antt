-- Algebras over plain rows: what they answer for a row that makes no guard.
use Rattle.std.specs.Prelude.{◌≡◌, Bool, true, false, [], ◌∷◌, None}
use Rattle.guards.specs.Algebra.{Model}

pub record ReadAsEmpty {E G : Type 0} (m : Model E G) (makes : G → Bool) (empty row : G) : Type 0 where
  pub admits : (e : E) → m.admits row e ≡ false
  pub meet_left : (b : G) → m.meet row b ≡ empty
  pub meet_right : (a : G) → m.meet a row ≡ empty
  pub sample : m.sample row ≡ None
  -- nothing is left of it, and without it a guard is left whole
  pub parts_of : (b : G) → m.parts row b ≡ []
  pub parts_without : (a : G) → makes a ≡ true → m.parts a row ≡ a ∷ []
