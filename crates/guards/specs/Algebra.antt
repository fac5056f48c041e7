-- The model of an algebra of guards, the laws that it keeps, and which parts have a number.
use Rattle.std.specs.Prelude.{◌≡◌, ℕ, Bool, true, false, cond, not, ◌&&◌, ◌^◌, List, [], take, drop, Some, None, count_by, Option}
use Rattle.std.specs.List.{slice_get}

-- entries of the kind E, guards of the kind G
pub record Model (E G : Type 0) : Type 0 where
  -- the entries that a day may have
  pub domain : E → Bool
  -- the meaning of a guard: the entries that it admits
  pub admits : G → E → Bool
  pub whole : G
  pub meet : G → G → G
  pub sample : G → Option E
  -- the rest of one guard without another, in parts
  pub parts : G → G → List G

pub record Laws {E G : Type 0} (m : Model E G) : Type 0 where
  -- the domain has an entry
  pub inhabited : (e : E) × (m.domain e ≡ true)
  -- the whole guard admits exactly the domain
  pub whole_admits : (e : E) → m.admits m.whole e ≡ m.domain e
  -- every guard admits only entries of the domain
  pub inside : (g : G) (e : E) → m.admits g e ≡ true → m.domain e ≡ true
  -- a meet admits exactly what both admit
  pub meet_admits : (a b : G) (e : E) → m.admits (m.meet a b) e ≡ (m.admits a e && m.admits b e)
  -- a guard without a sample admits nothing
  pub sample_none : (g : G) → m.sample g ≡ None → (e : E) → m.admits g e ≡ false
  -- a sample is admitted
  pub sample_some : (g : G) (e : E) → m.sample g ≡ Some e → m.admits g e ≡ true
  -- an entry that a admits and b does not is admitted by just one part, and any other entry by none
  pub parts_once : (a b : G) (e : E) → count_by (λ p. m.admits p e) (m.parts a b) ≡ cond (m.admits a e && not (m.admits b e)) 1 0
  -- each part admits something
  pub parts_some : (a b : G) (k : ℕ) (p : G) → slice_get (m.parts a b) k ≡ Some p → (e : E) × (m.admits p e ≡ true)

-- the parts that have a number: a number is a usize
unfoldable pub numbered : {G : Type 0} → List G → List G
numbered ps = take (2 ^ 64) ps

-- the list from that place on; none without a place
abbrev pub left_from : {G : Type 0} → List G → Option ℕ → List G
left_from ps None = []
left_from ps (Some n) = drop n ps
