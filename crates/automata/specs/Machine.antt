-- Machines whose moves carry guards, the days that they accept, and what makes one complete and deterministic.
use Rattle.std.specs.Prelude.{◌≡◌, ℕ, ◌<◌, Bool, true, List, [], ◌∷◌}
use Rattle.std.specs.List.{AllByRecursion}
use Rattle.guards.specs.Algebra.{Model}
use Rattle.guards.specs.Lists.{Member}
use Rattle.automata.specs.declared.moves.Move.{Move}

-- the states are the numbers below the count, and 0 is the start
pub record Machine (G : Type 0) : Type 0 where
  pub count : ℕ
  pub endings : ℕ → Bool
  pub moves : List (Move G)

module _ {E G : Type 0} (alg : Model E G) where
  -- a day is a list of domain entries
  abbrev pub Day : List E → Type 0
  Day w = AllByRecursion (λ e. alg.domain e ≡ true) w

  -- a move takes the entry e from p to q
  abbrev pub Leads : Machine G → ℕ → E → ℕ → Type 0
  Leads M p e q = (v : Move G) × Member v M.moves × (v.from ≡ p) × (alg.admits v.guard e ≡ true) × (v.to ≡ q)

  -- the entries lead from p to q, each by a move whose guard admits it
  abbrev pub LeadsTo : Machine G → ℕ → List E → ℕ → Type 0
  LeadsTo M p [] q = p ≡ q
  LeadsTo M p (e ∷ es) q = (r : ℕ) × Leads M p e r × LeadsTo M r es q

  -- the entries lead from p to an ending
  abbrev pub Accepts : Machine G → ℕ → List E → Type 0
  Accepts M p w = (q : ℕ) × LeadsTo M p w q × (M.endings q ≡ true)

  -- there is a start, and endings and moves name states only
  pub record InRange (M : Machine G) : Type 0 where
    pub some : 0 < M.count
    pub endings_in : (q : ℕ) → M.endings q ≡ true → q < M.count
    pub from_in : (v : Move G) → Member v M.moves → v.from < M.count
    pub to_in : (v : Move G) → Member v M.moves → v.to < M.count

  -- each state has, for each domain entry, a next state
  abbrev pub Complete : Machine G → Type 0
  Complete M = (q : ℕ) (e : E) → q < M.count → alg.domain e ≡ true → (r : ℕ) × Leads M q e r

  -- two moves from one state whose meet admits something go to one state
  abbrev pub Deterministic : Machine G → Type 0
  Deterministic M =
      (u v : Move G) → Member u M.moves → Member v M.moves → u.from ≡ v.from → (e : E) → alg.admits (alg.meet u.guard v.guard) e ≡ true → u.to ≡ v.to

  pub record Proper (M : Machine G) : Type 0 where
    pub in_range : InRange M
    pub complete : Complete M
    pub deterministic : Deterministic M
