-- Complete deterministic machines by a next function: the days that they accept, and when no smaller one accepts the same.
use Rattle.std.specs.Prelude.{◌≡◌, ℕ, ◌<◌, Bool, true, List, [], ◌∷◌, ◌≢◌}
use Rattle.std.specs.List.{AllByRecursion}

-- the state that the entries lead to, for states of any kind
abbrev pub run : {E Q : Type 0} → (Q → E → Q) → Q → List E → Q
run next q [] = q
run next q (e ∷ es) = run next (next q e) es

-- the states are the numbers below the count
pub record Automaton (E : Type 0) : Type 0 where
  pub count : ℕ
  pub start : ℕ
  pub next : ℕ → E → ℕ
  pub endings : ℕ → Bool

abbrev pub accepted : {E : Type 0} (M : Automaton E) → ℕ → List E → Bool
accepted M q w = M.endings (run M.next q w)

module _ {E : Type 0} (domain : E → Bool) where
  -- a list of domain entries
  abbrev pub InDomain : List E → Type 0
  InDomain w = AllByRecursion (λ e. domain e ≡ true) w

  -- the start is a state, and each state has on each domain entry a next state
  pub record Valid (M : Automaton E) : Type 0 where
    pub start_in : M.start < M.count
    pub next_in : (q : ℕ) (e : E) → q < M.count → domain e ≡ true → M.next q e < M.count

  abbrev pub SameDays : Automaton E → Automaton E → Type 0
  SameDays M N = (w : List E) → InDomain w → accepted M M.start w ≡ accepted N N.start w

  -- each state is reached by a day, and each two different states are told apart by one
  pub record Reduced (M : Automaton E) : Type 0 where
    pub valid : Valid M
    pub reached : (q : ℕ) → q < M.count → (w : List E) × InDomain w × (run M.next M.start w ≡ q)
    pub apart : (p q : ℕ) → p < M.count → q < M.count → (p ≢ q) → (w : List E) × InDomain w × (accepted M p w ≢ accepted M q w)

  -- f takes each state of M to its partner in N, and g back: the starts are partners, endings have endings for partners,
  -- and on every domain entry partners lead to partners
  pub record Match (M N : Automaton E) (f g : ℕ → ℕ) : Type 0 where
    pub there : (i : ℕ) → i < M.count → f i < N.count
    pub back : (j : ℕ) → j < N.count → g j < M.count
    pub there_back : (i : ℕ) → i < M.count → g (f i) ≡ i
    pub back_there : (j : ℕ) → j < N.count → f (g j) ≡ j
    pub starts : f M.start ≡ N.start
    pub endings : (i : ℕ) → i < M.count → M.endings i ≡ N.endings (f i)
    pub nexts : (i : ℕ) (e : E) → i < M.count → domain e ≡ true → f (M.next i e) ≡ N.next (f i) e

  -- there is a match, and any two agree at every state
  pub record MatchOnce (M N : Automaton E) : Type 0 where
    pub some : (f : ℕ → ℕ) × (g : ℕ → ℕ) × Match M N f g
    pub only : (f g f' g' : ℕ → ℕ) → Match M N f g → Match M N f' g' → ((i : ℕ) → i < M.count → f i ≡ f' i) × ((j : ℕ) → j < N.count → g j ≡ g' j)
