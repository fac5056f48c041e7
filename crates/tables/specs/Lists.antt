-- Lists of limited length.
use Rattle.std.specs.Prelude.{◌≡◌, ℕ, ◌<◌, ◌≤◌, List, [], ◌∷◌, ◌++◌, length, Result, MatchResult}

-- the values in order, and how many have room
pub record Held (T : Type 0) : Type 0 where
  pub items : List T
  pub room : ℕ

-- no values yet
abbrev pub no_items : {T : Type 0} → ℕ → Held T
no_items n = record { items = []; room = n }

-- the value stands behind those held; or there is no room, and nothing changes
abbrev pub Pushes : {T F : Type 0} → T → Held T → Held T → Result (Unit {0}) F → Type 0
Pushes value old new r =
    MatchResult r (λ _. (length old.items < old.room) × (new ≡ record { items = old.items ++ (value ∷ []); room = old.room })) (λ _. (old.room ≤ length old.items) × (new ≡ old))

-- the values stand behind those held; or they have no room
abbrev pub Appends : {T F : Type 0} → List T → Held T → Held T → Result (Unit {0}) F → Type 0
Appends more old new r =
    MatchResult r (λ _. new ≡ record { items = old.items ++ more; room = old.room }) (λ _. (old.room < length (old.items ++ more)) × (new.room ≡ old.room))
