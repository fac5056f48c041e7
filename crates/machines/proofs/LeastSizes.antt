-- What a test of sizes leaves.
use Rattle.std.proofs.Common.{◌≡◌, ℕ, ◌≤◌, false, ltb, List}
use Rattle.std.proofs.lemmas.Bool.{ltb-false}
use Rattle.guards.specs.Lists.{Member}
use Rattle.automata.proofs.Members.{none_each}
use Rattle.machines.specs.Sizes.{is_short}

-- where no size is too small, each has its least
pub all_long : (sizes : List (ℕ × ℕ)) → is_short sizes ≡ false → (s : ℕ × ℕ) → Member s sizes → s.1 ≤ s.0
all_long sizes h s m = ltb-false s.0 s.1 (none_each (λ s. ltb s.0 s.1) s sizes h m)
