use Rattle.std.proofs.Common.{◌≡◌, ℕ, false, map, get_or, take}
use Rattle.tables.specs.Endings.{holds}
use Rattle.tables.proofs.endings.Endings.places.Given as goal

abbrev pub invariant-loop-place : goal.invariant-loop-place
invariant-loop-place g l = (k : ℕ) → holds l.places k ≡ get_or (map g.passes (take l.place l.items)) k false
