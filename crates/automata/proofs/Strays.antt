-- Stray moves: a machine is in range where none of its moves strays and its endings are states.
use Rattle.std.proofs.Common.{◌≡◌, ℕ, ◌<◌, true, false, leb}
use Rattle.std.proofs.lemmas.Bool.{or_parts, or_from, leb-false, lt-leb}
use Rattle.guards.specs.Algebra.{Model}
use Rattle.std.specs.List.{list_any}
use Rattle.guards.specs.Lists.{Member}
use Rattle.automata.specs.Machine.{Machine, InRange}
use Rattle.automata.specs.Running.{stray}
use Rattle.automata.specs.declared.moves.Move.{Move}
use Rattle.automata.proofs.Members.{none_any, none_each}

-- a move that does not stray is between states
pub between : {G : Type 0} (states : ℕ) (v : Move G) → stray states v ≡ false → (v.from < states) × (v.to < states)
between states v h =
    let p = or_parts (leb states v.from) (leb states v.to) h in
    (leb-false states v.from p.0, leb-false states v.to p.1)

-- a machine in range has no stray move
pub no_stray : {E G : Type 0} (alg : Model E G) (M : Machine G) → InRange alg M → list_any (stray M.count) M.moves ≡ false
no_stray alg M inside =
    none_any (stray M.count) M.moves (λ v m. or_from _ _ (lt-leb M.count v.from (inside.from_in v m)) (lt-leb M.count v.to (inside.to_in v m)))

-- and one without a stray move is in range, if its endings are
pub in_range : {E G : Type 0} (alg : Model E G) (M : Machine G) → 0 < M.count → ((q : ℕ) → M.endings q ≡ true → q < M.count) → list_any (stray M.count) M.moves ≡ false → InRange alg M
in_range {G = G} alg M some ends none =
    let within : (v : Move G) → Member v M.moves → (v.from < M.count) × (v.to < M.count) = λ v m. between M.count v (none_each (stray M.count) v M.moves none m) in
    record { some = some; endings_in = ends; from_in = λ v m. (within v m).0; to_in = λ v m. (within v m).1 }
