use Rattle.std.proofs.Common.{◌≡◌, drop}
use Rattle.automata.specs.Running.{next, walk}
use Rattle.machines.proofs.clauses.running.follow.Given as goal

-- what is left of the day leads to the answer
abbrev pub invariant-loop-place : goal.invariant-loop-place
invariant-loop-place g l =
    walk (next (g.A.Algebra.model l.alg) l.moves) l.place l.state (drop l.place l.day) ≡ walk (next (g.A.Algebra.model l.alg) l.moves) 0 0 l.day
