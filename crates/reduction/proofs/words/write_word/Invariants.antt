use Rattle.std.proofs.Common.{◌≡◌, ◌-◌, ◌++◌, take, drop}
use Rattle.automata.specs.Telling.{word}
use Rattle.tables.specs.Machines.{machine_of}
use Rattle.reduction.proofs.words.write_word.Given as goal

-- the places so far and the word of what is left are the word
abbrev pub invariant-loop-place : goal.invariant-loop-place
invariant-loop-place g l =
    let m = g.A.Algebra.model l.alg in
    (take l.place l.entry-items ++ word m (machine_of l.machine) (l.round - l.place) l.p l.q ≡ word m (machine_of l.machine) l.round l.first l.second)
    × (drop l.place l.entry-items ≡ drop l.place l.initial.entry-items)
