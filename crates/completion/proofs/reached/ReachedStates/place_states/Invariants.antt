use Rattle.std.proofs.Common.{◌≡◌, ◌++◌, take, drop}
use Rattle.std.specs.List.{flat_map, list_all}
use Rattle.automata.specs.Checking.{placed}
use Rattle.tables.specs.Machines.{machine_of}
use Rattle.completion.specs.Placing.{fits_at}
use Rattle.completion.proofs.reached.ReachedStates.place_states.Given as goal

-- the moves of the states so far are placed; the states that are left tell whether all rests fit
abbrev pub invariant-loop-state : goal.invariant-loop-state
invariant-loop-state g l =
    let m = g.A.Algebra.model l.self.graph.alg.now in
    let M = machine_of l.self.graph.clause.now in
    let states = l.self.work.found in
    let old = l.initial.moves in
    record {
      moves : l.moves ≡ record { items = old.items ++ flat_map (placed m M) (take l.state-index states); room = old.room };
      fits : list_all (fits_at m M) (drop l.state-index states) ≡ list_all (fits_at m M) states;
    }
