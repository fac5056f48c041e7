use Rattle.std.proofs.Common.{refl}
use Rattle.std.proofs.lemmas.Result.{MatchResult-from_err}
use Rattle.automata.proofs.Places.{member_get_or}
use Rattle.tables.specs.Machines.{machine_of}
use Rattle.completion.proofs.PlacedStates.{state_unplaced}
use Rattle.completion.proofs.reached.ReachedStates.place_states.Goals as goal

pub place_state-requires : goal.place_state-requires
place_state-requires g c =
    rw c.found-state-items.ensures (member_get_or c.args.self.now.work.found c.loop-state.state-index 0 (rw c.found-state-items.ensures at c.loop-state-test.true))

pub returns-in_err-place_state : goal.returns-in_err-place_state
returns-in_err-place_state g c =
    let s = c.args.self.now in
    MatchResult-from_err _ _ _ c.from_residual.ensures.0 (λ _. rw s.all at (state_unplaced (g.A.Algebra.model s.graph.alg.now) (machine_of s.graph.clause.now) s.work.found c.loop-state.state-index
    c.args.moves.now c.loop-state.moves c.loop-state.invariant.moves c.loop-state.invariant.fits (rw c.found-state-items.ensures at c.loop-state-test.true) _ (rw c.found-state-items.ensures refl) c.in_err-place_state.ensures))
