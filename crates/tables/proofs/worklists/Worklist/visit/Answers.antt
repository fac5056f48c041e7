use Rattle.automata.proofs.Places.{member_read}
use Rattle.tables.proofs.worklists.Worklist.visit.Goals as goal

pub returns-clause-inside : goal.returns-clause-inside
returns-clause-inside g c =
    let found = c.self.inside.found.items in
    let node = c.in_ok-node.field-0.now in
    let read = c.in_ok-node.ensures.lookup in
    c.self.invariant.tracks.all_inside node (member_read found c.self.inside.visited node (rw c.as_slice.ensures at read.3.0) (rw c.as_slice.ensures at read.3.1 node))
