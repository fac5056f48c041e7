use Rattle.std.proofs.Common.{ap, arith}
use Rattle.tables.proofs.Tracked.{mark_read}
use Rattle.tables.proofs.worklists.Worklist.place_of.Goals as goal

pub overflow_sub-result : goal.overflow_sub-result
overflow_sub-result g c =
    omega (arith, mark_read g.N.Node.same g.met.N.Node.tells g.N.Node.place g.N.Node.inside g.met.N.Node.own c.self.inside.marks.now c.self.inside.found.items c.self.invariant.tracks c.args.node c.requires.inside _ _ c.place.ensures c.from.ensures _ (ap (λ w. w.found) c.self.view_is) c.requires.found)

pub returns : goal.returns
returns g c =
    omega (arith, mark_read g.N.Node.same g.met.N.Node.tells g.N.Node.place g.N.Node.inside g.met.N.Node.own c.self.inside.marks.now c.self.inside.found.items c.self.invariant.tracks c.args.node c.requires.inside _ _ c.place.ensures c.from.ensures _ (ap (λ w. w.found) c.self.view_is) c.requires.found)
