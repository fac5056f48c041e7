use Rattle.std.proofs.Common.{get_or, sym, ap, ◌∙◌, subst}
use Rattle.tables.specs.Worklists.{IsWorklist}
use Rattle.tables.proofs.Tracked.{worklist_push}
use Rattle.tables.proofs.worklists.Worklist.add.Goals as goal

pub invariant_of-self : goal.invariant_of-self
invariant_of-self g c =
    subst (λ h. IsWorklist g.N.Node.same g.N.Node.place g.N.Node.inside c.self.inside.marks.now h c.self.inside.visited) (sym c.in_err-push.ensures.1) c.self.invariant

pub invariant_of-self-then-self-place-eq0 : goal.invariant_of-self-then-self-place-eq0
invariant_of-self-then-self-place-eq0 g c =
    let at = c.place-place.ensures in
    rw (at, c.len.ensures) (worklist_push g.N.Node.same g.met.N.Node.tells g.N.Node.place g.N.Node.inside g.met.N.Node.own g.met.N.Node.marked c.self.inside.marks.now c.self.inside.found c.self.inside.visited c.self.invariant
    c.args.node c.requires (ap (λ k. get_or c.self.inside.marks.now k 0) (sym at) ∙ c.if-self-place-eq0.true) c.push.new.self c.in_ok-push.ensures.1 c.in_ok-push.ensures.0)
