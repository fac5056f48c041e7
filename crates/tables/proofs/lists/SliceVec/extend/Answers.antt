use Rattle.tables.proofs.Yielding.{more_come, all_come, none_appended}
use Rattle.tables.proofs.lists.SliceVec.extend.Goals as goal

pub returns-in_err-push-clause-appends : goal.returns-in_err-push-clause-appends
returns-in_err-push-clause-appends g c all yields =
    none_appended all c.loop-item.yielded c.args.self.now c.loop-item.self _ _ c.from_residual.ensures.0 c.loop-item.invariant.appended c.in_err-push.ensures
    (more_come g.I.Iterator.next_gives c.args.items all yields _ c.into_iter-item-iterator.ensures.into_iter_gives _ _ c.loop-item.yielded_by _ _ c.next.ensures.steps c.in-Some.item c.in-Some.is)

pub returns-clause-appends : goal.returns-clause-appends
returns-clause-appends g c all yields =
    rw (all_come g.I.Iterator.next_gives c.args.items all yields _ c.into_iter-item-iterator.ensures.into_iter_gives _ _ c.loop-item.yielded_by _ _ c.next.ensures.steps c.in-None.is) at c.loop-item.invariant.appended
