use Rattle.std.proofs.Common.{◌≡◌, ◌||◌, cond, eqb, sym, ap, ◌∙◌}
use Rattle.tables.specs.Endings.{holds}
use Rattle.tables.proofs.EndingBits.{reordered_more}
use Rattle.tables.proofs.endings.Endings.places.Goals as goal
use Rattle.tables.proofs.endings.Endings.places.Goals.{then-test, else-test}

pub loop-place-preserved : goal.loop-place-preserved
loop-place-preserved g c k =
    let x = c.index-items-place.result in
    let was = holds c.loop-place.places k in
    let is : c.test.result ≡ g.passes x = c.requires.1.1.1.1 x c.test.result c.test.ensures in
    let more = reordered_more g.passes c.args.items.now x c.loop-place.place k c.loop-place-test.true was (c.loop-place.invariant k) x c.index-items-place.is in
    elim c.if-test.branch [
      | then-test w ↦ ap (λ p. holds p k) w.places-is ∙ w.insert-places.ensures k ∙ ap (λ t. cond t (was || eqb k c.loop-place.place) was) (sym w.if-test.true ∙ is) ∙ more
      | else-test w ↦ ap (λ p. holds p k) w.places-is ∙ ap (λ t. cond t (was || eqb k c.loop-place.place) was) (sym w.if-test.false ∙ is) ∙ more
    ]
