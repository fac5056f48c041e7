use Rattle.std.proofs.Common.{[], ◌∷◌, ◌++◌, take, sym, ap, ◌∙◌, arith}
use Rattle.reduction.specs.Reducing.{moves_kept}
use Rattle.reduction.proofs.ClassPlaces.{move_kept, move_left}
use Rattle.reduction.proofs.PlacedMore.{placed_more}
use Rattle.reduction.proofs.classes.Classes.place_moves.Goals as goal
use Rattle.reduction.proofs.classes.Classes.place_moves.Goals.{then-contains, else-contains}

pub loop-line-preserved : goal.loop-line-preserved
loop-line-preserved g c =
    let s = c.args.self.now in
    let vs = c.args.moves.now in
    let i = c.loop-line.line-index in
    let v = c.line-item.result in
    let so_far = c.loop-line.invariant.0 in
    let xs = moves_kept s.marks.now s.kept.items (take i vs) in
    elim c.if-contains.branch [
      | then-contains w ↦
          let more = move_kept s.marks.now s.kept.items vs i v c.loop-line-test.true c.line-item.is (sym c.contains.ensures ∙ w.if-contains.true) in (
            placed_more xs c.args.table.now c.loop-line.table c.loop-line.count w.redirect.result (omega (arith, c.loop-line.invariant.1, c.requires)) so_far _ _ _
                (more ∙ ap (λ u. xs ++ (u ∷ [])) (sym w.redirect.ensures)) w.table-is w.count-is,
            omega (arith, w.count-is, c.loop-line.invariant.1),
          )
      | else-contains w ↦
          let same = move_left s.marks.now s.kept.items vs i v c.loop-line-test.true c.line-item.is (sym c.contains.ensures ∙ w.if-contains.false) in
          (rw (same, w.table-is, w.count-is) so_far, omega (arith, w.count-is, c.loop-line.invariant.1))
    ]
