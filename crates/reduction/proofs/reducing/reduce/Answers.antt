use Rattle.std.proofs.Common.{false, map, length, get_or, ap, ◌∙◌, subst, arith}
use Rattle.automata.proofs.KeptStates.{kept_few}
use Rattle.tables.specs.Endings.{holds}
use Rattle.reduction.specs.Marks.{apart_by}
use Rattle.reduction.specs.Placed.{Placed}
use Rattle.reduction.specs.Reducing.{moves_kept}
use Rattle.reduction.proofs.ReducedTables.{reduced_as}
use Rattle.reduction.proofs.reducing.reduce.Goals as goal

pub reordered-requires : goal.reordered-requires
reordered-requires g c =
    omega (arith, ap length (c.as_slice.ensures ∙ c.new-classes.ensures.kept), kept_few (apart_by c.mark_rounds-rounds.result) c.args.product.now.states, c.args.product.now.few)

pub returns : goal.returns
returns g c =
    let classes = c.new-classes.result in
    let vs = c.args.product.now.moves.now in
    reduced_as (g.A.Algebra.model c.args.alg.now) c.args.product.now c.mark_rounds-rounds.result c.mark_rounds-rounds.ensures classes.kept.items c.new-classes.ensures.kept
    c.args.table.now c.place_moves.new.table _ c.len.ensures
    (λ k. c.reordered.ensures k ∙ ap (λ ks. get_or (map (holds c.args.product.now.endings) ks) k false) c.as_slice.ensures)
    (subst (λ ms. Placed (moves_kept ms classes.kept.items vs) c.args.table.now c.place_moves.new.table c.place_moves.result) c.new-classes.ensures.marks c.place_moves.ensures)
