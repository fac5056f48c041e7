use Rattle.std.proofs.Common.{length, sym, refl, ap, ◌∙◌, arith}
use Rattle.automata.proofs.KeptStates.{kept_few}
use Rattle.reduction.specs.Marks.{apart_by}
use Rattle.reduction.specs.Reducing.{kept_states, kept_with}
use Rattle.reduction.proofs.ClassPlaces.{kept_more, kept_none}
use Rattle.reduction.proofs.classes.Classes.new.Goals as goal

pub loop-state-init : goal.loop-state-init
loop-state-init c = (c.new.ensures ∙ ap (λ ks. record { items = ks; room = length c.args.buffer.now }) (sym (kept_none c.args.marks.now)), refl)

pub keep-requires : goal.keep-requires
keep-requires c =
    let kept = c.loop-state.invariant.0 in
    omega (arith, kept_few (apart_by c.args.marks.now) c.loop-state.state, ap (λ k. length k.items) kept, ap (λ k. k.room) kept, c.requires)

pub loop-state-preserved : goal.loop-state-preserved
loop-state-preserved c =
    let kept = c.loop-state.invariant.0 in
    let marks = c.loop-state.invariant.1 in (
      c.keep.ensures.kept ∙ ap (λ k. record { items = kept_with c.loop-state.classes.marks.now k.items c.loop-state.state; room = k.room }) kept
          ∙ ap (λ ks. record { items = ks; room = length c.args.buffer.now }) (ap (λ ms. kept_with ms (kept_states c.args.marks.now c.loop-state.state) c.loop-state.state) marks ∙ kept_more c.args.marks.now c.loop-state.state),
      ap (λ m. m.now) c.keep.ensures.marks ∙ marks,
    )
