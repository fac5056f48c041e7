use Rattle.std.proofs.Common.{◌≡◌, not, get_or, Some, sym, ap, ◌∙◌}
use Rattle.std.specs.List.{slice_get}
use Rattle.std.proofs.lemmas.List.Elements.{All-get_or}
use Rattle.guards.specs.Bits.{has}
use Rattle.guards.specs.Flags.{fixed, fresh, split, weights, pattern_row}
use Rattle.guards.proofs.FlagParts.{part_here, part_later, part_stale, part_none}
use Rattle.guards.proofs.flags.FlagPattern.split.Goals as goal
use Rattle.guards.proofs.flags.FlagPattern.split.Goals.{then-has_bit+else-left-eq0, else-has_bit}

pub loop-weight-init : goal.loop-weight-init
loop-weight-init c = ap (λ g. slice_get (split (pattern_row c.args.self) (pattern_row c.args.other) g weights) c.args.number) c.from-grown.ensures

pub returns-then-left-eq0 : goal.returns-then-left-eq0
returns-then-left-eq0 c =
    let a = pattern_row c.args.self in
    let b = pattern_row c.args.other in
    let here = All-get_or (λ w. has c.fresh_bits-fresh.result w ≡ fresh a b w) weights c.loop-weight.weight-index 0 c.loop-weight-test.true c.fresh_bits-fresh.ensures in
    ap Some (c.fix.ensures ∙ ap (λ t. fixed c.loop-weight.grown (get_or weights c.loop-weight.weight-index 0) (not t)) c.has_bit-on.ensures)
    ∙ part_here a b c.loop-weight.grown weights c.loop-weight.weight-index c.loop-weight-test.true _ _ c.loop-weight.invariant
    (sym here ∙ sym c.has_bit.ensures ∙ c.if-has_bit.true) c.if-left-eq0.true

pub loop-weight-preserved : goal.loop-weight-preserved
loop-weight-preserved c =
    let a = pattern_row c.args.self in
    let b = pattern_row c.args.other in
    let here = All-get_or (λ w. has c.fresh_bits-fresh.result w ≡ fresh a b w) weights c.loop-weight.weight-index 0 c.loop-weight-test.true c.fresh_bits-fresh.ensures in
    elim c.if-has_bit.branch [
      | then-has_bit+else-left-eq0 w ↦
          rw (w.grown-is, w.left-is, w.fix-grown.ensures, w.has_bit-on.ensures)
          (part_later a b c.loop-weight.grown weights c.loop-weight.weight-index c.loop-weight-test.true _ _ c.loop-weight.invariant
          (sym here ∙ sym c.has_bit.ensures ∙ w.if-has_bit.true) w.if-left-eq0.false)
      | else-has_bit w ↦
          rw (w.grown-is, w.left-is)
          (part_stale a b c.loop-weight.grown weights c.loop-weight.weight-index c.loop-weight-test.true _ _ c.loop-weight.invariant
          (sym here ∙ sym c.has_bit.ensures ∙ w.if-has_bit.false))
    ]

pub returns : goal.returns
returns c = part_none (pattern_row c.args.self) (pattern_row c.args.other) c.loop-weight.grown weights c.loop-weight.weight-index _ _ c.loop-weight-test.false c.loop-weight.invariant
