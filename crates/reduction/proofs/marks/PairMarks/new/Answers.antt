use Rattle.std.proofs.Common.{◌≡◌, ◌/◌, ◌%◌, ◌≢◌, ◌<◌, ◌++◌, Bool, true, false, not, length, get_or, drop, Some, None, cond, refl, ap, ◌∙◌, ap₂, arith, get_or-set_other, get_or-set_same, below_more}
use Rattle.std.specs.Bool.{beq}
use Rattle.std.specs.Int.{from_bool}
use Rattle.std.proofs.lemmas.Bool.{and_from, cond-true, lt-ltb}
use Rattle.std.proofs.lemmas.List.{get_or_append_left, length-take-le}
use Rattle.std.proofs.lemmas.Nat.{mul-add-lt, div-mul-add, mod-mul-add}
use Rattle.automata.specs.Limits.{most_states}
use Rattle.automata.specs.Rounds.{differ}
use Rattle.tables.specs.Endings.{holds}
use Rattle.tables.specs.Nodes.{pair_place}
use Rattle.reduction.specs.Marks.{first_round, marked_round}
use Rattle.reduction.proofs.marks.PairMarks.new.Goals as goal

first_mark : (a b : Bool) → marked_round (from_bool (not (beq a b))) ≡ cond (differ a b) (Some 0) None
first_mark true true = refl
first_mark true false = refl
first_mark false true = refl
first_mark false false = refl

pub loop-place-preserved : goal.loop-place-preserved
loop-place-preserved c =
    below_more _ _
    (λ k h. let ne : k ≢ c.loop-place.place = omega arith in rw get_or-set_other (c.loop-place.invariant k h))
    (let lt : c.loop-place.place < length c.loop-place.mark-items = omega arith in
    rw (get_or-set_same, c.from.ensures, c.contains.ensures, c.contains-in-loop-place.ensures) (first_mark (holds c.args.endings (c.loop-place.place / most_states)) (holds c.args.endings (c.loop-place.place % most_states))))

pub returns : goal.returns
returns c p q small fits =
    let inside = mul-add-lt p most_states q most_states small fits in
    cond-true _ (marked_round (get_or (c.loop-place.mark-items ++ drop 4096 c.args.bytes.now) (pair_place p q) 0)) None (and_from _ _ (lt-ltb p most_states small) (lt-ltb q most_states fits))
    ∙ ap marked_round (get_or_append_left c.loop-place.mark-items (drop 4096 c.args.bytes.now) 0 (pair_place p q) (omega (arith, inside, length-take-le 4096 c.args.bytes.now c.requires)))
    ∙ c.loop-place.invariant (pair_place p q) (omega (arith, inside, length-take-le 4096 c.args.bytes.now c.requires))
    ∙ ap₂ (first_round (holds c.args.endings)) (div-mul-add p most_states q fits) (mod-mul-add p most_states q fits)
