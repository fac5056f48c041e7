-- What is left of the bits gives the answer.
use Rattle.std.proofs.Common.{◌≡◌, drop}
use Rattle.std.specs.List.{slice_get}
use Rattle.guards.specs.Flags.{split, weights, pattern_row}
use Rattle.guards.proofs.flags.FlagPattern.split.Given as goal

abbrev pub invariant-loop-weight : goal.invariant-loop-weight
invariant-loop-weight l =
    slice_get (split (pattern_row l.fn.self) (pattern_row l.other) l.grown (drop l.weight-index weights)) l.left
    ≡ slice_get (split (pattern_row l.fn.self) (pattern_row l.other) (pattern_row l.fn.self) weights) l.number
