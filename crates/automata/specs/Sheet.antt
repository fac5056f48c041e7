-- A sheet: its rule and the clause in hand, what each call makes of it or why it refuses, and the sheets that come by calls.
use Rattle.std.specs.Prelude.{◌≡◌, ℕ, ◌⊎◌, List, [], ◌∷◌, Some, None, Ok, Err, Option, Result}
use Rattle.guards.specs.Algebra.{Model}
use Rattle.automata.specs.Checking.{checked}
use Rattle.automata.specs.Faults.{machine_why, join_why}
use Rattle.automata.specs.Machine.{Machine}
use Rattle.automata.specs.Product.{product}
use Rattle.automata.specs.Reduction.{reduced}
use Rattle.automata.specs.Refusals.{Told, tell}
use Rattle.automata.specs.Writing.{blank, with_state, with_ending, with_move, turned, new_rule, state_why, ending_why, move_why}
use Rattle.automata.specs.declared.joins.JoinBy.{JoinBy}
use Rattle.automata.specs.declared.moves.Move.{Move}

pub data Call (G : Type 0) : Type 0 where
  opening : Call G
  adding : Call G
  marking : ℕ → Call G
  writing : Move G → Call G
  checking : Call G
  joining : JoinBy → Call G
  discarding : Call G
  turning : Call G

-- a call that was accepted, or one that was refused with what the refusal tells
pub data Fed (E G : Type 0) : Type 0 where
  accepted_call : Call G → Fed E G
  refused_call : Call G → Told E → Fed E G

-- no clause, one that is written, or one that is checked
pub data InHand (G : Type 0) : Type 0 where
  nothing : InHand G
  open_clause : Machine G → InHand G
  checked_clause : Machine G → InHand G

pub record Sheet (G : Type 0) : Type 0 where
  pub rule : Machine G
  pub hand : InHand G

-- the refusal, or else what is made
abbrev pub made_unless : {E X : Type 0} → Option (Told E) → X → Result X (Told E)
made_unless None x = Ok x
made_unless (Some why) x = Err why

-- what is made of the hand; a hand that the call does not fit is out of place
module _ {E G X : Type 0} where
  abbrev pub of_nothing : InHand G → Result X (Told E) → Result X (Told E)
  of_nothing nothing r = r
  of_nothing (open_clause M) r = Err (tell 12 [])
  of_nothing (checked_clause N) r = Err (tell 12 [])

  abbrev pub of_open : InHand G → (Machine G → Result X (Told E)) → Result X (Told E)
  of_open nothing f = Err (tell 12 [])
  of_open (open_clause M) f = f M
  of_open (checked_clause N) f = Err (tell 12 [])

  abbrev pub of_checked : InHand G → (Machine G → Result X (Told E)) → Result X (Told E)
  of_checked nothing f = Err (tell 12 [])
  of_checked (open_clause M) f = Err (tell 12 [])
  of_checked (checked_clause N) f = f N

  abbrev pub of_clause : InHand G → Result X (Told E) → Result X (Told E)
  of_clause nothing r = Err (tell 12 [])
  of_clause (open_clause M) r = r
  of_clause (checked_clause N) r = r

module _ {E G : Type 0} (alg : Model E G) where
  abbrev pub new_sheet : Sheet G
  new_sheet = record { rule = new_rule alg; hand = nothing }

  -- what a call makes of the sheet, or what its refusal tells
  abbrev pub after : Sheet G → Call G → Result (Sheet G) (Told E)
  after s opening = of_nothing s.hand (Ok (record { rule = s.rule; hand = open_clause blank }))
  after s adding = of_open s.hand (λ M. made_unless (state_why M) (record { rule = s.rule; hand = open_clause (with_state M) }))
  after s (marking q) = of_open s.hand (λ M. made_unless (ending_why q M) (record { rule = s.rule; hand = open_clause (with_ending q M) }))
  after s (writing v) = of_open s.hand (λ M. made_unless (move_why v M) (record { rule = s.rule; hand = open_clause (with_move v M) }))
  after s checking = of_open s.hand (λ M. made_unless (machine_why alg M) (record { rule = s.rule; hand = checked_clause (checked alg M) }))
  after s (joining way) = of_checked s.hand (λ N. made_unless (join_why alg s.rule N way) (record { rule = reduced alg (product alg s.rule N way); hand = nothing }))
  after s discarding = of_clause s.hand (Ok (record { rule = s.rule; hand = nothing }))
  after s turning = Ok (record { rule = turned s.rule; hand = s.hand })

  -- a refusal is told truly: a table or buffer is short, of which the sheet knows nothing, or the sheet refuses the call
  abbrev pub Refuses : Sheet G → Call G → Told E → Type 0
  Refuses s c why = (why ≡ tell 1 []) ⊎ (after s c ≡ Err why)

  -- the sheet comes from a new one by these calls, the latest first; a refused call changes nothing
  abbrev pub Comes : List (Fed E G) → Sheet G → Type 0
  Comes [] s = new_sheet ≡ s
  Comes (accepted_call c ∷ fs) s = (r : Sheet G) × Comes fs r × (after r c ≡ Ok s)
  Comes (refused_call c why ∷ fs) s = Comes fs s × Refuses s c why
