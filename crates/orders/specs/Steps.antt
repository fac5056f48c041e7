-- One record's step: when it is refused, and what an accepted order makes of the hand, the rule and the clause's table.
use Rattle.std.specs.Prelude.{◌≡◌, ℕ, List, [], Some, None, Ok, Err, Option, Result}
use Rattle.guards.specs.declared.flags.FlagRow.{FlagRow}
use Rattle.guards.specs.declared.minutes.MinuteRow.{MinuteRow}
use Rattle.guards.specs.declared.pair.Both.{Both}
use Rattle.machines.specs.Calls.{Opened, Added, Marked, Written, Turned, adding_refused, marking_refused, writing_refused}
use Rattle.automata.specs.Refusals.{Told, tell, told}
use Rattle.machines.specs.declared.clauses.OpenClause.{OpenClause}
use Rattle.machines.specs.declared.clauses.Rule.{Rule}
use Rattle.automata.specs.declared.moves.Move.{Move}
use Rattle.automata.specs.declared.refusals.Refusal.{Refusal}
use Rattle.automata.specs.declared.refusals.Refused.{Refused}
use Rattle.orders.specs.Records.{Answer, numbers_checked}
use Rattle.orders.specs.declared.hand.Hand.{Hand}
use Rattle.orders.specs.declared.hand.Hand.TheVariants.{Nothing, Open as OpenHand, Checked as CheckedHand}
use Rattle.orders.specs.declared.order.Order.{Order}
use Rattle.orders.specs.declared.steps.Reader.{Reader}
use Rattle.orders.specs.declared.order.Order.TheVariants.{Open, Add, Mark, Write, Check, Join, Turn, Discard}

-- why there is a refusal, if there is one
abbrev pub Why : Type 0
Why = Option (Told (Both ℕ ℕ))

abbrev pub ActivityMove : Type 0
ActivityMove = Move (Both FlagRow MinuteRow)

-- what a call answers on a moved value
abbrev pub Called : Type 0 → Type 0
Called T = Result T (Refused T (Both ℕ ℕ))

-- the sheet that the reader works on: the hand, the rule and the clause's table
pub record Sheet : Type 0 where
  pub hand : Hand
  pub rule : Rule
  pub table : List ActivityMove

abbrev pub sheet : Hand → Rule → List ActivityMove → Sheet
sheet hand rule table = record { hand = hand; rule = rule; table = table }

-- ---- what the hand and the rule are after a call

-- the rule beside the hand
abbrev pub with_rule : Called Hand → Rule → Called Reader
with_rule (Ok hand) rule = Ok (record { hand = hand; rule = rule })
with_rule (Err back) rule = Err (record { value = record { hand = back.value; rule = rule }; why = back.why })

-- ---- when an order is refused

abbrev pub out_of_place : Why
out_of_place = Some (tell 12 [])

-- an order that needs nothing in hand
abbrev pub needs_nothing : Hand → Why
needs_nothing Nothing = None
needs_nothing (OpenHand c) = out_of_place
needs_nothing (CheckedHand c) = out_of_place

-- an order that needs a clause of either kind
abbrev pub needs_clause : Hand → Why
needs_clause Nothing = out_of_place
needs_clause (OpenHand c) = None
needs_clause (CheckedHand c) = None

-- an order that needs an open clause: with one in hand, what comes after this test decides
abbrev pub needs_open : (OpenClause → Why) → Hand → Why
needs_open later Nothing = out_of_place
needs_open later (OpenHand c) = later c
needs_open later (CheckedHand c) = out_of_place

-- an answer that gives no order is refused; with an order, what comes after decides
abbrev pub needs_order : (Order → Why) → Answer → Why
needs_order later (Ok order) = later order
needs_order later (Err why) = Some (told why)

-- a move's numbers are tested before the clause and its table
abbrev pub writing_why : ActivityMove → List ActivityMove → OpenClause → Why
writing_why line table c = needs_order (λ order. writing_refused c table line) (numbers_checked (Write line))

-- why an order is refused with that hand: the hand is tested first
abbrev pub order_why : Hand → List ActivityMove → Order → Why
order_why hand table Open = needs_nothing hand
order_why hand table Add = needs_open adding_refused hand
order_why hand table (Mark state) = needs_open (λ c. marking_refused c state) hand
order_why hand table (Write line) = needs_open (writing_why line table) hand
order_why hand table Check = out_of_place
order_why hand table (Join way) = out_of_place
order_why hand table Turn = None
order_why hand table Discard = needs_clause hand

-- ---- what an accepted order makes

-- an open clause like that is in hand
abbrev pub HoldsOpen : (OpenClause → Type 0) → Hand → Type 0
HoldsOpen P Nothing = ⊥
HoldsOpen P (OpenHand c) = P c
HoldsOpen P (CheckedHand c) = ⊥

-- an open clause in hand becomes another
abbrev pub OpenTo : (OpenClause → OpenClause → Type 0) → Hand → Hand → Type 0
OpenTo R before after = HoldsOpen (λ c. HoldsOpen (R c) after) before

-- one state more
abbrev pub AddedTo : OpenClause → OpenClause → Type 0
AddedTo c d = Added c (d, c.counts.states)

abbrev pub Applied : Order → Sheet → Sheet → Type 0
Applied Open s t = HoldsOpen Opened t.hand × (t.rule ≡ s.rule) × (t.table ≡ s.table)
Applied Add s t = OpenTo AddedTo s.hand t.hand × (t.rule ≡ s.rule) × (t.table ≡ s.table)
Applied (Mark state) s t = OpenTo (λ c. Marked c state) s.hand t.hand × (t.rule ≡ s.rule) × (t.table ≡ s.table)
Applied (Write line) s t = OpenTo (λ c d. Written c s.table line d t.table) s.hand t.hand × (t.rule ≡ s.rule)
Applied Check s t = ⊥
Applied (Join way) s t = ⊥
Applied Turn s t = (t.hand ≡ s.hand) × Turned s.rule t.rule × (t.table ≡ s.table)
Applied Discard s t = (t.hand ≡ Nothing) × (t.rule ≡ s.rule) × (t.table ≡ s.table)

-- ---- the step

abbrev pub AppliedAnswer : Answer → Sheet → Sheet → Type 0
AppliedAnswer (Ok order) s t = Applied order s t
AppliedAnswer (Err why) s t = ⊥

-- why a record is refused, by what it is decoded to
abbrev pub record_why : Sheet → Answer → Why
record_why s answer = needs_order (order_why s.hand s.table) answer

-- a record is refused and the sheet is as it was, or its order is applied
abbrev pub Step : Answer → Sheet → Option (Refusal (Both ℕ ℕ)) → Sheet → Type 0
Step answer s (Some why) t = (record_why s answer ≡ Some (told why)) × (t ≡ s)
Step answer s None t = (record_why s answer ≡ None) × AppliedAnswer answer s t

-- so it is with the reader before the record, and the one that goes on or is handed back
abbrev pub Steps : Answer → Reader → List ActivityMove → List ActivityMove → Called Reader → Type 0
Steps answer reader before after (Ok next) = Step answer (sheet reader.hand reader.rule before) None (sheet next.hand next.rule after)
Steps answer reader before after (Err back) = Step answer (sheet reader.hand reader.rule before) (Some back.why) (sheet back.value.hand back.value.rule after)
