-- What it says that a call on a sheet was accepted: no test refused, and the hand was the one that the call takes.
use Rattle.std.proofs.Common.{◌≡◌, ℕ, ◌<◌, ◌≤◌, Bool, true, false, not, ◌||◌, ltb, leb, [], ◌∷◌, length, is_some, Some, None, Ok, Err, Option, Result, refl, ap, arith}
use Rattle.std.proofs.lemmas.Bool.{true≢false, leb-false, ltb-false}
use Rattle.guards.specs.Algebra.{Model}
use Rattle.std.specs.List.{list_any}
use Rattle.automata.specs.Checking.{check_fits}
use Rattle.automata.specs.Clashes.{lowest_clash}
use Rattle.automata.specs.Faults.{refuse_if, clash_why, machine_why, join_why}
use Rattle.automata.specs.Limits.{most_states, most_moves}
use Rattle.automata.specs.Machine.{Machine}
use Rattle.automata.specs.Product.{pairs, product}
use Rattle.automata.specs.Refusals.{Told, tell}
use Rattle.automata.specs.Running.{stray}
use Rattle.automata.specs.Sheet.{InHand, nothing, open_clause, checked_clause, made_unless, of_nothing, of_open, of_checked, of_clause}
use Rattle.automata.specs.Writing.{ending_why, move_why}
use Rattle.automata.specs.declared.joins.JoinBy.{JoinBy}
use Rattle.automata.specs.declared.moves.Move.{Move}

never_ok : {X Y : Type 0} (x : X) (y : Y) → ◌≡◌ {A = Result X Y} (Err y) (Ok x) → ⊥
never_ok x y e = let z : ◌≡◌ {A = ℕ} 0 1 = cc in omega arith

pub ok_same : {X Y : Type 0} (x y : X) → ◌≡◌ {A = Result X Y} (Ok x) (Ok y) → x ≡ y
ok_same x y e = cc

module _ {E X : Type 0} where
  pub made_ok : (why : Option (Told E)) (x y : X) → made_unless why x ≡ Ok y → (why ≡ None) × (x ≡ y)
  made_ok None x y e = (refl, ok_same {Y = Told E} x y e)
  made_ok (Some t) x y e = absurd (never_ok y t e)

  pub of_nothing_ok : {G : Type 0} (h : InHand G) (r : Result X (Told E)) (x : X) → of_nothing h r ≡ Ok x → r ≡ Ok x
  of_nothing_ok nothing r x e = e
  of_nothing_ok (open_clause M) r x e = absurd (never_ok x (tell 12 []) e)
  of_nothing_ok (checked_clause N) r x e = absurd (never_ok x (tell 12 []) e)

  pub of_open_ok : {G : Type 0} (h : InHand G) (f : Machine G → Result X (Told E)) (x : X) → of_open h f ≡ Ok x → (M : Machine G) × (h ≡ open_clause M) × (f M ≡ Ok x)
  of_open_ok nothing f x e = absurd (never_ok x (tell 12 []) e)
  of_open_ok (open_clause M) f x e = (M, refl, e)
  of_open_ok (checked_clause N) f x e = absurd (never_ok x (tell 12 []) e)

  pub of_checked_ok : {G : Type 0} (h : InHand G) (f : Machine G → Result X (Told E)) (x : X) → of_checked h f ≡ Ok x → (N : Machine G) × (h ≡ checked_clause N) × (f N ≡ Ok x)
  of_checked_ok nothing f x e = absurd (never_ok x (tell 12 []) e)
  of_checked_ok (open_clause M) f x e = absurd (never_ok x (tell 12 []) e)
  of_checked_ok (checked_clause N) f x e = (N, refl, e)

  pub of_clause_ok : {G : Type 0} (h : InHand G) (r : Result X (Told E)) (x : X) → of_clause h r ≡ Ok x → r ≡ Ok x
  of_clause_ok nothing r x e = absurd (never_ok x (tell 12 []) e)
  of_clause_ok (open_clause M) r x e = e
  of_clause_ok (checked_clause N) r x e = e

-- no test refuses
passed : {E : Type 0} (test : Bool) (why : Told E) (later : Option (Told E)) → refuse_if test why later ≡ None → (test ≡ false) × (later ≡ None)
passed true why later e = absurd (true≢false (ap is_some e))
passed false why later e = (refl, e)

no_clash : {E : Type 0} (clashes : Option (ℕ × ℕ × E)) (later : Option (Told E)) → clash_why clashes later ≡ None → clashes ≡ None
no_clash None later e = refl
no_clash (Some c) later e = absurd (true≢false (ap is_some e))

module _ {E G : Type 0} where
  pub ending_passed : (q : ℕ) (M : Machine G) → ending_why {E = E} q M ≡ None → q < M.count
  ending_passed q M e = leb-false M.count q (passed {E = E} (leb M.count q) (tell 3 (q ∷ [])) None e).0

  pub move_passed : (v : Move G) (M : Machine G) → move_why {E = E} v M ≡ None → (v.from < M.count) × (v.to < M.count)
  move_passed v M e =
      let full : Option (Told E) = refuse_if (leb most_moves (length M.moves)) (tell 4 []) None in
      let a = passed (leb M.count v.from) (tell 3 (v.from ∷ [])) (refuse_if (leb M.count v.to) (tell 3 (v.to ∷ [])) full) e in
      let b = passed (leb M.count v.to) (tell 3 (v.to ∷ [])) full a.1 in
      (leb-false M.count v.from a.0, leb-false M.count v.to b.0)

module _ {E G : Type 0} (alg : Model E G) where
  pub machine_passed : (M : Machine G) → machine_why alg M ≡ None → (list_any (stray M.count) M.moves ≡ false) × (lowest_clash alg M.moves ≡ None)
  machine_passed M e =
      let room : Option (Told E) = refuse_if (not (check_fits alg M)) (tell 6 []) None in
      let a = passed (list_any (stray M.count) M.moves) (tell 8 []) (clash_why (lowest_clash alg M.moves) room) e in
      (a.0, no_clash (lowest_clash alg M.moves) room a.1)

  pub join_passed : (R N : Machine G) (way : JoinBy) → join_why alg R N way ≡ None → length (pairs alg R N) ≤ most_states
  join_passed R N way e =
      let large : Option (Told E) = refuse_if (ltb most_moves (length (product alg R N way).moves)) (tell 6 []) None in
      let many : Option (Told E) = refuse_if (ltb most_states (length (pairs alg R N))) (tell 7 []) large in
      let a = passed (list_any (stray R.count) R.moves || list_any (stray N.count) N.moves) (tell 8 []) many e in
      ltb-false most_states (length (pairs alg R N)) (passed (ltb most_states (length (pairs alg R N))) (tell 7 []) large a.1).0
