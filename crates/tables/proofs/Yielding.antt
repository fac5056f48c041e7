-- What a loop has taken of an iterator that yields a list, and puts behind others.
use Rattle.std.proofs.Common.{◌≡◌, ◌<◌, ◌≤◌, ◌++◌, List, length, Some, None, Option, Result, sym, ap, ◌∙◌, subst, arith, length-append}
use Rattle.std.proofs.lemmas.Iterator.{YieldsList}
use Rattle.std.proofs.lemmas.Iterator.Consumers.{YieldsList-turn, YieldsList-end}
use Rattle.std.proofs.lemmas.List.{map-id}
use Rattle.std.proofs.lemmas.Result.{MatchResult-from_err}
use Rattle.std.specs.Iterator.{AlwaysYields, Yields}
use Rattle.std.specs.Result.{IsErr}
use Rattle.tables.specs.Lists.{Held, Appends}

module _ {S T : Type 0} (steps : S → Option T → S → Type 0) (items : S) (all : List T) (yields : AlwaysYields steps (λ x. x) items all) (s : S) (begins : s ≡ items)
    (xs : List T) (t : S) (taken : Yields steps s xs t) (r : Option T) (u : S) (step : steps t r u) where
  list : YieldsList steps (λ x. x) s all
  list = record { runs = subst (λ i. AlwaysYields steps (λ x. x) i all) (sym begins) yields }

  -- one more comes
  pub more_come : (x : T) → r ≡ Some x → length xs < length all
  more_come x is = (YieldsList-turn list xs t taken r u x is step).0

  -- all have come
  pub all_come : r ≡ None → xs ≡ all
  all_come is = sym (map-id xs) ∙ (YieldsList-end list xs t taken r u is step).0

-- where there is no room after the items taken, and more come, these have no room
pub none_appended : {T F : Type 0} (all taken : List T) (old before new : Held T) (r : Result (Unit {0}) F) → IsErr r → before ≡ record { items = old.items ++ taken; room = old.room }
    → (before.room ≤ length before.items) × (new ≡ before) → length taken < length all → Appends all old new r
none_appended all taken old before new r err at full more =
    MatchResult-from_err r _ _ err (λ _. (
      omega (arith, full.0, ap (λ h. h.room) at, ap (λ h. length h.items) at, length-append old.items taken, length-append old.items all),
      ap (λ h. h.room) (full.1 ∙ at),
    ))
