-- Telling apart shows a shortest day that just one of two states of a standing rule accepts.
use Rattle.std.proofs.Common.{◌≡◌, ℕ, ◌≤◌, Bool, true, false, cond, List, [], ◌∷◌, ◌++◌, length, take, drop, None, Ok, Err, Result, sym, refl, ap, ◌∙◌, subst, arith, length-append, MatchResult}
use mathlib.Core.Bool.{false≢true}
use Rattle.std.proofs.lemmas.List.{take_at}
use Rattle.std.proofs.lemmas.Bool.{le-ltb, lt-leb, or_from}
use Rattle.guards.specs.Algebra.{Model, Laws}
use Rattle.std.specs.List.{list_any}
use Rattle.automata.specs.Faults.{refuse_if}
use Rattle.automata.specs.Limits.{most_moves, most_word, mark_bytes}
use Rattle.automata.specs.Machine.{Machine}
use Rattle.automata.specs.Refusals.{Told, tell, said}
use Rattle.automata.specs.Running.{stray}
use Rattle.automata.specs.Telling.{word_of, Shortest}
use Rattle.automata.specs.declared.moves.Move.{Move}
use Rattle.automata.specs.declared.refusals.Refusal.{Refusal}
use Rattle.automata.proofs.Sheets.{rules_kept}
use Rattle.automata.proofs.Strays.{no_stray}
use Rattle.machines.specs.Promised.{ToldShortest}
use Rattle.machines.specs.Runs.{rule_machine}
use Rattle.reduction.specs.Words.{word_or, word_length, word_placed}
use Rattle.machines.specs.TellCall.{unless, told_apart}
use Rattle.machines.specs.Sizes.{is_short, tell_sizes}
use Rattle.machines.specs.declared.clauses.Rule.{Rule}

-- where every test passes, the word decides
tests_pass : {E : Type 0} (short strays low high : Bool) (p q : ℕ) (later : Result (List E) (Told E)) → short ≡ false → strays ≡ false → low ≡ false → high ≡ false →
    cond short (Err (tell 1 [])) (cond strays (Err (tell 8 [])) (unless (refuse_if low (tell 3 (p ∷ [])) (refuse_if high (tell 3 (q ∷ [])) None)) later)) ≡ later
tests_pass true strays low high p q later s t l h = absurd (false≢true (sym s))
tests_pass false true low high p q later s t l h = absurd (false≢true (sym t))
tests_pass false false true high p q later s t l h = absurd (false≢true (sym l))
tests_pass false false false true p q later s t l h = absurd (false≢true (sym h))
tests_pass false false false false p q later s t l h = refl

module _ {E G : Type 0} (alg : Model E G) (laws : Laws alg) (rule : Rule) (table : List (Move G)) (p q : ℕ) (before : List E) (marks : List ℕ) (after : List E) where
  abbrev R : Machine G
  R = rule_machine rule table

  shown : (w : List E) (r : Result ℕ (Refusal E)) → said r ≡ Ok (length w) → after ≡ w ++ drop (length w) before → Shortest alg R p q w → MatchResult r (λ n. (n ≤ length after) × Shortest alg R p q (take n after)) (λ _. ⊥)
  shown w (Ok n) is placed shortest =
      let same : n ≡ length w = cc in
      let front : take n after ≡ w = ap (λ k. take k after) same ∙ ap (take (length w)) placed ∙ take_at w (drop (length w) before) (length w) refl in
      (omega (arith, same, ap length placed, length-append w (drop (length w) before)), subst (Shortest alg R p q) (sym front) shortest)
  shown w (Err why) is placed shortest = let z : ◌≡◌ {A = ℕ} 0 1 = cc in omega arith

  pub told_shortest : (r : Result ℕ (Refusal E)) → said r ≡ word_length (told_apart alg R table p q before marks) → after ≡ word_placed (told_apart alg R table p q before marks) before → ToldShortest alg rule table p q before marks after r
  told_shortest r answer buffer fs hand comes other hp hq long room bytes =
      let kept = rules_kept alg laws fs (record { rule = R; hand = hand }) comes in
      let told = kept.told p q hp hq other in
      let w = told.0 in
      let is : told_apart alg R table p q before marks ≡ Ok w =
      tests_pass (is_short (tell_sizes (length table) (length before) (length marks))) (list_any (stray R.count) R.moves) _ _ p q (word_or (word_of alg R p q))
      (or_from _ _ (le-ltb (length table) most_moves long) (or_from _ _ (le-ltb (length before) most_word room) (or_from _ _ (le-ltb (length marks) mark_bytes bytes) refl)))
      (no_stray alg R kept.proper.in_range) (lt-leb R.count p hp) (lt-leb R.count q hq)
      ∙ ap word_or told.1 in
      shown w r (answer ∙ ap word_length is) (buffer ∙ ap (λ t. word_placed t before) is) told.2
