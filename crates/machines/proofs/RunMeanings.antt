-- What running a day means on a proper machine.
use Rattle.std.proofs.Common.{◌≡◌, ℕ, ◌<◌, Bool, cond, ltb, List, [], length, Ok, Err, Decides, Result, ap, ◌∙◌, subst, arith, MatchResult}
use Rattle.std.proofs.lemmas.Bool.{cond-false, le-ltb}
use Rattle.guards.specs.Algebra.{Model, Laws}
use Rattle.std.specs.List.{list_any}
use Rattle.tables.specs.Endings.{holds}
use Rattle.automata.specs.Limits.{most_moves}
use Rattle.automata.specs.Machine.{Machine, LeadsTo, Accepts}
use Rattle.automata.specs.Refusals.{Told, tell, said}
use Rattle.automata.specs.Running.{next, walk, stray}
use Rattle.machines.specs.RunCall.{ended, ran, RunMeaning}
use Rattle.tables.specs.Values.{machine}
use Rattle.tables.specs.declared.counts.Counts.{Counts}
use Rattle.tables.specs.declared.endings.Endings.{Endings}
use Rattle.automata.specs.declared.moves.Move.{Move}
use Rattle.automata.specs.declared.refusals.Refusal.{Refusal}
use Rattle.automata.proofs.MachineRuns.{walk_day}
use Rattle.automata.proofs.Strays.{no_stray}

module _ {E G : Type 0} (alg : Model E G) (laws : Laws alg) (counts : Counts) (endings : Endings) (table : List (Move G)) (day : List E) where
  abbrev M : Machine G
  M = machine counts endings table

  pub ran_means : (r : Result (ℕ × Bool) (Refusal E)) → said r ≡ ran alg counts endings table day → RunMeaning alg counts endings table day r
  ran_means r is proper long d =
      let w = walk_day alg laws M proper 0 0 day proper.in_range.some d in
      let walked : Result (ℕ × Bool) (Told E) = ended endings (walk (next alg M.moves) 0 0 day) in
      let tested : Result (ℕ × Bool) (Told E) = cond (list_any (stray M.count) M.moves) (Err (tell 8 [])) walked in
      go w.0 w.2 w.3 w.5 r
      (is ∙ cond-false (ltb (length table) most_moves) (Err (tell 1 [])) tested (le-ltb (length table) most_moves long)
      ∙ cond-false (list_any (stray M.count) M.moves) (Err (tell 8 [])) walked (no_stray alg M proper.in_range) ∙ ap (ended endings) w.1)
    where
      Good : ℕ × Bool → Type 0
      Good p = LeadsTo alg M 0 day p.0 × (p.0 < counts.states) × Decides p.1 (Accepts alg M 0 day)

      go : (q : ℕ) → q < counts.states → LeadsTo alg M 0 day q → Decides (holds endings q) (Accepts alg M 0 day)
          → (r : Result (ℕ × Bool) (Refusal E)) → ◌≡◌ {A = Result (ℕ × Bool) (Told E)} (said r) (Ok (q, holds endings q)) → MatchResult r Good (λ _. ⊥)
      go q small leads decides (Ok p) e = let same : (q, holds endings q) ≡ p = cc in subst Good same (leads, small, decides)
      go q small leads decides (Err why) e = let z : ◌≡◌ {A = ℕ} 0 1 = cc in omega arith
