-- The call of checking: when it refuses, what it makes, and what that means.
use Rattle.std.specs.Prelude.{◌≡◌, ℕ, false, cond, not, ◌&&◌, List, [], length, drop, count_by, Some, None, Option, Result, MatchResult}
use Rattle.guards.specs.Algebra.{Model}
use Rattle.std.specs.List.{list_any}
use Rattle.automata.specs.Faults.{refuse_if, machine_why}
use Rattle.automata.specs.Checking.{live, successors, order, rest, checked, CheckMeaning}
use Rattle.automata.specs.Clashes.{lowest_clash, Lowest}
use Rattle.automata.specs.Machine.{Machine}
use Rattle.automata.specs.Limits.{most_states}
use Rattle.automata.specs.Refusals.{Told, tell, told}
use Rattle.automata.specs.Running.{stray}
use Rattle.automata.specs.Search.{Searched}
use Rattle.tables.specs.Values.{Within, machine}
use Rattle.tables.specs.declared.counts.Counts.{Counts}
use Rattle.tables.specs.declared.endings.Endings.{Endings}
use Rattle.machines.specs.declared.clauses.CheckedClause.{CheckedClause}
use Rattle.machines.specs.declared.clauses.OpenClause.{OpenClause}
use Rattle.automata.specs.declared.moves.Move.{Move}
use Rattle.automata.specs.declared.refusals.Refusal.{Refusal}
use Rattle.machines.specs.Sizes.{is_short}

module _ {E G : Type 0} (alg : Model E G) where
  -- the clause as written, with its table
  abbrev pub written : OpenClause → List (Move G) → Machine G
  written c table = machine c.counts c.endings table

  -- why a check is refused: a size is too small, or else the clause decides
  abbrev pub check_why : OpenClause → List (Move G) → List (ℕ × ℕ) → Option (Told E)
  check_why c table sizes = refuse_if (is_short sizes) (tell 1 []) (machine_why alg (written c table))

  -- the counts and endings of the checked clause, whose moves are written from place 0, and the rest of the table as it was; or the refusal, and the table as it was
  abbrev pub Rewritten : OpenClause → List (Move G) → List (ℕ × ℕ) → List (Move G) → Result (Counts × Endings) (Refusal E) → Type 0
  Rewritten c before sizes after r =
      MatchResult r
      (λ d. (check_why c before sizes ≡ None) × (machine d.0 d.1 after ≡ checked alg (written c before)) × Within most_states d.0 d.1 × (drop d.0.moves after ≡ drop d.0.moves before))
      (λ why. (check_why c before sizes ≡ Some (told why)) × (after ≡ before))

  -- the checked clause with its table is what the definition makes of the written one; places past its moves are as they were
  pub record CheckedAs (c : OpenClause) (before : List (Move G)) (d : CheckedClause) (after : List (Move G)) : Type 0 where
    pub is : machine d.counts d.endings after ≡ checked alg (written c before)
    pub moves : d.counts.moves ≡ length (checked alg (written c before)).moves
    pub tail : drop d.counts.moves after ≡ drop d.counts.moves before
    pub meaning : CheckMeaning alg (written c before) (machine d.counts d.endings after)

  -- what the definitions that a check goes by mean, for the clause as written
  pub record CheckLaws (M : Machine G) : Type 0 where
    -- no two moves clash, or the clash that is named is the lowest
    pub lowest : Lowest alg M.moves (lowest_clash alg M.moves)
    -- where no move strays, the order has each state that is reached from the start once, and no other
    pub order_of : list_any (stray M.count) M.moves ≡ false → Searched (successors alg M) 0 (order alg M)
    -- an entry of the domain that no live move of p admits is admitted by just one guard of the rest of p, and any other by none
    pub rests : (p : ℕ) (e : E) → count_by (λ g. alg.admits g e) (rest alg M p) ≡ cond (alg.domain e && not (list_any (λ v. alg.admits v.guard e) (live alg M p))) 1 0
