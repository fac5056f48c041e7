-- The call of checking: what its tests leave, and what the checked clause is.
use Rattle.std.proofs.Common.{◌≡◌, ℕ, ◌≤◌, Bool, true, false, not, List, [], length, drop, is_some, Some, None, Option, sym, refl, ap, ◌∙◌, subst, arith}
use mathlib.Core.Bool.{false≢true}
use Rattle.std.proofs.lemmas.List.{length-take-le}
use Rattle.guards.specs.Algebra.{Model, Laws}
use Rattle.std.specs.List.{list_any}
use Rattle.automata.specs.Faults.{refuse_if, clash_why}
use Rattle.automata.specs.Checking.{live, checked, check_fits, CheckMeaning}
use Rattle.automata.specs.Clashes.{lowest_clash}
use Rattle.automata.specs.Limits.{most_states, most_moves}
use Rattle.automata.specs.Machine.{Machine, InRange}
use Rattle.automata.specs.Refusals.{tell}
use Rattle.automata.specs.Running.{stray}
use Rattle.automata.specs.declared.moves.Move.{Move}
use Rattle.automata.proofs.Checked.{checked_means}
use Rattle.automata.proofs.LiveMoves.{order_searched}
use Rattle.automata.proofs.LowestClash.{lowest_clash_is, no_clash_deterministic}
use Rattle.automata.proofs.RestMeanings.{rest_once}
use Rattle.automata.proofs.Strays.{in_range}
use Rattle.tables.specs.Values.{Within, machine}
use Rattle.tables.specs.declared.counts.Counts.{Counts}
use Rattle.tables.specs.declared.endings.Endings.{Endings}
use Rattle.machines.specs.CheckCall.{written, check_why, CheckedAs, CheckLaws}
use Rattle.machines.specs.Sizes.{is_short}
use Rattle.machines.specs.declared.clauses.CheckedClause.{CheckedClause}
use Rattle.machines.specs.declared.clauses.OpenClause.{OpenClause}

-- no test refuses, just where each passes
all_passed : {E : Type 0} (short strays fits : Bool) (clashes : Option (ℕ × ℕ × E)) →
    refuse_if short (tell 1 []) (refuse_if strays (tell 8 []) (clash_why clashes (refuse_if (not fits) (tell 6 []) None))) ≡ None →
    (short ≡ false) × (strays ≡ false) × (clashes ≡ None)
all_passed true strays fits clashes h = absurd (false≢true (sym (ap is_some h)))
all_passed false true fits clashes h = absurd (false≢true (sym (ap is_some h)))
all_passed false false fits (Some c) h = absurd (false≢true (sym (ap is_some h)))
all_passed false false fits None h = (refl, refl, refl)

module _ {E G : Type 0} (alg : Model E G) (laws : Laws alg) (c : OpenClause) (table : List (Move G)) (strays : list_any (stray c.counts.states) (written alg c table).moves ≡ false) (clashes : lowest_clash alg (written alg c table).moves ≡ None) where
  meant : CheckMeaning alg (written alg c table) (checked alg (written alg c table))
  meant = checked_means alg laws (written alg c table) (in_range alg (written alg c table) c.within.0 c.within.3 strays) (no_clash_deterministic alg laws (written alg c table) clashes)

  -- what is written has states and endings as a checked clause has them
  pub checked_within : (counts : Counts) (endings : Endings) (after : List (Move G)) → machine counts endings after ≡ checked alg (written alg c table) → counts.states ≤ most_states → counts.moves ≤ most_moves →
      Within most_states counts endings
  checked_within counts endings after made few room =
      let r : InRange alg (machine counts endings after) = subst (InRange alg) (sym made) meant.proper.in_range in
      (r.some, few, room, r.endings_in)

  -- what is written means what it should
  pub checked_as : (d : CheckedClause) (after : List (Move G)) → machine d.counts d.endings after ≡ checked alg (written alg c table) → d.counts.moves ≤ length after →
      drop d.counts.moves after ≡ drop d.counts.moves table → CheckedAs alg c table d after
  checked_as d after is le tail = record {
    is = is;
    moves = sym (length-take-le d.counts.moves after le) ∙ ap (λ N. length N.moves) is;
    tail = tail;
    meaning = subst (CheckMeaning alg (written alg c table)) (sym is) meant;
  }

module _ {E G : Type 0} (alg : Model E G) (c : OpenClause) (before : List (Move G)) (sizes : List (ℕ × ℕ)) where
  abbrev M : Machine G
  M = written alg c before

  module _ (laws : Laws alg) (none : check_why alg c before sizes ≡ None) where
    pub passed : (is_short sizes ≡ false) × (list_any (stray c.counts.states) M.moves ≡ false) × (lowest_clash alg M.moves ≡ None)
    passed = all_passed _ _ (check_fits alg M) _ none

    -- so where no test refuses
    pub rewritten_as : (d : CheckedClause) (after : List (Move G)) → machine d.counts d.endings after ≡ checked alg M → Within most_states d.counts d.endings → drop d.counts.moves after ≡ drop d.counts.moves before → most_moves ≤ length after →
        CheckedAs alg c before d after
    rewritten_as d after is within tail long = checked_as alg laws c before passed.1 passed.2 d after is (omega (arith, within.2, long)) tail

-- the definitions that a check goes by, for a clause as written
pub check_laws : {E G : Type 0} (alg : Model E G) (laws : Laws alg) (c : OpenClause) (table : List (Move G)) → CheckLaws alg (written alg c table)
check_laws alg laws c table =
    let M = written alg c table in
    record {
      lowest = lowest_clash_is alg M.moves;
      order_of = λ strays. order_searched alg laws M (in_range alg M c.within.0 c.within.3 strays);
      rests = λ p e. rest_once alg laws (live alg M p) e;
    }
