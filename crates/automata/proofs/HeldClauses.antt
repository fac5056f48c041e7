-- The clause in hand: one that is written is in range, and a checked one is proper and accepts the draft's days.
use Rattle.std.proofs.Common.{◌≡◌, ℕ, ◌<◌, List, [], ◌∷◌, ◌++◌, Some, None, Decides, Option, sym, subst, inl, inr, arith}
use Rattle.std.proofs.lemmas.Bool.{false≢true, or_cases, eqb-true}
use Rattle.std.proofs.lemmas.Bool.Decides.{Decides-like}
use Rattle.guards.specs.Algebra.{Model, Laws}
use Rattle.guards.specs.Lists.{Member}
use Rattle.automata.specs.Automaton.{accepted}
use Rattle.automata.specs.Book.{InDraft}
use Rattle.automata.specs.Checking.{checked}
use Rattle.automata.specs.Clashes.{lowest_clash}
use Rattle.automata.specs.Machine.{Machine, Day, InRange, Proper}
use Rattle.automata.specs.Running.{automaton}
use Rattle.automata.specs.Sheet.{InHand, nothing, open_clause, checked_clause}
use Rattle.automata.specs.Writing.{blank, with_state, with_ending, with_move}
use Rattle.automata.specs.declared.moves.Move.{Move}
use Rattle.automata.proofs.Checked.{checked_means}
use Rattle.automata.proofs.LowestClash.{no_clash_deterministic}
use Rattle.automata.proofs.MachineRuns.{automaton_accepts}
use Rattle.automata.proofs.Members.{member_cases}

-- the hand holds what the draft says
abbrev pub Held : {E G : Type 0} → Model E G → Option (Machine G) → InHand G → Type 0
Held alg draft nothing = draft ≡ None
Held alg draft (open_clause M) = (draft ≡ Some M) × InRange alg M
Held {E} alg draft (checked_clause N) = Proper alg N × ((w : List E) → Day alg w → Decides (accepted (automaton alg N) 0 w) (InDraft alg draft w))

module _ {E G : Type 0} (alg : Model E G) where
  pub blank_in : InRange alg blank
  blank_in = record { some = omega arith; endings_in = λ q t. absurd (false≢true t); from_in = λ v m. absurd m; to_in = λ v m. absurd m }

  pub with_state_in : (M : Machine G) → InRange alg M → InRange alg (with_state M)
  with_state_in M r = record {
    some = omega arith;
    endings_in = λ q t. omega (arith, r.endings_in q t);
    from_in = λ v m. omega (arith, r.from_in v m);
    to_in = λ v m. omega (arith, r.to_in v m);
  }

  pub with_ending_in : (q : ℕ) (M : Machine G) → q < M.count → InRange alg M → InRange alg (with_ending q M)
  with_ending_in q M h r = record {
    some = r.some;
    endings_in = λ p t. elim (or_cases (M.endings p) _ t) [ inl was ↦ r.endings_in p was | inr new ↦ omega (arith, eqb-true p q new) ];
    from_in = r.from_in;
    to_in = r.to_in;
  }

  pub with_move_in : (v : Move G) (M : Machine G) → (v.from < M.count) × (v.to < M.count) → InRange alg M → InRange alg (with_move v M)
  with_move_in v M h r = record {
    some = r.some;
    endings_in = r.endings_in;
    from_in = λ u m. (within u m).0;
    to_in = λ u m. (within u m).1;
  }
    where
      within : (u : Move G) → Member u (M.moves ++ (v ∷ [])) → (u.from < M.count) × (u.to < M.count)
      within u m = elim (member_cases u M.moves (v ∷ []) m) [
        | inl was ↦ (r.from_in u was, r.to_in u was)
        | inr new ↦ elim new [ inl is ↦ subst (λ (x : Move G). (x.from < M.count) × (x.to < M.count)) is h | inr z ↦ absurd z ]
      ]

  -- a clause without clashes, checked
  pub checked_held : Laws alg → (draft : Option (Machine G)) (M : Machine G) → Held alg draft (open_clause M) → lowest_clash alg M.moves ≡ None → Held alg draft (checked_clause (checked alg M))
  checked_held laws draft M h none =
      let means = checked_means alg laws M h.1 (no_clash_deterministic alg laws M none) in (
        means.proper,
        λ w d. subst (λ (o : Option (Machine G)). Decides (accepted (automaton alg (checked alg M)) 0 w) (InDraft alg o w)) (sym h.0)
            (Decides-like _ (means.keeps w d).1 (means.keeps w d).0 (automaton_accepts alg laws (checked alg M) means.proper 0 w means.proper.in_range.some d)),
      )
