-- Rules that stand: the rule of a new sheet, one turned, and one with a clause joined are proper and reduced, and accept the days that they should.
use Rattle.std.proofs.Common.{◌≡◌, ℕ, ◌<◌, ◌≤◌, Bool, true, false, cond, not, ◌&&◌, eqb, List, [], ◌∷◌, length, Some, None, Decides, option_map, unwrap_or, sym, refl, ap, ◌∙◌, subst, inl, inr, arith}
use Rattle.std.proofs.lemmas.Bool.{true≢false, false≢true, and_parts, eq-eqb, eqb-true, lt-ltb, ltb-true}
use Rattle.std.proofs.lemmas.Bool.Decides.{Decides-at, Decides-not, Decides-and, Decides-or}
use Rattle.guards.specs.Algebra.{Model, Laws}
use Rattle.automata.specs.Automaton.{run, accepted, Reduced}
use Rattle.automata.specs.Book.{DayAfter}
use Rattle.automata.specs.Limits.{most_states}
use Rattle.automata.specs.Machine.{Machine, Day, Proper}
use Rattle.automata.specs.Product.{pairs, chosen, product}
use Rattle.automata.specs.Reduction.{reduced}
use Rattle.automata.specs.Running.{automaton}
use Rattle.automata.specs.Sheet.{joining}
use Rattle.automata.specs.Writing.{turned, new_rule}
use Rattle.automata.specs.declared.joins.JoinBy.{JoinBy}
use Rattle.automata.specs.declared.joins.JoinBy.TheVariants.{Both, Either, Except}
use Rattle.automata.specs.declared.moves.Move.{Move}
use Rattle.automata.proofs.Automata.{run_in}
use Rattle.automata.proofs.MachineRuns.{automaton_valid}
use Rattle.automata.proofs.Products.{product_proper, product_accepts, product_reaches}
use Rattle.automata.proofs.Reduced.{reduced_proper, reduced_days, reduced_few, reduced_reduced}

-- R accepts just the days of D, and no two of its states accept the same
pub record Stands {E G : Type 0} (alg : Model E G) (D : List E → Type 0) (R : Machine G) : Type 0 where
  pub proper : Proper alg R
  pub reduced : Reduced alg.domain (automaton alg R)
  pub few : R.count ≤ most_states
  pub days : (w : List E) → Day alg w → Decides (accepted (automaton alg R) 0 w) (D w)

not_same : (a b : Bool) → not a ≡ not b → a ≡ b
not_same true true e = refl
not_same true false e = absurd (false≢true e)
not_same false true e = absurd (true≢false e)
not_same false false e = refl

-- a way of joining tells of two tests what it tells of the days
pub chosen_decides : (G : Type 0) {D F : Type 0} (way : JoinBy) (a b : Bool) → Decides a D → Decides b F → Decides (chosen way a b) (DayAfter {G = G} (joining way) D F)
chosen_decides G Both a b d f = Decides-and a b d f
chosen_decides G Either a b d f = Decides-or a b d f
chosen_decides G Except a b d f = Decides-and a (not b) d (Decides-not b f)

module _ {E G : Type 0} (alg : Model E G) (laws : Laws alg) where
  new_proper : Proper alg (new_rule alg)
  new_proper = record {
    in_range = record {
      some = omega arith;
      endings_in = λ q t. omega (arith, eqb-true q 0 t);
      from_in = λ v m. elim m [ inl is ↦ subst (λ (u : Move G). u.from < 1) is (omega arith) | inr z ↦ absurd z ];
      to_in = λ v m. elim m [ inl is ↦ subst (λ (u : Move G). u.to < 1) is (omega arith) | inr z ↦ absurd z ];
    };
    complete = λ q e h d. (0, (record { from = 0; guard = alg.whole; to = 0 }, inl refl, omega arith, laws.whole_admits e ∙ d, refl));
    deterministic = λ u v mu mv from e both. elim mu [
      | inl is ↦ elim mv [ inl as_well ↦ ap (λ (x : Move G). x.to) (sym is ∙ as_well) | inr z ↦ absurd z ]
      | inr z ↦ absurd z
    ];
  }

  new_run : (w : List E) → run (automaton alg (new_rule alg)).next 0 w ≡ 0
  new_run [] = refl
  new_run (e ∷ w) = ap (λ q. run (automaton alg (new_rule alg)).next q w) (stays (eqb 0 0 && alg.admits alg.whole e)) ∙ new_run w
    where
      whole : Move G
      whole = record { from = 0; guard = alg.whole; to = 0 }

      stays : (b : Bool) → ◌≡◌ {A = ℕ} (unwrap_or (option_map (λ v. v.to) (cond b (Some whole) None)) 0) 0
      stays true = refl
      stays false = refl

  pub new_stands : Stands alg (λ w. Unit {0}) (new_rule alg)
  new_stands = record {
    proper = new_proper;
    reduced = record {
      valid = automaton_valid alg laws (new_rule alg) new_proper;
      reached = λ q h. ([], tt, omega arith);
      apart = λ p q hp hq other. absurd (other (omega arith));
    };
    few = omega arith;
    days = λ w d. (λ t. tt, λ t. eq-eqb (run (automaton alg (new_rule alg)).next 0 w) 0 (new_run w));
  }

  turned_proper : (R : Machine G) → Proper alg R → Proper alg (turned R)
  turned_proper R r = record {
    in_range = record {
      some = r.in_range.some;
      endings_in = λ q t. ltb-true q R.count (and_parts _ (not (R.endings q)) t).0;
      from_in = r.in_range.from_in;
      to_in = r.in_range.to_in;
    };
    complete = r.complete;
    deterministic = r.deterministic;
  }

  turned_accepts : (R : Machine G) → Proper alg R → (p : ℕ) → p < R.count → (w : List E) → Day alg w → accepted (automaton alg (turned R)) p w ≡ not (accepted (automaton alg R) p w)
  turned_accepts R r p h w d =
      let q = run (automaton alg R).next p w in
      ap (λ b. b && not (R.endings q)) (lt-ltb q R.count (run_in alg.domain (automaton alg R) (automaton_valid alg laws R r) p w h d))

  pub turned_stands : (D : List E → Type 0) (R : Machine G) → Stands alg D R → Stands alg (λ w. D w → ⊥) (turned R)
  turned_stands D R r =
      let tells = turned_accepts R r.proper in
      record {
        proper = turned_proper R r.proper;
        reduced = record {
          valid = automaton_valid alg laws (turned R) (turned_proper R r.proper);
          reached = r.reduced.reached;
          apart = λ p q hp hq other.
              let a = r.reduced.apart p q hp hq other in
              (a.0, a.1, λ e. a.2 (not_same _ _ (sym (tells p hp a.0 a.1) ∙ e ∙ tells q hq a.0 a.1)));
        };
        few = r.few;
        days = λ w d. Decides-at _ _ (tells 0 r.proper.in_range.some w d) (Decides-not _ (r.days w d));
      }

  -- the clause N accepts just the days of F, and there are no more pairs than a rule may have states
  pub joined_stands : (D F : List E → Type 0) (R N : Machine G) (way : JoinBy) → Stands alg D R → Proper alg N → ((w : List E) → Day alg w → Decides (accepted (automaton alg N) 0 w) (F w)) →
      length (pairs alg R N) ≤ most_states → Stands alg (λ w. DayAfter {G = G} (joining way) (D w) (F w)) (reduced alg (product alg R N way))
  joined_stands D F R N way r clause f few =
      let P = product alg R N way in
      let proper = product_proper alg laws R N r.proper clause way in
      record {
        proper = reduced_proper alg laws P proper few;
        reduced = reduced_reduced alg laws P proper few (product_reaches alg laws R N r.proper clause way);
        few = omega (arith, reduced_few alg P);
        days = λ w d.
            Decides-at _ _ (reduced_days alg laws P proper few w d ∙ product_accepts alg laws R N r.proper clause way w d)
            (chosen_decides G way (accepted (automaton alg R) 0 w) (accepted (automaton alg N) 0 w) (r.days w d) (f w d));
      }
