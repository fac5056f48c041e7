-- What a call that is accepted, refused or refused for its sizes makes of a run.
use Rattle.std.proofs.Common.{◌≡◌, ℕ, Bool, true, false, ◌⊎◌, [], ◌∷◌, Some, None, Ok, Option, sym, refl, subst, inl, inr, arith}
use Rattle.guards.specs.Algebra.{Model}
use Rattle.automata.specs.Faults.{refuse_if}
use Rattle.automata.specs.Machine.{Machine}
use Rattle.automata.specs.Refusals.{Told, tell}
use Rattle.automata.specs.Sheet.{Call, refused_call, open_clause, Sheet, after, Refuses, Comes}
use Rattle.machines.specs.Runs.{Accepted, Refusing}

module _ {E G : Type 0} (alg : Model E G) where
  pub accepted_runs : (call : Call G) (s t : Sheet G) → after alg s call ≡ Ok t → Accepted alg call s t
  accepted_runs call s t e fs comes = (s, comes, e)

  pub refused_runs : (call : Call G) (why : Told E) (s t : Sheet G) → t ≡ s → Refuses alg s call why → Refusing alg call why s t
  refused_runs call why s t same refuses fs comes = subst (λ x. Comes alg (refused_call call why ∷ fs) x) (sym same) (comes, refuses)

-- where sizes are tested first: they refuse with 1, or what comes after them decides
pub sized_why : {E : Type 0} (short : Bool) (later : Option (Told E)) (why : Told E) → refuse_if short (tell 1 []) later ≡ Some why → (why ≡ tell 1 []) ⊎ ((short ≡ false) × (later ≡ Some why))
sized_why true later why h = inl (cc)
sized_why false later why h = inr (refl, h)

pub sized_none : {E : Type 0} (short : Bool) (later : Option (Told E)) → refuse_if short (tell 1 []) later ≡ None → (short ≡ false) × (later ≡ None)
sized_none true later h = let z : ◌≡◌ {A = ℕ} 0 1 = cc in absurd (omega arith)
sized_none false later h = (refl, h)

-- what a call makes of the clause in hand
module _ {G : Type 0} (R : Machine G) where
  abbrev pub opens : Machine G → Sheet G
  opens M = record { rule = R; hand = open_clause M }
