-- Calls whose error is made another.
use Rattle.std.proofs.Common.{◌≡◌, Ok, Err, Result, subst, sym, MatchResult}
use Rattle.std.specs.Result.{IsErrAnd}
use Rattle.std.proofs.lemmas.Result.{err_from_is_err_and}

-- what holds at each answer of the one call holds at the other's, whose error is why
pub refused_as : {T E F : Type 0} (P : T → Type 0) (Q : Type 0) (Gives : E → F → Type 0) (why : F) → ((e : E) (f : F) → Gives e f → f ≡ why) → (r : Result T E) (s : Result T F)
    → MatchResult r (λ x. s ≡ Ok x) (λ e. IsErrAnd s (Gives e)) → MatchResult r P (λ _. Q) → MatchResult s P (λ f. (f ≡ why) × Q)
refused_as P Q Gives why gives (Ok x) s is h = subst (λ t. MatchResult t P (λ f. (f ≡ why) × Q)) (sym is) h
refused_as P Q Gives why gives (Err e) s is h =
    let p = err_from_is_err_and s is in
    subst (λ t. MatchResult t P (λ f. (f ≡ why) × Q)) (sym p.1) (gives e p.0 p.2, h)
