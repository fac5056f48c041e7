-- Bytes that are all zero.
use Rattle.std.proofs.Common.{◌≡◌, ℕ, true, eqb, List, [], ◌∷◌, length, replicate, refl, ap, ◌∙◌, eqb-true}
use Rattle.std.proofs.lemmas.Bool.{and_parts}
use Rattle.orders.specs.Records.{blank}

-- bytes that are all zero are nothing but zeros
pub blank_zeros : (bs : List ℕ) → blank bs ≡ true → bs ≡ replicate (length bs) 0
blank_zeros [] e = refl
blank_zeros (b ∷ bs) e =
    let h = and_parts (eqb b 0) (blank bs) e in
    ap (λ x. x ∷ bs) (eqb-true b 0 h.0) ∙ ap (λ t. 0 ∷ t) (blank_zeros bs h.1)
