-- A guard has a sample exactly where it admits something.
use Rattle.std.proofs.Common.{◌≡◌, true, is_some, Some, None, Option, refl}
use Rattle.std.proofs.lemmas.Bool.{both_ways, false≢true}
use Rattle.guards.specs.Algebra.{Model, Laws}

module _ {E G : Type 0} (alg : Model E G) (laws : Laws alg) (g : G) where
  pub sampled : (e : E) → alg.admits g e ≡ true → (s : E) × (alg.sample g ≡ Some s)
  sampled e a = by (alg.sample g) refl
    where
      by : (o : Option E) → alg.sample g ≡ o → (s : E) × (alg.sample g ≡ Some s)
      by None is = absurd (both_ways (alg.admits g e) (laws.sample_none g is e) a)
      by (Some s) is = (s, is)

  pub admitted : is_some (alg.sample g) ≡ true → (e : E) × (alg.admits g e ≡ true)
  admitted = by (alg.sample g) refl
    where
      by : (o : Option E) → alg.sample g ≡ o → is_some o ≡ true → (e : E) × (alg.admits g e ≡ true)
      by None is h = absurd (false≢true h)
      by (Some e) is h = (e, laws.sample_some g e is)
