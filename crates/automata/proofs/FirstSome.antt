-- What a question to each place of a list finds first.
use Rattle.std.proofs.Common.{◌≡◌, ℕ, suc, ◌+◌, ◌-◌, ◌<◌, ◌≤◌, List, [], ◌∷◌, drop, Some, None, Option, sym, refl, ap, ◌∙◌, inl, inr, arith, MatchOption}
use Rattle.std.specs.Option.{option_map}
use Rattle.std.specs.List.{slice_get}
use Rattle.std.proofs.iter.SplitParts.{each_way}
use Rattle.std.proofs.iter.runs.Lists.{nth_drop}
use Rattle.std.proofs.lemmas.Bool.{cases_eq}
use Rattle.guards.specs.Lists.{or_else, first_some}

-- a question whose answer is made of another's
module _ {X Y : Type 0} (f : X → Y) where
  pub mapped_some : (o : Option X) (y : Y) → option_map f o ≡ Some y → (x : X) × (o ≡ Some x) × (f x ≡ y)
  mapped_some (Some x) y h = (x, refl, cc)
  mapped_some None y h = let z : ◌≡◌ {A = ℕ} 0 1 = cc in absurd (omega arith)

  pub mapped_none : (o : Option X) → option_map f o ≡ None → o ≡ None
  mapped_none (Some x) h = let z : ◌≡◌ {A = ℕ} 0 1 = cc in absurd (omega arith)
  mapped_none None h = refl

module _ {X Y : Type 0} (ask : ℕ → X → Option Y) (xs : List X) where
  -- no place from i on answers
  abbrev pub NoAnswer : ℕ → Type 0
  NoAnswer i = (k : ℕ) (x : X) → i ≤ k → slice_get xs k ≡ Some x → ask k x ≡ None

  -- the first place from i on that answers answers y
  pub record FirstAnswer (i : ℕ) (y : Y) : Type 0 where
    pub place : ℕ
    pub element : X
    pub from : i ≤ place
    pub read : slice_get xs place ≡ Some element
    pub answer : ask place element ≡ Some y
    pub before : (k : ℕ) (x : X) → i ≤ k → k < place → slice_get xs k ≡ Some x → ask k x ≡ None

  asked : (rest : List X) (i : ℕ) → ((k : ℕ) → slice_get rest k ≡ slice_get xs (i + k)) → MatchOption (first_some ask i rest) (NoAnswer i) (FirstAnswer i)
  asked [] i same = λ k x le h.
      let past : ◌≡◌ {A = Option X} None (slice_get xs k) = same (k - i) ∙ ap (slice_get xs) (omega arith) in
      let z : ◌≡◌ {A = ℕ} 0 1 = cc in
      absurd (omega arith)
  asked (x ∷ rest) i same =
      by (ask i x) refl (same 0 ∙ ap (slice_get xs) (omega arith)) (asked rest (i + 1) (λ k. same (suc k) ∙ ap (slice_get xs) (omega arith)))
    where
      by : (o : Option Y) → ask i x ≡ o → Some x ≡ slice_get xs i → MatchOption (first_some ask (i + 1) rest) (NoAnswer (i + 1)) (FirstAnswer (i + 1)) →
          MatchOption (or_else o (first_some ask (i + 1) rest)) (NoAnswer i) (FirstAnswer i)
      by (Some y) is here later = record { place = i; element = x; from = omega arith; read = sym here; answer = is; before = λ k z le lt h. absurd (omega arith) }
      by None is here later =
          let skip : (k : ℕ) (z : X) → i ≤ k → slice_get xs k ≡ Some z → (i + 1 ≤ k → ask k z ≡ None) → ask k z ≡ None = λ k z le h on. elim (cases_eq i k) [ inl e ↦ (cc) | inr n ↦ on (omega arith) ] in
          each_way (first_some ask (i + 1) rest) (NoAnswer (i + 1)) (NoAnswer i) (FirstAnswer (i + 1)) (FirstAnswer i)
          (λ none k z le h. skip k z le h (λ more. none k z more h))
          (λ y f. record {
            place = f.place;
            element = f.element;
            from = omega (arith, f.from);
            read = f.read;
            answer = f.answer;
            before = λ k z le lt h. skip k z le h (λ more. f.before k z more lt h);
          }) later

  pub first_some_is : (i : ℕ) → MatchOption (first_some ask i (drop i xs)) (NoAnswer i) (FirstAnswer i)
  first_some_is i = asked (drop i xs) i (nth_drop i xs)
