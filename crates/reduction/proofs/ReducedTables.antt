-- Reducing by marks: tests that agree below a count reduce alike, and the values and the table are those of the reduced machine.
use Rattle.std.proofs.Common.{◌≡◌, ℕ, zero, suc, ◌<◌, ◌≤◌, Bool, true, cond, not, eqb, List, [], ◌∷◌, ◌++◌, map, length, get_or, take, drop, is_some, false, filter, sym, refl, ap, ◌∙◌, ap₂, inl, inr, arith}
use Rattle.std.proofs.lemmas.List.Filters.{length-filter_both}
use Rattle.std.proofs.lemmas.List.{length-map, get_or_past, take_at, drop_at}
use Rattle.std.proofs.lemmas.Bool.{cases_lt, both_ways}
use Rattle.guards.specs.Algebra.{Model}
use Rattle.std.specs.List.{list_all, list_any}
use Rattle.guards.specs.Lists.{Member}
use Rattle.automata.specs.Limits.{most_rounds}
use Rattle.automata.specs.Machine.{Machine}
use Rattle.automata.specs.Reduction.{kept, class_of, redirected, reduced}
use Rattle.automata.specs.Rounds.{separated_below}
use Rattle.automata.specs.Running.{stray}
use Rattle.automata.specs.declared.moves.Move.{Move}
use Rattle.automata.proofs.Appending.{map_same}
use Rattle.automata.proofs.KeptStates.{kept_below, kept_few, class_in}
use Rattle.automata.proofs.Members.{kept_member, none_each}
use Rattle.automata.proofs.Separating.{below_itself, some_round_of}
use Rattle.automata.proofs.Strays.{between}
use Rattle.tables.specs.Endings.{holds}
use Rattle.tables.specs.Machines.{machine_of}
use Rattle.tables.specs.declared.counts.Counts.{Counts}
use Rattle.tables.specs.declared.endings.Endings.{Endings}
use Rattle.tables.specs.declared.machines.Machine.{Machine as TableMachine}
use Rattle.reduction.specs.Marks.{apart_by}
use Rattle.reduction.specs.Placed.{Placed}
use Rattle.reduction.specs.Reducing.{goes_from, kept_states, moves_kept, ReducedAs}
use Rattle.reduction.specs.Rounds.{RoundMarks}
use Rattle.reduction.proofs.ClassPlaces.{class_past}

-- two tests that agree at the states below n
module _ (R S : ℕ → ℕ → Bool) (n : ℕ) (same : (p q : ℕ) → p < n → q < n → R p q ≡ S p q) where
  class_same : (ks : List ℕ) → ((r : ℕ) → Member r ks → r < n) → (q : ℕ) → q < n → class_of R ks q ≡ class_of S ks q
  class_same [] below q h = refl
  class_same (r ∷ ks) below q h = ap₂ (λ t c. cond t (suc c) 0) (same r q (below r (inl refl)) h) (class_same ks (λ s m. below s (inr m)) q h)

  every_same : (ks : List ℕ) → ((r : ℕ) → Member r ks → r < n) → (q : ℕ) → q < n → list_all (λ r. R r q) ks ≡ list_all (λ r. S r q) ks
  every_same ks below q h = sym (class_past R ks q) ∙ ap (λ c. eqb c (length ks)) (class_same ks below q h) ∙ class_past S ks q

  kept_same : (i : ℕ) → i ≤ n → kept R i ≡ kept S i
  unfolding kept
  kept_same zero le = refl
  kept_same (suc i) le =
      ap (λ t. cond t (kept R i ++ (i ∷ [])) (kept R i)) (every_same (kept R i) (λ r m. omega (arith, kept_below R i r m)) i (omega arith))
      ∙ ap (λ ks. cond (list_all (λ r. S r i) ks) (ks ++ (i ∷ [])) ks) (kept_same i (omega arith))

  moves_same : {G : Type 0} (ks : List ℕ) → ((r : ℕ) → Member r ks → r < n) → (vs : List (Move G)) → list_any (stray n) vs ≡ false
      → map (redirected R ks) (filter (goes_from ks) vs) ≡ map (redirected S ks) (filter (goes_from ks) vs)
  moves_same ks below vs none = map_same (redirected R ks) (redirected S ks) (filter (goes_from ks) vs) (λ v m.
      let b = between n v (none_each (stray n) v vs none (kept_member (goes_from ks) v vs m).0) in
      ap₂ (λ p q. record { from = p; guard = v.guard; to = q }) (class_same ks below v.from b.0) (class_same ks below v.to b.1))

module _ {E G : Type 0} (alg : Model E G) (M : Machine G) where
  some_left : 0 < M.count → 0 < (reduced alg M).count
  some_left h = omega (arith, class_in (separated_below alg M most_rounds) (below_itself alg M most_rounds) M.count 0 h)

  ends_left : (k : ℕ) → (reduced alg M).endings k ≡ true → k < (reduced alg M).count
  ends_left k h =
      let ks = kept (separated_below alg M most_rounds) M.count in
      elim (cases_lt k (length ks)) [
        | inl lt ↦ lt
        | inr past ↦ absurd (both_ways (get_or (map M.endings ks) k false) (get_or_past (map M.endings ks) k false (omega (arith, length-map ks M.endings))) h)
      ]

  moves_left : length (reduced alg M).moves ≤ length M.moves
  moves_left =
      let ks = kept (separated_below alg M most_rounds) M.count in
      omega (arith, length-map (filter (goes_from ks) M.moves) (redirected (separated_below alg M most_rounds) ks), length-filter_both (goes_from ks) (λ v. not (goes_from ks v)) (λ v. refl) M.moves)

-- a machine whose rounds the marks tell
module _ {E G : Type 0} (alg : Model E G) (product : TableMachine G) (marks : List ℕ) (told : RoundMarks alg (machine_of product) most_rounds marks) where
  abbrev P : Machine G
  P = machine_of product

  -- states are apart by the marks exactly where a round that counts separates them
  apart_told : (p q : ℕ) → p < P.count → q < P.count → apart_by marks p q ≡ separated_below alg P most_rounds p q
  apart_told p q small fits = ap is_some (told p q small fits) ∙ some_round_of alg P most_rounds p q

  kept_told : kept_states marks P.count ≡ kept (separated_below alg P most_rounds) P.count
  kept_told = kept_same (apart_by marks) (separated_below alg P most_rounds) P.count apart_told P.count (omega arith)

  -- so the marks give the moves of the reduced machine
  moves_told : moves_kept marks (kept_states marks P.count) P.moves ≡ (reduced alg P).moves
  moves_told =
      ap (λ ks. moves_kept marks ks P.moves) kept_told
      ∙ moves_same (apart_by marks) (separated_below alg P most_rounds) P.count apart_told (kept (separated_below alg P most_rounds) P.count) (kept_below (separated_below alg P most_rounds) P.count) P.moves product.no_stray

  -- values of the kept states with a table of their moves are the reduced machine
  pub reduced_as : (ks : List ℕ) → ks ≡ kept_states marks P.count → (before after : List (Move G)) (made : Counts × Endings) → made.0.states ≡ length ks
      → ((k : ℕ) → holds made.1 k ≡ get_or (map P.endings ks) k false) → Placed (moves_kept marks ks P.moves) before after made.0.moves → ReducedAs alg P before made after
  reduced_as ks kept_is before after made states ends (moves, written) =
      let all = kept_is ∙ kept_told in
      let lines = ap (λ rs. moves_kept marks rs P.moves) kept_is ∙ moves_told in
      let long = moves ∙ ap length lines in
      let table = written ∙ ap (λ vs. vs ++ drop (length vs) before) lines in
      let count = states ∙ ap length all in
      let ended : (k : ℕ) → holds made.1 k ≡ (reduced alg P).endings k = λ k. ends k ∙ ap (λ rs. get_or (map P.endings rs) k false) all in
      let listed : take made.0.moves after ≡ (reduced alg P).moves = ap (take made.0.moves) table ∙ take_at (reduced alg P).moves _ made.0.moves (sym long) in
      record {
        is = λ i. record { count = count i; endings = λ k. ended k i; moves = listed i };
        moves = long;
        tail = ap (drop made.0.moves) table ∙ drop_at (reduced alg P).moves _ made.0.moves (sym long) ∙ ap (λ n. drop n before) (sym long);
        few = omega (arith, count, kept_few (separated_below alg P most_rounds) P.count);
        within = (
          omega (arith, count, some_left alg P product.some),
          omega (arith, count, product.few, kept_few (separated_below alg P most_rounds) P.count),
          omega (arith, long, product.few_moves, moves_left alg P),
          λ k h. omega (arith, count, ends_left alg P k (sym (ended k) ∙ h)),
        );
      }
