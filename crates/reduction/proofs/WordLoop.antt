-- The loop that writes a word: one entry more, and the end.
use Rattle.std.proofs.Common.{◌≡◌, ℕ, suc, ◌+◌, ◌<◌, ◌≤◌, min, max, Bool, cond, ◌&&◌, eqb, List, [], ◌∷◌, ◌++◌, length, take, drop, set, None, Option, sym, refl, ap, ◌∙◌, ap₂, inl, inr, arith}
use Rattle.std.specs.Option.{option_map}
use Rattle.std.proofs.lemmas.List.{append-nil, append_assoc, take-append-drop, length-take-le, take_more_set, drop-append-le, drop-set-lt, drop-drop}
use Rattle.guards.specs.Algebra.{Model}
use Rattle.guards.specs.Lists.{Member, or_else, first_some}
use Rattle.automata.specs.Limits.{most_rounds}
use Rattle.automata.specs.Machine.{Machine}
use Rattle.automata.specs.Rounds.{separated}
use Rattle.automata.specs.Telling.{step_by, first_step, go_on, word}
use Rattle.automata.specs.declared.moves.Move.{Move}
use Rattle.automata.specs.declared.telling.WordStep.{WordStep}
use Rattle.tables.specs.Machines.{machine_of}
use Rattle.tables.specs.declared.machines.Machine.{Machine as TableMachine}
use Rattle.reduction.specs.Marks.{in_round}
use Rattle.reduction.specs.Placed.{Placed}
use Rattle.reduction.specs.Rounds.{RoundMarks}
use Rattle.reduction.proofs.RoundsTold.{to_in, told_in}

-- two questions that agree at each element
first_some_same : {X Y : Type 0} (f g : X → Option Y) (i : ℕ) (xs : List X) → ((x : X) → Member x xs → f x ≡ g x) → first_some (λ _ x. f x) i xs ≡ first_some (λ _ x. g x) i xs
first_some_same f g i [] same = refl
first_some_same f g i (x ∷ xs) same = ap₂ or_else (same x (inl refl)) (first_some_same f g (i + 1) xs (λ y m. same y (inr m)))

module _ {E G : Type 0} (alg : Model E G) (R S : ℕ → ℕ → Bool) (p q : ℕ) where
  -- the first step by two relations that agree where the moves lead
  first_step_same : (vs : List (Move G)) → ((u v : Move G) → Member u vs → Member v vs → R u.to v.to ≡ S u.to v.to) → first_step alg vs R p q ≡ first_step alg vs S p q
  first_step_same vs same =
      first_some_same (λ u. first_some (λ _ v. step_by alg R p q u v) 0 vs) (λ u. first_some (λ _ v. step_by alg S p q u v) 0 vs) 0 vs
      (λ u um. first_some_same (step_by alg R p q u) (step_by alg S p q u) 0 vs (λ v vm. by u v (same u v um vm)))
    where
      by : (u v : Move G) → R u.to v.to ≡ S u.to v.to → step_by alg R p q u v ≡ step_by alg S p q u v
      by u v is =
          ap (λ t. cond ((eqb u.from p && eqb v.from q) && t) (option_map (λ e. record { sample = e; left = u.to; right = v.to }) (alg.sample (alg.meet u.guard v.guard))) None) is

module _ {E G : Type 0} (alg : Model E G) (machine : TableMachine G) (marks : List ℕ) (told : RoundMarks alg (machine_of machine) most_rounds marks) where
  abbrev M : Machine G
  M = machine_of machine

  -- the word of what is left, by the step that the marks give
  pub word_at : (left less p q : ℕ) (o : Option (WordStep E)) → left ≡ suc less → less < most_rounds → o ≡ first_step alg M.moves (in_round marks less) (min p q) (max p q)
      → word alg M left p q ≡ go_on o (word alg M less)
  unfolding word
  word_at left less p q o e small is =
      ap (λ n. word alg M n p q) e
      ∙ ap (λ s. go_on s (word alg M less))
      (sym (is
      ∙ first_step_same alg (in_round marks less) (separated alg M less) (min p q) (max p q) M.moves (λ u v um vm. told_in alg M most_rounds less marks told small u.to v.to (to_in alg machine u um) (to_in alg machine v vm))))

pub word_over : {E G : Type 0} (alg : Model E G) (M : Machine G) (left p q : ℕ) → left ≡ 0 → word alg M left p q ≡ []
unfolding word
word_over alg M left p q e = ap (λ n. word alg M n p q) e

-- one entry more
pub written_more : {E : Type 0} (buffer w rest : List E) (n : ℕ) (e : E) → n < length buffer → take n buffer ++ (e ∷ rest) ≡ w → take (n + 1) (set buffer n e) ++ rest ≡ w
written_more buffer w rest n e room is = ap (λ ys. ys ++ rest) (take_more_set buffer n e room) ∙ append_assoc (take n buffer) (e ∷ []) rest ∙ is

pub kept_past : {E : Type 0} (before buffer : List E) (n : ℕ) (e : E) → drop n buffer ≡ drop n before → drop (n + 1) (set buffer n e) ≡ drop (n + 1) before
kept_past before buffer n e is = drop-set-lt (n + 1) buffer n e (omega arith) ∙ sym (drop-drop 1 n buffer) ∙ ap (drop 1) is ∙ drop-drop 1 n before

-- no entry is left
pub written_all : {E : Type 0} (before buffer w rest : List E) (n : ℕ) → n ≤ length buffer → take n buffer ++ rest ≡ w → rest ≡ [] → drop n buffer ≡ drop n before → Placed w before buffer n
written_all before buffer w rest n room is none kept =
    let front : take n buffer ≡ w = sym (append-nil (take n buffer)) ∙ ap (λ ys. take n buffer ++ ys) (sym none) ∙ is in
    let long : n ≡ length w = sym (length-take-le n buffer room) ∙ ap length front in
    (long, sym (take-append-drop n buffer) ∙ ap₂ ◌++◌ front (kept ∙ ap (λ k. drop k before) long))

-- the front of a longer buffer
pub written_front : {E : Type 0} (before front w : List E) (size n : ℕ) → size ≤ length before → n ≤ size → Placed w (take size before) front n → Placed w before (front ++ drop size before) n
written_front before front w size n room fits (long, is) =
    let k = length w in
    let past : drop k (take size before) ++ drop size before ≡ drop k before =
    sym (drop-append-le k (take size before) (drop size before) (omega (arith, length-take-le size before room))) ∙ ap (drop k) (take-append-drop size before) in
    (long, ap (λ ys. ys ++ drop size before) is ∙ append_assoc w (drop k (take size before)) (drop size before) ∙ ap (λ ys. w ++ ys) past)
