-- The class of a state, the state that is apart from all, and the loops that keep states and write moves between classes.
use Rattle.std.proofs.Common.{◌≡◌, ℕ, suc, ◌+◌, ◌<◌, Bool, true, false, cond, not, ◌&&◌, eqb, ltb, List, [], ◌∷◌, ◌++◌, map, length, get_or, take, filter, Some, None, Ok, Err, Result, position, unwrap_or, sym, refl, ap, ◌∙◌, inl, inr, one-add, add-one, arith}
use Rattle.std.specs.List.{list_all, position_or_len}
use Rattle.std.proofs.lemmas.Bool.{cases_eq, cases_lt, cond-true, cond-false, eq-eqb, le-ltb, lt-ltb, ne_eqb}
use Rattle.std.proofs.lemmas.List.{append-nil, map-append}
use Rattle.std.proofs.lemmas.List.Elements.{filter_more}
use Rattle.std.proofs.lemmas.List.Recursion.{is_position_or_len}
use Rattle.std.proofs.lemmas.List.Sums.{prefix_len-le-length}
use Rattle.automata.specs.Reduction.{kept, class_of, redirected}
use Rattle.automata.specs.declared.moves.Move.{Move}
use Rattle.tables.specs.Lists.{Held, Pushes}
use Rattle.reduction.specs.Marks.{apart_by}
use Rattle.reduction.specs.Reducing.{goes_from, kept_states, kept_with, moves_kept}

-- the place of the first from which the state is not apart, or the length, is the class
pub class_found : (apart : ℕ → ℕ → Bool) (ks : List ℕ) (q : ℕ) → unwrap_or (position (λ r. not (apart r q)) ks) (length ks) ≡ class_of apart ks q
class_found apart ks q =
    elim (cases_lt n (length ks)) [
      | inl lt ↦ ap (λ o. unwrap_or o (length ks)) (cond-true (ltb n (length ks)) (Some n) None (lt-ltb n (length ks) lt)) ∙ sym is
      | inr past ↦
          ap (λ o. unwrap_or o (length ks)) (cond-false (ltb n (length ks)) (Some n) None (le-ltb n (length ks) past))
          ∙ omega (arith, is, past, prefix_len-le-length (λ r. not (not (apart r q))) ks)
    ]
  where
    n : ℕ
    n = position_or_len (λ r. not (apart r q)) ks

    step : (t : Bool) (m : ℕ) → cond t (suc m) 0 ≡ cond (not t) 0 (1 + m)
    step true m = sym (one-add m)
    step false m = refl

    is : class_of apart ks q ≡ n
    is = is_position_or_len (λ rs. class_of apart rs q) (λ r. not (apart r q)) refl (λ r rs. step (apart r q) (class_of apart rs q)) ks

suc_eqb : (m n : ℕ) → eqb (suc m) (suc n) ≡ eqb m n
suc_eqb m n = elim (cases_eq m n) [
  | inl e ↦ eq-eqb (suc m) (suc n) (ap suc e) ∙ sym (eq-eqb m n e)
  | inr d ↦ ne_eqb (suc m) (suc n) (λ e. d (omega arith)) ∙ sym (ne_eqb m n d)
]

-- a state is apart from all of the list exactly where its class is the length
pub class_past : (apart : ℕ → ℕ → Bool) (ks : List ℕ) (q : ℕ) → eqb (class_of apart ks q) (length ks) ≡ list_all (λ r. apart r q) ks
class_past apart [] q = refl
class_past apart (r ∷ ks) q = go (apart r q) (class_past apart ks q)
  where
    go : (t : Bool) → eqb (class_of apart ks q) (length ks) ≡ list_all (λ r. apart r q) ks → eqb (cond t (suc (class_of apart ks q)) 0) (suc (length ks)) ≡ (t && list_all (λ r. apart r q) ks)
    go true h = suc_eqb (class_of apart ks q) (length ks) ∙ h
    go false h = ne_eqb 0 (suc (length ks)) (λ e. omega arith)

module _ (marks ks : List ℕ) (q found : ℕ) (is : found ≡ class_of (apart_by marks) ks q) where
  -- a state whose class is past all is kept, and no other
  pub kept_beyond : found ≡ length ks → kept_with marks ks q ≡ ks ++ (q ∷ [])
  kept_beyond e =
      cond-true (list_all (λ r. apart_by marks r q) ks) (ks ++ (q ∷ [])) ks (sym (class_past (apart_by marks) ks q) ∙ eq-eqb (class_of (apart_by marks) ks q) (length ks) (sym is ∙ e))

  pub kept_within : (found ≡ length ks → ⊥) → kept_with marks ks q ≡ ks
  kept_within d =
      cond-false (list_all (λ r. apart_by marks r q) ks) (ks ++ (q ∷ [])) ks (sym (class_past (apart_by marks) ks q) ∙ ne_eqb (class_of (apart_by marks) ks q) (length ks) (λ e. d (is ∙ e)))

-- a push where there is room
pub pushed : {T F : Type 0} (value : T) (old new : Held T) (r : Result (Unit {0}) F) → Pushes value old new r → length old.items < old.room → new ≡ record { items = old.items ++ (value ∷ []); room = old.room }
pushed value old new (Ok u) h room = h.1
pushed value old new (Err e) h room = absurd (omega arith)

-- a loop that keeps states: one state more
pub kept_more : (marks : List ℕ) (i : ℕ) → kept_with marks (kept_states marks i) i ≡ kept_states marks (i + 1)
unfolding kept
kept_more marks i = sym (ap (kept_states marks) (add-one i))

pub kept_none : (marks : List ℕ) → kept_states marks 0 ≡ []
unfolding kept
kept_none marks = refl

-- a loop that writes the moves of kept states: one move more
module _ {G : Type 0} (marks ks : List ℕ) (vs : List (Move G)) (i : ℕ) (v : Move G) (lt : i < length vs) (read : v ≡ get_or vs i v) where
  more : moves_kept marks ks (take (i + 1) vs) ≡ moves_kept marks ks (take i vs) ++ map (redirected (apart_by marks) ks) (cond (goes_from ks v) (v ∷ []) [])
  more =
      ap (map (redirected (apart_by marks) ks)) (filter_more (goes_from ks) vs i v lt ∙ ap (λ w. filter (goes_from ks) (take i vs) ++ cond (goes_from ks w) (w ∷ []) []) (sym read))
      ∙ map-append (redirected (apart_by marks) ks) (filter (goes_from ks) (take i vs)) (cond (goes_from ks v) (v ∷ []) [])

  pub move_kept : goes_from ks v ≡ true → moves_kept marks ks (take (i + 1) vs) ≡ moves_kept marks ks (take i vs) ++ (redirected (apart_by marks) ks v ∷ [])
  move_kept t = more ∙ ap (λ ws. moves_kept marks ks (take i vs) ++ map (redirected (apart_by marks) ks) ws) (cond-true (goes_from ks v) (v ∷ []) [] t)

  pub move_left : goes_from ks v ≡ false → moves_kept marks ks (take (i + 1) vs) ≡ moves_kept marks ks (take i vs)
  move_left f =
      more ∙ ap (λ ws. moves_kept marks ks (take i vs) ++ map (redirected (apart_by marks) ks) ws) (cond-false (goes_from ks v) (v ∷ []) [] f)
      ∙ append-nil (moves_kept marks ks (take i vs))
