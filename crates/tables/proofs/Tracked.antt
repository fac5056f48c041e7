-- Marks and the found nodes whose places they tell: what a mark says of a node, and a node more.
use Rattle.std.proofs.Common.{◌≡◌, ℕ, suc, ◌+◌, ◌<◌, ◌≤◌, Bool, true, false, cond, ◌||◌, List, [], ◌∷◌, ◌++◌, length, get_or, replicate, set, sym, refl, ap, ◌∙◌, subst, ap₂, inl, inr, arith, get_or-set_other, get_or-set_same}
use Rattle.std.proofs.lemmas.List.{length_push, length-set, length-replicate, get_or-replicate, get_or_past}
use Rattle.std.specs.List.{list_any}
use Rattle.std.proofs.lemmas.Bool.{cases_lt, cases_eq, both_ways}
use Rattle.guards.specs.Lists.{Member}
use Rattle.automata.specs.Search.{Tells, place_of, add}
use Rattle.automata.proofs.Members.{member_cases, no_repeat_push, some_any}
use Rattle.automata.specs.Limits.{most_states, mark_bytes}
use Rattle.tables.specs.Lists.{Held, no_items}
use Rattle.tables.specs.Worklists.{mark, Tracks, IsWorklist}

module _ {N : Type 0} (same : N → N → Bool) where
  any_push : (x y : N) (xs : List N) → list_any (same x) (xs ++ (y ∷ [])) ≡ (list_any (same x) xs || same x y)
  any_push x y [] = go (same x y)
    where
      go : (t : Bool) → (t || false) ≡ (false || t)
      go true = refl
      go false = refl
  any_push x y (z ∷ xs) = go (same x z) (any_push x y xs)
    where
      go : (t : Bool) → list_any (same x) (xs ++ (y ∷ [])) ≡ (list_any (same x) xs || same x y) → (t || list_any (same x) (xs ++ (y ∷ []))) ≡ ((t || list_any (same x) xs) || same x y)
      go true h = refl
      go false h = h

  -- a found node keeps its place, and a new one has the next
  place_push : (x y : N) (xs : List N) → place_of same x (xs ++ (y ∷ [])) ≡ cond (list_any (same x) xs) (place_of same x xs) (length xs + place_of same x (y ∷ []))
  place_push x y [] = omega arith
  place_push x y (z ∷ xs) = go (same x z) (list_any (same x) xs) (place_push x y xs)
    where
      go : (s t : Bool) → place_of same x (xs ++ (y ∷ [])) ≡ cond t (place_of same x xs) (length xs + place_of same x (y ∷ []))
          → cond s 0 (suc (place_of same x (xs ++ (y ∷ [])))) ≡ cond (s || t) (cond s 0 (suc (place_of same x xs))) (length (z ∷ xs) + place_of same x (y ∷ []))
      go true t h = refl
      go false true h = ap suc h
      go false false h = omega arith

module _ {N : Type 0} (same : N → N → Bool) (tells : Tells same) (place : N → ℕ) (inside : N → Type 0) (own : (x y : N) → inside x → inside y → place x ≡ place y → x ≡ y) where
  abbrev mark_in : List N → N → ℕ
  mark_in = mark same place inside

  -- the mark of another node stays
  mark_other : (found : List N) (x y : N) → same x y ≡ false → mark_in (found ++ (y ∷ [])) x ≡ mark_in found x
  mark_other found x y apart =
      ap₂ (λ t n. cond t (suc n) 0) (any_push same x y found ∙ ap (λ t. list_any (same x) found || t) apart) (place_push same x y found) ∙ go (list_any (same x) found)
    where
      go : (t : Bool) → cond (t || false) (suc (cond t (place_of same x found) (length found + place_of same x (y ∷ [])))) 0 ≡ cond t (suc (place_of same x found)) 0
      go true = refl
      go false = refl

  -- a new node is marked with one more than the place behind the found ones
  mark_new : (found : List N) (y : N) → list_any (same y) found ≡ false → mark_in (found ++ (y ∷ [])) y ≡ suc (length found)
  mark_new found y new =
      ap₂ (λ t n. cond t (suc n) 0) (any_push same y y found ∙ ap₂ ◌||◌ new (tells.itself y)) (place_push same y y found)
      ∙ ap₂ (λ t u. suc (cond t (place_of same y found) (length found + cond u 0 1))) new (tells.itself y) ∙ omega arith

  apart : (x y : N) → (place x ≡ place y → ⊥) → same x y ≡ false
  apart x y ne = go (same x y) refl
    where
      go : (t : Bool) → same x y ≡ t → t ≡ false
      go true h = absurd (ne (ap place (tells.equal x y h)))
      go false h = refl

  module _ (marks : List ℕ) (found : List N) (tracks : Tracks same place inside marks found) (node : N) (in_node : inside node) where
    -- a node with a mark is found, and one without is not
    pub unmarked : get_or marks (place node) 0 ≡ 0 → list_any (same node) found ≡ false
    unmarked none = go (list_any (same node) found) (sym (tracks.marked node in_node) ∙ none)
      where
        go : (t : Bool) → cond t (suc (place_of same node found)) 0 ≡ 0 → t ≡ false
        go true h = absurd (omega arith)
        go false h = refl

    pub known : (get_or marks (place node) 0 ≡ 0 → ⊥) → add same found node ≡ found
    known some = go (list_any (same node) found) (tracks.marked node in_node)
      where
        go : (t : Bool) → get_or marks (place node) 0 ≡ cond t (suc (place_of same node found)) 0 → cond t found (found ++ (node ∷ [])) ≡ found
        go true h = refl
        go false h = absurd (some h)

    -- the mark of a member is one more than its place
    pub member_mark : Member node found → get_or marks (place node) 0 ≡ suc (place_of same node found)
    member_mark m = tracks.marked node in_node ∙ ap (λ t. cond t (suc (place_of same node found)) 0) (some_any (same node) node found m (tells.itself node))

    -- so it is with a mark that was read, and the found nodes as they are seen
    pub mark_read : (at byte : ℕ) → at ≡ place node → byte ≡ get_or marks at 0 → (seen : List N) → found ≡ seen → Member node seen → byte ≡ suc (place_of same node seen)
    mark_read at byte is read seen e m =
        read ∙ ap (λ k. get_or marks k 0) is ∙ member_mark (rw e m) ∙ ap (λ xs. suc (place_of same node xs)) e

    -- with the mark set, one node more is found
    pub tracks_push : get_or marks (place node) 0 ≡ 0 → place node < length marks → Tracks same place inside (set marks (place node) (length found + 1)) (found ++ (node ∷ []))
    tracks_push none place_in =
        let new = unmarked none in
        let not_found : Member node found → ⊥ = λ m. both_ways (list_any (same node) found) new (some_any (same node) node found m (tells.itself node)) in
        record {
          once = no_repeat_push found node tracks.once not_found;
          all_inside = λ x m. elim (member_cases x found (node ∷ []) m) [ inl a ↦ tracks.all_inside x a | inr b ↦ elim b [ inl e ↦ subst inside e in_node | inr z ↦ absurd z ] ];
          marked = λ x i. elim (cases_eq (place x) (place node)) [
            | inl e ↦
                let same_node : x ≡ node = own x node i in_node e in
                ap (λ k. get_or (set marks (place node) (length found + 1)) k 0) e ∙ get_or-set_same marks (place node) (length found + 1) 0 place_in
                ∙ sym (ap (mark_in (found ++ (node ∷ []))) same_node ∙ mark_new found node new ∙ omega arith)
            | inr ne ↦
                get_or-set_other marks (place node) (place x) (length found + 1) 0 ne ∙ tracks.marked x i ∙ sym (mark_other found x node (apart x node ne))
          ];
        }

module _ {N : Type 0} (same : N → N → Bool) (tells : Tells same) (place : N → ℕ) (inside : N → Type 0) (own : (x y : N) → inside x → inside y → place x ≡ place y → x ≡ y)
    (marked : (x : N) → inside x → place x < mark_bytes) (marks : List ℕ) (found : Held N) (visited : ℕ) (is : IsWorklist same place inside marks found visited) (node : N) (in_node : inside node) where
  -- a worklist stays one with a node more that has no mark
  pub worklist_push : get_or marks (place node) 0 ≡ 0 → (found' : Held N) → found' ≡ record { items = found.items ++ (node ∷ []); room = found.room } → length found.items < found.room
      → IsWorklist same place inside (set marks (place node) (length found'.items)) found' visited
  worklist_push none found' e fits =
      let n : ℕ = length found.items + 1 in
      let here : place node < length marks = omega (arith, marked node in_node, is.bytes) in
      let pushed : Held N = record { items = found.items ++ (node ∷ []); room = found.room } in
      let long : length pushed.items ≡ n = length_push found.items node in
      subst (λ (h : Held N). IsWorklist same place inside (set marks (place node) (length h.items)) h visited) (sym e) (record {
        tracks = subst (λ k. Tracks same place inside (set marks (place node) k) pushed.items) (sym long) (tracks_push same tells place inside own marks found.items is.tracks node in_node none here);
        room = is.room;
        few = omega (arith, long, fits, is.room);
        bytes = omega (arith, is.bytes, length-set marks (place node) (length pushed.items));
        visited_few = omega (arith, is.visited_few, long);
      })

-- a new worklist, all of whose marks are 0
pub worklist_none : {N : Type 0} (same : N → N → Bool) (place : N → ℕ) (inside : N → Type 0) (before marks : List ℕ) → marks ≡ replicate (length before) 0 → mark_bytes ≤ length before
    → (found : Held N) → found ≡ no_items most_states → IsWorklist same place inside marks found 0
worklist_none {N} same place inside before marks is enough found e =
    subst (λ (h : Held N). IsWorklist same place inside marks h 0) (sym e) (record {
      tracks = record { once = tt; all_inside = λ x m. absurd m; marked = λ x i. ap (λ ms. get_or ms (place x) 0) is ∙ elim (cases_lt (place x) (length before)) [ inl lt ↦ get_or-replicate (length before) (place x) 0 0 lt | inr past ↦ get_or_past (replicate (length before) 0) (place x) 0 (omega (arith, length-replicate {A = ℕ} (length before) 0)) ] };
      room = refl;
      few = omega arith;
      bytes = omega (arith, ap length is, length-replicate {A = ℕ} (length before) 0);
      visited_few = omega arith;
    })
