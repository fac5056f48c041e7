-- Worklists: nodes in the order in which they were found, and how many of them were visited.
use Rattle.std.specs.Prelude.{◌≡◌, ℕ, suc, ◌+◌, ◌<◌, ◌≤◌, Bool, cond, List, length, Some, Option, Result, MatchOption, MatchResult, slice_index}
use Rattle.std.specs.List.{list_any, slice_get}
use Rattle.guards.specs.Lists.{Member}
use Rattle.automata.specs.Limits.{most_states, mark_bytes}
use Rattle.automata.specs.Search.{NoRepeat, add_all, place_of, reached}
use Rattle.tables.specs.Lists.{Held}

-- what a worklist holds
pub record Work (N : Type 0) : Type 0 where
  pub found : List N
  pub visited : ℕ

module _ {N : Type 0} (same : N → N → Bool) (place : N → ℕ) (inside : N → Type 0) where
  -- one more than the place of a found node, and 0 for any other
  abbrev pub mark : List N → N → ℕ
  mark found x = cond (list_any (same x) found) (suc (place_of same x found)) 0

  -- each node is found once, and the marks tell the places
  pub record Tracks (marks : List ℕ) (found : List N) : Type 0 where
    pub once : NoRepeat found
    pub all_inside : (x : N) → Member x found → inside x
    pub marked : (x : N) → inside x → slice_index marks (place x) ≡ mark found x

  -- the marks tell the places of the found nodes, for which there is room up to the limit
  pub record IsWorklist (marks : List ℕ) (found : Held N) (visited : ℕ) : Type 0 where
    pub tracks : Tracks marks found.items
    pub room : found.room ≡ most_states
    pub few : length found.items ≤ most_states
    pub bytes : mark_bytes ≤ length marks
    pub visited_few : visited ≤ length found.items

-- the nodes are found too, unless they are found already; or they have no room
abbrev pub Finds : {N F : Type 0} → (N → N → Bool) → List N → Work N → Work N → Result (Unit {0}) F → Type 0
Finds same nodes old new r =
    MatchResult r (λ _. new ≡ record { found = add_all same old.found nodes; visited = old.visited }) (λ _. most_states < length (add_all same old.found nodes))

-- the next found node is visited; or all are
abbrev pub Visits : {N : Type 0} → Work N → Work N → Option N → Type 0
Visits old new r =
    MatchOption r ((length old.found ≤ old.visited) × (new ≡ old))
    (λ x. (slice_get old.found old.visited ≡ Some x) × (new ≡ record { found = old.found; visited = old.visited + 1 }))

-- what a search from the start finds, by any fuel that the room suffices for; or it has no room
abbrev pub Searches : {N F : Type 0} → (N → N → Bool) → (N → List N) → N → Work N → Result (Unit {0}) F → Type 0
Searches same successors start new r =
    (fuel : ℕ) → most_states ≤ fuel
    → MatchResult r (λ _. new.found ≡ reached same successors fuel start) (λ _. most_states < length (reached same successors fuel start))
