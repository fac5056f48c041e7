-- The loop of a breadth-first search: what visiting the nodes that are left finds is the answer.
use Rattle.std.proofs.Common.{◌≡◌, ℕ, ◌+◌, ◌-◌, ◌<◌, ◌≤◌, Bool, List, length, Some, sym, ap, ◌∙◌, arith}
use Rattle.std.proofs.lemmas.List.{length-append}
use Rattle.std.proofs.lemmas.Option.{slice_get_within, get_or_from_slice_get}
use Rattle.std.specs.List.{slice_get}
use Rattle.automata.specs.Search.{Tells, add_all, visit}
use Rattle.tables.specs.Worklists.{Work}
use Rattle.automata.proofs.Searching.{visit_begins, visit_step, visit_done}

module _ {N : Type 0} (same : N → N → Bool) (tells : Tells same) (successors : N → List N) (fuel : ℕ) (work : Work N) (answer : List N)
    (inv : visit same successors (fuel - work.visited) work.visited work.found ≡ answer) where
  -- one node visited, and its successors found
  module _ (x : N) (read : slice_get work.found work.visited ≡ Some x) (few : length work.found ≤ fuel) (visited : Work N) (moves_on : visited ≡ record { found = work.found; visited = work.visited + 1 }) where
    visit_at : visit same successors (fuel - (work.visited + 1)) (work.visited + 1) (add_all same work.found (successors x)) ≡ answer
    visit_at =
        let lt = slice_get_within work.found work.visited x read in
        sym (visit_step same successors (fuel - work.visited) (fuel - (work.visited + 1)) work.visited work.found x (omega arith) lt (sym (get_or_from_slice_get work.found work.visited x x read))) ∙ inv

    pub visit_more : (next : Work N) → next ≡ record { found = add_all same visited.found (successors x); visited = visited.visited } → visit same successors (fuel - next.visited) next.visited next.found ≡ answer
    visit_more next is = rw (is, moves_on) visit_at

    -- where the successors have no room, the whole has none
    pub visit_short : (room : ℕ) → room < length (add_all same visited.found (successors x)) → room < length answer
    visit_short room short =
        let all = add_all same work.found (successors x) in
        let more = visit_begins same tells successors (fuel - (work.visited + 1)) (work.visited + 1) all in
        omega (arith, ap (λ w. length (add_all same w.found (successors x))) moves_on, ap length (sym more.1 ∙ visit_at), length-append all more.0)

  pub visit_all : length work.found ≤ work.visited → work.found ≡ answer
  visit_all h = sym (visit_done same successors (fuel - work.visited) work.visited work.found h) ∙ inv
