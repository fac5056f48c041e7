-- The product as it is built: when it is refused, and that its count, endings and moves are those of the definition.
use Rattle.std.proofs.Common.{◌≡◌, ℕ, ◌<◌, ◌≤◌, Bool, true, false, ltb, List, map, length, get_or, None, ap, ◌∙◌, sym, inl, inr, arith}
use lib.ListN.{length-map}
use Rattle.std.specs.List.{flat_map, list_any}
use Rattle.std.proofs.lemmas.List.{get_or_past}
use Rattle.std.proofs.lemmas.Bool.{both_ways, cases_lt, cond-false, le-ltb}
use Rattle.guards.specs.Algebra.{Model, Laws}
use Rattle.automata.specs.Limits.{most_states, most_moves}
use Rattle.automata.specs.Machine.{Machine}
use Rattle.automata.specs.Product.{chosen, pairs, product, product_moves}
use Rattle.automata.specs.Running.{stray}
use Rattle.automata.specs.declared.joins.JoinBy.{JoinBy}
use Rattle.automata.specs.declared.moves.Move.{Move}
use Rattle.automata.specs.declared.pairs.StatePair.{StatePair}
use Rattle.automata.proofs.ProductStrays.{product_no_stray}
use Rattle.automata.proofs.ReachedPairs.{pairs_searched}
use Rattle.tables.specs.Endings.{holds}
use Rattle.tables.specs.Machines.{machine_of}
use Rattle.tables.specs.declared.endings.Endings.{Endings}
use Rattle.tables.specs.declared.machines.Machine.{Machine as TableMachine}
use Rattle.reduction.specs.Products.{product_why}

module _ {E G : Type 0} (alg : Model E G) (laws : Laws alg) (rule clause : TableMachine G) (way : JoinBy) where
  abbrev M : Machine G
  M = machine_of rule

  abbrev N : Machine G
  N = machine_of clause

  abbrev ends : StatePair → Bool
  ends x = chosen way (M.endings x.rule) (N.endings x.clause)

  -- what a machine of so many states, with these endings and moves, keeps and is
  pub record Built (states : ℕ) (endings : Endings) (moves : List (Move G)) : Type 0 where
    pub allowed : product_why alg M N way ≡ None
    pub is : record { count = states; endings = holds endings; moves = moves } ≡ product alg M N way
    pub some : 0 < states
    pub below : (k : ℕ) → holds endings k ≡ true → k < states
    pub no_stray : list_any (stray states) moves ≡ false

  -- so it is with the pairs that are found, their endings and their moves, if they have room
  pub built : (found shown : List StatePair) → found ≡ pairs alg M N → shown ≡ found → (states : ℕ) (endings : Endings) (moves : List (Move G)) → states ≡ length found
      → ((k : ℕ) → holds endings k ≡ get_or (map ends shown) k false) → moves ≡ flat_map (product_moves alg M N) found → states ≤ most_states → length moves ≤ most_moves → Built states endings moves
  built found shown all same states endings moves count_is ends_are moves_are few fits =
      let counted : states ≡ length (pairs alg M N) = count_is ∙ ap length all in
      let ended : (k : ℕ) → holds endings k ≡ get_or (map ends (pairs alg M N)) k false = λ k. ends_are k ∙ ap (λ xs. get_or (map ends xs) k false) (same ∙ all) in
      let placed : moves ≡ (product alg M N way).moves = moves_are ∙ ap (flat_map (product_moves alg M N)) all in
      record {
        allowed = cond-false (ltb most_states (length (pairs alg M N))) _ _ (le-ltb most_states (length (pairs alg M N)) (omega arith))
            ∙ cond-false (ltb most_moves (length (product alg M N way).moves)) _ _ (le-ltb most_moves (length (product alg M N way).moves) (omega (arith, ap length placed)));
        is = λ i. record { count = counted i; endings = λ k. ended k i; moves = placed i };
        some = omega (arith, ap length (pairs_searched alg laws M N rule.some clause.some rule.no_stray clause.no_stray).first.1);
        below = λ k t. elim (cases_lt k states) [
          | inl lt ↦ lt
          | inr past ↦
              absurd (both_ways (get_or (map ends (pairs alg M N)) k false)
              (get_or_past (map ends (pairs alg M N)) k false (omega (arith, length-map (pairs alg M N) ends))) (sym (ended k) ∙ t))
        ];
        no_stray = ap (list_any (stray states)) placed ∙ ap (λ n. list_any (stray n) (product alg M N way).moves) counted
            ∙ product_no_stray alg laws M N rule.some clause.some rule.no_stray clause.no_stray way;
      }
