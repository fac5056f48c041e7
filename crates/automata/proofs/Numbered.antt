-- Machines whose states are numbered nodes: what makes one proper, and its runs, which are those of a step function on nodes.
use Rattle.std.proofs.Common.{◌≡◌, ℕ, ◌<◌, Bool, true, List, [], ◌∷◌, ◌++◌, length, get_or, Decides, sym, refl, ap, ◌∙◌, subst, arith}
use Rattle.std.specs.List.{flat_map}
use Rattle.std.proofs.ByRecursion.{All-push}
use Rattle.std.proofs.lemmas.Bool.{and_parts}
use Rattle.guards.specs.Algebra.{Model, Laws}
use Rattle.guards.specs.Lists.{Member}
use Rattle.automata.specs.Automaton.{run, InDomain}
use Rattle.automata.specs.Machine.{Machine, Day, Leads, LeadsTo, Accepts, Proper}
use Rattle.automata.specs.Search.{Tells, place_of, NoRepeat, Reaches}
use Rattle.automata.specs.Search.Reaches.{itself, after}
use Rattle.automata.specs.declared.moves.Move.{Move}
use Rattle.automata.proofs.Automata.{run_append}
use Rattle.automata.proofs.MachineRuns.{run_only}
use Rattle.automata.proofs.Members.{joined_member, member_joined}
use Rattle.automata.proofs.Places.{member_get_or, place_at, place_own, at_place}

-- the move goes from the node x, admits something, and leads where the step does
pub record MoveOf {E G X : Type 0} (alg : Model E G) (Node : X → Type 0) (number : X → ℕ) (step : X → E → X) (x : X) (v : Move G) : Type 0 where
  pub from : v.from ≡ number x
  pub to : (e : E) → alg.admits v.guard e ≡ true → Node (step x e) × (v.to ≡ number (step x e))
  pub live : (e : E) × (alg.admits v.guard e ≡ true)

-- the states of N are the numbers of nodes, and its moves those that the nodes place, one or more for each domain entry
pub record Numbered {E G X : Type 0} (alg : Model E G) (N : Machine G) (Node : X → Type 0) (number : X → ℕ) (placed : X → List (Move G)) (step : X → E → X) : Type 0 where
  pub inside : (x : X) → Node x → number x < N.count
  pub own : (x y : X) → Node x → Node y → number x ≡ number y → x ≡ y
  pub each : (q : ℕ) → q < N.count → (x : X) × Node x × (number x ≡ q)
  pub out : (v : Move G) → Member v N.moves → (x : X) × Node x × Member v (placed x)
  pub into : (x : X) (v : Move G) → Node x → Member v (placed x) → Member v N.moves
  pub move_of : (x : X) (v : Move G) → Node x → Member v (placed x) → MoveOf alg Node number step x v
  pub some : (x : X) (e : E) → Node x → alg.domain e ≡ true → (v : Move G) × Member v (placed x) × (alg.admits v.guard e ≡ true)

-- the moves of the nodes of a list without repeats, in the list's order, between their places
pub numbered_joined : {E G X : Type 0} (alg : Model E G) (same : X → X → Bool) → Tells same → (xs : List X) → NoRepeat xs → X → (endings : ℕ → Bool) (placed : X → List (Move G)) (step : X → E → X) →
    let Node : X → Type 0 = λ x. Member x xs in
    let number : X → ℕ = λ x. place_of same x xs in
    let N : Machine G = record { count = length xs; endings = endings; moves = flat_map placed xs } in
    ((x : X) (v : Move G) → Node x → Member v (placed x) → MoveOf alg Node number step x v) →
    ((x : X) (e : E) → Node x → alg.domain e ≡ true → (v : Move G) × Member v (placed x) × (alg.admits v.guard e ≡ true)) →
    Numbered alg N Node number placed step
numbered_joined alg same tells xs once d endings placed step move_of some = record {
  inside = λ x m. (place_at same tells x x xs m).0;
  own = λ x y. place_own same tells x y xs;
  each = λ q h. (get_or xs q d, member_get_or xs q d h, at_place same tells xs q d once h);
  out = λ v. joined_member placed v xs;
  into = λ x v. member_joined placed x v xs;
  move_of = move_of;
  some = some;
}

module _ {E G X : Type 0} (alg : Model E G) (laws : Laws alg) {N : Machine G} {Node : X → Type 0} {number : X → ℕ} {placed : X → List (Move G)} {step : X → E → X}
    (n : Numbered alg N Node number placed step) where
  -- on a domain entry a node's number leads to that of the step
  numbered_step : (x : X) (e : E) → Node x → alg.domain e ≡ true → Node (step x e) × Leads alg N (number x) e (number (step x e))
  numbered_step x e m d =
      let s = n.some x e m d in
      let v = s.0 in
      let o = n.move_of x v m s.1 in
      let t = o.to e s.2 in
      (t.0, (v, n.into x v m s.1, o.from, s.2, t.1))

  -- there is a node, and each ending is a state
  pub numbered_proper : (x : X) → Node x → ((q : ℕ) → N.endings q ≡ true → q < N.count) → Proper alg N
  numbered_proper x₀ m₀ ends = record {
    in_range = record {
      some = omega (arith, n.inside x₀ m₀);
      endings_in = ends;
      from_in = λ v m. let o = n.out v m in rw (n.move_of o.0 v o.1 o.2).from (n.inside o.0 o.1);
      to_in = λ v m.
          let o = n.out v m in
          let f = n.move_of o.0 v o.1 o.2 in
          let t = f.to f.live.0 f.live.1 in
          rw t.1 (n.inside (step o.0 f.live.0) t.0);
    };
    complete = λ q e h d.
        let x = n.each q h in
        (number (step x.0 e), subst (λ (p : ℕ). Leads alg N p e (number (step x.0 e))) x.2 (numbered_step x.0 e x.1 d).1);
    deterministic = λ u v mu mv from e both.
        let a = n.out u mu in
        let b = n.out v mv in
        let f = n.move_of a.0 u a.1 a.2 in
        let g = n.move_of b.0 v b.1 b.2 in
        let one = n.own a.0 b.0 a.1 b.1 (sym f.from ∙ from ∙ g.from) in
        let h = and_parts (alg.admits u.guard e) (alg.admits v.guard e) (sym (laws.meet_admits u.guard v.guard e) ∙ both) in
        (f.to e h.0).1 ∙ ap (λ x. number (step x e)) one ∙ sym (g.to e h.1).1;
  }

  pub numbered_run : (w : List E) (x : X) → Node x → Day alg w → Node (run step x w) × LeadsTo alg N (number x) w (number (run step x w))
  numbered_run [] x m d = (m, refl)
  numbered_run (e ∷ w) x m d =
      let s = numbered_step x e m d.0 in
      let r = numbered_run w (step x e) s.0 d.1 in
      (r.0, (number (step x e), s.1, r.1))

  -- where the endings are those of the nodes, so are the days accepted
  pub numbered_accepts : Proper alg N → (ends : X → Bool) → ((x : X) → Node x → N.endings (number x) ≡ ends x) → (w : List E) (x : X) → Node x → Day alg w → Decides (ends (run step x w)) (Accepts alg N (number x) w)
  numbered_accepts proper ends is w x m d =
      let y = run step x w in
      let r = numbered_run w x m d in
      let only = run_only alg laws N proper (number x) w in (
        λ t. (number y, r.1, is y r.0 ∙ t),
        λ a. sym (is y r.0) ∙ ap N.endings (only (number y) (n.inside x m) d r.1 ∙ sym (only a.0 (n.inside x m) d a.1)) ∙ a.2,
      )

  -- where a day leads from x to each node, days lead from its number to each state
  pub numbered_reaches : (x : X) → Node x → ((y : X) → Node y → (w : List E) × Day alg w × (run step x w ≡ y)) → (q : ℕ) → q < N.count → (w : List E) × Day alg w × LeadsTo alg N (number x) w q
  numbered_reaches x m way q h =
      let y = n.each q h in
      let w = way y.0 y.1 in
      (w.0, w.1, subst (λ (p : ℕ). LeadsTo alg N (number x) w.0 p) (ap number w.2 ∙ y.2) (numbered_run w.0 x m w.1).1)

-- what is reached by successors is reached by a day, where an entry steps to each successor; f takes what is searched to nodes
pub reaches_run : {E X Q : Type 0} (domain : E → Bool) (successors : X → List X) (step : Q → E → Q) (f : X → Q) (x : X) →
    ((y z : X) → Reaches successors x y → Member z (successors y) → (e : E) × (domain e ≡ true) × (step (f y) e ≡ f z)) →
    (y : X) → Reaches successors x y → (w : List E) × InDomain domain w × (run step (f x) w ≡ f y)
reaches_run domain successors step f x steps y itself = ([], tt, refl)
reaches_run domain successors step f x steps z (after {y} r m) =
    let w = reaches_run domain successors step f x steps y r in
    let s = steps y z r m in
    let e = s.0 in (
      w.0 ++ (e ∷ []),
      All-push (λ e. domain e ≡ true) w.0 e w.1 s.1,
      run_append step (f x) w.0 (e ∷ []) ∙ ap (λ q. step q e) w.2 ∙ s.2,
    )
