-- The pair of two algebras that keep the laws keeps them.
use Rattle.std.specs.Prelude.{◌≡◌, ◌+◌, Bool, true, false, cond, not, ◌&&◌, [], ◌++◌, map, is_some, Some, None, count_by, Option, refl}
use Rattle.std.proofs.Common.{sym, ap, ap₂, ◌∙◌}
use Rattle.std.proofs.Math.Bool.{and_comm}
use Rattle.std.proofs.lemmas.Bool.{and_parts, and_from, and_left, and_right}
use Rattle.guards.specs.Tests.{and_swap}
use Rattle.guards.specs.Algebra.{Model, Laws}
use Rattle.guards.specs.Pair.{both, both_some, pair_admit, first_parts, second_parts, pair_parts, pair_model}
use Rattle.guards.specs.declared.pair.Both.{Both}
use Rattle.guards.specs.Counting.{count_append, count_map, Each, each_none, each_append, each_map}

-- what a sample tells
module _ {E G : Type 0} {m : Model E G} (laws : Laws m) (g : G) where
  pub dead : is_some (m.sample g) ≡ false → (e : E) → m.admits g e ≡ false
  dead h = go (m.sample g) refl h
    where
      go : (o : Option E) → m.sample g ≡ o → is_some o ≡ false → (e : E) → m.admits g e ≡ false
      go None s h = laws.sample_none g s
      go (Some e) s h = absurd cc

  pub live : is_some (m.sample g) ≡ true → (e : E) × (m.admits g e ≡ true)
  live h = go (m.sample g) refl h
    where
      go : (o : Option E) → m.sample g ≡ o → is_some o ≡ true → (e : E) × (m.admits g e ≡ true)
      go None s h = absurd cc
      go (Some e) s h = (e, laws.sample_some g e s)

-- x and u: a admits the entry on each side; y and v: b does. The first run counts where u, the second where x and y
sum_runs : (x y u v : Bool) → cond u (cond (x && not y) 1 0) 0 + cond (x && y) (cond (u && not v) 1 0) 0 ≡ cond ((x && u) && not (y && v)) 1 0
sum_runs true true true true = refl
sum_runs true true true false = refl
sum_runs true true false v = refl
sum_runs true false true v = refl
sum_runs true false false v = refl
sum_runs false y true v = refl
sum_runs false y false v = refl

module _ {E₁ G₁ E₂ G₂ : Type 0} {m : Model E₁ G₁} {n : Model E₂ G₂} (l : Laws m) (r : Laws n) where
  abbrev Live : Both G₁ G₂ → Type 0
  Live g = (e : Both E₁ E₂) × (pair_admit m n g e ≡ true)

  sample_none : (g : Both G₁ G₂) → both_some (m.sample g.first) (n.sample g.second) ≡ None → (e : Both E₁ E₂) → pair_admit m n g e ≡ false
  sample_none g h e = go (m.sample g.first) (n.sample g.second) refl refl h
    where
      go : (o : Option E₁) (p : Option E₂) → m.sample g.first ≡ o → n.sample g.second ≡ p → both_some o p ≡ None → pair_admit m n g e ≡ false
      go None p s t h = and_left _ _ (l.sample_none g.first s e.first)
      go (Some x) None s t h = and_right _ _ (r.sample_none g.second t e.second)
      go (Some x) (Some y) s t h = absurd cc

  sample_some : (g : Both G₁ G₂) (e : Both E₁ E₂) → both_some (m.sample g.first) (n.sample g.second) ≡ Some e → pair_admit m n g e ≡ true
  sample_some g e h = go (m.sample g.first) (n.sample g.second) refl refl h
    where
      go : (o : Option E₁) (p : Option E₂) → m.sample g.first ≡ o → n.sample g.second ≡ p → both_some o p ≡ Some e → pair_admit m n g e ≡ true
      go None p s t h = absurd cc
      go (Some x) None s t h = absurd cc
      go (Some x) (Some y) s t h =
          let same : both x y ≡ e = cc in
          and_from _ _ (l.sample_some g.first e.first (s ∙ ap (λ d. Some d.first) same)) (r.sample_some g.second e.second (t ∙ ap (λ d. Some d.second) same))

  module _ (a b : Both G₁ G₂) where
    abbrev met : G₁
    met = m.meet a.first b.first

    parts_once : (e : Both E₁ E₂) → count_by (λ p. pair_admit m n p e) (pair_parts m n a b) ≡ cond (pair_admit m n a e && not (pair_admit m n b e)) 1 0
    parts_once e = go (is_some (m.sample a.first)) (is_some (n.sample a.second)) refl refl
      where
        x : Bool
        x = m.admits a.first e.first

        y : Bool
        y = m.admits b.first e.first

        u : Bool
        u = n.admits a.second e.second

        v : Bool
        v = n.admits b.second e.second

        P : Both G₁ G₂ → Bool
        P p = pair_admit m n p e

        first : count_by P (first_parts m n a b) ≡ cond u (cond (x && not y) 1 0) 0
        first =
            count_map P (λ p. both p a.second) u (λ p. m.admits p e.first) (m.parts a.first b.first) (λ p. and_comm (m.admits p e.first) u)
            ∙ ap (λ k. cond u k 0) (l.parts_once a.first b.first e.first)

        second : (w : Bool) → is_some (m.sample met) ≡ w → count_by P (cond w (map (both met) (n.parts a.second b.second)) []) ≡ cond (x && y) (cond (u && not v) 1 0) 0
        second true h =
            count_map P (both met) (m.admits met e.first) (λ q. n.admits q e.second) (n.parts a.second b.second) (λ q. refl)
            ∙ ap₂ (λ t k. cond t k 0) (l.meet_admits a.first b.first e.first) (r.parts_once a.second b.second e.second)
        second false h = sym (ap (λ t. cond t (cond (u && not v) 1 0) 0) (sym (l.meet_admits a.first b.first e.first) ∙ dead l met h e.first))

        go : (s t : Bool) → is_some (m.sample a.first) ≡ s → is_some (n.sample a.second) ≡ t
            → count_by P (cond (s && t) (first_parts m n a b ++ second_parts m n a b) []) ≡ cond ((x && u) && not (y && v)) 1 0
        go true true h k =
            count_append P (first_parts m n a b) (second_parts m n a b) ∙ ap₂ ◌+◌ first (second (is_some (m.sample met)) refl) ∙ sum_runs x y u v
        go true false h k = sym (ap (λ t. cond (t && not (y && v)) 1 0) (and_right x u (dead r a.second k e.second)))
        go false t h k = sym (ap (λ t. cond (t && not (y && v)) 1 0) (and_left x u (dead l a.first h e.first)))

    parts_some : Each Live (pair_parts m n a b)
    parts_some = go (is_some (m.sample a.first)) (is_some (n.sample a.second)) refl refl
      where
        first : is_some (n.sample a.second) ≡ true → Each Live (first_parts m n a b)
        first h =
            let f = live r a.second h in
            each_map Live (λ p. both p a.second) (m.parts a.first b.first)
            (λ k p at. let e = l.parts_some a.first b.first k p at in (both e.0 f.0, and_from _ _ e.1 f.1))

        second : (w : Bool) → is_some (m.sample met) ≡ w → Each Live (cond w (map (both met) (n.parts a.second b.second)) [])
        second true h =
            let e = live l met h in
            each_map Live (both met) (n.parts a.second b.second)
            (λ k q at. let f = r.parts_some a.second b.second k q at in (both e.0 f.0, and_from _ _ e.1 f.1))
        second false h = each_none Live

        go : (s t : Bool) → is_some (m.sample a.first) ≡ s → is_some (n.sample a.second) ≡ t
            → Each Live (cond (s && t) (first_parts m n a b ++ second_parts m n a b) [])
        go true true h k = each_append Live (first_parts m n a b) (second_parts m n a b) (first k) (second (is_some (m.sample met)) refl)
        go true false h k = each_none Live
        go false t h k = each_none Live

  pub pair_laws : Laws (pair_model m n)
  pair_laws = record {
    inhabited = (both l.inhabited.0 r.inhabited.0, and_from _ _ l.inhabited.1 r.inhabited.1);
    whole_admits = λ e. ap₂ ◌&&◌ (l.whole_admits e.first) (r.whole_admits e.second);
    inside = λ g e h. let p = and_parts (m.admits g.first e.first) (n.admits g.second e.second) h in and_from _ _ (l.inside g.first e.first p.0) (r.inside g.second e.second p.1);
    meet_admits = λ a b e. ap₂ ◌&&◌ (l.meet_admits a.first b.first e.first) (r.meet_admits a.second b.second e.second) ∙ and_swap (m.admits a.first e.first) (m.admits b.first e.first) (n.admits a.second e.second) (n.admits b.second e.second);
    sample_none = sample_none;
    sample_some = sample_some;
    parts_once = parts_once;
    parts_some = parts_some;
  }
