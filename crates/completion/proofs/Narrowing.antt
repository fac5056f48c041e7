-- Narrowing guards: the loop that puts the parts of each.
use Rattle.std.proofs.Common.{◌≡◌, ℕ, ◌+◌, ◌^◌, ◌<◌, ◌≤◌, ◌++◌, [], List, length, get_or, take, refl, sym, ap, ◌∙◌, arith, length-append}
use Rattle.std.proofs.lemmas.List.{append-nil, length-take}
use Rattle.guards.specs.Algebra.{Model, numbered}
use Rattle.guards.proofs.NumberedParts.{all_parts}
use Rattle.automata.specs.Checking.{without}
use Rattle.automata.specs.Limits.{most_parts}
use Rattle.automata.proofs.Appending.{append_more, append_short}
use Rattle.tables.specs.Lists.{Held}

numbered_few : {G : Type 0} (ps : List G) → length (numbered ps) ≤ length ps
unfolding numbered
numbered_few ps = few (2 ^ 64)
  where
    few : (most : ℕ) → length (take most ps) ≤ length ps
    few most = omega (arith, length-take most ps)

-- parts that have room are all the parts
numbered_all : {G : Type 0} (ps : List G) → length (numbered ps) ≤ most_parts → numbered ps ≡ ps
numbered_all ps few = all_parts ps (numbered ps) [] (sym (append-nil (numbered ps))) refl (omega arith)

-- at the guard a, which stands at place i: the list has the parts of those before it
module _ {E G : Type 0} (alg : Model E G) (b : G) (guards : List G) (i : ℕ) (held : Held G) (put : held ≡ record { items = without alg b (take i guards); room = most_parts }) (a : G) (lt : i < length guards) (read : a ≡ get_or guards i a) where
  before : held.items ≡ [] ++ without alg b (take i guards)
  before = ap (λ h. h.items) put

  pub parts_put : (new : Held G) → new ≡ record { items = held.items ++ numbered (alg.parts a b); room = held.room } → length new.items ≤ new.room
      → record { put : new ≡ record { items = without alg b (take (i + 1) guards); room = most_parts }; fits : length new.items ≤ most_parts }
  parts_put new is fits =
      let room : held.room ≡ most_parts = ap (λ h. h.room) put in
      let few : length (numbered (alg.parts a b)) ≤ most_parts = omega (arith, ap (λ h. h.room) is, ap (λ h. length h.items) is, length-append held.items (numbered (alg.parts a b))) in
      record {
        put = is ∙ ap (λ ps. record { items = held.items ++ ps; room = held.room }) (numbered_all (alg.parts a b) few)
            ∙ ap (λ gs. record { items = gs; room = held.room }) (append_more (λ g. alg.parts g b) [] guards i held.items before a lt read)
            ∙ ap (λ n. record { items = without alg b (take (i + 1) guards); room = n }) room;
        fits = omega (arith, ap (λ h. h.room) is);
      }

  pub parts_short : held.room < length (held.items ++ numbered (alg.parts a b)) → most_parts < length (without alg b guards)
  parts_short short =
      append_short (λ g. alg.parts g b) [] guards i held.items before a most_parts lt read (omega (
        arith,
        ap (λ h. h.room) put,
        numbered_few (alg.parts a b),
        length-append held.items (numbered (alg.parts a b)),
        length-append held.items (alg.parts a b),
      ))
