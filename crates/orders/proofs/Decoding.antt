-- What decoding means: bytes give an order just where they are the bytes of that order.
use Rattle.std.proofs.Common.{◌≡◌, ℕ, suc, ◌+◌, ◌-◌, ◌*◌, ◌<◌, Bool, true, false, cond, eqb, ◌⊎◌, List, [], ◌∷◌, length, drop, replicate, Some, None, Ok, Err, Option, sym, refl, ap, ◌∙◌, inl, inr, arith, lit<, length-drop, drop-cons, eqb-true}
use lib.Arith.{digits_div, digits_mod}
use Rattle.std.specs.Option.{ok_or}
use Rattle.std.proofs.lemmas.List.{drop_all}
use Rattle.guards.specs.Minutes.{minutes}
use Rattle.guards.specs.declared.flags.FlagRow.{FlagRow}
use Rattle.guards.specs.declared.minutes.MinuteRow.{MinuteRow}
use Rattle.guards.specs.declared.pair.Both.{Both}
use Rattle.automata.specs.declared.joins.JoinBy.TheVariants.{Both as ByBoth, Either, Except}
use Rattle.automata.specs.declared.moves.Move.{Move}
use Rattle.automata.specs.declared.refusals.Refusal.{Refusal}
use Rattle.automata.specs.declared.refusals.Refusal.TheVariants.{OutOfPlace}
use Rattle.orders.specs.declared.order.Order.{Order}
use Rattle.orders.specs.declared.order.Order.TheVariants.{Open, Add, Mark, Write, Check, Join, Turn, Discard}
use Rattle.orders.specs.Records.{Answer, Meaning, asked, blank, by_letter, byte_at, bytes_of, decoded, high_byte, letter_of, lettered, low_byte, mark_asked, move_of, plain_asked, plain_orders, short, write_asked}
use Rattle.orders.proofs.Blanks.{blank_zeros}

-- the side that a test chose
picked : {X : Type 0} (t : Bool) (x y z : X) → cond t x y ≡ z → ((t ≡ true) × (x ≡ z)) ⊎ ((t ≡ false) × (y ≡ z))
picked true x y z e = inl (refl, e)
picked false x y z e = inr (refl, e)

-- what is there under a test, or else nothing, is there under the test
under : (t : Bool) (x : Option Order) (o : Order) → cond t x None ≡ Some o → (t ≡ true) × (x ≡ Some o)
under true x o e = (refl, e)
under false x o e = let z : ◌≡◌ {A = ℕ} 0 1 = cc in absurd (omega arith)

-- the bytes from a place on, below ten
from_place : (bs : List ℕ) (i : ℕ) → length bs ≡ 10 → i < 10 → drop i bs ≡ byte_at bs i ∷ drop (suc i) bs
from_place bs i e h = drop-cons bs i 0 (omega arith)

-- zeros up to the tenth byte
zeros_from : (bs : List ℕ) (i : ℕ) → length bs ≡ 10 → blank (drop i bs) ≡ true → drop i bs ≡ replicate (10 - i) 0
zeros_from bs i e t = blank_zeros (drop i bs) t ∙ ap (λ n. replicate n 0) (length-drop i bs ∙ ap (λ n. n - i) e)

-- orders that carry nothing
abbrev Plain : List Order → Type 0
Plain [] = Unit {0}
Plain (o ∷ os) = (bytes_of o ≡ short (letter_of o) 0) × Plain os

-- the first of them with a letter has that letter and zeros
lettered_plain : (l : ℕ) (os : List Order) (o : Order) → Plain os → lettered l os ≡ Some o → short l 0 ≡ bytes_of o
lettered_plain l [] o p e = let z : ◌≡◌ {A = ℕ} 0 1 = cc in absurd (omega arith)
lettered_plain l (x ∷ os) o p e =
    elim (picked (eqb l (letter_of x)) (Some x) (lettered l os) (Some o) e) [
      | inl h ↦ let same : x ≡ o = cc h.1 in ap (λ k. short k 0) (eqb-true l (letter_of x) h.0) ∙ sym p.0 ∙ ap bytes_of same
      | inr h ↦ lettered_plain l os o p.1 h.1
    ]

-- ten bytes, one by one
spread : (bs : List ℕ) → length bs ≡ 10 → bs ≡ byte_at bs 0 ∷ byte_at bs 1 ∷ byte_at bs 2 ∷ byte_at bs 3 ∷ byte_at bs 4 ∷ byte_at bs 5 ∷ byte_at bs 6 ∷ byte_at bs 7 ∷ byte_at bs 8 ∷ byte_at bs 9 ∷ []
spread bs n =
    let e0 = from_place bs 0 n (lit< tt) in
    let e1 = from_place bs 1 n (lit< tt) in
    let e2 = from_place bs 2 n (lit< tt) in
    let e3 = from_place bs 3 n (lit< tt) in
    let e4 = from_place bs 4 n (lit< tt) in
    let e5 = from_place bs 5 n (lit< tt) in
    let e6 = from_place bs 6 n (lit< tt) in
    let e7 = from_place bs 7 n (lit< tt) in
    let e8 = from_place bs 8 n (lit< tt) in
    let e9 = from_place bs 9 n (lit< tt) in
    let e10 : drop 10 bs ≡ [] = drop_all 10 bs (omega arith) in
    cc

-- where the letter is M, the bytes are those of the order; low bytes are below 256
write_sound : (bs : List ℕ) (o : Order) → length bs ≡ 10 → ((i : ℕ) → byte_at bs i < 256) → byte_at bs 0 ≡ 77 → write_asked bs ≡ Some o → bs ≡ bytes_of o
write_sound bs o n small l e =
    let u = under (eqb (byte_at bs 5) 0) (Some (Write (move_of bs))) o e in
    let same : Write (move_of bs) ≡ o = cc u.1 in
    let all = spread bs n in
    let unused = eqb-true (byte_at bs 5) 0 u.0 in
    let h6 = digits_div (byte_at bs 6) (small 7) in
    let h7 = digits_mod (byte_at bs 6) (small 7) in
    let h8 = digits_div (byte_at bs 8) (small 9) in
    let h9 = digits_mod (byte_at bs 8) (small 9) in
    let written : bs ≡ bytes_of (Write (move_of bs)) = cc in
    written ∙ ap bytes_of same

-- where the letter is E
mark_sound : (bs : List ℕ) (o : Order) → length bs ≡ 10 → byte_at bs 0 ≡ 69 → mark_asked bs ≡ Some o → bs ≡ bytes_of o
mark_sound bs o n l e =
    let u = under (blank (drop 2 bs)) (Some (Mark (byte_at bs 1))) o e in
    let same : Mark (byte_at bs 1) ≡ o = cc u.1 in
    from_place bs 0 n (lit< tt) ∙ ap (λ t. byte_at bs 0 ∷ t) (from_place bs 1 n (lit< tt))
    ∙ ap (λ t. byte_at bs 0 ∷ byte_at bs 1 ∷ t) (zeros_from bs 2 n u.0)
    ∙ ap (λ k. short k (byte_at bs 1)) l ∙ ap bytes_of same

-- where the letter uses no other byte
plain_sound : (bs : List ℕ) (o : Order) → length bs ≡ 10 → plain_asked bs ≡ Some o → bs ≡ bytes_of o
plain_sound bs o n e =
    let u = under (blank (drop 1 bs)) (lettered (byte_at bs 0) plain_orders) o e in
    from_place bs 0 n (lit< tt) ∙ ap (λ t. byte_at bs 0 ∷ t) (zeros_from bs 1 n u.0)
    ∙ lettered_plain (byte_at bs 0) plain_orders o (refl, (refl, (refl, (refl, (refl, (refl, (refl, (refl, tt)))))))) u.1

-- bytes that ask for an order are its bytes
sound : (bs : List ℕ) (o : Order) → ((i : ℕ) → byte_at bs i < 256) → asked bs ≡ Some o → bs ≡ bytes_of o
sound bs o small e =
    let u = under (eqb (length bs) 10) (by_letter bs) o e in
    let n = eqb-true (length bs) 10 u.0 in
    elim (picked (eqb (byte_at bs 0) 77) (write_asked bs) (cond (eqb (byte_at bs 0) 69) (mark_asked bs) (plain_asked bs)) (Some o) u.1) [
      | inl h ↦ write_sound bs o n small (eqb-true (byte_at bs 0) 77 h.0) h.1
      | inr h ↦
          elim (picked (eqb (byte_at bs 0) 69) (mark_asked bs) (plain_asked bs) (Some o) h.1) [
            | inl k ↦ mark_sound bs o n (eqb-true (byte_at bs 0) 69 k.0) k.1
            | inr k ↦ plain_sound bs o n k.1
          ]
    ]

-- a number is its two bytes
rejoined : (n : ℕ) → high_byte n * 256 + low_byte n ≡ n
rejoined n = omega arith

-- a write with other minutes
abbrev with_minutes : Move (Both FlagRow MinuteRow) → ℕ → ℕ → Order
with_minutes m a b = Write (record { from = m.from; guard = record { first = m.guard.first; second = minutes a b }; to = m.to })

-- an order's bytes ask for it
decoded_bytes : (o : Order) → decoded (bytes_of o) ≡ Ok o
decoded_bytes Open = refl
decoded_bytes Add = refl
decoded_bytes (Mark s) = refl
decoded_bytes (Write m) =
    let row = m.guard.second in
    ap (λ n. Ok (with_minutes m n (high_byte row.last * 256 + low_byte row.last))) (rejoined row.first)
    ∙ ap (λ n. Ok (with_minutes m row.first n)) (rejoined row.last)
decoded_bytes Check = refl
decoded_bytes (Join ByBoth) = refl
decoded_bytes (Join Either) = refl
decoded_bytes (Join Except) = refl
decoded_bytes Turn = refl
decoded_bytes Discard = refl

-- an answer that is an order was found
found : (a : Option Order) (o : Order) → ◌≡◌ {A = Answer} (ok_or a OutOfPlace) (Ok o) → a ≡ Some o
found None o e = let z : ◌≡◌ {A = ℕ} 0 1 = cc in absurd (omega arith)
found (Some x) o e = cc

-- an answer that is a refusal says out of place
only_out : (a : Option Order) (why : Refusal (Both ℕ ℕ)) → ◌≡◌ {A = Answer} (ok_or a OutOfPlace) (Err why) → why ≡ OutOfPlace
only_out None why e = cc
only_out (Some x) why e = let z : ◌≡◌ {A = ℕ} 0 1 = cc in absurd (omega arith)

-- an order's bytes are never refused, since they ask for it
means : (bs : List ℕ) → ((i : ℕ) → byte_at bs i < 256) → (r : Answer) → decoded bs ≡ r → Meaning bs r
means bs small (Ok o) e = sound bs o small (found (asked bs) o e)
means bs small (Err why) e =
    (only_out (asked bs) why e, λ o h. let k = ap decoded h ∙ decoded_bytes o in let z : ◌≡◌ {A = ℕ} 0 1 = cc in absurd (omega arith))

-- what decoding gives means what it should
pub decoded_means : (bs : List ℕ) → ((i : ℕ) → byte_at bs i < 256) → Meaning bs (decoded bs)
decoded_means bs small = means bs small (decoded bs) refl
