-- A list that is written at the front of a table: one element more.
use Rattle.std.proofs.Common.{◌≡◌, ℕ, suc, ◌+◌, ◌<◌, List, [], ◌∷◌, ◌++◌, length, get_or, drop, set, sym, ap, ◌∙◌, ap₂, add-one, arith, drop-cons}
use Rattle.std.proofs.Math.Seq.{set-append_seam}
use Rattle.std.proofs.lemmas.List.{append_assoc, length_push}
use Rattle.reduction.specs.Placed.{Placed}

placed_push : {T : Type 0} (xs before after : List T) (n : ℕ) (x : T) → n < length before → Placed xs before after n → Placed (xs ++ (x ∷ [])) before (set after n x) (n + 1)
placed_push xs before after n x room (count, is) = (
  ap (λ k. k + 1) count ∙ sym (length_push xs x),
  ap₂ (λ ys k. set ys k x) (is ∙ ap (λ ys. xs ++ ys) (drop-cons before (length xs) x (omega arith))) count
      ∙ set-append_seam xs (get_or before (length xs) x) (drop (suc (length xs)) before) x
      ∙ sym (append_assoc xs (x ∷ []) (drop (suc (length xs)) before))
      ∙ ap (λ k. (xs ++ (x ∷ [])) ++ drop k before) (sym (add-one (length xs)) ∙ sym (length_push xs x)),
)

pub placed_more : {T : Type 0} (xs before after : List T) (n : ℕ) (x : T) → n < length before → Placed xs before after n → (ys after' : List T) (n' : ℕ) → ys ≡ xs ++ (x ∷ []) → after' ≡ set after n x → n' ≡ n + 1
    → Placed ys before after' n'
placed_more xs before after n x room placed ys after' n' list table count = rw (list, table, count) (placed_push xs before after n x room placed)
