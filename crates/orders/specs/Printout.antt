-- The text of each line of a printout, without its newline.
use Rattle.std.specs.Prelude.{ℕ, true, false, List, ◌++◌, codes, decimal}
use Rattle.orders.specs.declared.printout.Line.{Line}
use Rattle.orders.specs.declared.printout.Line.TheVariants.{Refused, Counts, State, Counted}

-- a number, and what stands after it and a space
abbrev pub spaced : ℕ → List ℕ → List ℕ
spaced n later = decimal n ++ (codes " " ++ later)

abbrev pub text : Line → List ℕ
text (Refused place number) = codes "record " ++ (decimal place ++ (codes " refusal " ++ decimal number))
text (Counts states moves) = codes "states " ++ (decimal states ++ (codes " moves " ++ decimal moves))
text (State number true) = codes "state " ++ (decimal number ++ codes " end")
text (State number false) = codes "state " ++ (decimal number ++ codes " no")
text (Counted m) =
    codes "move "
    ++ spaced m.from
    (spaced m.guard.first.care (spaced m.guard.first.value (spaced m.guard.second.first (spaced m.guard.second.last (decimal m.to)))))
