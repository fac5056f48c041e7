-- Order records: the ten bytes of an order, the order that bytes ask for, and the check of its numbers.
use Rattle.std.specs.Prelude.{◌≡◌, ℕ, ◌+◌, ◌*◌, ◌/◌, ◌%◌, Bool, cond, List, [], ◌∷◌, length, drop, Some, None, Ok, Err, Option, Result, ◌==◌, ◌≢◌, slice_index}
use Rattle.std.specs.List.{list_all}
use Rattle.std.specs.Option.{ok_or}
use Rattle.guards.specs.Flags.{flags, is_pattern}
use Rattle.guards.specs.Minutes.{minutes, is_range}
use Rattle.guards.specs.declared.flags.FlagRow.{FlagRow}
use Rattle.guards.specs.declared.minutes.MinuteRow.{MinuteRow}
use Rattle.guards.specs.declared.malformed.Malformed.{Malformed}
use Rattle.guards.specs.declared.malformed.Malformed.TheVariants.{Flags, Minutes}
use Rattle.guards.specs.declared.pair.Both.{Both}
use Rattle.automata.specs.declared.joins.JoinBy.TheVariants.{Both as ByBoth, Either, Except}
use Rattle.automata.specs.declared.moves.Move.{Move}
use Rattle.automata.specs.declared.refusals.Refusal.{Refusal}
use Rattle.automata.specs.declared.refusals.Refusal.TheVariants.{BadNumbers, OutOfPlace}
use Rattle.orders.specs.declared.order.Order.{Order}
use Rattle.orders.specs.declared.order.Order.TheVariants.{Open, Add, Mark, Write, Check, Join, Turn, Discard}

-- an order, or why there is none
abbrev pub Answer : Type 0
Answer = Result Order (Refusal (Both ℕ ℕ))

-- the letter of an order, in ASCII: O S E M C B I X T K
abbrev pub letter_of : Order → ℕ
letter_of Open = 79
letter_of Add = 83
letter_of (Mark s) = 69
letter_of (Write m) = 77
letter_of Check = 67
letter_of (Join ByBoth) = 66
letter_of (Join Either) = 73
letter_of (Join Except) = 88
letter_of Turn = 84
letter_of Discard = 75

-- a letter, one byte, and eight that are zero
abbrev pub short : ℕ → ℕ → List ℕ
short l b = l ∷ b ∷ 0 ∷ 0 ∷ 0 ∷ 0 ∷ 0 ∷ 0 ∷ 0 ∷ 0 ∷ []

-- a number of two bytes, high byte first
abbrev pub high_byte : ℕ → ℕ
high_byte n = n / 256

abbrev pub low_byte : ℕ → ℕ
low_byte n = n % 256

-- the ten bytes of an order
abbrev pub bytes_of : Order → List ℕ
bytes_of Open = short (letter_of Open) 0
bytes_of Add = short (letter_of Add) 0
bytes_of (Mark s) = short (letter_of (Mark s)) s
bytes_of (Write m) =
    letter_of (Write m) ∷ m.from ∷ m.to ∷ m.guard.first.care ∷ m.guard.first.value ∷ 0
    ∷ high_byte m.guard.second.first ∷ low_byte m.guard.second.first
    ∷ high_byte m.guard.second.last ∷ low_byte m.guard.second.last ∷ []
bytes_of Check = short (letter_of Check) 0
bytes_of (Join w) = short (letter_of (Join w)) 0
bytes_of Turn = short (letter_of Turn) 0
bytes_of Discard = short (letter_of Discard) 0

-- the byte at a place
abbrev pub byte_at : List ℕ → ℕ → ℕ
byte_at bs i = slice_index bs i

-- the number of two bytes, high byte first
abbrev pub number_at : List ℕ → ℕ → ℕ → ℕ
number_at bs i j = byte_at bs i * 256 + byte_at bs j

-- every byte is zero
abbrev pub blank : List ℕ → Bool
blank = list_all (λ b. b == 0)

-- the move that bytes 1 to 4 and 6 to 9 are
abbrev pub move_of : List ℕ → Move (Both FlagRow MinuteRow)
move_of bs = record {
  from = byte_at bs 1;
  guard = record { first = flags (byte_at bs 3) (byte_at bs 4); second = minutes (number_at bs 6 7) (number_at bs 8 9) };
  to = byte_at bs 2;
}

-- the first order of the list that has the letter
abbrev pub lettered : ℕ → List Order → Option Order
lettered l [] = None
lettered l (o ∷ os) = cond (l == letter_of o) (Some o) (lettered l os)

-- the orders that use no byte but their letter
abbrev pub plain_orders : List Order
plain_orders = Open ∷ Add ∷ Check ∷ Join ByBoth ∷ Join Either ∷ Join Except ∷ Turn ∷ Discard ∷ []

-- the order of ten bytes whose letter is M, if byte 5 is zero
abbrev pub write_asked : List ℕ → Option Order
write_asked bs = cond (byte_at bs 5 == 0) (Some (Write (move_of bs))) None

-- the order of ten bytes whose letter is E, if all after byte 1 are zero
abbrev pub mark_asked : List ℕ → Option Order
mark_asked bs = cond (blank (drop 2 bs)) (Some (Mark (byte_at bs 1))) None

-- the order of ten bytes with another letter, if all after the letter are zero
abbrev pub plain_asked : List ℕ → Option Order
plain_asked bs = cond (blank (drop 1 bs)) (lettered (byte_at bs 0) plain_orders) None

-- the order of ten bytes, by their letter
abbrev pub by_letter : List ℕ → Option Order
by_letter bs = cond (byte_at bs 0 == 77) (write_asked bs) (cond (byte_at bs 0 == 69) (mark_asked bs) (plain_asked bs))

-- the order that bytes ask for: there is one only if there are ten
abbrev pub asked : List ℕ → Option Order
asked bs = cond (length bs == 10) (by_letter bs) None

abbrev pub decoded : List ℕ → Answer
decoded bs = ok_or (asked bs) OutOfPlace

-- what an answer means: the bytes are those of the order, or they are those of no order
abbrev pub Meaning : List ℕ → Answer → Type 0
Meaning bs (Ok o) = bs ≡ bytes_of o
Meaning bs (Err why) = (why ≡ OutOfPlace) × ((o : Order) → bs ≢ bytes_of o)

-- the answer is the one decoded, and means what it should
pub record Decodes (bytes : List ℕ) (answer : Answer) : Type 0 where
  pub value : answer ≡ decoded bytes
  pub meaning : Meaning bytes answer

-- which numbers of a guard are at fault: the flags are looked at first
abbrev pub fault : Both FlagRow MinuteRow → Option Malformed
fault g = cond (is_pattern g.first) (cond (is_range g.second) None (Some Minutes)) (Some Flags)

-- the order, unless there is a fault
abbrev pub unless_fault : Option Malformed → Order → Answer
unless_fault None o = Ok o
unless_fault (Some why) o = Err (BadNumbers why)

-- the order itself, unless it writes a move whose numbers make no guard
abbrev pub numbers_checked : Order → Answer
numbers_checked Open = Ok Open
numbers_checked Add = Ok Add
numbers_checked (Mark s) = Ok (Mark s)
numbers_checked (Write m) = unless_fault (fault m.guard) (Write m)
numbers_checked Check = Ok Check
numbers_checked (Join w) = Ok (Join w)
numbers_checked Turn = Ok Turn
numbers_checked Discard = Ok Discard

-- the check comes after the decoding
abbrev pub then_checked : Answer → Answer
then_checked (Ok o) = numbers_checked o
then_checked (Err why) = Err why
