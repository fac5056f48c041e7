-- Tests that are made together.
use Rattle.std.specs.Prelude.{◌≡◌, Bool, true, false, ◌&&◌, refl}

-- two pairs of tests, by their firsts and their seconds
pub and_swap : (x y u v : Bool) → ((x && y) && (u && v)) ≡ ((x && u) && (y && v))
and_swap true true u v = refl
and_swap true false true v = refl
and_swap true false false v = refl
and_swap false y u v = refl
