-- The words that name a type or an int. Assumes nothing.
use Rattle.std.specs.Prelude.{Bool, true, false, cond, ◌&&◌, List, [], ◌∷◌, ℕ, leb, eqb, ℤ, length, Option, Some, None}
use Rattle.replay_text.specs.Numbers.{number, int}

-- whether all characters are decimal digits
abbrev pub are_digits : List ℕ → Bool
are_digits [] = true
are_digits (b ∷ text) = (leb 48 b && leb b 57) && are_digits text

-- whether a text is a number up to most; with at most ten digits none of them is lost
unfoldable pub up_to : ℕ → List ℕ → Bool
up_to most text = leb 1 (length text) && (leb (length text) 10 && (are_digits text && leb (number text) most))

-- whether a text is an int of 32 bits: after a minus the size may be one more
unfoldable pub is_int : List ℕ → Bool
is_int [] = false
is_int (b ∷ text) = cond (eqb b 45) (up_to 2147483648 text) (up_to 2147483647 (b ∷ text))

-- the type of a word
unfoldable pub type_in : List ℕ → Option ℕ
type_in text = cond (up_to 65535 text) (Some (number text)) None

-- the int of a word
unfoldable pub int_in : List ℕ → Option ℤ
int_in text = cond (is_int text) (Some (int text)) None
