-- Numbers and bytes as text. Assumes nothing.
use Rattle.std.specs.Prelude.{cond, List, [], ◌∷◌, ◌++◌, ℕ, zero, suc, ◌+◌, ◌*◌, ◌/◌, ◌%◌, ◌^◌, ltb, eqb, ℤ, pos, negsuc}
use Rattle.definitions.specs.Ints.{from_bits, wrapping_sub}
use Rattle.io.specs.Digits.{hex_digit_ascii}
use Rattle.replay_text.specs.Words.{until}

-- the value of a digit, decimal or hexadecimal in lower case: the last four bits of its character, and 9 more for a letter
abbrev pub digit : ℕ → ℕ
digit b = cond (ltb b 97) (b % 16) ((b % 16 + 9) % 16)

-- the digits of v followed by these; if there are too many, the first ones are lost
abbrev pub number_after : ℕ → List ℕ → ℕ
number_after v [] = v
number_after v (b ∷ text) = number_after (v % 10 ^ 18 * 10 + digit b) text

-- the number with these decimal digits
abbrev pub number : List ℕ → ℕ
number text = number_after 0 text

-- the int with these decimal digits, after an optional minus
unfoldable pub int : List ℕ → ℤ
int [] = pos 0
int (b ∷ text) =
    cond (eqb b 45)
    (wrapping_sub (pos 0) (from_bits (number text % 2 ^ 32)))
    (from_bits (number (b ∷ text) % 2 ^ 32))

-- the ints of the words of a line, without the first word: a space is before each
abbrev pub ints : List ℕ → List ℤ
ints [] = []
ints (b ∷ line) = cond (eqb b 32) (int (until 32 line) ∷ ints line) (ints line)

-- the bytes of these hexadecimal digits; a single one gives none
abbrev pub bytes : List ℕ → List ℕ
bytes [] = []
bytes (a ∷ []) = []
bytes (a ∷ b ∷ text) = (digit a * 16 + digit b) ∷ bytes text

-- a number of at most k decimal digits
abbrev pub decimal_of : ℕ → ℕ → List ℕ
decimal_of zero n = []
decimal_of (suc k) n = cond (ltb n 10) (hex_digit_ascii n ∷ []) (decimal_of k (n / 10) ++ (hex_digit_ascii (n % 10) ∷ []))

-- a number below 2^64
unfoldable pub decimal : ℕ → List ℕ
decimal n = decimal_of 20 n

-- an int
abbrev pub signed : ℤ → List ℕ
signed (pos n) = decimal n
signed (negsuc n) = 45 ∷ decimal (n + 1)

-- ints, a space before each
abbrev pub list : List ℤ → List ℕ
list [] = []
list (x ∷ ints) = 32 ∷ (signed x ++ list ints)

-- bytes as hexadecimal digits
abbrev pub hex_digits : List ℕ → List ℕ
hex_digits [] = []
hex_digits (b ∷ text) = hex_digit_ascii (b / 16) ∷ hex_digit_ascii (b % 16) ∷ hex_digits text

-- bytes; a minus if there are none
abbrev pub hex : List ℕ → List ℕ
hex [] = 45 ∷ []
hex (b ∷ text) = hex_digits (b ∷ text)
