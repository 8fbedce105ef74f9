-- Text that many answers share. Assumes nothing.
use Rattle.std.specs.Prelude.{List, [], ◌∷◌, ℕ}
use Rattle.replay_text.specs.Numbers.{decimal, hex}

-- a space and a number
abbrev pub next : ℕ → List ℕ
next n = 32 ∷ decimal n

-- a space and bytes
abbrev pub bytes : List ℕ → List ℕ
bytes l = 32 ∷ hex l

-- for a call that is refused: the word "refused", a space and the number
abbrev pub refused : ℕ → List ℕ
refused n = 114 ∷ 101 ∷ 102 ∷ 117 ∷ 115 ∷ 101 ∷ 100 ∷ next n

-- for a line that is no case: the word "odd"
abbrev pub odd : List ℕ
odd = 111 ∷ 100 ∷ 100 ∷ []
