-- The words of a line. Assumes nothing.
use Rattle.std.specs.Prelude.{cond, List, [], ◌∷◌, ℕ, zero, suc, eqb}

-- what is before the first b, or all
abbrev pub until : ℕ → List ℕ → List ℕ
until b [] = []
until b (x ∷ l) = cond (eqb x b) [] (x ∷ until b l)

-- what is after the first b, or nothing
abbrev pub after : ℕ → List ℕ → List ℕ
after b [] = []
after b (x ∷ l) = cond (eqb x b) l (after b l)

-- the word with this number, from 0 on; one space separates two words
abbrev pub word : ℕ → List ℕ → List ℕ
word zero l = until 32 l
word (suc n) l = word n (after 32 l)
