-- The places after integers, one after the other. Assumes nothing.
use Rattle.std.specs.Prelude.{◌≡◌, refl, false, List, ℕ, zero, suc, ◌+◌, ℤ}
use Rattle.std.proofs.Common.{sym, ap, ◌∙◌, arith}
use Rattle.std.proofs.Math.Option.{Option, some, none}
use Rattle.definitions.specs.Deltas.{head_length}
use Rattle.delta_source.specs.Source.{Source, source, behind, behind_ints}
use Rattle.delta_source.specs.Steps.{size_length}

-- after no integers
pub behind-none : (s : Source) (at : ℕ) → behind_ints s at 0 ≡ at
unfolding behind_ints
behind-none s at = refl

-- the first of some integers, and then the others
pub behind-first : (s : Source) (at n : ℕ) → behind_ints s at (suc n) ≡ behind_ints s (behind s at) n
unfolding behind_ints
behind-first s at n = refl

-- the same from the place found after the first
pub behind-step : (s : Source) (at n : ℕ) {next : ℕ} → next ≡ behind s at → behind_ints s at (suc n) ≡ behind_ints s next n
behind-step s at n e = behind-first s at n ∙ ap (λ (p : ℕ). behind_ints s p n) (sym e)

-- some integers, and then the last
pub behind-last : (s : Source) (at n : ℕ) → behind_ints s at (suc n) ≡ behind s (behind_ints s at n)
unfolding behind_ints
behind-last s at zero = refl
behind-last s at (suc n) = behind-last s (behind s at) n

-- some integers, and then others
pub behind-both : (s : Source) (at m n : ℕ) → behind_ints s at (m + n) ≡ behind_ints s (behind_ints s at m) n
unfolding behind_ints
behind-both s at zero n = ap (behind_ints s at) (let e : 0 + n ≡ n = omega arith in e)
behind-both s at (suc m) n = ap (behind_ints s at) (let e : suc m + n ≡ suc (m + n) = omega arith in e) ∙ behind-both s (behind s at) m n

-- ints take one place each
pub behind-ints : (b : List ℕ) (i : List ℤ) (at n : ℕ) → behind_ints (source false b i) at n ≡ at + n
unfolding behind_ints behind
behind-ints b i at zero = omega arith
behind-ints b i at (suc n) = omega (arith, behind-ints b i (at + 1) n)

-- after type and id, and the size unless it is known
pub behind-head : (s : Source) (at : ℕ) (o : Option ℕ) {a d : ℕ} → a ≡ behind s at → d ≡ behind s a → behind_ints s at (head_length o) ≡ behind_ints s d (size_length o)
behind-head s at (some m) e f = behind-step s at 1 e ∙ behind-step s _ 0 f
behind-head s at none e f = behind-step s at 2 e ∙ behind-step s _ 1 f
