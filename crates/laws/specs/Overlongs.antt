-- The integers of some bytes warn of nothing but overlong forms. Assumes nothing.
use Rattle.std.specs.Prelude.{◌≡◌, refl, Bool, true, false, List, [], ◌∷◌, ℕ, zero, suc, ◌+◌, ◌*◌, ◌%◌, leb, eqb, length}
use Rattle.std.proofs.Common.{ap₂}
use Rattle.definitions.specs.Warnings.{Counts, plus}
use Rattle.definitions.specs.Outcome.{Outcome}
use Rattle.definitions.specs.Packed.{Read, warned, extend, sign, more, read_int}
use Rattle.definitions.specs.Stream.{Stream, stopped, and_then, stream_up_to, stream, warnings}
use Rattle.laws.specs.StreamLaws.{either_end}
use Rattle.laws.specs.WarningLaws.{packed}
use Rattle.laws.specs.WarningKinds.{Told, value, refusal, Any, Closed, either}

-- the packer's kind alone
abbrev of_packing : Counts → Counts
of_packing w = packed w.overlong_int_encoding

packing : Closed of_packing
packing = record { nothing = refl; both = λ v w e f. ap₂ plus e f }

-- an integer
warned-alone : (overlong : Bool) → warned overlong ≡ of_packing (warned overlong)
warned-alone true = refl
warned-alone false = refl

-- its bytes after the first
more-alone : (n w d : ℕ) (s : Bool) (l : List ℕ) → Told of_packing (Any {A = Read}) (more n w d s l)
unfolding more
more-alone n w d s [] = refusal refl
more-alone zero w d s (b ∷ bs) = either packing (leb 16 b) (refusal refl) (value tt (warned-alone (eqb b 0)))
more-alone (suc n) w d s (b ∷ bs) =
    either packing (extend b) (more-alone n (w * 128) (d + b % 128 * w) s bs) (value tt (warned-alone (eqb b 0)))

-- all of them
int_alone : (l : List ℕ) → Told of_packing (Any {A = Read}) (read_int l)
unfolding read_int
int_alone [] = refusal refl
int_alone (b ∷ bs) = either packing (extend b) (more-alone 3 64 (b % 64) (sign b) bs) (value tt refl)

-- the warnings of a stream
abbrev Alone : Stream → Type 0
Alone s = warnings s ≡ of_packing (warnings s)

-- an integer that is refused
stopped-alone : (n : ℕ) → Alone (stopped n)
stopped-alone n = either_end Alone n refl refl

-- an integer, and then the rest
then-alone : {o : Outcome Read} (k : List ℕ → Stream) → Told of_packing (Any {A = Read}) o → ((rest : List ℕ) → Alone (k rest)) → Alone (and_then o k)
then-alone k (value {a = r} {w = w} p e) f = packing.both w (warnings (k r.rest)) e (f r.rest)
then-alone k (refusal {n = n} e) f = stopped-alone n

-- at most n integers
up-to-alone : (n : ℕ) (l : List ℕ) → Alone (stream_up_to n l)
up-to-alone zero l = refl
up-to-alone (suc n) [] = refl
up-to-alone (suc n) (b ∷ bs) = then-alone (λ rest. stream_up_to n rest) (int_alone (b ∷ bs)) (λ rest. up-to-alone n rest)

-- all of them
pub overlong-alone : (l : List ℕ) → warnings (stream l) ≡ packed (warnings (stream l)).overlong_int_encoding
unfolding stream
overlong-alone l = up-to-alone (length l) l
