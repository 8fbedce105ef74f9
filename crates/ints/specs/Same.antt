-- Two ints are equal exactly if their bits are. Assumes nothing.
use Rattle.std.specs.Prelude.{◌≡◌, Bool, true, false, ℤ}
use Rattle.std.specs.Int.{w32}
use Rattle.std.specs.Ordering.{int_eq}
use Rattle.std.proofs.Common.{sym, refl, ap, SFits, true≢false}
use Rattle.std.proofs.lemmas.Bool.{eq-eqb, ne_eqb}
use Rattle.std.proofs.lemmas.Bool.Decides.{Decides-int_eq}
use Rattle.std.specs.Bool.{Decides}
use Rattle.definitions.specs.Ints.{bits}
use Rattle.definitions.specs.Receiver.{same}
use Rattle.laws.specs.IntLaws.{same_bits}

-- what `==` of two ints answers
pub equal-same : {a b : ℤ} → SFits w32 a → SFits w32 b → int_eq a b ≡ same a b
equal-same {a} {b} f g = by-case (int_eq a b) (Decides-int_eq a b)
  where
    by-case : (r : Bool) → Decides r (a ≡ b) → r ≡ same a b
    by-case true d = sym (eq-eqb (bits a) (bits b) (ap bits (d.0 refl)))
    by-case false d = sym (ne_eqb (bits a) (bits b) (λ q. absurd (true≢false (sym (d.1 (same_bits f g q))))))
