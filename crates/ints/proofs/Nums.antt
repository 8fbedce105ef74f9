-- An int as a count: what the code's tests and casts need. Assumes nothing.
use Rattle.std.proofs.Common.{◌≡◌, ◌^◌, ◌<◌, true, false, ℤ, pos, negsuc, nat_abs, sym, refl, ◌∙◌, true≢false, arith, to_z-of_z, w32, SFits, to_z, of_z, le-ltb}
use mathlib.Core.Bool.{false≢true}
use lib.Signed.{mag, lt_z}
use Rattle.definitions.specs.Tables.{num}

digits_are : (z : ℤ) → lt_z z (pos 0) ≡ false → nat_abs z ≡ mag z
digits_are (pos n) e = refl
digits_are (negsuc n) e = absurd (true≢false e)

num-neg : (z : ℤ) → lt_z z (pos 0) ≡ true → num z ≡ 2 ^ 32
unfolding num
num-neg (pos n) e = absurd (false≢true (sym (le-ltb n 0 (omega arith)) ∙ e))
num-neg (negsuc n) e = refl

num_pos : (z : ℤ) → lt_z z (pos 0) ≡ false → nat_abs z ≡ num z
unfolding num
num_pos (pos n) e = refl
num_pos (negsuc n) e = absurd (true≢false e)

module _ (z : ℤ) (f : SFits w32 z) where
  pub neg-num : lt_z (to_z w32 (of_z w32 z)) (pos 0) ≡ true → 2 ^ 32 ≡ num z
  neg-num e = sym (num-neg z (rw (to_z-of_z f) at e))

  pub pos-num : lt_z (to_z w32 (of_z w32 z)) (pos 0) ≡ false → nat_abs (to_z w32 (of_z w32 z)) ≡ num z
  pos-num e = rw (to_z-of_z f) (num_pos z (rw (to_z-of_z f) at e))

  pub pos-small : lt_z (to_z w32 (of_z w32 z)) (pos 0) ≡ false → nat_abs (to_z w32 (of_z w32 z)) < 2 ^ 31
  pos-small e = rw (to_z-of_z f, digits_are z (rw (to_z-of_z f) at e)) f.sfits
