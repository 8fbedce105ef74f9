-- A text put into a buffer, and ints put into an area, one part after the other. Assumes nothing.
use mathlib.Core.Path.{◌≡◌, refl, sym, ap, ◌∙◌}
use mathlib.Core.List.{List, [], ◌∷◌, ◌++◌}
use Prim.Native.Nat.{ℕ}
use Rattle.replay_text.specs.Buffer.{Put, put_byte, puts}

-- a text, and then another
pub then : (a b : List ℕ) (p : Put) → puts (a ++ b) p ≡ puts b (puts a p)
then [] b p = refl
then (x ∷ a) b p = then a b (put_byte x p)

-- of a text the part a is put, and b is left
pub turn : (a b : List ℕ) (p : Put) {text : List ℕ} {q w : Put} → text ≡ a ++ b → puts a p ≡ q → puts text p ≡ w → puts b q ≡ w
turn a b p {text} e s h = ap (λ (q : Put). puts b q) (sym s) ∙ sym (then a b p) ∙ ap (λ (t : List ℕ). puts t p) (sym e) ∙ h

-- nothing is left
pub done : (p : Put) {text : List ℕ} {w : Put} → text ≡ [] → puts text p ≡ w → w ≡ p
done p {text} e h = sym h ∙ ap (λ (t : List ℕ). puts t p) e
