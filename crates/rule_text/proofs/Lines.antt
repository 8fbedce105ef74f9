-- The line of an answer, and what it is by the table that was read. Assumes nothing.
use mathlib.Core.Path.{◌≡◌, refl, sym, ap, ap₂, ◌∙◌}
use mathlib.Core.List.{List, [], ◌∷◌, ◌++◌}
use mathlib.Core.Option.{Option, some}
use Prim.Native.Nat.{ℕ}
use lib.IntN.{ℤ}
use Rattle.definitions.specs.Warnings.{Counts}
use Rattle.definitions.specs.Warnings as Warnings
use Rattle.definitions.specs.Outcome.{Outcome, ok, err, after, ◌>>=◌}
use Rattle.definitions.specs.Tables.{Table}
use Rattle.definitions.specs.TableCalls.{held}
use Rattle.definitions.specs.Rules.{Winner, winner_for, winner_call}
use Rattle.replay_text.specs.Buffer.{Put, put_byte, puts}
use Rattle.replay_text.specs.Numbers.{signed}
use Rattle.table_text.specs.Reading.{tabled, unwarned}
use Rattle.table_text.proofs.Texts.{both-put}
use Rattle.rule_text.specs.RuleLine.{winner_text, won_text, rule_line}

-- the line of a winner, part by part
pub winner-put :
    (k a : ℤ) {l b : ℤ} (p : Put) {q₁ q₂ q₃ w : Put} → k ≡ l → a ≡ b →
    puts (signed k) p ≡ q₁ → put_byte 32 q₁ ≡ q₂ → puts (signed a) q₂ ≡ q₃ → put_byte 10 q₃ ≡ w → puts (winner_text l b) p ≡ w
unfolding winner_text
winner-put k a p {q₁} ek ea e₁ e₂ e₃ e₄ =
    ap₂ (λ (l b : ℤ). puts (winner_text l b) p) (sym ek) (sym ea)
    ∙ both-put (signed k ++ (32 ∷ signed a)) (10 ∷ []) p
    (both-put (signed k) (32 ∷ signed a) p e₁ (both-put (32 ∷ []) (signed a) q₁ e₂ e₃))
    e₄

-- no line shows warnings
text-after : (w : Counts) (o : Outcome (Option Winner)) → won_text (after w o) ≡ won_text o
text-after w (ok (some r) v) = refl
text-after w (ok Option.none v) = refl
text-after w (err n v) = refl

text-unwarned : (o : Outcome Table) (f : Table → Outcome (Option Winner)) → won_text (o >>= f) ≡ won_text (unwarned o >>= f)
text-unwarned (ok t w) f = text-after w (f t) ∙ sym (text-after Warnings.none (f t))
text-unwarned (err n w) f = refl

-- the line by the table that was read, or its refusal
pub read-line : (src types : List ℕ) (i : ℤ) {o : Outcome Table} → unwarned (tabled src) ≡ o → rule_line src types i ≡ won_text (o >>= winner_for types i)
unfolding rule_line
read-line src types i e = text-unwarned (tabled src) (winner_for types i) ∙ ap (λ (u : Outcome Table). won_text (u >>= winner_for types i)) e

-- the call on the area that was read gives the line
pub area-line : (src types : List ℕ) (i : ℤ) (area : List ℤ) → unwarned (tabled src) ≡ held area → rule_line src types i ≡ won_text (winner_call area types i)
area-line src types i area e = read-line src types i e
