-- Places that are searched from a hint on, and what the place of a key says. Assumes nothing.
use Prim.Native.Nat.{ℕ, ◌-◌, ◌<◌, ◌≤◌}
use mathlib.Core.Path.{◌≡◌, refl, sym, ap, ◌∙◌}
use mathlib.Core.Logic.{◌⊎◌, inl, inr}
use mathlib.Core.Bool.{Bool, true, false, false≢true, true≢false}
use mathlib.Core.List.{List}
use mathlib.Core.Option.{Option, some, none}
use native.Mathlib.Omega.{arith}
use lib.IntN.{ℤ}
use lib.ListN.{length}
use lib.Dec.{eqb}
use borrow.Author.Tests.{eqb-true, eqb-false}
use Rattle.definitions.specs.Tables.{items, key_at, values_at, find, is_some}
use Rattle.definitions.specs.Deltas.{rank, deleted_at}
use Rattle.definitions.specs.DeltaMaking.{agree}
use Rattle.laws.specs.Tests.{below}
use Rattle.laws.specs.TableShape.{keys-le}
use Rattle.laws.specs.TableFind.{Place, absent, present}
use Rattle.laws.specs.DeltaKeys.{ranks-rise}
use Rattle.table.specs.Held.{Held}
use Rattle.delta_form.specs.Reached.{Under}
use Rattle.apply_judging.specs.Judging.{DeletedKeys}

-- the keys before a hint are less if the last one of them is
pub keys-under : (a : List ℤ) (n k hint : ℕ) → Held a n → 0 < hint → hint ≤ n → key_at a (hint - 1) < k → (i : ℕ) → i < hint → key_at a i < k
keys-under a n k hint h z l m i o =
    omega (arith, keys-le a h.shape i (hint - 1) (omega arith) (omega (arith, h.count-is)))

-- the same for deleted keys, by rank
pub ranks-under : (d : List ℤ) (k hint low : ℕ) → DeletedKeys d k → 0 < hint → hint ≤ k → rank (deleted_at d (hint - 1)) < low → Under d hint low
ranks-under d k hint low h z l m =
    record { below = λ i o. omega (arith, ranks-rise d k h.keys i (hint - 1) (omega arith) (omega arith)) }

-- a key that is found is found at its place
module _ (a : List ℤ) (n k p : ℕ) (h : Held a n) (q : Place a k p) where
  pub found_at : is_some (find k (items a)) ≡ true → (p < n) × (find k (items a) ≡ some (values_at a p))
  found_at e = go (eqb (key_at a p) k) refl (below p n)
    where
      hit : find k (items a) ≡ none → ⊥
      hit d = false≢true (sym (ap is_some d) ∙ e)

      go : (b : Bool) → eqb (key_at a p) k ≡ b → (p < n) ⊎ (n ≤ p) → (p < n) × (find k (items a) ≡ some (values_at a p))
      go true d (inl l) =
          (l, present a h.shape k p q (omega (arith, h.count-is)) (eqb-true (key_at a p) k d))
      go true d (inr l) = absurd (hit (absent a h.shape k p q (λ m x. omega (arith, h.count-is))))
      go false d s = absurd (hit (absent a h.shape k p q (λ m. eqb-false (key_at a p) k d)))

-- the base's data, if there is any, is as long
module _ (o : Option (List ℤ)) (v : List ℤ) where
  pub none-agrees : is_some o ≡ false → true ≡ agree o v
  none-agrees e = go o e
    where
      go : (p : Option (List ℤ)) → is_some p ≡ false → true ≡ agree p v
      go (some w) e = absurd (true≢false e)
      go none e = refl

  pub some-agrees : (w : List ℤ) (m : ℕ) → o ≡ some w → m ≡ length v → eqb (length w) m ≡ agree o v
  some-agrees w m e f = rw (e, f)
