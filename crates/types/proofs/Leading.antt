-- The least place of the pairs with a key, pair by pair. Assumes nothing.
use mathlib.Core.Path.{◌≡◌, refl, sym, ap, subst, ◌∙◌}
use mathlib.Core.Bool.{Bool, true, false}
use mathlib.Core.List.{List}
use mathlib.Core.Logic.{⊎_elim}
use Prim.Native.Nat.{ℕ, ◌+◌, ◌-◌, ◌≤◌, ◌<◌}
use native.Mathlib.Omega.{arith}
use borrow.Author.Tests.{eqb-true, eqb-false}
use lib.Dec.{eqb}
use lib.ListN.{length, get_or, set}
use lib.Seq.{get_or-set_same, get_or-set_other}
use Rattle.laws.specs.Tests.{below}
use Rattle.sorting.specs.Pairs.{key, place}
use Rattle.types.specs.Kinds.{SortedPairs, Leader, Leaders}

module _ (f : ℕ → ℕ) (m : ℕ) (s : SortedPairs f m) where
  -- a pair whose key differs from that of the pair before
  pub leads : (i : ℕ) → i < m → (0 < i → key (f i) ≡ key (f (i - 1)) → ⊥) → Leader f m i (place (f i))
  leads i h d =
      record {
        at = i;
        within = h;
        place_is = refl;
        same = refl;
        least = λ p l e.
            ⊎_elim
            (λ (b : p < i).
            let u : f p ≤ f (i - 1) = s.rise p (i - 1) (omega arith) (omega arith) in
            let v : f (i - 1) ≤ f i = s.rise (i - 1) i (omega arith) h in
            let z : ⊥ = d (omega arith) (omega arith) in absurd z)
            (λ (b : i ≤ p). let u : f i ≤ f p = s.rise i p b l in omega arith)
            (below p i);
      }

  -- a pair whose key equals it
  pub leads-on : (i v : ℕ) → key (f i) ≡ key (f (i - 1)) → Leader f m (i - 1) v → Leader f m i v
  leads-on i v e l =
      record { at = l.at; within = l.within; place_is = l.place_is; same = l.same ∙ sym e; least = λ p h q. l.least p h (q ∙ e) }

  pub leader-small : (q v : ℕ) → Leader f m q v → v < m
  leader-small q v l = omega (arith, l.place_is, s.within l.at l.within)

  -- one more, at its place
  pub one_more : (c : List ℕ) (i v : ℕ) → i < m → place (f i) < length c → Leader f m i v → Leaders f m i c → Leaders f m (i + 1) (set c (place (f i)) v)
  one_more c i v h room l ls q b = go (eqb (place (f q)) (place (f i))) refl
    where
      go : (t : Bool) → eqb (place (f q)) (place (f i)) ≡ t → Leader f m q (get_or (set c (place (f i)) v) (place (f q)) 0)
      go true e =
          let p : place (f q) ≡ place (f i) = eqb-true _ _ e in
          let k : key (f q) ≡ key (f i) = s.once q i (omega arith) h p in
          let w : get_or (set c (place (f i)) v) (place (f q)) 0 ≡ v = ap (λ (x : ℕ). get_or (set c (place (f i)) v) x 0) p ∙ get_or-set_same c (place (f i)) v 0 room in
          subst (Leader f m q) (sym w)
          (record { at = l.at; within = l.within; place_is = l.place_is; same = l.same ∙ sym k; least = λ x y z. l.least x y (z ∙ k) })
      go false e =
          let n : place (f q) ≡ place (f i) → ⊥ = eqb-false _ _ e in
          let d : q ≡ i → ⊥ = λ z. n (ap (λ (x : ℕ). place (f x)) z) in
          let w : get_or (set c (place (f i)) v) (place (f q)) 0 ≡ get_or c (place (f q)) 0 = get_or-set_other c (place (f i)) (place (f q)) v 0 n in
          subst (Leader f m q) (sym w) (ls q (⊎_elim (λ (y : q < i). y) (λ (y : i ≤ q). absurd (d (omega arith))) (below q i)))
