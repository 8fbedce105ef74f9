-- The steps that write an item, in order, on an area cut into parts. Assumes nothing.
use Prim.Native.Nat.{ℕ, ◌+◌, ◌-◌}
use mathlib.Core.Path.{◌≡◌, refl, sym, ap, ap₂, ◌∙◌}
use mathlib.Core.Bool.{Bool}
use mathlib.Core.List.{List, [], ◌∷◌, ◌++◌, map, append_assoc}
use native.Mathlib.Omega.{arith}
use lib.IntN.{ℤ}
use lib.ListN.{length, take, drop, set, length-append, length-map}
use lib.Seq.{set_at}
use borrow.Rule.Slice.PartMut.{put_mid}
use Rattle.ints.specs.Copies.{copy_at}
use Rattle.ints.specs.Copies.{shifted}
use Rattle.table_adding.specs.Adding.{raised}
use Rattle.table_adding.proofs.Parts.{move, part_of, put-part, filled}

-- an area with a table of n items, cut where item p begins, and d + 2 ints after the table
pub record Cut (a : List ℤ) (n p from ints d : ℕ) : Type 0 where
  -- the header
  pub s₀ : ℤ
  pub s₁ : ℤ
  -- the offsets, and the items
  pub O₁ : List ℤ
  pub O₂ : List ℤ
  pub B₁ : List ℤ
  pub B₂ : List ℤ
  -- what the new item takes, and the rest
  pub J : List ℤ
  pub R : List ℤ
  pub is : a ≡ (s₀ ∷ s₁ ∷ O₁) ++ ((O₂ ++ B₁) ++ (B₂ ++ (J ++ R)))
  pub O₁-long : length O₁ ≡ p
  pub O₂-long : p + length O₂ ≡ n
  pub B₁-long : 2 + n + length B₁ ≡ from
  pub B₂-long : from + length B₂ ≡ ints
  pub J-long : length J ≡ d + 2

-- how many ints are raised, and how many are filled, as the code computes it
abbrev raises : ℕ → ℕ → ℕ
raises n p = 3 + n - (3 + p)

abbrev fills : ℕ → ℕ → ℕ
fills from d = from + 1 + (d + 1) - (from + 2)

module _ (a : List ℤ) (n p from ints d : ℕ) where
  -- the area after the steps: two shifts, m raised, the offset x, the key, v copied into f, the counts y and z
  pub record Steps (v : List ℤ) (by : ℕ) (x key y z : ℤ) (l₁ l₂ m l₃ f l₄ l₅ : List ℤ) (b : Bool) : Type 0 where
    pub first : l₁ ≡ shifted a from ints (d + 1 + 1)
    pub second : l₂ ≡ shifted l₁ (2 + p) from 1
    pub third : m ≡ map (raised by) (take (raises n p) (drop (3 + p) l₂))
    pub fourth : l₃ ≡ set (put_mid (3 + p) (raises n p) l₂ m) (2 + p) x
    pub fifth : copy_at (take (fills from d) (drop (from + 2) (set l₃ (from + 1) key))) 0 v ≡ record { fits = b; out = f }
    pub sixth : l₄ ≡ set (put_mid (from + 2) (fills from d) (set l₃ (from + 1) key) f) 0 y
    pub last : l₅ ≡ set l₄ 1 z

module _ (a : List ℤ) (n p from ints d : ℕ) (w : Cut a n p from ints d) where
  abbrev P : List ℤ
  P = w.s₀ ∷ w.s₁ ∷ w.O₁

  -- the area with h as the item's offset, o as those after it, and k as the item
  abbrev Open : ℤ → List ℤ → List ℤ → List ℤ
  Open h o k = P ++ (h ∷ (o ++ (w.B₁ ++ (k ++ (w.B₂ ++ w.R)))))

  -- ---- the two shifts

  -- the area after them
  record Opened (l : List ℤ) : Type 0 where
    pub h : ℤ
    pub z : ℤ
    pub k : List ℤ
    pub is : l ≡ Open h w.O₂ (z ∷ k)
    pub long : length k ≡ d

  abbrev X : List ℤ
  X = w.O₂ ++ w.B₁

  abbrev T : List ℤ
  T = w.B₂ ++ w.R

  -- a gap of one int before the offsets from p on, and of d + 1 before the items from p on
  gaps : (l g k : List ℤ) → l ≡ P ++ (g ++ (X ++ (k ++ T))) → length g ≡ 1 → length k ≡ d + 1 → Opened l
  gaps l (h ∷ []) (z ∷ k) e m n =
      record { h = h; z = z; k = k; is = e ∙ ap (λ (y : List ℤ). P ++ (h ∷ y)) (append_assoc w.O₂ w.B₁ ((z ∷ k) ++ T)); long = omega arith }
  gaps l (h ∷ []) [] e m n = absurd (omega arith)
  gaps l [] k e m n = absurd (omega arith)
  gaps l (h ∷ h' ∷ g) k e m n = absurd (omega arith)

  second : (l₁ l₂ g : List ℤ) → l₁ ≡ (P ++ X) ++ (g ++ T) → length g ≡ d + 2 → l₂ ≡ shifted l₁ (2 + p) from 1 → Opened l₂
  second l₁ l₂ [] e m f = absurd (omega arith)
  second l₁ l₂ (y ∷ k) e m f =
      let to : 2 + p + length X ≡ from = omega (arith, length-append w.O₂ w.B₁, w.B₁-long, w.O₂-long) in
      let v = move P X (y ∷ []) (k ++ T) (2 + p) from 1 l₁ l₂ (omega (arith, w.O₁-long)) to refl (e ∙ append_assoc P X (y ∷ (k ++ T))) f in
      gaps l₂ v.gap k v.is v.long (omega arith)

  opened : (l₁ l₂ : List ℤ) → l₁ ≡ shifted a from ints (d + 1 + 1) → l₂ ≡ shifted l₁ (2 + p) from 1 → Opened l₂
  opened l₁ l₂ e f =
      let at : length (P ++ X) ≡ from = omega (arith, length-append P X, length-append w.O₂ w.B₁, w.O₁-long, w.O₂-long, w.B₁-long) in
      let v = move (P ++ X) w.B₂ w.J w.R from ints (d + 1 + 1) a l₁ at w.B₂-long (omega (arith, w.J-long)) (w.is ∙ sym (append_assoc P X (w.B₂ ++ (w.J ++ w.R)))) e in
      second l₁ l₂ v.gap v.is (omega (arith, v.long)) f

  -- ---- the offsets

  module _ (h : ℤ) (k : List ℤ) where
    abbrev Q : List ℤ
    Q = P ++ h ∷ []

    abbrev S : List ℤ
    S = w.B₁ ++ (k ++ (w.B₂ ++ w.R))

    at-offsets : (o : List ℤ) → Open h o k ≡ Q ++ (o ++ S)
    at-offsets o = simp append_assoc

    length-q : length Q ≡ 3 + p
    length-q = omega (arith, length-append P (h ∷ []), w.O₁-long)

    length_o : length w.O₂ ≡ raises n p
    length_o = omega (arith, w.O₂-long)

    offsets-part : take (raises n p) (drop (3 + p) (Open h w.O₂ k)) ≡ w.O₂
    offsets-part = rw (at-offsets w.O₂) (part_of Q w.O₂ S (3 + p) (raises n p) length-q length_o)

    put-offsets : (o : List ℤ) → put_mid (3 + p) (raises n p) (Open h w.O₂ k) o ≡ Open h o k
    put-offsets o = ap (λ (l : List ℤ). put_mid (3 + p) (raises n p) l o) (at-offsets w.O₂) ∙ (put-part Q w.O₂ S (3 + p) (raises n p) length-q length_o o ∙ sym (at-offsets o))

    put-offset : (o : List ℤ) (x : ℤ) → set (Open h o k) (2 + p) x ≡ Open x o k
    put-offset o x = set_at P h (o ++ S) x (2 + p) (omega (arith, w.O₁-long))

  -- ---- the item

  module _ (x : ℤ) (o : List ℤ) (lo : length o ≡ length w.O₂) where
    abbrev F : List ℤ
    F = P ++ (x ∷ (o ++ w.B₁))

    length-f : length F ≡ from + 1
    length-f = omega (arith, length-append P (x ∷ (o ++ w.B₁)), length-append o w.B₁, w.O₁-long, w.O₂-long, w.B₁-long)

    at_item : (z : ℤ) (k : List ℤ) → Open x o (z ∷ k) ≡ F ++ (z ∷ (k ++ (w.B₂ ++ w.R)))
    at_item z k = simp append_assoc

    at-data : (z : ℤ) (k : List ℤ) → Open x o (z ∷ k) ≡ (F ++ z ∷ []) ++ (k ++ (w.B₂ ++ w.R))
    at-data z k = simp append_assoc

    put-key : (z key : ℤ) (k : List ℤ) → set (Open x o (z ∷ k)) (from + 1) key ≡ Open x o (key ∷ k)
    put-key z key k = ap (λ (l : List ℤ). set l (from + 1) key) (at_item z k) ∙ (set_at F z (k ++ (w.B₂ ++ w.R)) key (from + 1) length-f ∙ sym (at_item key k))

    module _ (z : ℤ) (k : List ℤ) (lk : length k ≡ d) where
      length-fz : length (F ++ z ∷ []) ≡ from + 2
      length-fz = omega (arith, length-append F (z ∷ []), length-f)

      data-part : take (fills from d) (drop (from + 2) (Open x o (z ∷ k))) ≡ k
      data-part = rw (at-data z k) (part_of (F ++ z ∷ []) k (w.B₂ ++ w.R) (from + 2) (fills from d) length-fz (omega arith))

      put-data : (v : List ℤ) → put_mid (from + 2) (fills from d) (Open x o (z ∷ k)) v ≡ Open x o (z ∷ v)
      put-data v = ap (λ (l : List ℤ). put_mid (from + 2) (fills from d) l v) (at-data z k) ∙ (put-part (F ++ z ∷ []) k (w.B₂ ++ w.R) (from + 2) (fills from d) length-fz (omega arith) v ∙ sym (at-data z v))

  -- ---- all steps

  -- the part whose counts are raised
  pub raised-part : (l₁ l₂ : List ℤ) → l₁ ≡ shifted a from ints (d + 1 + 1) → l₂ ≡ shifted l₁ (2 + p) from 1 → take (raises n p) (drop (3 + p) l₂) ≡ w.O₂
  raised-part l₁ l₂ e f =
      let o = opened l₁ l₂ e f in
      ap (λ (l : List ℤ). take (raises n p) (drop (3 + p) l)) o.is ∙ offsets-part o.h (o.z ∷ o.k)

  module _ (v : List ℤ) (by : ℕ) (x key y z : ℤ) (l₁ l₂ m l₃ f l₄ l₅ : List ℤ) (b : Bool) (lv : length v ≡ d) (s : Steps a n p from ints d v by x key y z l₁ l₂ m l₃ f l₄ l₅ b) where
    abbrev N : List ℤ
    N = map (raised by) w.O₂

    pub leaves : l₅ ≡ y ∷ z ∷ (w.O₁ ++ (x ∷ (N ++ (w.B₁ ++ ((key ∷ v) ++ (w.B₂ ++ w.R))))))
    leaves = go (opened l₁ l₂ s.first s.second)
      where
        go : Opened l₂ → l₅ ≡ y ∷ z ∷ (w.O₁ ++ (x ∷ (N ++ (w.B₁ ++ ((key ∷ v) ++ (w.B₂ ++ w.R))))))
        go o =
            let ln : length N ≡ length w.O₂ = length-map w.O₂ (raised by) in
            let gm : m ≡ N = s.third ∙ ap (map (raised by)) (raised-part l₁ l₂ s.first s.second) in
            let g₂ : put_mid (3 + p) (raises n p) l₂ m ≡ Open o.h N (o.z ∷ o.k) =
            ap₂ (λ (l q : List ℤ). put_mid (3 + p) (raises n p) l q) o.is gm ∙ put-offsets o.h (o.z ∷ o.k) N in
            let g₃ : l₃ ≡ Open x N (o.z ∷ o.k) = s.fourth ∙ (ap (λ (l : List ℤ). set l (2 + p) x) g₂ ∙ put-offset o.h (o.z ∷ o.k) N x) in
            let g₄ : set l₃ (from + 1) key ≡ Open x N (key ∷ o.k) = ap (λ (l : List ℤ). set l (from + 1) key) g₃ ∙ put-key x N ln o.z key o.k in
            let part : take (fills from d) (drop (from + 2) (set l₃ (from + 1) key)) ≡ o.k =
            ap (λ (l : List ℤ). take (fills from d) (drop (from + 2) l)) g₄ ∙ data-part x N ln key o.k o.long in
            let gf : f ≡ v = filled _ v f b (ap length part ∙ (o.long ∙ sym lv)) s.fifth in
            let g₅ : put_mid (from + 2) (fills from d) (set l₃ (from + 1) key) f ≡ Open x N (key ∷ v) =
            ap₂ (λ (l q : List ℤ). put_mid (from + 2) (fills from d) l q) g₄ gf ∙ put-data x N ln key o.k o.long v in
            s.last ∙ ap (λ (l : List ℤ). set l 1 z) (s.sixth ∙ ap (λ (l : List ℤ). set l 0 y) g₅)
