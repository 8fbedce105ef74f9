-- An area composed of parts: one moved up, one lent and changed, one filled. Assumes nothing.
use Prim.Native.Nat.{ℕ, ◌+◌, ◌-◌, ◌≤◌}
use mathlib.Core.Path.{◌≡◌, sym, ap, ◌∙◌}
use mathlib.Core.Bool.{Bool}
use mathlib.Core.List.{List, ◌++◌, append_assoc, append-nil}
use native.Mathlib.Nat.{zero-add}
use native.Mathlib.Omega.{arith}
use lib.IntN.{ℤ}
use lib.ListN.{length, take, drop, length-append, length-take, drop_of_length-le}
use lib.Seq.{take_at, drop_at, take-append-add, take-append-le}
use borrow.Author.Tests.{le-leb}
use borrow.Rule.Slice.PartMut.{put_mid}
use Rattle.laws.specs.AreaLaws.{lay-append}
use Rattle.ints.specs.Copies.{Copied, copy_at}
use Rattle.laws.specs.AreaLaws.{lay_at-between}
use Rattle.ints.specs.Copies.{shifted}

-- M was moved up; the contents of the gap before it do not matter
pub record Moved (L M R : List ℤ) (by : ℕ) (l : List ℤ) : Type 0 where
  pub gap : List ℤ
  pub is : l ≡ L ++ (gap ++ (M ++ R))
  pub long : length gap ≡ by

pub move : (L M J R : List ℤ) (from to by : ℕ) (a l : List ℤ) → length L ≡ from → from + length M ≡ to → length J ≡ by
    → a ≡ L ++ (M ++ (J ++ R)) → l ≡ shifted a from to by → Moved L M R by l
unfolding shifted
move L M J R from to by a l e f g c q =
    let A = L ++ (M ++ (J ++ R)) in
    let m : take (to - from) (drop from A) ≡ M =
    ap (take (to - from)) (drop_at L (M ++ (J ++ R)) from e) ∙ take_at M (J ++ R) (to - from) (omega arith) in
    let h : take (from + by) A ≡ L ++ take by (M ++ J) =
    ap (λ (n : ℕ). take (n + by) A) (sym e) ∙ (take-append-add L (M ++ (J ++ R)) by
    ∙ ap (λ (l : List ℤ). L ++ l) (ap (take by) (sym (append_assoc M J R)) ∙ take-append-le by (M ++ J) R (omega (arith, length-append M J)))) in
    let r : drop (from + by + length M) A ≡ R =
    ap (drop (from + by + length M)) (simp append_assoc) ∙ drop_at (L ++ (M ++ J)) R (from + by + length M) (omega (arith, length-append L (M ++ J), length-append M J)) in
    let long : from + by + length M ≤ length A =
    omega (arith, length-append L (M ++ (J ++ R)), length-append M (J ++ R), length-append J R) in
    record {
      gap = take by (M ++ J);
      is = q ∙ rw (c, m, lay_at-between (from + by) M A long, h, r) (append_assoc L (take by (M ++ J)) (M ++ R));
      long = simp length-take (omega (arith, length-append M J));
    }

module _ (Q M S : List ℤ) (x k : ℕ) (e : length Q ≡ x) (f : length M ≡ k) where
  -- the part in the middle, and another one in its place
  pub part_of : take k (drop x (Q ++ (M ++ S))) ≡ M
  part_of = ap (take k) (drop_at Q (M ++ S) x e) ∙ take_at M S k f

  pub put-part : (ys : List ℤ) → put_mid x k (Q ++ (M ++ S)) ys ≡ Q ++ (ys ++ S)
  put-part ys = rw (take_at Q (M ++ S) x e, drop_at Q (M ++ S) x e, drop_at M S k f)

-- a part that is filled entirely
pub filled : (part v f : List ℤ) (b : Bool) → length part ≡ length v → copy_at part 0 v ≡ record { fits = b; out = f } → f ≡ v
unfolding copy_at
filled part v f b e h =
    let g : length v ≤ length part = omega arith in
    sym (ap (λ (r : Copied). r.out) (rw (zero-add, le-leb (length v) (length part) g) at h))
    ∙ (lay-append v part g ∙ (ap (λ (l : List ℤ). v ++ l) (drop_of_length-le part {i = length v} (omega arith)) ∙ append-nil v))
