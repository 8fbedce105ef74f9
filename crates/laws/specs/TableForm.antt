-- What is read from a list in form is what was written: lengths, and the front of the list.
use Prim.Native.Nat.{ℕ, zero, suc, ◌+◌, ◌-◌, ◌*◌, ◌/◌, ◌<◌, ◌≤◌, ◌^◌}
use Rattle.std.specs.Prelude.{◌≡◌, ℤ, negsuc, drop}
use Rattle.std.proofs.Math.Path.{refl, ap}
use Rattle.std.proofs.Common.{sym, ap₂, ◌∙◌, length-take, take-append-drop, lt-ltb}
use mathlib.Core.List.{List, [], ◌∷◌, ◌++◌, append_assoc, append-nil}
use Rattle.std.proofs.Math.Numerals.{add-one}
use native.Mathlib.Omega.{arith}
use Rattle.std.proofs.Math.IntN.{pos}
use Rattle.std.proofs.Math.ListN.{length, get_or, take, length-append, length-drop}
use Rattle.std.proofs.Math.Seq.{take-add, take-suc, drop-cons, drop-drop, get_or-drop}
use Rattle.definitions.specs.Ints.{from_bits}
use Rattle.laws.specs.IntLaws.{whole-bits}
use Rattle.definitions.specs.Tables.{Table, body, offsets, written, list, size, count, edge, start, key_at, values_at, item_at, items, num, nat}
use Rattle.laws.specs.TableShape.{Shape, edge-aligned, edge-within, edge-end, start-rises, start-within, start_first, start-end, start-least, bounds}

-- ---- of any table

pub length-list {ℓ} : {X : Type ℓ} (f : ℕ → X) (k : ℕ) → length (list f k) ≡ k
unfolding list
length-list f zero = refl
length-list f (suc k) = length-append (list f k) (f k ∷ []) ∙ rw (length-list f k) (omega arith)

pub body-append : (t u : Table) → body (t ++ u) ≡ body t ++ body u
unfolding body
body-append [] u = refl
body-append (x ∷ t) u = rw (body-append t u) (ap (λ (l : List ℤ). from_bits x.key ∷ l) (sym (append_assoc x.values (body t) (body u))))

pub length-offsets : (o : ℕ) (t : Table) → length (offsets o t) ≡ length t
unfolding offsets
length-offsets o [] = refl
length-offsets o (x ∷ t) = ap suc (length-offsets (o + 4 * suc (length x.values)) t)

pub offsets-append : (o : ℕ) (t u : Table) → offsets o (t ++ u) ≡ offsets o t ++ offsets (o + 4 * length (body t)) u
unfolding offsets body
offsets-append o [] u = ap (λ (n : ℕ). offsets n u) (omega arith)
offsets-append o (x ∷ t) u =
    ap (λ (l : List ℤ). pos o ∷ l)
    (offsets-append (o + 4 * suc (length x.values)) t u
    ∙ ap (λ (n : ℕ). offsets (o + 4 * suc (length x.values)) t ++ offsets n u) (omega (arith, length-append x.values (body t))))

pub length-written : (t : Table) → length (written t) ≡ 2 + length t + length (body t)
unfolding written
length-written t = omega (arith, length-append (offsets 0 t) (body t), length-offsets 0 t)

-- ---- of a list in form

module _ (a : List ℤ) (h : Shape a) where
  pub length-vals : (i : ℕ) → i < count a → length (values_at a i) ≡ start a (i + 1) - (start a i + 1)
  unfolding values_at
  length-vals i l = simp (length-take, length-drop) (omega (arith, start-rises a h i l, start-within a h (i + 1) (omega arith), h.room))

  pub length-body : (k : ℕ) → k ≤ count a → length (body (list (item_at a) k)) + start a 0 ≡ start a k
  unfolding list body
  length-body zero l = omega arith
  length-body (suc k) l =
      rw (body-append, length-append)
      (omega (arith, length-body k (omega arith), length-vals k l, start-rises a h k l, length-append (values_at a k) [], ap (start a) (add-one k)))

  pub length-items : length (items a) ≡ count a
  unfolding items
  length-items = length-list (item_at a) (count a)

  pub length-items-body : length (body (items a)) ≡ size a / 4
  unfolding items
  length-items-body = omega (arith, length-body (count a) (omega arith), start_first a h, start-end a h)

  pub length-form : length (written (items a)) ≡ 2 + count a + size a / 4
  length-form = length-written (items a) ∙ omega (arith, length-items, length-items-body)

-- ---- the list begins with what was read

pos-num : (z : ℤ) → num z < 2 ^ 32 → pos (num z) ≡ z
unfolding num
pos-num (pos n) l = refl
pos-num (negsuc n) l = absurd (omega arith)

pub pos-nat : (a : List ℤ) (i : ℕ) → nat a i < 2 ^ 32 → pos (nat a i) ≡ get_or a i (pos 0)
unfolding nat
pos-nat a i l = pos-num (get_or a i (pos 0)) l

pub edge-nat : (a : List ℤ) (i : ℕ) → i < count a → edge a i ≡ nat a (2 + i)
unfolding edge
edge-nat a i l = rw (lt-ltb i (count a) l)

pub front : (a : List ℤ) → 2 ≤ length a → a ≡ get_or a 0 (pos 0) ∷ get_or a 1 (pos 0) ∷ drop 2 a
front [] l = absurd (omega arith)
front (x ∷ []) l = absurd (omega arith)
front (x ∷ y ∷ a) l = refl

thirds : (a : List ℤ) (n m : ℕ) → drop 2 a ≡ (take n (drop 2 a) ++ take m (drop (2 + n) a)) ++ drop (2 + n + m) a
thirds a n m = sym (rw (append_assoc, ← drop-drop m (2 + n) a, take-append-drop m (drop (2 + n) a), ← drop-drop n 2 a, take-append-drop n (drop 2 a)))

module _ (a : List ℤ) (h : Shape a) where
  pub base : (k : ℕ) → k ≤ count a → 4 * length (body (list (item_at a) k)) ≡ edge a k
  unfolding start
  base k l = omega (arith, length-body a h k l, h.first, edge-aligned a h k l)

  pub offsets_are : (k : ℕ) → k ≤ count a → offsets 0 (list (item_at a) k) ≡ take k (drop 2 a)
  unfolding list offsets
  offsets_are zero l = refl
  offsets_are (suc k) l =
      let e : 0 + 4 * length (body (list (item_at a) k)) ≡ nat a (2 + k) = omega (arith, base k (omega arith), edge-nat a k l) in
      let v : nat a (2 + k) < 2 ^ 32 = omega (arith, edge-nat a k l, edge-within a h k (omega arith), h.short) in
      rw (offsets-append, offsets_are k (omega arith), take-suc (drop 2 a) k (pos 0) (simp length-drop (omega (arith, h.room))), get_or-drop, e, pos-nat a (2 + k) v)

  pub body_is : (k : ℕ) → k ≤ count a → body (list (item_at a) k) ≡ take (start a k - (2 + count a)) (drop (2 + count a) a)
  unfolding list body values_at key_at
  body_is zero l = let e : start a 0 - (2 + count a) ≡ 0 = omega (arith, start_first a h) in rw e
  body_is (suc k) l =
      let up = bounds a h k l in
      let low = start-least a h k in
      let far : start a (suc k) - (2 + count a) ≡ (start a k - (2 + count a)) + suc (start a (k + 1) - (start a k + 1)) = omega (arith, ap (start a) (add-one k)) in
      let at : 2 + count a + (start a k - (2 + count a)) ≡ start a k = omega arith in
      rw (body-append, body_is k (omega arith), far, take-add, drop-drop, add-one (start a k), at, drop-cons a (start a k) (pos 0) (omega arith))
      (ap (λ (m : List ℤ). take (start a k - (2 + count a)) (drop (2 + count a) a) ++ m)
      (ap₂ (λ (z : ℤ) (m : List ℤ). z ∷ m) (whole-bits (get_or a (start a k) (pos 0)) (h.step k l).whole) (append-nil (take (start a (k + 1) - suc (start a k)) (drop (suc (start a k)) a)))))

  pub restores : a ≡ written (items a) ++ drop (2 + count a + size a / 4) a
  unfolding written items
  restores =
      let n = count a in
      let e : start a n - (2 + n) ≡ size a / 4 = omega (arith, start-end a h) in
      let ps : pos (4 * length (body (list (item_at a) n))) ≡ get_or a 0 (pos 0) = ap pos (base n (omega arith) ∙ edge-end a) ∙ pos-nat a 0 (omega (arith, h.short)) in
      let pn : pos (length (list (item_at a) n)) ≡ get_or a 1 (pos 0) = ap pos (length-list (item_at a) n) ∙ pos-nat a 1 (omega (arith, h.few)) in
      front a (omega (arith, h.room)) ∙ rw (ps, pn, offsets_are n (omega arith), body_is n (omega arith), e) (ap (λ (m : List ℤ). get_or a 0 (pos 0) ∷ get_or a 1 (pos 0) ∷ m) (thirds a n (size a / 4)))
