-- What `in_form` says, as facts about numbers; the tests of `all` one by one.
use Rattle.std.specs.Prelude.{ℕ, zero, suc, ◌+◌, ◌/◌, ◌%◌, ◌<◌, ◌≤◌, ◌^◌, ◌≡◌, refl, Bool, true, false, ◌&&◌, List, ℤ, pos, length, get_or, leb, eqb}
use Rattle.std.proofs.Common.{sym, ap, subst, ⊎_elim, eq-or-lt_of_le, le_of_suc-le-suc, add-one, ltb-true, leb-true, eqb-true, le-ltb, lt-ltb, le-leb, eq-eqb}
use Rattle.std.proofs.Math.Bool.{and-false}
use Rattle.std.proofs.lemmas.Bool.{false≢true}
use Rattle.std.proofs.Math.Option.{some, none}
use native.Mathlib.Omega.{arith}
use Rattle.std.specs.Int.Signed.{mag}
use Rattle.definitions.specs.Tables.{all, size, count, edge, start, key_at, lowest, ends, fits, in_form, items, table_of}

pub both : (x y : Bool) → (x && y) ≡ true → (x ≡ true) × (y ≡ true)
both true y e = (refl, e)
both false y e = absurd (false≢true e)

pub all_more : (p : ℕ → Bool) (i : ℕ) → all p i ≡ true → p i ≡ true → all p (i + 1) ≡ true
unfolding all
all_more p i h k = rw (add-one, h, k)

pub all-fails : (p : ℕ → Bool) (i n : ℕ) → i < n → p i ≡ false → all p n ≡ false
unfolding all
all-fails p i zero l e = absurd (omega arith)
all-fails p i (suc n) l e = ⊎_elim (λ (q : i ≡ n). rw (subst (λ (m : ℕ). p m ≡ false) q e) (and-false (all p n))) (λ (m : i < n). rw (all-fails p i n m e)) (eq-or-lt_of_le (le_of_suc-le-suc l))

pub all-holds : (p : ℕ → Bool) (i n : ℕ) → i < n → all p n ≡ true → p i ≡ true
unfolding all
all-holds p i zero l e = absurd (omega arith)
all-holds p i (suc n) l e = ⊎_elim (λ (q : i ≡ n). subst (λ (m : ℕ). p m ≡ true) (sym q) (both (all p n) (p n) e).1) (λ (m : i < n). all-holds p i n m (both (all p n) (p n) e).0) (eq-or-lt_of_le (le_of_suc-le-suc l))

pub record Step (a : List ℤ) (i : ℕ) : Type 0 where
  pub aligned : edge a (i + 1) % 4 ≡ 0
  pub rises : edge a i < edge a (i + 1)
  pub within : edge a (i + 1) ≤ size a
  pub order : lowest a i ≤ key_at a i
  pub whole : mag (get_or a (start a i) (pos 0)) < 2 ^ 31

pub record Shape (a : List ℤ) : Type 0 where
  pub few : count a ≤ 1024
  pub short : 2 + count a + size a / 4 ≤ 16384
  pub room : 2 + count a + size a / 4 ≤ length a
  pub first : edge a 0 ≡ 0
  pub step : (i : ℕ) → i < count a → Step a i

-- item i ends well
pub record Ends (a : List ℤ) (i : ℕ) : Type 0 where
  pub aligned : edge a (i + 1) % 4 ≡ 0
  pub rises : edge a i < edge a (i + 1)
  pub within : edge a (i + 1) ≤ size a

pub ends-well : (a : List ℤ) (i : ℕ) → ends a i ≡ true → Ends a i
unfolding ends
ends-well a i e =
    let p = both (eqb (edge a (i + 1) % 4) 0) _ e in
    let q = both _ _ p.1 in
    record { aligned = eqb-true _ _ p.0; rises = ltb-true _ _ q.0; within = leb-true _ _ q.1 }

pub well-ends : (a : List ℤ) (i : ℕ) → Ends a i → ends a i ≡ true
unfolding ends
well-ends a i h = rw (eq-eqb _ _ h.aligned, lt-ltb _ _ h.rises, le-leb _ _ h.within)

fits-step : (a : List ℤ) (i : ℕ) → fits a i ≡ true → Step a i
unfolding fits
fits-step a i e =
    let p = both (ends a i) _ e in
    let q = ends-well a i p.0 in
    let w = both _ _ p.1 in
    record { aligned = q.aligned; rises = q.rises; within = q.within; order = leb-true _ _ w.0; whole = ltb-true _ _ w.1 }

pub shape : (a : List ℤ) → in_form a ≡ true → Shape a
unfolding in_form
shape a e =
    let p = both (leb 2 (length a)) _ e in
    let q = both _ _ p.1 in
    let r = both _ _ q.1 in
    let s = both _ _ r.1 in
    let t = both _ _ s.1 in
    record { few = leb-true _ _ q.0; short = leb-true _ _ r.0; room = leb-true _ _ s.0; first = eqb-true _ _ t.0; step = λ i l. fits-step a i (all-holds (fits a) i (count a) l t.1) }

pub lowest-next : (a : List ℤ) (i : ℕ) → lowest a (i + 1) ≡ suc (key_at a i)
unfolding lowest
lowest-next a i = rw add-one

pub fails : (b : Bool) → (b ≡ true → ⊥) → b ≡ false
fails true h = absurd (h refl)
fails false h = refl

pub not_step : (a : List ℤ) (i : ℕ) → (Step a i → ⊥) → fits a i ≡ false
not_step a i h = fails (fits a i) (λ e. h (fits-step a i e))

pub step_fits : (a : List ℤ) (i : ℕ) → Step a i → fits a i ≡ true
unfolding fits
step_fits a i s =
    let e = well-ends a i (record { aligned = s.aligned; rises = s.rises; within = s.within }) in
    rw (e, le-leb _ _ s.order, lt-ltb _ _ s.whole)

pub not-shape : (a : List ℤ) → (Shape a → ⊥) → in_form a ≡ false
not-shape a h = fails (in_form a) (λ e. h (shape a e))

all-steps : (a : List ℤ) (n : ℕ) → ((i : ℕ) → i < n → Step a i) → all (fits a) n ≡ true
unfolding all
all-steps a zero h = refl
all-steps a (suc n) h = rw (all-steps a n (λ i l. h i (omega arith)), step_fits a n (h n (omega arith)))

pub shape-in : (a : List ℤ) → Shape a → in_form a ≡ true
unfolding in_form
shape-in a h = rw (le-leb 2 (length a) (omega (arith, h.room)), le-leb _ _ h.few, le-leb _ _ h.short, le-leb _ _ h.room, eq-eqb _ _ h.first, all-steps a (count a) h.step)

pub some_is : (a : List ℤ) → Shape a → table_of a ≡ some (items a)
unfolding table_of
some_is a h = rw (shape-in a h)

pub none_is : (a : List ℤ) → (Shape a → ⊥) → table_of a ≡ none
unfolding table_of
none_is a h = rw (not-shape a h)

-- from the tests on the first two ints and the one on the items
pub shape_of : (a : List ℤ) (n : ℕ) → n ≡ count a → n ≤ 1024 → 2 + n + size a / 4 ≤ 16384 → 2 + n + size a / 4 ≤ length a → edge a 0 ≡ 0 → all (fits a) n ≡ true → Shape a
shape_of a n e p q r f t =
    let t' : all (fits a) (count a) ≡ true = rw e at t in
    record { few = omega arith; short = omega arith; room = omega arith; first = f; step = λ i l. fits-step a i (all-holds (fits a) i (count a) l t') }

pub shape-all : (a : List ℤ) (n : ℕ) → n ≡ count a → Shape a → all (fits a) n ≡ true
shape-all a n e h = rw e (all-steps a (count a) h.step)

pub edge-end : (a : List ℤ) → edge a (count a) ≡ size a
unfolding edge
edge-end a = rw (le-ltb (count a) (count a) (omega arith))

module _ (a : List ℤ) (h : Shape a) where
  pub edge-aligned : (i : ℕ) → i ≤ count a → edge a i % 4 ≡ 0
  edge-aligned zero l = rw h.first
  edge-aligned (suc i) l = rw (add-one) at (h.step i l).aligned

  pub edge-within : (i : ℕ) → i ≤ count a → edge a i ≤ size a
  edge-within zero l = rw h.first (omega arith)
  edge-within (suc i) l = rw (add-one) at (h.step i l).within

  pub size-aligned : size a % 4 ≡ 0
  size-aligned = rw edge-end at (edge-aligned (count a) (omega arith))

  -- an item is within the list, and the next one begins after it
  pub start-rises : (i : ℕ) → i < count a → start a i < start a (i + 1)
  unfolding start
  start-rises i l = omega (arith, edge-aligned i (omega arith), (h.step i l).aligned, (h.step i l).rises)

  pub start-within : (i : ℕ) → i ≤ count a → start a i ≤ 2 + count a + size a / 4
  unfolding start
  start-within i l = omega (arith, edge-within i l)

  pub start-least : (i : ℕ) → 2 + count a ≤ start a i
  unfolding start
  start-least i = omega arith

  pub start_first : start a 0 ≡ 2 + count a
  unfolding start
  start_first = rw h.first (omega arith)

  pub start-end : start a (count a) ≡ 2 + count a + size a / 4
  unfolding start
  start-end = rw edge-end

  pub key-next : (i : ℕ) → i + 1 < count a → key_at a i < key_at a (i + 1)
  unfolding lowest
  key-next i l = rw (add-one) (h.step (suc i) (omega arith)).order

  pub keys-rise : (i j : ℕ) → i < j → j < count a → key_at a i < key_at a j
  keys-rise i zero l m = absurd (omega arith)
  keys-rise i (suc j) l m =
      let n : key_at a j < key_at a (suc j) = rw add-one at (key-next j (omega arith)) in
      ⊎_elim (λ (q : i ≡ j). subst (λ (k : ℕ). key_at a k < key_at a (suc j)) (sym q) n) (λ (k : i < j). omega (arith, keys-rise i j k (omega arith))) (eq-or-lt_of_le (le_of_suc-le-suc l))

  pub keys-le : (i j : ℕ) → i ≤ j → j < count a → key_at a i ≤ key_at a j
  keys-le i j l m = ⊎_elim (λ (q : i ≡ j). omega (arith, ap (key_at a) q)) (λ (k : i < j). omega (arith, keys-rise i j k m)) (eq-or-lt_of_le l)

  pub bounds : (i : ℕ) → i < count a → (start a i < start a (i + 1)) × (start a (i + 1) ≤ length a) × (start a (i + 1) ≤ 16384)
  bounds i l = (start-rises i l, omega (arith, start-within (i + 1) (omega arith), h.room), omega (arith, start-within (i + 1) (omega arith), h.short))
