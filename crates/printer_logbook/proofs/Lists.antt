-- Parts and ticks in their areas: one more, those before it, and those that stay. Assumes nothing.
use mathlib.Core.Path.{◌≡◌, refl, sym, ap, ap₂, ◌∙◌}
use mathlib.Core.Bool.{Bool, true, false, cond, ◌&&◌, ◌||◌, not, true≢false}
use mathlib.Core.List.{List, [], ◌∷◌, ◌++◌}
use Prim.Native.Nat.{ℕ, zero, suc, ◌+◌, ◌-◌, ◌≤◌, ◌<◌}
use native.Mathlib.Numerals.{add-one}
use native.Mathlib.Omega.{arith}
use lib.IntN.{ℤ, pos}
use borrow.Author.Tests.{eq-eqb, ne_eqb, eqb-true}
use lib.Dec.{eqb}
use lib.ListN.{length, get_or, take, set, length-set}
use lib.Seq.{get_or-set_same, get_or-set_other, take-suc}
use Rattle.std.specs.List.{list_any}
use Rattle.std.specs.Prelude.{int_lt}
use Rattle.std.specs.Ordering.{int_cmp, is_lt, is_ge}
use Rattle.std.proofs.Common.{Less, Equal, Greater}
use Rattle.definitions.specs.Ints.{signed_less}
use Rattle.definitions.specs.Receiver.{same}
use Rattle.definitions.specs.DeltaReading.{elem}
use Rattle.definitions.specs.Logbook.{all_came, has_tick, not_below, lowest, without}
use Rattle.ticks.specs.declared.Tick.{Tick}
use Rattle.printer_logbook.specs.States.{parts_in, ticks_in}

-- one more part, the latest
pub part-more : (n : ℕ) (a : List ℕ) → parts_in (n + 1) a ≡ get_or a n 0 ∷ parts_in n a
part-more n a = rw (add-one n)

-- one more tick, the latest
pub tick-more : (n : ℕ) (a : List ℤ) → ticks_in (n + 1) a ≡ get_or a n (pos 0) ∷ ticks_in n a
tick-more n a = rw (add-one n)

-- parts before one that is stored
pub parts-before : (n k : ℕ) (a : List ℕ) (x : ℕ) → n ≤ k → parts_in n (set a k x) ≡ parts_in n a
parts-before zero k a x h = refl
parts-before (suc n) k a x h =
    ap₂ (λ (y : ℕ) (l : List ℕ). y ∷ l) (get_or-set_other a k n x 0 (λ z. omega arith)) (parts-before n k a x (omega arith))

-- ticks before one that is stored
pub ticks-before : (n k : ℕ) (a : List ℤ) (x : ℤ) → n ≤ k → ticks_in n (set a k x) ≡ ticks_in n a
ticks-before zero k a x h = refl
ticks-before (suc n) k a x h =
    ap₂ (λ (y : ℤ) (l : List ℤ). y ∷ l) (get_or-set_other a k n x (pos 0) (λ z. omega arith)) (ticks-before n k a x (omega arith))

-- a part that is stored after the others
pub part-stored : (n : ℕ) (a : List ℕ) (x : ℕ) → n < length a → parts_in (n + 1) (set a n x) ≡ x ∷ parts_in n a
part-stored n a x h =
    part-more n (set a n x)
    ∙ ap₂ (λ (y : ℕ) (l : List ℕ). y ∷ l) (get_or-set_same a n x 0 h) (parts-before n n a x (omega arith))

-- a tick that is stored after the others
pub tick-stored : (n : ℕ) (a : List ℤ) (x : ℤ) → n < length a → ticks_in (n + 1) (set a n x) ≡ x ∷ ticks_in n a
tick-stored n a x h =
    tick-more n (set a n x)
    ∙ ap₂ (λ (y : ℤ) (l : List ℤ). y ∷ l) (get_or-set_same a n x (pos 0) h) (ticks-before n n a x (omega arith))

-- how many ticks there are
pub ticks-count : (n : ℕ) (a : List ℤ) → length (ticks_in n a) ≡ n
ticks-count zero a = refl
ticks-count (suc n) a = ap suc (ticks-count n a)

-- ---- comparisons

-- a comparison by both tests says what the first one says
cmp-less : (p q : Bool) → is_lt (cond p Less (cond q Greater Equal)) ≡ p
cmp-less true q = refl
cmp-less false true = refl
cmp-less false false = refl

cmp-not_less : (p q : Bool) → is_ge (cond p Less (cond q Greater Equal)) ≡ not p
cmp-not_less true q = refl
cmp-not_less false true = refl
cmp-not_less false false = refl

-- a tick is below another
pub less-is : (a b : ℤ) → is_lt (int_cmp a b) ≡ signed_less a b
less-is a b = cmp-less (int_lt a b) (int_lt b a)

-- or not below it
pub not_less-is : (a b : ℤ) → is_ge (int_cmp a b) ≡ not (signed_less a b)
not_less-is a b = cmp-not_less (int_lt a b) (int_lt b a)

-- the number of the lower tick
pub lower-is : (b : Bool) (s t : Tick) → (cond b s t).0 ≡ cond b s.0 t.0
lower-is true s t = refl
lower-is false s t = refl

-- ---- whether a part came

-- two numbers are compared in either order
eqb-turned : (x y : ℕ) → eqb x y ≡ eqb y x
eqb-turned x y = by (eqb y x) refl
  where
    by : (b : Bool) → eqb y x ≡ b → eqb x y ≡ b
    by true q = eq-eqb x y (sym (eqb-true y x q))
    by false q = ne_eqb x y (λ e. absurd (true≢false (sym (eq-eqb y x (sym e)) ∙ q)))

-- of three, the first two change places
or-turned : (a b c : Bool) → (a || (b || c)) ≡ (b || (a || c))
or-turned true true c = refl
or-turned true false c = refl
or-turned false true c = refl
or-turned false false c = refl

-- one more number at the end
any-more : (test : ℕ → Bool) (l : List ℕ) (x : ℕ) → list_any test (l ++ x ∷ []) ≡ (test x || list_any test l)
any-more test [] x = refl
any-more test (y ∷ l) x = ap (λ (b : Bool). test y || b) (any-more test l x) ∙ or-turned (test y) (test x) (list_any test l)

-- a part is among the first n of an area, in the area's order
pub elem-first : (p n : ℕ) (a : List ℕ) → n ≤ length a → list_any (λ (x : ℕ). eqb x p) (take n a) ≡ elem p (parts_in n a)
elem-first p zero a h = refl
elem-first p (suc n) a h =
    ap (list_any (λ (x : ℕ). eqb x p)) (take-suc a n 0 (omega (arith, h)))
    ∙ any-more (λ (x : ℕ). eqb x p) (take n a) (get_or a n 0)
    ∙ ap₂ (λ (x y : Bool). x || y) (eqb-turned (get_or a n 0) p) (elem-first p n a (omega (arith, h)))

-- one more part: it came, and all before it
pub all-turn : (n : ℕ) (l : List ℕ) → elem n l ≡ true → true ≡ all_came n l → true ≡ all_came (n + 1) l
unfolding all_came
all-turn n l e h = rw (add-one n, e) h

-- a part below n is missing
pub all-missing : (i n : ℕ) (l : List ℕ) → i < n → elem i l ≡ false → false ≡ all_came n l
unfolding all_came
all-missing i zero l h e = absurd (omega arith)
all-missing i (suc n) l h e = by (eqb i n) refl (λ (g : i < n). all-missing i n l g e)
  where
    none : (b : Bool) → false ≡ (b && false)
    none true = refl
    none false = refl

    by : (b : Bool) → eqb i n ≡ b → (i < n → false ≡ all_came n l) → false ≡ (elem n l && all_came n l)
    by true q g = let d : i ≡ n = eqb-true i n q in rw (← d, e)
    by false q g =
        let z : i ≡ n → ⊥ = λ d. true≢false (sym (eq-eqb i n d) ∙ q) in
        let k : i < n = omega (arith, h, z) in
        rw (← g k) (none (elem n l))

-- ---- whether a tick is held

-- one more tick is not the one that is searched, nor any before it
pub has-turn : (t : ℤ) (a : List ℤ) (i : ℕ) → same (get_or a i (pos 0)) t ≡ false → false ≡ has_tick t (ticks_in i a) → false ≡ has_tick t (ticks_in (i + 1) a)
unfolding has_tick
has-turn t a i e h = rw (tick-more i a, e) h

-- a tick below n is the one
pub has-found : (t : ℤ) (a : List ℤ) (i n : ℕ) → i < n → same (get_or a i (pos 0)) t ≡ true → true ≡ has_tick t (ticks_in n a)
unfolding has_tick
has-found t a i zero h e = absurd (omega arith)
has-found t a i (suc n) h e = by (eqb i n) refl (λ (g : i < n). has-found t a i n g e)
  where
    either : (b : Bool) → true ≡ (b || true)
    either true = refl
    either false = refl

    by : (b : Bool) → eqb i n ≡ b → (i < n → true ≡ has_tick t (ticks_in n a)) → true ≡ (same (get_or a n (pos 0)) t || has_tick t (ticks_in n a))
    by true q g = let d : i ≡ n = eqb-true i n q in rw (← d, e)
    by false q g =
        let z : i ≡ n → ⊥ = λ d. true≢false (sym (eq-eqb i n d) ∙ q) in
        let k : i < n = omega (arith, h, z) in
        rw (← g k) (either (same (get_or a n (pos 0)) t))

-- ---- ticks that are kept

-- those of the first i ticks of an area that f keeps are in the first places of another, which is unchanged from i on
pub record Keeps (f : List ℤ → List ℤ) (a₀ a : List ℤ) (kept i : ℕ) : Type 0 where
  pub stand : ticks_in kept a ≡ f (ticks_in i a₀)
  pub others : (j : ℕ) → i ≤ j → get_or a j (pos 0) ≡ get_or a₀ j (pos 0)
  pub few : kept ≤ i
  pub long : length a ≡ length a₀

-- at first none
pub keeps-none : (f : List ℤ → List ℤ) (a : List ℤ) → f [] ≡ [] → Keeps f a a 0 0
keeps-none f a e =
    record { stand = sym e; others = λ j h. refl; few = omega arith; long = refl }

-- a tick that f drops
pub keeps-less :
    {f : List ℤ → List ℤ}
    {a₀ a : List ℤ}
    {kept i : ℕ} →
    Keeps f a₀ a kept i →
    f (get_or a i (pos 0) ∷ ticks_in i a₀) ≡ f (ticks_in i a₀) →
    Keeps f a₀ a kept (i + 1)
keeps-less {f} {a₀} {a} {kept} {i} k e =
    record {
      stand = k.stand ∙ sym e ∙ ap (λ (x : ℤ). f (x ∷ ticks_in i a₀)) (k.others i (omega arith)) ∙ ap f (sym (tick-more i a₀));
      others = λ j h. k.others j (omega (arith, h));
      few = omega (arith, k.few);
      long = k.long;
    }

-- a tick that f keeps
pub keeps-more :
    {f : List ℤ → List ℤ}
    {a₀ a : List ℤ}
    {kept i : ℕ} →
    Keeps f a₀ a kept i →
    i < length a₀ →
    f (get_or a i (pos 0) ∷ ticks_in i a₀) ≡ get_or a i (pos 0) ∷ f (ticks_in i a₀) →
    Keeps f a₀ (set a kept (get_or a i (pos 0))) (kept + 1) (i + 1)
keeps-more {f} {a₀} {a} {kept} {i} k h e =
    let x = get_or a i (pos 0) in
    record {
      stand =
          tick-stored kept a x (omega (arith, k.few, k.long, h))
          ∙ ap (λ (l : List ℤ). x ∷ l) k.stand
          ∙ sym e
          ∙ ap (λ (y : ℤ). f (y ∷ ticks_in i a₀)) (k.others i (omega arith))
          ∙ ap f (sym (tick-more i a₀));
      others = λ j g. get_or-set_other a kept j x (pos 0) (λ z. omega (arith, k.few, g, z)) ∙ k.others j (omega (arith, g));
      few = omega (arith, k.few);
      long = length-set a kept x ∙ k.long;
    }

-- a tick below another is dropped, one that is not is kept
pub below_out : (t x : ℤ) (l : List ℤ) → signed_less x t ≡ true → not_below t (x ∷ l) ≡ not_below t l
unfolding not_below
below_out t x l e = rw e

pub below_left : (t x : ℤ) (l : List ℤ) → signed_less x t ≡ false → not_below t (x ∷ l) ≡ x ∷ not_below t l
unfolding not_below
below_left t x l e = rw e

-- a tick that equals another is dropped, one that does not is kept
pub same_out : (t x : ℤ) (l : List ℤ) → same x t ≡ true → without t (x ∷ l) ≡ without t l
unfolding without
same_out t x l e = rw e

pub same_left : (t x : ℤ) (l : List ℤ) → same x t ≡ false → without t (x ∷ l) ≡ x ∷ without t l
unfolding without
same_left t x l e = rw e

-- the lowest of a tick and some more, by the lower of it and the first
lower-first : (x y : ℤ) (l : List ℤ) → lowest (cond (signed_less y x) y x) l ≡ lowest x (y ∷ l)
unfolding lowest
lower-first x y l = by-test (signed_less y x) where
  by-test : (b : Bool) → lowest (cond b y x) l ≡ cond b (lowest y l) (lowest x l)
  by-test true = refl
  by-test false = refl

-- the lowest, from the latest tick on
pub lowest-turn :
    (a : List ℤ)
    (i : ℕ)
    (x : ℤ)
    {r w : ℤ} →
    0 < i →
    r ≡ cond (signed_less (get_or a (i - 1) (pos 0)) x) (get_or a (i - 1) (pos 0)) x →
    lowest x (ticks_in i a) ≡ w →
    lowest r (ticks_in (i - 1) a) ≡ w
lowest-turn a i x {r} {w} h e g =
    let n : i ≡ i - 1 + 1 = omega (arith, h) in
    ap (λ (y : ℤ). lowest y (ticks_in (i - 1) a)) e
    ∙ lower-first x (get_or a (i - 1) (pos 0)) (ticks_in (i - 1) a)
    ∙ ap (lowest x) (sym (tick-more (i - 1) a))
    ∙ ap (λ (k : ℕ). lowest x (ticks_in k a)) (sym n)
    ∙ g
