-- Numbers of parts that came: which are there, and how many. Assumes nothing.
use Rattle.std.specs.Prelude.{◌≡◌, refl, Bool, true, false, cond, ◌&&◌, List, [], ◌∷◌, ℕ, zero, suc, ◌+◌, ◌≤◌, ◌<◌, eqb, length}
use Rattle.std.proofs.Common.{sym, ◌∙◌, ap, arith, eqb-true, eq-eqb, ne_eqb}
use Rattle.std.proofs.lemmas.Bool.{eqb-false}
use Rattle.definitions.specs.DeltaReading.{elem}
use Rattle.definitions.specs.Receiver.{is_in, count_in}
use Rattle.definitions.specs.Logbook.{all_came}
use Rattle.session.specs.Lists.{contra, either}

-- numbers below c, each once
pub data Apart (c : ℕ) : List ℕ → Type 0 where
  none : Apart c []
  more : {p : ℕ} {l : List ℕ} → p < c → elem p l ≡ false → Apart c l → Apart c (p ∷ l)

-- how many of the numbers below n are in a list
unfoldable pub tally : ℕ → List ℕ → ℕ
tally zero l = 0
tally (suc n) l = tally n l + cond (elem n l) 1 0

-- of no numbers none is counted
tally-none : (c : ℕ) → tally c [] ≡ 0
unfolding tally
tally-none zero = refl
tally-none (suc n) = rw (tally-none n)

-- no more are counted than there are
pub tally-le : (c : ℕ) (l : List ℕ) → tally c l ≤ c
unfolding tally
tally-le zero l = omega arith
tally-le (suc n) l = go (elem n l) (tally-le n l)
  where
    go : (t : Bool) → tally n l ≤ n → tally n l + cond t 1 0 ≤ suc n
    go true h = omega arith
    go false h = omega arith

-- a number from c on is not counted
tally-out : (c p : ℕ) (l : List ℕ) → c ≤ p → tally c (p ∷ l) ≡ tally c l
unfolding tally
tally-out zero p l h = refl
tally-out (suc n) p l h = rw (ne_eqb n p (omega arith), tally-out n p l (omega arith)) refl

-- a number below c that is new counts one
tally-in : (c p : ℕ) (l : List ℕ) → p < c → elem p l ≡ false → tally c (p ∷ l) ≡ suc (tally c l)
unfolding tally
tally-in zero p l h e = absurd (omega arith)
tally-in (suc n) p l h e =
    either (eqb n p)
    (λ q. let r : n ≡ p = eqb-true n p q in rw (q, tally-out n p l (omega arith), r, e) (omega arith))
    (λ q. let r : p < n = omega (arith, eqb-false n p q) in rw (q, tally-in n p l r e) (omega arith))

-- numbers below c, counted below d, where d is not less
pub tally-apart : (c d : ℕ) (l : List ℕ) → c ≤ d → Apart c l → tally d l ≡ length l
tally-apart c d l k none = tally-none d
tally-apart c d l k (more {p = p} {l = m} h e a) = tally-in d p m (omega arith) e ∙ ap suc (tally-apart c d m k a)

-- all came when as many came as there are
pub all_came-tally : (c : ℕ) (l : List ℕ) → all_came c l ≡ eqb (tally c l) c
unfolding all_came tally
all_came-tally zero l = refl
all_came-tally (suc n) l = go (elem n l) (all_came-tally n l) (tally-le n l)
  where
    go : (t : Bool) → all_came n l ≡ eqb (tally n l) n → tally n l ≤ n → (t && all_came n l) ≡ eqb (tally n l + cond t 1 0) (suc n)
    go true h k =
        either (eqb (tally n l) n)
        (λ q. h ∙ q ∙ sym (eq-eqb (tally n l + 1) (suc n) (omega (arith, eqb-true (tally n l) n q))))
        (λ q. h ∙ q ∙ sym (ne_eqb (tally n l + 1) (suc n) (λ z. eqb-false (tally n l) n q (omega arith))))
    go false h k = sym (ne_eqb (tally n l + 0) (suc n) (omega arith))

-- numbers below c, each once, are all when they are as many
pub all_came-length : (c : ℕ) (l : List ℕ) → Apart c l → all_came c l ≡ eqb (length l) c
all_came-length c l d = all_came-tally c l ∙ rw (tally-apart c c l (omega arith) d)

-- where all came, each came
pub all_came-at : (c : ℕ) (l : List ℕ) (q : ℕ) → all_came c l ≡ true → q < c → elem q l ≡ true
unfolding all_came
all_came-at zero l q e h = absurd (omega arith)
all_came-at (suc n) l q e h =
    either (elem n l)
    (λ m. either (eqb q n) (λ r. rw (eqb-true q n r) m) (λ r. all_came-at n l q (rw m at e) (omega (arith, eqb-false q n r))))
    (λ m. contra (rw m at e) refl)

-- where each came, all came
pub all_came-made : (c : ℕ) (l : List ℕ) → ((q : ℕ) → q < c → elem q l ≡ true) → all_came c l ≡ true
unfolding all_came
all_came-made zero l f = refl
all_came-made (suc n) l f = rw (f n (omega arith), all_came-made n l (λ q h. f q (omega arith)))

-- with every other part in, the parts are all in
pub all-filled : (c p : ℕ) (l : List ℕ) → ((q : ℕ) → q < c → (q ≡ p → ⊥) → elem q l ≡ true) → all_came c (p ∷ l) ≡ true
all-filled c p l f = all_came-made c (p ∷ l) (λ q h. either (eqb q p) (λ e. rw e refl) (λ e. rw e (f q h (eqb-false q p e))))

-- the parts that are in, counted, where they are those that came
pub count_in-tally : (lengths : List ℕ) (came : List ℕ) (n : ℕ) → ((p : ℕ) → p < n → is_in lengths p ≡ elem p came) → count_in lengths n ≡ tally n came
unfolding count_in tally
count_in-tally lengths came zero f = refl
count_in-tally lengths came (suc n) f = rw (f n (omega arith), count_in-tally lengths came n (λ p h. f p (omega arith))) refl
