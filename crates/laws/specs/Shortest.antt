-- Laws of packed integers: a written int has one to five bytes, and no shorter form is read as the same int. Assumes nothing.
use Rattle.std.specs.Prelude.{◌≡◌, List, [], ◌∷◌, Bool, true, false, ℕ, zero, suc, ◌+◌, ◌-◌, ◌*◌, ◌/◌, ◌%◌, ◌^◌, ◌≤◌, ◌<◌, ℤ, length}
use Rattle.std.proofs.Common.{sym, ap, subst, ◌∙◌, ⊎_elim, mul_assoc, mul-le-mul_right, le-mul_of_pos_right, arith, lt-ltb, le-ltb, le-leb}
use Rattle.std.proofs.Math.Nat.{pow-succ', pow-le-pow_right}
use Rattle.std.proofs.lemmas.Bool.{lt-leb}
use Rattle.std.specs.Int.Signed.{mag}
use Rattle.std.specs.Int.{w32}
use Rattle.std.proofs.Math.Facts.{to_z_pos, to_z-neg}
use Rattle.definitions.specs.Ints.{from_bits}
use Rattle.definitions.specs.Warnings.{Counts}
use Rattle.definitions.specs.Outcome.{Outcome, ok, err}
use Rattle.definitions.specs.Packed.{Read, signed, sign, more, read_int, write_more, write_int}
use Rattle.laws.specs.Tests.{below}

-- ---- how long a written int is

-- at least one byte
pub some_more : (n m : ℕ) → 1 ≤ length (write_more n m)
unfolding write_more
some_more zero m = omega arith
some_more (suc n) m =
    ⊎_elim
    (λ (h : m < 128). rw (lt-ltb m 128 h) (omega arith))
    (λ (h : 128 ≤ m). rw (le-ltb m 128 h) (omega arith))
    (below m 128)

-- digits below 128 ^ (j + 1) take at most j + 1 bytes
few-more : (n j m : ℕ) → m < 128 ^ suc j → length (write_more n m) ≤ suc j
unfolding write_more
few-more zero j m h = omega arith
few-more (suc n) zero m h = rw (lt-ltb m 128 h) (omega arith)
few-more (suc n) (suc j) m h =
    ⊎_elim
    (λ (k : m < 128). rw (lt-ltb m 128 k) (omega arith))
    (λ (k : 128 ≤ m).
    let u : 128 ^ suc (suc j) ≡ 128 * 128 ^ suc j = pow-succ' 128 (suc j) in
    let r : length (write_more n (m / 128)) ≤ suc j = few-more n j (m / 128) (omega arith) in
    rw (le-ltb m 128 k) (omega arith))
    (below m 128)

-- and never more than n + 1
most-more : (n m : ℕ) → length (write_more n m) ≤ suc n
unfolding write_more
most-more zero m = omega arith
most-more (suc n) m =
    ⊎_elim
    (λ (h : m < 128). rw (lt-ltb m 128 h) (omega arith))
    (λ (h : 128 ≤ m).
    let r : length (write_more n (m / 128)) ≤ suc n = most-more n (m / 128) in
    rw (le-ltb m 128 h) (omega arith))
    (below m 128)

-- one to five bytes
pub length-write_int : (x : ℤ) → (1 ≤ length (write_int x)) × (length (write_int x) ≤ 5)
unfolding write_int
length-write_int x =
    ⊎_elim
    (λ (h : mag x < 64). rw (lt-ltb (mag x) 64 h) (omega arith))
    (λ (h : 64 ≤ mag x).
    let r : length (write_more 3 (mag x / 64)) ≤ 4 = most-more 3 (mag x / 64) in
    rw (le-ltb (mag x) 64 h) (omega arith))
    (below (mag x) 64)

-- at most j + 1 bytes where the digits are below 64 * 128 ^ j
few : (j : ℕ) (x : ℤ) → mag x < 64 * 128 ^ j → length (write_int x) ≤ suc j
unfolding write_int
few zero x h = rw (lt-ltb (mag x) 64 h) (omega arith)
few (suc j) x h =
    ⊎_elim
    (λ (k : mag x < 64). rw (lt-ltb (mag x) 64 k) (omega arith))
    (λ (k : 64 ≤ mag x).
    let r : length (write_more 3 (mag x / 64)) ≤ suc j = few-more 3 j (mag x / 64) (omega arith) in
    rw (le-ltb (mag x) 64 k) (omega arith))
    (below (mag x) 64)

-- ---- how many digits are read

mag-signed : (s : Bool) (d : ℕ) → d < 2 ^ 31 → mag (signed s d) ≡ d
unfolding signed from_bits
mag-signed false d h = ap mag (to_z_pos w32 h)
mag-signed true d h =
    let e : 2 ^ 32 - 1 - d ≡ 2 ^ 32 - suc d = omega arith in
    ap (λ (n : ℕ). mag (mir.Val.to_z w32 n)) e ∙ ap mag (to_z-neg w32 d h)

-- the bytes after the first that were read: j of them with digits below w * 128 ^ j, or all n + 1
data Used (n w : ℕ) (l : List ℕ) : Outcome Read → Type 0 where
  some : {r : Read} {c : Counts} (j : ℕ) → length l ≡ j + length r.rest → mag r.value < w * 128 ^ j → Used n w l (ok r c)
  all : {r : Read} {c : Counts} → length l ≡ suc n + length r.rest → Used n w l (ok r c)
  nothing : {m : ℕ} {c : Counts} → Used n w l (err m c)

-- a digit at its weight
digit : (b w : ℕ) → b < 128 → b * w ≤ 127 * w
digit b w h = mul-le-mul_right w (omega arith)

-- the weight of the next byte is small
weight : (n w : ℕ) → w * 128 ^ suc n ≤ 2 ^ 27 → (w * 128 * 128 ^ n ≤ 2 ^ 27) × (w * 128 ≤ 2 ^ 27)
weight n w h =
    let p : 128 ^ 0 ≤ 128 ^ n = pow-le-pow_right {n = 128} (omega arith) {i = 0} {j = n} (omega arith) in
    let e : w * 128 ^ suc n ≡ w * 128 * 128 ^ n = ap (λ (k : ℕ). w * k) (pow-succ' 128 n) ∙ sym (mul_assoc w 128 (128 ^ n)) in
    let q : w * 128 ≤ w * 128 * 128 ^ n = le-mul_of_pos_right (w * 128) (omega arith) in
    (omega arith, omega arith)

later : {n w b : ℕ} {bs : List ℕ} {o : Outcome Read} → Used n (w * 128) bs o → Used (suc n) w (b ∷ bs) o
later {n} {w} (some {r = r} j e h) =
    some {r = r} (suc j) (omega arith)
    (subst (λ (k : ℕ). mag r.value < k) (mul_assoc w 128 (128 ^ j) ∙ ap (λ (k : ℕ). w * k) (sym (pow-succ' 128 j))) h)
later (all {r = r} e) = all {r = r} (omega arith)
later nothing = nothing

used : (n w d : ℕ) (s : Bool) (l : List ℕ) → d < w → w * 128 ^ n ≤ 2 ^ 27 → Used n w l (more n w d s l)
unfolding more
used n w d s [] h k = nothing
used zero w d s (b ∷ bs) h k =
    ⊎_elim
    (λ (t : b < 16). rw (lt-leb 16 b t) (all {r = record { value = signed s (d + b * w); rest = bs }} (omega arith)))
    (λ (t : 16 ≤ b). rw (le-leb 16 b t) nothing)
    (below b 16)
used (suc n) w d s (b ∷ bs) h k =
    let u = weight n w k in
    ⊎_elim
    (λ (t : b < 128).
    let v : d + b * w < w * 128 = omega (arith, digit b w t) in
    let m : mag (signed s (d + b * w)) ≡ d + b * w = mag-signed s (d + b * w) (omega arith) in
    rw (lt-leb 128 b t)
    (some {r = record { value = signed s (d + b * w); rest = bs }} 1 (omega arith) (omega arith)))
    (λ (t : 128 ≤ b).
    rw (le-leb 128 b t)
    (later (used n (w * 128) (d + b % 128 * w) s bs (omega (arith, digit (b % 128) w (omega arith))) u.0)))
    (below b 128)

-- ---- no shorter form

data Longer (l : List ℕ) : Outcome Read → Type 0 where
  longer : {r : Read} {c : Counts} → length (write_int r.value) + length r.rest ≤ length l → Longer l (ok r c)
  nothing : {m : ℕ} {c : Counts} → Longer l (err m c)

from-used : {b : ℕ} {bs : List ℕ} {o : Outcome Read} → Used 3 64 bs o → Longer (b ∷ bs) o
from-used (some {r = r} j e h) =
    let k : length (write_int r.value) ≤ suc j = few j r.value h in
    longer {r = r} (omega arith)
from-used (all {r = r} e) = longer {r = r} (omega (arith, length-write_int r.value))
from-used nothing = nothing

read-longer : (l : List ℕ) → Longer l (read_int l)
unfolding read_int
read-longer [] = nothing
read-longer (b ∷ bs) =
    ⊎_elim
    (λ (t : b < 128).
    let x = signed (sign b) (b % 64) in
    let m : mag x ≡ b % 64 = mag-signed (sign b) (b % 64) (omega arith) in
    let k : length (write_int x) ≤ 1 = few 0 x (omega arith) in
    rw (lt-leb 128 b t) (longer {r = record { value = x; rest = bs }} (omega arith)))
    (λ (t : 128 ≤ b).
    rw (le-leb 128 b t) (from-used (used 3 64 (b % 64) (sign b) bs (omega arith) (omega arith))))
    (below b 128)

-- whatever bytes an int is read from, its written form is no longer
pub shortest : (l : List ℕ) (r : Read) (c : Counts) → read_int l ≡ ok r c → length (write_int r.value) + length r.rest ≤ length l
shortest l r c e = go (subst (λ (o : Outcome Read). Longer l o) e (read-longer l))
  where
    go : Longer l (ok r c) → length (write_int r.value) + length r.rest ≤ length l
    go (longer h) = h
