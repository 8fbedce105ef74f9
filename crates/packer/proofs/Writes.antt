-- Writing the bytes of an integer after its first, one at a time. Assumes nothing.
use mathlib.Core.Path.{◌≡◌, refl, sym, ap, ◌∙◌}
use mathlib.Core.Logic.{⊎_elim}
use mathlib.Core.List.{List, [], ◌∷◌}
use Prim.Native.Nat.{ℕ, zero, suc, ◌+◌, ◌*◌, ◌/◌, ◌%◌, ◌^◌, ◌≤◌, ◌<◌}
use native.Mathlib.Nat.{pow-succ'}
use native.Mathlib.Omega.{arith}
use borrow.Author.Tests.{lt-ltb, le-ltb}
use lib.ListN.{length, set}
use Rattle.definitions.specs.Areas.{lay_at}
use Rattle.definitions.specs.Packed.{write_more}
use Rattle.laws.specs.AreaLaws.{lay_at-set, lay_at-nothing}
use Rattle.laws.specs.Shortest.{some_more}
use Rattle.laws.specs.Tests.{below}
use Rattle.packer.specs.Bytes.{extend_bit}

-- the extend bit of digits that one byte holds, and of others
pub extend-none : (m : ℕ) → m < 64 → 0 ≡ extend_bit m
extend-none m h = rw (lt-ltb m 64 h) refl

pub extend-more : (m : ℕ) → 64 ≤ m → 128 ≡ extend_bit m
extend-more m h = rw (le-ltb m 64 h) refl

-- the extend bit is 0 exactly if one byte holds the digits
module _ (m : ℕ) {bit : ℕ} (bit_is : bit ≡ extend_bit m) where
  pub short : bit ≡ 0 → m < 64
  short none =
      ⊎_elim
      (λ (a : m < 64). a)
      (λ (a : 64 ≤ m). let is_set = extend-more m a in absurd (omega arith))
      (below m 64)

  pub long : (bit ≡ 0 → ⊥) → 64 ≤ m
  long some =
      ⊎_elim
      (λ (a : m < 64). absurd (some (bit_is ∙ sym (extend-none m a))))
      (λ (a : 64 ≤ m). a)
      (below m 64)

-- the digits m are left to write from a place on, in at most k + 1 bytes; then the area is as it should be
pub record Rest (start digits : ℕ) (before : List ℕ) (at m : ℕ) (out : List ℕ) : Type 0 where
  pub k : ℕ
  pub few : m < 16 * 128 ^ k
  pub ends : at + length (write_more k m) ≡ start + length (write_more 3 digits)
  pub laid : lay_at at (write_more k m) out ≡ lay_at start (write_more 3 digits) before

-- below 128 there is one byte
one_byte : (k m : ℕ) → m < 128 → write_more k m ≡ m ∷ []
unfolding write_more
one_byte zero m h = refl
one_byte (suc k) m h = rw (lt-ltb m 128 h)

module _ {start digits : ℕ} {before : List ℕ} {at m : ℕ} {out : List ℕ} where
  pub inside : Rest start digits before at m out → start + length (write_more 3 digits) ≤ length before → length out ≡ length before → at < length out
  inside r h l = omega (arith, r.ends, some_more r.k m)

  pub last :
      Rest start digits before at m out → m < 128 → at < length out →
      (at + 1 ≡ start + length (write_more 3 digits)) × (set out at m ≡ lay_at start (write_more 3 digits) before)
  last r h i =
      let e : write_more r.k m ≡ m ∷ [] = one_byte r.k m h in
      (rw e at r.ends, sym (lay_at-nothing (at + 1) (set out at m)) ∙ sym (lay_at-set at m [] out i) ∙ (rw e at r.laid))

-- one more byte is written
pub turn :
    {start digits : ℕ} {before : List ℕ} {at m : ℕ} {out : List ℕ} →
    Rest start digits before at m out → 128 ≤ m → at < length out →
    Rest start digits before (at + 1) (m / 128) (set out at (128 + m % 128))
unfolding write_more
turn {start} {digits} {before} {at} {m} {out} r h i = go r.k r.few r.ends r.laid
  where
    go :
        (k : ℕ) → m < 16 * 128 ^ k →
        at + length (write_more k m) ≡ start + length (write_more 3 digits) →
        lay_at at (write_more k m) out ≡ lay_at start (write_more 3 digits) before →
        Rest start digits before (at + 1) (m / 128) (set out at (128 + m % 128))
    go zero f e d = let z : ⊥ = omega arith in absurd z
    go (suc k) f e d =
        let u : 128 ^ suc k ≡ 128 * 128 ^ k = pow-succ' 128 k in
        let t = le-ltb m 128 h in
        let e' : at + suc (length (write_more k (m / 128))) ≡ start + length (write_more 3 digits) = rw t at e in
        record {
          k = k;
          few = omega arith;
          ends = omega arith;
          laid = sym (lay_at-set at (128 + m % 128) (write_more k (m / 128)) out i) ∙ (rw t at d);
        }

-- ---- how many bytes an int takes

last_more : (n m : ℕ) → m < 128 → length (write_more n m) ≡ 1
last_more n m h = ap length (one_byte n m h)

again-more : (n m : ℕ) → 128 ≤ m → length (write_more (suc n) m) ≡ suc (length (write_more n (m / 128)))
unfolding write_more
again-more n m h = rw (le-ltb m 128 h)

module _ (m : ℕ) where
  pub two-long : m < 8192 → length (write_more 3 (m / 64)) ≡ 1
  two-long h = last_more 3 (m / 64) (omega arith)

  pub three-long : 8192 ≤ m → m < 1048576 → length (write_more 3 (m / 64)) ≡ 2
  three-long g h =
      again-more 2 (m / 64) (omega arith)
      ∙ ap suc (last_more 2 (m / 64 / 128) (omega arith))

  pub four-long : 1048576 ≤ m → m < 134217728 → length (write_more 3 (m / 64)) ≡ 3
  four-long g h =
      again-more 2 (m / 64) (omega arith)
      ∙ ap suc (again-more 1 (m / 64 / 128) (omega arith) ∙ ap suc (last_more 1 (m / 64 / 128 / 128) (omega arith)))

  pub five-long : 134217728 ≤ m → m < 2 ^ 31 → length (write_more 3 (m / 64)) ≡ 4
  five-long g h =
      let fifth = ap suc (last_more 0 (m / 64 / 128 / 128 / 128) (omega arith)) in
      let fourth = ap suc (again-more 0 (m / 64 / 128 / 128) (omega arith) ∙ fifth) in
      again-more 2 (m / 64) (omega arith) ∙ ap suc (again-more 1 (m / 64 / 128) (omega arith) ∙ fourth)
