-- Packing ints, one at a time. Assumes nothing.
use mathlib.Core.Path.{◌≡◌, refl, sym, ap, ◌∙◌}
use mathlib.Core.List.{List}
use Prim.Native.Nat.{ℕ, ◌+◌, ◌≤◌, ◌<◌}
use native.Mathlib.Nat.{zero-add}
use native.Mathlib.Omega.{arith}
use lib.IntN.{ℤ, pos}
use lib.ListN.{length, drop, get_or, drop_of_length-le}
use Rattle.definitions.specs.Areas.{lay_at}
use Rattle.definitions.specs.Warnings.{none}
use Rattle.definitions.specs.Outcome.{return}
use Rattle.definitions.specs.Packed.{write_int, pack_ints}
use Rattle.definitions.specs.Stored.{stored}
use Rattle.laws.specs.AreaLaws.{lay_at-nothing, length-lay_at}
use Rattle.laws.specs.PackLaws.{stored-fits, pack-length, pack-laid}

-- behind the last int there is nothing to pack
pub none_left : (xs : List ℤ) (i : ℕ) → length xs ≤ i → length (pack_ints (drop i xs)) ≡ 0
unfolding pack_ints
none_left xs i h = rw (drop_of_length-le xs h)

-- the ints from number i on are left to pack; then the area is as with all packed from the start
pub record Packing (src : List ℤ) (start : ℕ) (before out : List ℕ) (at i : ℕ) : Type 0 where
  pub inside : i ≤ length src
  pub same : length out ≡ length before
  pub ends : at + length (pack_ints (drop i src)) ≡ start + length (pack_ints src)
  pub laid : lay_at at (pack_ints (drop i src)) out ≡ lay_at start (pack_ints src) before

pub begin : (src : List ℤ) (start : ℕ) (before : List ℕ) → Packing src start before before start 0
begin src start before = record { inside = omega arith; same = refl; ends = refl; laid = refl }

module _ {src : List ℤ} {start : ℕ} {before out : List ℕ} {at i : ℕ} (p : Packing src start before out at i) where
  -- the next int has room
  pub room : i < length src → start + length (pack_ints src) ≤ length before → at + length (write_int (get_or src i (pos 0))) ≤ length out
  room h k = omega (arith, p.ends, p.same, pack-length src i h)

  -- one more int is written
  pub turn : i < length src → (r : ℕ) (o : List ℕ) → r ≡ at + length (write_int (get_or src i (pos 0))) → o ≡ lay_at at (write_int (get_or src i (pos 0))) out → Packing src start before o r (i + 1)
  turn h r o e f =
      let x = write_int (get_or src i (pos 0)) in
      record {
        inside = omega arith;
        same = ap length f ∙ length-lay_at at x out ∙ p.same;
        ends = omega (arith, p.ends, pack-length src i h);
        laid = rw (e, f) (sym (pack-laid src i h at out) ∙ p.laid);
      }

  -- all are written
  pub done : length src ≤ i → (at ≡ start + length (pack_ints src)) × (out ≡ lay_at start (pack_ints src) before)
  unfolding pack_ints
  done h =
      let e = drop_of_length-le src h in
      (omega (arith, p.ends, none_left src i h), sym (lay_at-nothing at out) ∙ (rw e at p.laid))

-- ---- from the front

-- there is room
pub from_front : (src : List ℤ) (out : List ℕ) → length (pack_ints src) ≤ length out → 0 + length (pack_ints src) ≤ length out
from_front src out h = omega arith

-- all were packed
pub packed-is : (src : List ℤ) (out o : List ℕ) (r : ℕ) → length (pack_ints src) ≤ length out → r ≡ 0 + length (pack_ints src) → o ≡ lay_at 0 (pack_ints src) out → stored out (return (pack_ints src)) ≡ record { answer = return r; out = o }
packed-is src out o r h e f =
    rw (e, f, zero-add (length (pack_ints src))) (stored-fits (pack_ints src) out none h)
