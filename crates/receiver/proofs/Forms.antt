-- The receiver's form, case by case. Assumes nothing.
use mathlib.Core.Path.{◌≡◌, refl}
use mathlib.Core.Bool.{Bool, true, false, cond}
use mathlib.Core.List.{List}
use Prim.Native.Nat.{ℕ, ◌≤◌, ◌<◌}
use native.Mathlib.Omega.{arith}
use borrow.Author.Tests.{lt-ltb, le-ltb, le-leb, lt-leb}
use lib.Dec.{ltb, eqb}
use lib.IntN.{ℤ}
use Rattle.std.specs.Prelude.{int_lt}
use Rattle.std.specs.Ordering.{int_cmp, is_lt}
use Rattle.std.proofs.Common.{Less, Equal, Greater}
use Rattle.definitions.specs.Ints.{signed_less}
use Rattle.definitions.specs.Receiver.{above_previous, count_in, receiver_form}
use Rattle.ticks.specs.Ticks.{tick_of}
use Rattle.receiver.specs.declared.CurrentDelta.{CurrentDelta}
use Rattle.std.specs.Prelude.{Some, None}
use Rattle.receiver.specs.declared.checked.Ticks.{Ticks}
use Rattle.receiver.specs.States.{receiver_with}

-- a comparison by both tests says what the first one says
cmp-less : (p q : Bool) → is_lt (cond p Less (cond q Greater Equal)) ≡ p
cmp-less true q = refl
cmp-less false true = refl
cmp-less false false = refl

-- a tick is below another
pub less-is : (a b : ℤ) → is_lt (int_cmp a b) ≡ signed_less a b
less-is a b = cmp-less (int_lt a b) (int_lt b a)

module _ (r : Ticks) (lengths : List ℕ) (n : ℕ) (e : n ≡ count_in lengths 32) where
  -- no tick is unfinished
  pub no-current : r.current ≡ None → eqb n 0 ≡ receiver_form (receiver_with r lengths)
  unfolding receiver_form
  no-current p = rw (p, e)

  module _ (c : CurrentDelta) (p : r.current ≡ Some c) where
    -- the unfinished tick is not above the last finished one
    pub not-above : above_previous (tick_of r.previous_tick) c.tick.0 ≡ false → false ≡ receiver_form (receiver_with r lengths)
    unfolding receiver_form
    not-above h = rw (p, h)

    module _ (h : above_previous (tick_of r.previous_tick) c.tick.0 ≡ true) where
      -- too many parts
      pub too_many : 32 < c.num_parts → false ≡ receiver_form (receiver_with r lengths)
      unfolding receiver_form
      too_many l = rw (p, h, lt-leb c.num_parts 32 l)

      module _ (k : c.num_parts ≤ 32) where
        -- no part is in
        pub none_in : n ≡ 0 → false ≡ receiver_form (receiver_with r lengths)
        unfolding receiver_form
        none_in z = rw (p, h, le-leb c.num_parts 32 k, le-ltb 0 (count_in lengths 32) (omega arith))

        -- some are in, but not all
        pub some_in : (n ≡ 0 → ⊥) → ltb n c.num_parts ≡ receiver_form (receiver_with r lengths)
        unfolding receiver_form
        some_in z = rw (p, h, le-leb c.num_parts 32 k, lt-ltb 0 (count_in lengths 32) (omega arith), e)
