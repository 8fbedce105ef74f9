-- The best rule so far, and one more item. Assumes nothing.
use mathlib.Core.Path.{◌≡◌, refl}
use mathlib.Core.Bool.{Bool, true, false, ◌||◌, ◌&&◌, and-false, cond}
use mathlib.Core.Option.{Option, some, none}
use Prim.Native.Nat.{◌<◌}
use native.Mathlib.Omega.{arith}
use borrow.Author.Tests.{le-ltb}
use Rattle.definitions.specs.Ints.{from_bits, signed_less}
use Rattle.definitions.specs.Receiver.{same}
use Rattle.definitions.specs.Rules.{Rule, goes_before, first_of}
use Rattle.std.specs.Prelude.{Some}
use Rattle.rules.specs.declared.checked.Best.{Best}
use Rattle.rules.specs.Searching.{best_in, first_best}

-- of two rules the one with the lesser key goes first only if its priority is higher
lower-first : (r s : Rule) → r.key < s.key → goes_before r s ≡ signed_less s.priority r.priority
lower-first r s l =
    rw (le-ltb s.key r.key (omega arith))
    (alone (signed_less s.priority r.priority) (same r.priority s.priority))
  where
    alone : (b c : Bool) → (b || (c && false)) ≡ b
    alone true c = refl
    alone false c = and-false c

-- the first of a rule and one with a greater key, as the search keeps it
pub first-best : (r : Rule) (o : Option Rule) → ((s : Rule) → o ≡ some s → r.key < s.key)
    → best_in (first_of r o) ≡ Some (first_best (record { key = from_bits r.key; priority = r.priority; action = r.action }) (best_in o))
first-best r none above = refl
first-best r (some s) above = rw (lower-first r s (above s refl)) (go (signed_less s.priority r.priority))
  where
    kept : Rule → Best
    kept q = record { key = from_bits q.key; priority = q.priority; action = q.action }

    go : (b : Bool) → best_in (cond b (some r) (some s)) ≡ Some (cond b (kept r) (kept s))
    go true = refl
    go false = refl

-- it is one of the two
pub one_of : (r s : Rule) (o : Option Rule) (P : Rule → Type 0) → first_of r o ≡ some s → P r → ((q : Rule) → o ≡ some q → P q) → P s
one_of r s none P e h k = let d : r ≡ s = cc in rw d at h
one_of r s (some q) P e h k = go (goes_before r q) e
  where
    go : (b : Bool) → cond b (some r) (some q) ≡ some s → P s
    go true f = let d : r ≡ s = cc in rw d at h
    go false f = k s f
