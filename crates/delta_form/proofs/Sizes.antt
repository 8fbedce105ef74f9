-- Known sizes as counts, and the places of an update by them. Assumes nothing.
use Prim.Native.Nat.{ℕ, ◌+◌, ◌<◌, ◌≤◌, ◌^◌}
use native.Mathlib.Omega.{arith}
use mathlib.Core.Path.{◌≡◌, refl}
use mathlib.Core.List.{List}
use borrow.Author.Tests.{lt-ltb, le-ltb}
use lib.IntN.{ℤ, pos, negsuc}
use lib.Signed.{mag}
use lib.ListN.{length, get_or}
use Rattle.definitions.specs.Tables.{num, nat}
use Rattle.definitions.specs.Deltas.{known, known_size, data_at, size_at}
use Rattle.delta_form.specs.Held.{size_from}
use Rattle.delta_form.specs.Forms.{is_known, is-unknown}

from_int : (z : ℤ) → mag z < 2 ^ 31 → known z ≡ size_from (num z)
unfolding num
from_int (pos n) l = rw (lt-ltb n (2 ^ 32) (omega arith))
from_int (negsuc n) l = refl

module _ (sizes : List ℤ) (t : ℕ) where
  pub listed : (r : ℕ) → t < length sizes → r ≡ nat sizes t → mag (get_or sizes t (pos 0)) < 2 ^ 31 → known_size sizes t ≡ size_from r
  unfolding known_size nat
  listed r l e w = rw (lt-ltb t (length sizes) l, e) (from_int (get_or sizes t (pos 0)) w)

  pub not_listed : length sizes ≤ t → known_size sizes t ≡ size_from 4294967296
  unfolding known_size
  not_listed l = rw (le-ltb t (length sizes) l)

-- the count r is the known size of the type of the update at place p
module _ (sizes a : List ℤ) (p t r : ℕ) (e : t ≡ nat a p) (k : known_size sizes t ≡ size_from r) where
  pub data-known : r < 2 ^ 32 → p + 2 ≡ data_at sizes a p
  unfolding data_at
  data-known l = rw (is_known sizes r e k l)

  pub data-unknown : 2 ^ 32 ≤ r → p + 3 ≡ data_at sizes a p
  unfolding data_at
  data-unknown l = rw (is-unknown sizes r e k l)

  pub size-known : r < 2 ^ 32 → r ≡ size_at sizes a p
  unfolding size_at
  size-known l = rw (is_known sizes r e k l)

  pub size-unknown : 2 ^ 32 ≤ r → nat a (p + 2) ≡ size_at sizes a p
  unfolding size_at
  size-unknown l = rw (is-unknown sizes r e k l)
