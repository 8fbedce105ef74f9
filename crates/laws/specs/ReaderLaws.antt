-- The int at a place of some ints: where there is one, and where there is none. Assumes nothing.
use Rattle.std.specs.Prelude.{◌≡◌, List, false, ℕ, suc, ◌+◌, ◌-◌, ◌≤◌, ◌<◌, ℤ, pos, length, drop, get_or}
use Rattle.std.proofs.Common.{arith, drop_of_length-le, length-drop, drop-cons}
use Rattle.definitions.specs.Refusals.{unexpected_end}
use Rattle.definitions.specs.Outcome.{ok, refuse}
use Rattle.definitions.specs.Packed.{warned}
use Rattle.definitions.specs.Readers.{plain_int_at}
use Rattle.laws.specs.DeltaReadBack.{ints-int_stream}

module _ (xs : List ℤ) (at : ℕ) where
  pub int-end : length xs ≤ at → plain_int_at xs at ≡ refuse unexpected_end
  unfolding plain_int_at
  int-end h = rw (drop_of_length-le xs h)

  behind : at < length xs → length xs - length (drop (suc at) xs) ≡ at + 1
  behind h = simp length-drop (omega arith)

  pub int-found : at < length xs → plain_int_at xs at ≡ ok (record { value = get_or xs at (pos 0); next = at + 1 }) (warned false)
  unfolding plain_int_at
  int-found h = rw (drop-cons xs at (pos 0) h, ints-int_stream (drop (suc at) xs), behind h)
