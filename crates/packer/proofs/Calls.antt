-- The calls that read at most 1,048,576 entries, by their number. Assumes nothing.
use mathlib.Core.Path.{◌≡◌}
use mathlib.Core.List.{List}
use Prim.Native.Nat.{ℕ, ◌≤◌, ◌<◌}
use borrow.Author.Tests.{le-leb, lt-leb}
use lib.IntN.{ℤ}
use lib.ListN.{length}
use Rattle.definitions.specs.Refusals.{input_too_long}
use Rattle.definitions.specs.Outcome.{refuse}
use Rattle.definitions.specs.Packer.{read_int_at, read_int_call, unpack_stream, unpack_call}
use Rattle.definitions.specs.Readers.{plain_int_at, plain_int_call}
use Rattle.definitions.specs.Stream.{stream}
use Rattle.laws.specs.OutcomeLaws.{after_none}

module _ (src : List ℕ) where
  pub int-too-long : (at : ℕ) → 1048576 < length src → read_int_call src at ≡ refuse input_too_long
  unfolding read_int_call
  int-too-long at h = rw (lt-leb (length src) 1048576 h)

  pub int-read : (at : ℕ) → length src ≤ 1048576 → read_int_call src at ≡ read_int_at src at
  unfolding read_int_call
  int-read at h = rw (le-leb (length src) 1048576 h) (after_none (read_int_at src at))

  pub too_long : (out : List ℤ) → 1048576 < length src → unpack_call src out ≡ record { answer = refuse input_too_long; out = out }
  unfolding unpack_call
  too_long out h = rw (lt-leb (length src) 1048576 h)

  pub judged : (out : List ℤ) → length src ≤ 1048576 → unpack_call src out ≡ unpack_stream (stream src) out
  unfolding unpack_call
  judged out h = rw (le-leb (length src) 1048576 h)

module _ (xs : List ℤ) (at : ℕ) where
  pub plain-too-long : 1048576 < length xs → plain_int_call xs at ≡ refuse input_too_long
  unfolding plain_int_call
  plain-too-long h = rw (lt-leb (length xs) 1048576 h)

  pub plain-read : length xs ≤ 1048576 → plain_int_call xs at ≡ plain_int_at xs at
  unfolding plain_int_call
  plain-read h = rw (le-leb (length xs) 1048576 h) (after_none (plain_int_at xs at))
