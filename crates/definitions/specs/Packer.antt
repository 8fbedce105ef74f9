-- The packer's calls: packed integers at a place of an area, and all those of a byte string. Assumes nothing.
use Rattle.std.specs.Prelude.{List, Bool, cond, ℕ, ◌+◌, ◌-◌, leb, ℤ, length, drop}
use Rattle.definitions.specs.Areas.{lay, lay_at, fits_at}
use Rattle.definitions.specs.Refusals.{capacity_error, input_too_long, non_zero_int_padding}
use Rattle.definitions.specs.Outcome.{Outcome, ok, err, return, refuse, require, ◌>>◌, Wrote}
use Rattle.definitions.specs.Packed.{Read, read_int, write_int}
use Rattle.definitions.specs.Stream.{Stream, stream, ints, warnings, is_cut, is_padded}

-- an integer at a place, and the place after it
pub record IntAt : Type 0 where
  pub value : ℤ
  pub next : ℕ

-- what was read from the end of n bytes: the rest begins at the next place
abbrev pub placed : ℕ → Outcome Read → Outcome IntAt
placed n (ok r w) = ok (record { value = r.value; next = n - length r.rest }) w
placed n (err e w) = err e w

-- the integer at a place
unfoldable pub read_int_at : List ℕ → ℕ → Outcome IntAt
read_int_at src at = placed (length src) (read_int (drop at src))

-- the same of at most 1,048,576 bytes
unfoldable pub read_int_call : List ℕ → ℕ → Outcome IntAt
read_int_call src at =
    require (leb (length src) 1048576) input_too_long
    >> read_int_at src at

-- an integer's shortest form at a place, and the place after it
unfoldable pub write_int_at : List ℕ → ℕ → ℤ → Wrote ℕ ℕ
write_int_at out at x =
    cond (fits_at at (write_int x) out)
    (record { answer = return (at + length (write_int x)); out = lay_at at (write_int x) out })
    (record { answer = refuse capacity_error; out = out })

-- how many integers were unpacked, and whether the last one of the bytes was cut
pub record Unpacked : Type 0 where
  pub count : ℕ
  pub cut : Bool

-- the integers of a stream at the front of an area; one with padding bits refuses all of them
abbrev pub unpack_stream : Stream → List ℤ → Wrote Unpacked ℤ
unpack_stream s out =
    cond (is_padded s)
    (record { answer = err non_zero_int_padding (warnings s); out = out })
    (cond (leb (length (ints s)) (length out))
    (record { answer = ok (record { count = length (ints s); cut = is_cut s }) (warnings s); out = lay (ints s) out })
    (record { answer = err capacity_error (warnings s); out = out }))

-- the packed integers of at most 1,048,576 bytes at the front of an area
unfoldable pub unpack_call : List ℕ → List ℤ → Wrote Unpacked ℤ
unpack_call src out =
    cond (leb (length src) 1048576)
    (unpack_stream (stream src) out)
    (record { answer = refuse input_too_long; out = out })
