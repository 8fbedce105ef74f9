-- What the answers of `packer` mean: the refusal's number and the values of each case. Assumes nothing.
use Rattle.std.specs.Prelude.{cond, ℕ, eqb, Result, Ok, Err}
use Rattle.definitions.specs.Refusals.{non_zero_int_padding}
use Rattle.definitions.specs.Warnings.{Counts}
use Rattle.definitions.specs.Outcome.{Outcome, ok, err, refuse}
use Rattle.definitions.specs.Packed.{warned}
use Rattle.definitions.specs.Packer.{IntAt, Unpacked}
use Rattle.format.specs.Numbers.{number}
use Rattle.format.specs.declared.Error.{Error}
use Rattle.packer.specs.declared.IntRead.{IntRead}
use Rattle.packer.specs.declared.IntsRead.{IntsRead}

abbrev pub int_read : Result IntRead Error → Outcome IntAt
int_read (Ok r) = ok (record { value = r.value; next = r.next }) (warned r.overlong)
int_read (Err e) = refuse (number e)

-- the number of a refusal, 0 of an integer
abbrev pub refusal : Result IntRead Error → ℕ
refusal (Ok r) = 0
refusal (Err e) = number e

-- the refusal of an integer that must be present: padding bits as such, anything else by the number given
abbrev pub missing_as : ℕ → ℕ → ℕ
missing_as n number = cond (eqb n non_zero_int_padding) non_zero_int_padding number

-- an answer together with its warning counts
abbrev pub unpacked : Result IntsRead Error → Counts → Outcome Unpacked
unpacked (Ok r) w = ok (record { count = r.count; cut = r.cut }) w
unpacked (Err e) w = err (number e) w
