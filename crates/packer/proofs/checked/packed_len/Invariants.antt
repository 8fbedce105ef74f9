-- `checked::packed_len` meets its contract. The loop's invariant: the bytes counted, and those of the ints left, make the whole.
-- Assumes nothing.
use Rattle.std.proofs.Common.{◌≡◌, ◌+◌, length, drop}
use Rattle.definitions.specs.Packed.{pack_ints}
use Rattle.packer.proofs.checked.packed_len.Given as goal

abbrev pub invariant-loop-x : goal.invariant-loop-x
invariant-loop-x l = l.n + length (pack_ints (drop l.x-index l.xs)) ≡ length (pack_ints l.xs)
