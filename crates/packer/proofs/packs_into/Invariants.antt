-- `packer::packs_into` meets its contract. The loop's invariant: the room that is used up, and the ints that are left, make the whole.
-- Assumes nothing.
use Rattle.std.proofs.Common.{◌≡◌, ◌+◌, length, drop}
use Rattle.definitions.specs.Packed.{pack_ints}
use Rattle.packer.proofs.packs_into.Given as goal

abbrev pub invariant-loop-int : goal.invariant-loop-int
invariant-loop-int l = l.room + length (pack_ints (drop l.int-index l.src)) ≡ l.left + length (pack_ints l.src)
