-- What a reader answers, and the reader after reading. Assumes nothing.
use Rattle.std.specs.Prelude.{◌≡◌, List, ℕ, leb, length, drop}
use Rattle.definitions.specs.Outcome.{Outcome}
use Rattle.definitions.specs.Packer.{IntAt}
use Rattle.definitions.specs.Readers.{place_after}
use Rattle.packer.specs.Answers.{int_read}
use Rattle.packer.specs.declared.readers.Unpacker.{Unpacker}
use Rattle.packer.specs.declared.readers.IntUnpacker.{IntUnpacker}
use Rattle.packer.specs.declared.readers.ReaderAnswer.{ReaderAnswer}

-- a reader after reading
abbrev pub moved : Unpacker → Outcome IntAt → Unpacker
moved u o = record { src = u.src; at = place_after (length u.src.now) u.at o }

abbrev pub ints_moved : IntUnpacker → Outcome IntAt → IntUnpacker
ints_moved r o = record { src = r.src; at = place_after (length r.src.now) r.at o }

-- the answer of a reader of some entries for what it read at a place
pub record Answered {A : Type 0} (o : Outcome IntAt) (entries : List A) (at : ℕ) (r : ReaderAnswer) : Type 0 where
  pub read_is : o ≡ int_read r.read
  pub at-is : r.at ≡ place_after (length entries) at o
  pub left_is : r.left ≡ length (drop r.at entries)
  pub empty-is : r.empty ≡ leb (length entries) r.at
