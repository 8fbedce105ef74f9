-- One pass over the packed integers of some bytes. Assumes nothing.
use Rattle.std.specs.Prelude.{◌≡◌, not, List, ℕ, ◌≤◌, eqb, ℤ, length}
use Rattle.definitions.specs.Areas.{lay}
use Rattle.definitions.specs.Refusals.{non_zero_int_padding}
use Rattle.definitions.specs.Stream.{Stream, ints, warnings, is_cut, is_padded}
use Rattle.laws.specs.WarningLaws.{packed}
use Rattle.packer.specs.declared.checked.Totals.{Totals}

-- what a pass over a stream returns, and the area with the stream's ints written over its front, as far as it reaches
pub record Scanned (s : Stream) (before : List ℤ) (r : Totals) (out : List ℤ) : Type 0 where
  pub count-is : r.count ≡ length (ints s)
  pub few : r.overlong ≤ r.count
  pub cut-is : r.cut ≡ is_cut s
  pub padded-is : r.padded ≡ is_padded s
  pub warnings-are : packed r.overlong ≡ warnings s
  pub out-is : out ≡ lay (ints s) before

-- the totals at an integer with this refusal
abbrev pub stopped_at : Totals → ℕ → Totals
stopped_at t n =
    record {
      count = t.count;
      cut = not (eqb n non_zero_int_padding);
      padded = eqb n non_zero_int_padding;
      overlong = t.overlong;
    }
