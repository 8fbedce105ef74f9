-- The results of reading a table from ints. Assumes nothing.
use mathlib.Core.Path.{◌≡◌, refl, sym, ap, ◌∙◌}
use mathlib.Core.Bool.{Bool, true, false, cond}
use mathlib.Core.List.{List}
use Prim.Native.Nat.{ℕ, ◌≤◌, ◌<◌}
use Rattle.std.specs.Prelude.{Result}
use borrow.Author.Tests.{le-leb, lt-leb}
use lib.IntN.{ℤ}
use lib.ListN.{length}
use Rattle.definitions.specs.Refusals.{input_too_long}
use Rattle.definitions.specs.Warnings.{Counts}
use Rattle.definitions.specs.Outcome.{refuse}
use Rattle.definitions.specs.Stored.{stored}
use Rattle.definitions.specs.TableReading.{read_table}
use Rattle.definitions.specs.TableCalls.{stored_table, read_from_ints_call}
use Rattle.laws.specs.OutcomeLaws.{after_none}
use Rattle.format.specs.Answers.{stored_with}
use Rattle.format.specs.Sources.{excess, table_counts}
use Rattle.format.specs.declared.Error.{Error}

-- the counts of ints left over
left_over : (x : Bool) → table_counts 0 (cond x 1 0) 0 ≡ excess x
left_over true = refl
left_over false = refl

module _ (src out : List ℤ) where
  pub ints-too-long : 1048576 < length src → read_from_ints_call src out ≡ record { answer = refuse input_too_long; out = out }
  unfolding stored
  ints-too-long h = rw (lt-leb (length src) 1048576 h)

  pub ints-read : (last : List ℤ) (r : Result ℕ Error) (x : Bool) (w : Counts) → length src ≤ 1048576 → w ≡ table_counts 0 (cond x 1 0) 0 → stored_table out (read_table src) ≡ record { answer = stored_with r (excess x); out = last } → read_from_ints_call src out ≡ record { answer = stored_with r w; out = last }
  ints-read last r x w h q e =
      rw (le-leb (length src) 1048576 h)
      (ap (stored_table out) (after_none (read_table src))
      ∙ (e ∙ ap (λ (v : Counts). record { answer = stored_with r v; out = last }) (sym (q ∙ left_over x))))
