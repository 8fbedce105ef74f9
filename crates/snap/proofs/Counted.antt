-- The results of reading a table with types from ints. Assumes nothing.
use mathlib.Core.Path.{◌≡◌, sym, ap, ◌∙◌}
use mathlib.Core.Bool.{Bool, true, false, cond}
use mathlib.Core.List.{List}
use Prim.Native.Nat.{ℕ, ◌≤◌, ◌<◌}
use native.Mathlib.Nat.{zero-add}
use borrow.Author.Tests.{le-leb, lt-leb}
use Rattle.std.specs.Prelude.{Result}
use lib.IntN.{ℤ}
use lib.ListN.{length}
use Rattle.definitions.specs.Refusals.{scratch_too_short, input_too_long}
use Rattle.definitions.specs.Warnings.{Counts, none, plus}
use Rattle.definitions.specs.Outcome.{refuse, after}
use Rattle.definitions.specs.Stored.{stored}
use Rattle.definitions.specs.TableCalls.{stored_table}
use Rattle.definitions.specs.Types.{typed_read_from_ints_call}
use Rattle.laws.specs.OutcomeLaws.{after_none}
use Rattle.format.specs.Answers.{stored_with}
use Rattle.format.specs.Sources.{excess, uuid_excess, table_counts}
use Rattle.format.specs.declared.Error.{Error}
use Rattle.snap.specs.Answers.{typed_table}

-- the counts of ints left over and of kinds
left_over : (x : Bool) (k : ℕ) → table_counts 0 (cond x 1 0) k ≡ plus (excess x) (uuid_excess k)
left_over true k = rw (zero-add k)
left_over false k = rw (zero-add k)

module _ (src out : List ℤ) (scratch : ℕ) where
  pub ints-too-short : scratch < 16384 → typed_read_from_ints_call src out scratch ≡ record { answer = refuse scratch_too_short; out = out }
  unfolding stored
  ints-too-short h = rw (lt-leb 16384 scratch h)

  module _ (h : 16384 ≤ scratch) where
    pub ints-too-long : 1048576 < length src → typed_read_from_ints_call src out scratch ≡ record { answer = refuse input_too_long; out = out }
    unfolding stored
    ints-too-long k = rw (le-leb 16384 scratch h, lt-leb (length src) 1048576 k)

    pub ints-read : (last : List ℤ) (r : Result ℕ Error) (x : Bool) (k : ℕ) (w : Counts) → length src ≤ 1048576 → w ≡ table_counts 0 (cond x 1 0) k → stored_table out (typed_table src) ≡ record { answer = stored_with r (plus (excess x) (uuid_excess k)); out = last } → typed_read_from_ints_call src out scratch ≡ record { answer = stored_with r w; out = last }
    ints-read last r x k w l q e =
        rw (le-leb 16384 scratch h, le-leb (length src) 1048576 l)
        (ap (stored_table out) (after_none (after none (typed_table src)) ∙ after_none (typed_table src))
        ∙ (e ∙ ap (λ (v : Counts). record { answer = stored_with r v; out = last }) (sym (q ∙ left_over x k))))
