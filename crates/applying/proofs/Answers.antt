-- The meaning of each answer of applying a delta. Assumes nothing.
use Prim.Native.Nat.{ℕ, ◌<◌, ◌≤◌}
use mathlib.Core.Path.{◌≡◌, refl, sym, ap, ap₂, ◌∙◌, subst}
use mathlib.Core.Bool.{Bool, true, false}
use mathlib.Core.List.{List, []}
use native.Mathlib.Omega.{arith}
use lib.IntN.{ℤ}
use lib.ListN.{length}
use borrow.Author.Tests.{le-leb, lt-leb}
use Rattle.definitions.specs.Refusals.{capacity_error}
use Rattle.definitions.specs.Warnings.{Counts}
use Rattle.definitions.specs.Outcome.{ok, err, return, refuse, after}
use Rattle.definitions.specs.Stored.{stored}
use Rattle.definitions.specs.Areas.{lay}
use Rattle.definitions.specs.Tables.{Table, written, items}
use Rattle.definitions.specs.TableCalls.{stored_table}
use Rattle.definitions.specs.Deltas.{signed_rising, is_in_order, delta_in}
use Rattle.definitions.specs.Applying.{apply_delta}
use Rattle.laws.specs.WarningLaws.{plus_none}
use Rattle.laws.specs.TableShape.{both}
use Rattle.laws.specs.DeltaRestores.{delta-in-order}
use Rattle.laws.specs.ApplyJudging.{Judged, good, judged_as, SizesOf, judge_delta, applied_table, has_unknown, delta-judged}
use Rattle.laws.specs.ApplyJudging as laws
use Rattle.laws.specs.ApplyHalves.{items-rise}
use Rattle.format.specs.Numbers.{number}
use Rattle.format.specs.declared.Error.{Error}
use Rattle.format.specs.Sources.{unknown_counts}
use Rattle.table.specs.Held.{Held}
use Rattle.delta_form.specs.Held.{HeldDelta}
use Rattle.apply_judging.specs.Judging.{judged_of}
use Rattle.apply_judging.specs.declared.checked.Fine.{Fine}
use Rattle.std.proofs.Common.{Result, Ok, Err}

counts_same : (b : Bool) → laws.unknown_counts b ≡ unknown_counts b
counts_same true = refl
counts_same false = refl

-- the result of a table, with warnings, into an area
stored_refused : (out : List ℤ) (w : Counts) (r : ℕ) → stored_table out (after w (refuse r)) ≡ record { answer = err r w; out = out }
unfolding stored
stored_refused out w r = rw (plus_none w)

stored-table : (out : List ℤ) (w : Counts) (t : Table) → stored_table out (after w (return t)) ≡ stored out (ok (written t) w)
stored-table out w t =
    ap (λ (v : Counts). stored_table out (ok t v)) (plus_none w) ∙ ap (λ (v : Counts). stored out (ok (written t) v)) (plus_none w)

stored_short : (out : List ℤ) (w : Counts) (t : Table) → length out < length (written t) → stored_table out (after w (return t)) ≡ record { answer = err capacity_error w; out = out }
stored_short out w t l =
    stored-table out w t ∙ short
  where
    short : stored out (ok (written t) w) ≡ record { answer = err capacity_error w; out = out }
    short = unfold stored in rw (lt-leb (length (written t)) (length out) l)

stored-done : (out : List ℤ) (w : Counts) (t : Table) → length (written t) ≤ length out → stored_table out (after w (return t)) ≡ record { answer = ok (length (written t)) w; out = lay (written t) out }
stored-done out w t l =
    stored-table out w t ∙ done
  where
    done : stored out (ok (written t) w) ≡ record { answer = ok (length (written t)) w; out = lay (written t) out }
    done = unfold stored in rw (le-leb (length (written t)) (length out) l)

module _ (base : List ℤ) (nb : ℕ) (hb : Held base nb) (delta : List ℤ) (k u : ℕ) (hd : HeldDelta [] delta k u) (out : List ℤ)
    (j : Result Fine Error) (ej : judged_of j ≡ judge_delta (items base) (delta_in [] delta)) (unknown : Bool) (eu : unknown ≡ has_unknown (items base) (delta_in [] delta)) where
  abbrev table : Table
  table = applied_table (items base) (delta_in [] delta)

  -- applying gives the judgement
  comes : (apply_delta (items base) (delta_in [] delta) ≡ after (unknown_counts unknown) (judged_as (judged_of j) table)) × SizesOf (judged_of j) table
  unfolding is_in_order
  comes =
      let e = delta-judged (items base) (delta_in [] delta) (items-rise base hb.shape) (both (signed_rising 0 (delta_in [] delta).deleted) _ (delta-in-order [] delta hd.shape)).1 in
      (e.0 ∙ ap₂ (λ (w : Counts) (x : Judged). after w (judged_as x table)) (ap laws.unknown_counts (sym eu) ∙ counts_same unknown) (sym ej), subst (λ (x : Judged). SizesOf x table) (sym ej) e.1)

  -- it is refused
  pub is-refused : (e : Error) → j ≡ Err e → stored_table out (apply_delta (items base) (delta_in [] delta)) ≡ record { answer = err (number e) (unknown_counts unknown); out = out }
  is-refused e q =
      ap (stored_table out) (comes.0 ∙ ap (λ (x : Result Fine Error). after (unknown_counts unknown) (judged_as (judged_of x) table)) q)
      ∙ stored_refused out (unknown_counts unknown) (number e)

  module _ (f : Fine) (q : j ≡ Ok f) where
    fine : (apply_delta (items base) (delta_in [] delta) ≡ after (unknown_counts unknown) (return table)) × (f.ints ≡ length (written table))
    fine =
        let s : (f.items ≡ length table) × (f.ints ≡ length (written table)) = subst (λ (x : Result Fine Error). SizesOf (judged_of x) table) q comes.1 in
        (comes.0 ∙ ap (λ (x : Result Fine Error). after (unknown_counts unknown) (judged_as (judged_of x) table)) q, s.1)

    -- out is too short
    pub is-short : length out < f.ints → stored_table out (apply_delta (items base) (delta_in [] delta)) ≡ record { answer = err capacity_error (unknown_counts unknown); out = out }
    is-short l = ap (stored_table out) fine.0 ∙ stored_short out (unknown_counts unknown) table (omega (arith, fine.1))

    -- the table is written
    pub is-done : (out' : List ℤ) → f.ints ≤ length out → out' ≡ lay (written table) out → stored_table out (apply_delta (items base) (delta_in [] delta)) ≡ record { answer = ok f.ints (unknown_counts unknown); out = out' }
    is-done out' l e =
        ap (stored_table out) fine.0
        ∙ (stored-done out (unknown_counts unknown) table (omega (arith, fine.1))
        ∙ ap₂ (λ (m : ℕ) (o : List ℤ). record { answer = ok m (unknown_counts unknown); out = o }) (sym fine.1) (sym e))
