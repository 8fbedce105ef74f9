-- The result of making a delta, case by case. Assumes nothing.
use Prim.Native.Nat.{ℕ, ◌+◌, ◌-◌, ◌/◌, ◌<◌, ◌≤◌}
use mathlib.Core.Path.{◌≡◌, sym, ap, ◌∙◌}
use mathlib.Core.Bool.{true, false}
use mathlib.Core.List.{List}
use mathlib.Core.Option.{some}
use native.Mathlib.Omega.{arith}
use lib.IntN.{ℤ}
use lib.ListN.{length}
use borrow.Author.Tests.{le-leb, lt-leb}
use mir.Syntax.{w32}
use mir.Val.{SFits}
use Rattle.definitions.specs.Ints.{bits, from_bits}
use Rattle.definitions.specs.Areas.{lay_at}
use Rattle.definitions.specs.Refusals.{delta_differing_sizes, capacity_error}
use Rattle.definitions.specs.Outcome.{Outcome, return, refuse}
use Rattle.definitions.specs.Stored.{stored}
use Rattle.definitions.specs.Tables.{Table, items, key_at, size, start}
use Rattle.definitions.specs.Deltas.{written_delta}
use Rattle.definitions.specs.DeltaMaking.{alike, first_clash, lacking, delta_from, create_delta}
use Rattle.definitions.specs.DeltaCalls.{clash_of}
use Rattle.laws.specs.IntLaws.{from_bits-bits}
use Rattle.laws.specs.TableShape.{start-end}
use Rattle.laws.specs.TableForm.{length-items, length-items-body}
use Rattle.laws.specs.DeltaSize.{length-delta_from}
use Rattle.table.specs.Held.{Held}
use Rattle.laws.specs.ClashLaws.{clash-alike, clash-unlike}
use Rattle.laws.specs.CreateLaws.{created_ints}
use Rattle.delta_making.specs.Answers.{made_ints, made_clash}
use Rattle.delta_making.specs.Parts.{key_below}
use Rattle.delta_making.specs.declared.MakeError.TheVariants.{DifferingSizes}
use Rattle.std.proofs.Common.{Err}
use Rattle.delta_making.proofs.Parts.{below-is, below_none}

-- ---- the answers

module _ (b t : Table) (out : List ℤ) where
  -- the result of storing the delta: the answer, and the area afterwards
  abbrev Comes : Outcome ℕ → List ℤ → Type 0
  Comes o l = stored out (created_ints b t) ≡ record { answer = o; out = l }

  pub refused-10 : alike b t ≡ false → Comes (refuse delta_differing_sizes) out
  unfolding stored create_delta
  refused-10 e = rw e

  module _ (e : alike b t ≡ true) where
    pub refused-40 : length out < length (written_delta (delta_from b t)) → Comes (refuse capacity_error) out
    unfolding stored create_delta
    refused-40 h = rw (e, lt-leb (length (written_delta (delta_from b t))) (length out) h)

    pub done : (n : ℕ) (l : List ℤ) → n ≡ length (written_delta (delta_from b t)) → n ≤ length out → l ≡ lay_at 0 (written_delta (delta_from b t)) out → Comes (return n) l
    unfolding stored create_delta
    done n l k h q = rw (e, le-leb (length (written_delta (delta_from b t))) (length out) (omega arith), k, q)

-- ---- the key beside them

module _ (b : Table) (t : List ℤ) (n r : ℕ) (e : first_clash b (items t) ≡ key_below t n r) where
  -- items with the same key have the same length
  pub likes : n ≤ r → alike b (items t) ≡ true
  likes l = clash-alike b (items t) (e ∙ below_none t n r l)

  module _ (l : r < n) where
    clash-is : first_clash b (items t) ≡ some (key_at t r)
    clash-is = e ∙ below-is t n r l

    pub unlike : alike b (items t) ≡ false
    unlike = clash-unlike b (items t) (key_at t r) clash-is

    -- the key that is told with 10
    pub told : (k j : ℤ) → SFits w32 k → bits k ≡ key_at t r → j ≡ k → made_clash (Err (DifferingSizes j)) ≡ clash_of (made_ints (Err (DifferingSizes j))) b (items t)
    told k j f q p = rw clash-is (ap some (p ∙ (sym (from_bits-bits f) ∙ ap from_bits q)))

-- ---- how many ints the delta has

module _ (b : Table) (t : List ℤ) (n : ℕ) (h : Held t n) where
  pub end_is : start t n ≡ 2 + n + size t / 4
  end_is = ap (start t) h.count-is ∙ (start-end t h.shape ∙ omega (arith, h.count-is))

  pub length-is : (k e : ℕ) → alike b (items t) ≡ true → k ≡ length (lacking (items t) b) → e ≡ start t n → 3 + k + (n + (e - 2)) ≡ length (written_delta (delta_from b (items t)))
  length-is k e a p q =
      omega (arith, end_is, h.count-is, length-delta_from b (items t) a, length-items t h.shape, length-items-body t h.shape)
