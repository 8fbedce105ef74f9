-- The result of each call on deltas, by what was found in the areas. Assumes nothing.
use Prim.Native.Nat.{ℕ, ◌<◌, ◌≤◌}
use mathlib.Core.Path.{◌≡◌, sym, ap, ◌∙◌}
use mathlib.Core.Bool.{true, false}
use mathlib.Core.List.{List, [], ◌∷◌}
use native.Mathlib.Omega.{arith}
use lib.IntN.{ℤ, pos}
use lib.ListN.{length, set}
use borrow.Author.Tests.{le-leb, lt-leb}
use Rattle.std.specs.Prelude.{Result, Some, None}
use Rattle.definitions.specs.Refusals.{capacity_error, known_size_differs, not_in_form}
use Rattle.definitions.specs.Outcome.{return, refuse, Wrote}
use Rattle.definitions.specs.Packed.{pack_ints}
use Rattle.definitions.specs.Stored.{stored}
use Rattle.definitions.specs.Deltas.{updates_ints, delta_ints, delta_in}
use Rattle.definitions.specs.DeltaCalls.{sizes_match, writing, clash_of, clear_call, create_call, create_clash, write_to_ints_call, write_call}
use Rattle.definitions.specs.Tables.{items}
use Rattle.delta_making.specs.Answers.{made_ints, made_clash}
use Rattle.delta_making.specs.declared.MakeError.{MakeError}
use Rattle.delta_form.specs.Held.{HeldDelta, form_of}
use Rattle.delta_form.specs.Forms.{formed, not-held, is_held}
use Rattle.delta_form.specs.declared.checked.DeltaForm.{DeltaForm}

-- ---- the empty delta

pub no_room : (out : List ℤ) → length out < 3 → clear_call out ≡ record { answer = refuse capacity_error; out = out }
unfolding stored delta_ints updates_ints
no_room out l = rw (lt-leb 3 (length out) l)

pub cleared-is : (out : List ℤ) → 3 ≤ length out → clear_call out ≡ record { answer = return 3; out = set (set (set out 0 (pos 0)) 1 (pos 0)) 2 (pos 0) }
unfolding stored delta_ints updates_ints
cleared-is [] l = absurd (omega arith)
cleared-is (x ∷ []) l = absurd (omega arith)
cleared-is (x ∷ y ∷ []) l = absurd (omega arith)
cleared-is (x ∷ y ∷ z ∷ out) l = rw (le-leb 3 (length (x ∷ y ∷ z ∷ out)) l)

-- ---- an area, to be written under known sizes

module _ (a sizes : List ℤ) where
  -- it holds no delta
  module _ (e : None ≡ form_of [] a) where
    refused-47 : writing a sizes ≡ refuse not_in_form
    unfolding writing
    refused-47 = rw (not-held a e)

    pub ints-47 : (out : List ℤ) → write_to_ints_call a sizes out ≡ record { answer = refuse not_in_form; out = out }
    unfolding stored
    ints-47 out = rw refused-47

    pub bytes-47 : (out : List ℕ) → write_call a sizes out ≡ record { answer = refuse not_in_form; out = out }
    unfolding stored
    bytes-47 out = rw refused-47

  -- it holds one of so many deleted keys and updates
  module _ {d : DeltaForm} (e : Some d ≡ form_of [] a) where
    pub holds : HeldDelta [] a d.deleted d.updated
    holds = (formed [] a d.deleted d.updated d.ints e).0

    -- a known size is not that of the update
    module _ (m : false ≡ sizes_match sizes (delta_in [] a).updated) where
      refused-46 : writing a sizes ≡ refuse known_size_differs
      unfolding writing
      refused-46 = rw (is_held a d.deleted d.updated holds, ← m)

      pub ints-46 : (out : List ℤ) → write_to_ints_call a sizes out ≡ record { answer = refuse known_size_differs; out = out }
      unfolding stored
      ints-46 out = rw refused-46

      pub bytes-46 : (out : List ℕ) → write_call a sizes out ≡ record { answer = refuse known_size_differs; out = out }
      unfolding stored
      bytes-46 out = rw refused-46

    -- all known sizes are
    module _ (m : true ≡ sizes_match sizes (delta_in [] a).updated) where
      written_is : writing a sizes ≡ return (delta_ints sizes (delta_in [] a))
      unfolding writing
      written_is = rw (is_held a d.deleted d.updated holds, ← m)

      pub ints-call : (out : List ℤ) → write_to_ints_call a sizes out ≡ stored out (return (delta_ints sizes (delta_in [] a)))
      ints-call out = rw written_is

      pub bytes-call : (out : List ℕ) → write_call a sizes out ≡ stored out (return (pack_ints (delta_ints sizes (delta_in [] a))))
      bytes-call out = rw written_is

-- ---- two tables

-- the key beside an answer
pub with-key : (base target out : List ℤ) (m : Result ℕ MakeError) {left : List ℤ} → create_call base target out ≡ record { answer = made_ints m; out = left }
    → made_clash m ≡ clash_of (made_ints m) (items base) (items target)
    → (create_call base target out ≡ record { answer = made_ints m; out = left }) × (made_clash m ≡ create_clash base target out)
with-key base target out m e c =
    (e, c ∙ sym (ap (λ (w : Wrote ℕ ℤ). clash_of w.answer (items base) (items target)) e))
