-- The result of applying a delta, refused or not, and what its types add. Assumes nothing.
use mathlib.Core.Path.{◌≡◌, refl, sym, ap, ap₂, ◌∙◌}
use mathlib.Core.Bool.{Bool, true, false}
use mathlib.Core.List.{List, [], ◌++◌}
use mathlib.Core.Option.{some}
use Prim.Native.Nat.{ℕ, ◌≤◌}
use native.Mathlib.Nat.{zero-add}
use native.Mathlib.Omega.{arith}
use borrow.Author.Tests.{le-leb}
use Rattle.std.specs.Prelude.{Result, Ok, Err, Some}
use lib.IntN.{ℤ}
use lib.ListN.{length, drop}
use Rattle.definitions.specs.Areas.{lay}
use Rattle.definitions.specs.Warnings.{Counts, none, plus}
use Rattle.definitions.specs.Outcome.{Outcome, ok, err, after, ◌>>=◌, Wrote}
use Rattle.definitions.specs.Stored.{stored}
use Rattle.definitions.specs.Tables.{Table, written, sound, items, count, table_of}
use Rattle.definitions.specs.TableCalls.{stored_table}
use Rattle.definitions.specs.Deltas.{delta_in, signed_rising, is_in_order}
use Rattle.definitions.specs.Applying.{apply_delta}
use Rattle.definitions.specs.Types.{typed}
use Rattle.laws.specs.AreaLaws.{lay-append}
use Rattle.laws.specs.WarningLaws.{plus_none}
use Rattle.laws.specs.TableShape.{both, some_is}
use Rattle.laws.specs.TableRoundTrip.{back, items-sound}
use Rattle.laws.specs.AppliedSound.{applied-sound}
use Rattle.laws.specs.DeltaMade.{facts}
use Rattle.laws.specs.DeltaRestores.{delta-in-order}
use Rattle.format.specs.Numbers.{number}
use Rattle.format.specs.declared.Error.{Error}
use Rattle.format.specs.Sources.{unknown_counts, uuid_excess, typed_counts}
use Rattle.table.specs.Held.{Held, form_of}
use Rattle.table.specs.Forms.{formed}
use Rattle.delta_form.specs.Held.{HeldDelta}
use Rattle.types.specs.Answers.{types_with}

-- ---- the types

-- the counts of both steps
counts-are : (u : Bool) (n : ℕ) → plus (unknown_counts u) (uuid_excess n) ≡ typed_counts u n
counts-are true n = rw (zero-add n)
counts-are false n = rw (zero-add n)

pub types-added : (u : Bool) (t : Table) (x : Result (Unit {0}) Error) (n : ℕ) → typed t ≡ types_with t x (uuid_excess n) → after (unknown_counts u) (typed t) ≡ types_with t x (typed_counts u n)
types-added u t (Ok v) n e = rw e (ap (ok t) (counts-are u n))
types-added u t (Err x) n e = rw e (ap (err (number x)) (counts-are u n))

-- ---- the table

-- what a table that was made is
pub record Made (o : Outcome Table) (u : Bool) (k : ℕ) (out : List ℤ) : Type 0 where
  pub is : o ≡ ok (items out) (unknown_counts u)
  pub form : Some (record { items = count out; ints = k }) ≡ form_of (table_of out)

module _ (out out' : List ℤ) (room : 16384 ≤ length out) (u : Bool) where
  -- a table that is stored is at most 16,384 ints long, and has room
  stores : (t : Table) (v : Counts) → sound t ≡ true → stored_table out (ok t v) ≡ record { answer = ok (length (written t)) (plus v none); out = lay (written t) out }
  unfolding stored
  stores t v s = rw (le-leb (length (written t)) (length out) (omega (arith, (facts t s).short)))

  -- the refusal is not for lack of room
  refused-is : (o : Outcome Table) (k : ℕ) → ((t : Table) (v : Counts) → o ≡ ok t v → sound t ≡ true) → stored_table out o ≡ record { answer = err k (unknown_counts u); out = out' } → o ≡ err k (unknown_counts u)
  unfolding stored
  refused-is (ok t v) k s e =
      let f : ok (length (written t)) (plus v none) ≡ err k (unknown_counts u) = ap (λ (w : Wrote ℕ ℤ). w.answer) (sym (stores t v (s t v refl)) ∙ e) in
      let z : ◌≡◌ {A = ℕ} 0 1 = cc in absurd (omega arith)
  refused-is (err n v) k s e =
      let f : ◌≡◌ {A = Outcome ℕ} (err n v) (err k (unknown_counts u)) = ap (λ (w : Wrote ℕ ℤ). w.answer) e in
      let d : n ≡ k = cc in
      let g : v ≡ unknown_counts u = cc in
      ap₂ (λ (i : ℕ) (w : Counts). err i w) d g

  -- a table that was stored is found
  stands : (t : Table) → sound t ≡ true → out' ≡ lay (written t) out → (items out' ≡ t) × (Some (record { items = count out'; ints = length (written t) }) ≡ form_of (table_of out'))
  stands t s e =
      let w = written t in
      let f : out' ≡ w ++ drop (length w) out = e ∙ lay-append w out (omega (arith, (facts t s).short)) in
      let g : table_of out' ≡ some t = ap table_of f ∙ back t (drop (length w) out) s in
      let h = (formed out' (length t) (length w) (sym (ap form_of g))).0 in
      let i : items out' ≡ t = let q : some (items out') ≡ some t = sym (some_is out' h.shape) ∙ g in cc in
      (i, rw (g, ← h.count-is))

  -- what is stored was made
  made-is : (o : Outcome Table) (k : ℕ) → ((t : Table) (v : Counts) → o ≡ ok t v → sound t ≡ true) → stored_table out o ≡ record { answer = ok k (unknown_counts u); out = out' } → Made o u k out'
  unfolding stored
  made-is (err n v) k s e =
      let f : ◌≡◌ {A = Outcome ℕ} (err n v) (ok k (unknown_counts u)) = ap (λ (w : Wrote ℕ ℤ). w.answer) e in
      let z : ◌≡◌ {A = ℕ} 0 1 = cc in absurd (omega arith)
  made-is (ok t v) k s e =
      let b = s t v refl in
      let f : ◌≡◌ {A = Wrote ℕ ℤ} (record { answer = ok (length (written t)) (plus v none); out = lay (written t) out }) (record { answer = ok k (unknown_counts u); out = out' }) = sym (stores t v b) ∙ e in
      let g : ok (length (written t)) (plus v none) ≡ ok k (unknown_counts u) = ap (λ (w : Wrote ℕ ℤ). w.answer) f in
      let n : length (written t) ≡ k = cc in
      let c : plus v none ≡ unknown_counts u = cc in
      let h = stands t b (sym (ap (λ (w : Wrote ℕ ℤ). w.out) f)) in
      record { is = ap₂ (λ (x : Table) (w : Counts). ok x w) (sym h.0) (sym (plus_none v) ∙ c); form = rw (← n) h.1 }

-- ---- a base and a delta in form

module _ (base : List ℤ) (nb : ℕ) (hb : Held base nb) (delta : List ℤ) (k n : ℕ) (hd : HeldDelta [] delta k n) (out out' : List ℤ) (room : 16384 ≤ length out) (u : Bool) where
  -- the result of applying
  abbrev O : Outcome Table
  O = apply_delta (items base) (delta_in [] delta)

  -- a table that it makes is sound
  is-sound : (t : Table) (v : Counts) → O ≡ ok t v → sound t ≡ true
  unfolding is_in_order
  is-sound = applied-sound (items base) (delta_in [] delta) (items-sound base hb.shape) (both (signed_rising 0 (delta_in [] delta).deleted) _ (delta-in-order [] delta hd.shape)).1

  -- the delta is refused
  pub apply-refused : (x : Error) → stored_table out O ≡ record { answer = err (number x) (unknown_counts u); out = out' } → (O >>= typed) ≡ err (number x) (typed_counts u 0)
  apply-refused x f =
      let g : O ≡ err (number x) (unknown_counts u) = refused-is out out' room u O (number x) is-sound f in
      rw g

  -- it made a table
  pub apply-made : (i : ℕ) → stored_table out O ≡ record { answer = ok i (unknown_counts u); out = out' } → Made O u i out'
  apply-made i f = made-is out out' room u O i is-sound f

-- the types of the table that was made
pub then_typed : (o : Outcome Table) (u : Bool) (k : ℕ) (out : List ℤ) (r : Outcome Table) → Made o u k out → after (unknown_counts u) (typed (items out)) ≡ r → (o >>= typed) ≡ r
then_typed o u k out r m e = rw m.is e
