-- What the area of a delta holds after one was read into it. Assumes nothing.
use mathlib.Core.Path.{◌≡◌, refl, sym, ap, ◌∙◌, subst}
use mathlib.Core.Bool.{Bool, true, false, cond}
use mathlib.Core.List.{List, []}
use mathlib.Core.Option.{some, none}
use Prim.Native.Nat.{ℕ, ◌*◌, ◌≤◌, ◌<◌, ◌^◌}
use native.Mathlib.Omega.{arith}
use borrow.Author.Tests.{le-leb, leb-true}
use lib.Dec.{leb}
use lib.IntN.{ℤ}
use lib.ListN.{length, drop}
use Rattle.definitions.specs.Areas.{lay}
use Rattle.definitions.specs.Refusals.{capacity_error}
use Rattle.definitions.specs.Warnings.{Counts}
use Rattle.definitions.specs.Warnings as Warnings
use Rattle.definitions.specs.Outcome.{Outcome, ok, err, return, require, ◌>>◌, Wrote}
use Rattle.definitions.specs.Stored.{stored}
use Rattle.definitions.specs.Deltas.{Delta, signed_rising, is_in_order, updates_ints, delta_ints, written_delta, delta_in, delta_form, delta_of}
use Rattle.definitions.specs.DeltaReading.{DeltaRead}
use Rattle.definitions.specs.DeltaCalls.{stored_delta, clear_call}
use Rattle.definitions.specs.Manager.{empty_delta, empty_read}
use Rattle.laws.specs.AreaLaws.{lay-append}
use Rattle.laws.specs.OutcomeLaws.{after_none}
use Rattle.laws.specs.WarningKinds.{of_reading, Told, value, refusal, Any, reading, returns, given, then}
use Rattle.laws.specs.StoredLaws.{room-tested}
use Rattle.laws.specs.DeltaForm.{delta-back}
use Rattle.format.specs.Totals.{counts}
use Rattle.format.specs.Answers.{stored_ints, stored_with}
use Rattle.format.specs.declared.Error.{Error}
use Rattle.format.specs.declared.Warnings.{Warnings}
use Rattle.manager.specs.Steps.{read_into, fitting, delta_left}
use Rattle.std.specs.Prelude.{Err, Ok, Result}
use Rattle.manager.proofs.ReadSound.{Sound}

-- ---- the empty delta

-- it is read as it is written by `clear`
pub empty-read : (delta out : List ℤ) (a : Result ℕ Error) (w : Warnings) → clear_call delta ≡ record { answer = stored_ints a; out = out } → counts w ≡ Warnings.none → stored_delta delta (return empty_read) ≡ record { answer = stored_with a (counts w); out = out }
unfolding stored_delta delta_ints updates_ints
empty-read delta out a w e f =
    ap (stored delta) (after_none (require (leb 3 (length delta)) capacity_error >> return (written_delta empty_delta)))
    ∙ (room-tested delta (written_delta empty_delta)
    ∙ (e ∙ ap (λ (o : Outcome ℕ). record { answer = o; out = out }) (with_none a ∙ ap (stored_with a) (sym f))))
  where
    with_none : (b : Result ℕ Error) → stored_ints b ≡ stored_with b Warnings.none
    with_none (Ok n) = refl
    with_none (Err n) = refl

-- it was read from nothing
pub empty-sound : Told of_reading (Sound 2) (return empty_read)
empty-sound = returns reading empty_read (record { in_order = in_order; room = room; few = few })
  where
    in_order : is_in_order empty_delta ≡ true
    in_order = unfold is_in_order signed_rising in refl

    room : length (written_delta empty_delta) ≤ 3
    room = unfold delta_ints updates_ints in omega arith

    few : 2 * 3 ≤ 3 * 2
    few = omega arith

-- ---- how reading ends

-- a delta written over the front of an area, or the area unchanged
data Ends (delta : List ℤ) : Outcome Delta → Outcome ℕ → List ℤ → Type 0 where
  laid : {d : Delta} {w : Counts} {n : ℕ} {out : List ℤ} → out ≡ lay (written_delta d) delta → is_in_order d ≡ true → length (written_delta d) ≤ length delta → length (written_delta d) < 2 ^ 32 → Ends delta (ok d w) (ok n w) out
  left : {n : ℕ} {w : Counts} {out : List ℤ} → out ≡ delta → Ends delta (err n w) (err n w) out

module _ (delta : List ℤ) (n : ℕ) (short : n ≤ 28800) where
  -- whether there is room or not
  ends : {o : Outcome DeltaRead} → Told of_reading (Sound n) o → Ends delta (fitting (length delta) o) (stored_delta delta o).answer (stored_delta delta o).out
  unfolding fitting stored_delta stored
  ends (refusal e) = left refl
  ends (value {a = r} {w = w} s e) = go (leb r.room (length delta)) refl
    where
      go : (b : Bool) → leb r.room (length delta) ≡ b → Ends delta (fitting (length delta) (ok r w)) (stored_delta delta (ok r w)).answer (stored_delta delta (ok r w)).out
      go true q =
          let l : length (written_delta r.delta) ≤ length delta = omega (arith, leb-true r.room (length delta) q, s.room) in
          rw (q, le-leb (length (written_delta r.delta)) (length delta) l) (laid refl s.in_order l (omega (arith, s.room, s.few)))
      go false q = rw q (left refl)

-- what an area that holds a delta is known to be
there : (a : List ℤ) (d : Delta) → delta_of a ≡ some d → (delta_form [] a ≡ true) × (delta_in [] a ≡ d)
unfolding delta_of
there a d e = go (delta_form [] a) refl e
  where
    go : (b : Bool) → delta_form [] a ≡ b → cond b (some (delta_in [] a)) none ≡ some d → (delta_form [] a ≡ true) × (delta_in [] a ≡ d)
    go true q f = let g : delta_in [] a ≡ d = cc in (q, g)
    go false q f = let z : ◌≡◌ {A = ℕ} 0 1 = cc in absurd (omega arith)

laid-there : (delta out : List ℤ) (d : Delta) → out ≡ lay (written_delta d) delta → is_in_order d ≡ true → length (written_delta d) ≤ length delta → length (written_delta d) < 2 ^ 32 → (delta_form [] out ≡ true) × (delta_in [] out ≡ d)
laid-there delta out d e o l s =
    there out d
    (ap delta_of (e ∙ lay-append (written_delta d) delta l) ∙ delta-back d (drop (length (written_delta d)) delta) o s)

-- what is known of a delta's area after reading: it holds what was read
pub record Holding (delta : List ℤ) (a : Result ℕ Error) (w : Counts) (out : List ℤ) (o : Outcome Delta) : Type 0 where
  pub form : (n : ℕ) → a ≡ Ok n → delta_form [] out ≡ true
  pub read_is : read_into a w out ≡ o
  pub delta-is : out ≡ delta_left delta o

holds : {delta out : List ℤ} {o : Outcome Delta} (a : Result ℕ Error) (w : Counts) → Ends delta o (stored_with a w) out → Holding delta a w out o
holds {delta} {out} (Ok n) w (laid {d = d} e o l s) =
    let t = laid-there delta out d e o l s in
    record { form = λ m q. t.0; read_is = ap (λ (x : Delta). ok x w) t.1; delta-is = e }
holds (Err n) w (left e) =
    record { form = λ m q. let z : ◌≡◌ {A = ℕ} 0 1 = cc in absurd (omega arith); read_is = refl; delta-is = e }

pub read-holds : (delta out : List ℤ) (o : Outcome DeltaRead) (a : Result ℕ Error) (w : Counts) (n : ℕ) → n ≤ 28800 → Told of_reading (Sound n) o → stored_delta delta o ≡ record { answer = stored_with a w; out = out } → Holding delta a w out (fitting (length delta) o)
read-holds delta out o a w n l t e =
    holds a w (subst (λ (x : Wrote ℕ ℤ). Ends delta (fitting (length delta) o) x.answer x.out) e (ends delta n l t))

-- what is read and fits has the same warnings
pub fitting-told : (m n : ℕ) {o : Outcome DeltaRead} → Told of_reading (Sound n) o → Told of_reading (Any {A = Delta}) (fitting m o)
unfolding fitting
fitting-told m n t =
    then reading _ t (λ r s. given reading (leb r.room m) capacity_error (λ _. returns reading _ tt))
