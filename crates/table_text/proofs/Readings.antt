-- What reading a packed table of limited length leaves in an area. Assumes nothing.
use mathlib.Core.Path.{◌≡◌, refl, sym, ap, ◌∙◌}
use mathlib.Core.Bool.{true}
use mathlib.Core.List.{List}
use Prim.Native.Nat.{ℕ, ◌<◌, ◌≤◌}
use native.Mathlib.Omega.{arith}
use borrow.Author.Tests.{le-leb, lt-leb}
use lib.IntN.{ℤ}
use lib.ListN.{length}
use Rattle.definitions.specs.Areas.{lay}
use Rattle.definitions.specs.Refusals.{input_too_long}
use Rattle.definitions.specs.Warnings.{Counts, none, plus}
use Rattle.definitions.specs.Outcome.{Outcome, ok, err, return, refuse, Wrote}
use Rattle.definitions.specs.Stored.{stored}
use Rattle.definitions.specs.Tables.{Table, written, sound}
use Rattle.definitions.specs.TableReading.{read_packed}
use Rattle.definitions.specs.TableCalls.{held, stored_table, read_call}
use Rattle.format.specs.Numbers.{number}
use Rattle.format.specs.Answers.{stored_with}
use Rattle.format.specs.declared.Error.{Error}
use Rattle.std.specs.Prelude.{Result, Ok, Err}
use Rattle.laws.specs.OutcomeLaws.{after_none, ok-not-err}
use Rattle.laws.specs.BuilderCalls.{laid-held as laid}
use Rattle.laws.specs.StoreForm.{sound-short}
use Rattle.laws.specs.TableReadSound.{read-sound}
use Rattle.table_text.specs.Reading.{tabled, unwarned, read_into}

-- a sound table that is stored in an area is what the area holds
laid-held : (t : Table) (out : List ℤ) → sound t ≡ true → length (written t) ≤ length out → held (lay (written t) out) ≡ return t
unfolding held
laid-held t out s l = rw (laid t out s l)

-- a table that fits is stored
stored_is : (t : Table) (v : Counts) (out : List ℤ) → length (written t) ≤ length out → stored_table out (ok t v) ≡ record { answer = ok (length (written t)) (plus v none); out = lay (written t) out }
unfolding stored
stored_is t v out l = rw (le-leb (length (written t)) (length out) l)

-- a refusal stores nothing
not-stored : (m : ℕ) (v : Counts) (out : List ℤ) → stored_table out (err m v) ≡ record { answer = err m v; out = out }
unfolding stored
not-stored m v out = refl

-- equal refusals have equal numbers
err-number : {m n : ℕ} {v w : Counts} → ◌≡◌ {A = Outcome ℕ} (err m v) (err n w) → m ≡ n
err-number e = cc

module _ (src : List ℕ) where
  -- too many bytes
  pub long-read : 8192 < length src → unwarned (tabled src) ≡ refuse input_too_long
  unfolding tabled
  long-read h = rw (lt-leb (length src) 8192 h)

  module _ (few : length src ≤ 8192) where
    -- no more bytes than allowed
    short-read : tabled src ≡ read_packed src
    unfolding tabled
    short-read = rw (le-leb (length src) 8192 few) (after_none (read_packed src))

    module _ (out a : List ℤ) (n : ℕ) (w : Counts) (room : 16384 ≤ length out) (more : n ≡ 16384) where
      -- neither scratch nor the input is judged
      call-is : read_call src out n ≡ stored_table out (read_packed src)
      call-is =
          rw (le-leb 16384 n (omega arith), le-leb (length src) n (omega arith), le-leb (length src) 1048576 (omega arith))
          (ap (stored_table out) (after_none _ ∙ after_none (read_packed src)))

      -- what was stored is the table that was read, and what was refused is what reading refuses
      pub all_read : (s : Result ℕ Error) → read_call src out n ≡ record { answer = stored_with s w; out = a } → unwarned (tabled src) ≡ read_into s a
      all_read s e = ap unwarned short-read ∙ go s (read_packed src) refl (sym call-is ∙ e)
        where
          go :
              (s : Result ℕ Error) (o : Outcome Table) → read_packed src ≡ o →
              stored_table out o ≡ record { answer = stored_with s w; out = a } → unwarned o ≡ read_into s a
          go (Ok k) (ok t v) r d =
              let s = read-sound src r in
              let l : length (written t) ≤ length out = omega (arith, sound-short t s) in
              let f = stored_is t v out l in
              let g : lay (written t) out ≡ a = ap (λ (x : Wrote ℕ ℤ). x.out) (sym f ∙ d) in
              sym (ap held (sym g) ∙ laid-held t out s l)
          go (Ok k) (err m v) r d =
              let f = not-stored m v out in
              absurd (ok-not-err (sym (ap (λ (x : Wrote ℕ ℤ). x.answer) (sym f ∙ d))))
          go (Err z) (ok t v) r d =
              let l : length (written t) ≤ length out = omega (arith, sound-short t (read-sound src r)) in
              let f = stored_is t v out l in
              absurd (ok-not-err (ap (λ (x : Wrote ℕ ℤ). x.answer) (sym f ∙ d)))
          go (Err z) (err m v) r d =
              let f = not-stored m v out in
              let g : err m v ≡ err (number z) w = ap (λ (x : Wrote ℕ ℤ). x.answer) (sym f ∙ d) in
              ap (λ (i : ℕ). refuse i) (err-number g)
