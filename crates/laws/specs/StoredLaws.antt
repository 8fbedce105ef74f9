-- Laws of results laid into a lent area. Assumes nothing.
use Rattle.std.specs.Prelude.{◌≡◌, Bool, List, leb, length}
use Rattle.std.proofs.Math.Path.{refl}
use Rattle.std.proofs.Math.Bool.{true, false, cond}
use Rattle.definitions.specs.Areas.{lay}
use Rattle.definitions.specs.Refusals.{capacity_error}
use Rattle.definitions.specs.Warnings.{Counts}
use Rattle.definitions.specs.Outcome.{Outcome, ok, err, return, require, after, ◌>>◌, Wrote}
use Rattle.definitions.specs.Stored.{stored}

-- what is stored, with earlier warnings
abbrev pub counting : {A E : Type 0} → Counts → Wrote A E → Wrote A E
counting w s = record { answer = after w s.answer; out = s.out }

module _ {E : Type 0} where
  -- earlier warnings change no entry
  pub stored-after : (out : List E) (w : Counts) (o : Outcome (List E)) → stored out (after w o) ≡ counting w (stored out o)
  unfolding stored
  stored-after out w (ok xs v) = by-room (leb (length xs) (length out))
    where
      by-room : (b : Bool) → cond b (record { answer = after w (ok (length xs) v); out = lay xs out }) (record { answer = after w (err capacity_error v); out = out }) ≡ counting w (cond b (record { answer = ok (length xs) v; out = lay xs out }) (record { answer = err capacity_error v; out = out }))
      by-room true = refl
      by-room false = refl
  stored-after out w (err n v) = refl

  -- a test of the room changes nothing
  pub room-tested : (out xs : List E) → stored out (require (leb (length xs) (length out)) capacity_error >> return xs) ≡ stored out (return xs)
  room-tested out xs = go (leb (length xs) (length out)) refl
    where
      go : (b : Bool) → leb (length xs) (length out) ≡ b → stored out (require b capacity_error >> return xs) ≡ stored out (return xs)
      go true e = refl
      go false e = unfold stored in rw e
