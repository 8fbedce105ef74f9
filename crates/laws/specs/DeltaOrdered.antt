-- Ints in form that end with their updates: what reading them gives, and how that is stored. Assumes nothing.
use Rattle.std.specs.Prelude.{ℕ, ◌+◌, ◌≡◌, true, List, leb, ℤ, length, take}
use Rattle.std.proofs.Common.{sym, ap, ◌∙◌, arith, take_all}
use Rattle.definitions.specs.Refusals.{capacity_error}
use Rattle.definitions.specs.Warnings.{Counts, plus}
use Rattle.definitions.specs.Outcome.{ok, return, require, ◌>>◌}
use Rattle.definitions.specs.Stored.{stored}
use Rattle.definitions.specs.Stream.{Stream, ints, warnings}
use Rattle.definitions.specs.Deltas.{Delta, num_deleted, num_updated, written_delta, delta_in}
use Rattle.definitions.specs.DeltaCalls.{stored_delta}
use Rattle.definitions.specs.DeltaReading.{read_delta}
use Rattle.laws.specs.StreamLaws.{is_whole}
use Rattle.laws.specs.StoredLaws.{counting, stored-after, room-tested}
use Rattle.laws.specs.DeltaShape.{updates_end, DeltaShape}
use Rattle.laws.specs.DeltaRestores.{delta-stands, delta-in-order, delta-sizes-match}
use Rattle.laws.specs.DeltaReadBack.{delete_updates, read_back, delta-reads}

-- ints in form that end with the updates are read as what they hold
pub form-reads : (sizes a : List ℤ) → DeltaShape sizes a → length a ≡ updates_end sizes a (3 + num_deleted a) (num_updated a) → (s : Stream) → ints s ≡ a → is_whole s ≡ true → read_delta sizes s ≡ ok (read_back (delta_in sizes a)) (plus (warnings s) (delete_updates (delta_in sizes a).deleted (delta_in sizes a).updated))
form-reads sizes a h n s e c =
    delta-reads sizes (delta_in sizes a) s (delta-in-order sizes a h) (delta-sizes-match sizes a h) c
    (e ∙ (sym (take_all (length a) a (omega arith)) ∙ (ap (λ (m : ℕ). take m a) n ∙ delta-stands sizes a h)))

-- a delta without repeated entries is stored as its written form
pub delta-stored : (d : Delta) (w : Counts) (out : List ℤ) → stored_delta out (ok (read_back d) w) ≡ counting w (stored out (return (written_delta d)))
unfolding stored_delta
delta-stored d w out =
    stored-after out w (require (leb (length (written_delta d)) (length out)) capacity_error >> return (written_delta d))
    ∙ ap (counting w) (room-tested out (written_delta d))
