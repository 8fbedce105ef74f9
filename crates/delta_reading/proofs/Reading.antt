-- Reading ints that rise already and end where they say. Assumes nothing.
use Prim.Native.Nat.{ℕ, ◌+◌}
use mathlib.Core.Path.{◌≡◌, ap, ◌∙◌}
use mathlib.Core.Bool.{true}
use mathlib.Core.List.{List}
use lib.IntN.{ℤ}
use lib.ListN.{length}
use Rattle.definitions.specs.Warnings.{Counts, plus}
use Rattle.definitions.specs.Outcome.{Outcome, ok, return}
use Rattle.definitions.specs.Stored.{stored}
use Rattle.definitions.specs.Stream.{Stream, ints, warnings}
use Rattle.definitions.specs.Deltas.{num_deleted, num_updated, written_delta, delta_in}
use Rattle.definitions.specs.DeltaCalls.{stored_delta}
use Rattle.definitions.specs.DeltaReading.{read_delta}
use Rattle.laws.specs.StreamLaws.{is_whole}
use Rattle.laws.specs.StoredLaws.{counting}
use Rattle.laws.specs.DeltaShape.{updates_end}
use Rattle.laws.specs.DeltaReadBack.{delete_updates, read_back}
use Rattle.laws.specs.DeltaOrdered.{form-reads, delta-stored}
use Rattle.format.specs.Answers.{stored_ints, stored_with, with-counts}
use Rattle.format.specs.declared.Error.{Error}
use Rattle.std.proofs.Common.{Result}
use Rattle.format.specs.Sources.{deleted_counts}
use Rattle.delta_form.specs.Held.{HeldDelta}

pub ordered-read : (sizes a : List ℤ) (k u n : ℕ) → HeldDelta sizes a k u → length a ≡ updates_end sizes a (3 + num_deleted a) (num_updated a) → (before last : List ℤ) (r : Result ℕ Error) → stored before (return (written_delta (delta_in sizes a))) ≡ record { answer = stored_ints r; out = last } → delete_updates (delta_in sizes a).deleted (delta_in sizes a).updated ≡ deleted_counts n → (s : Stream) → ints s ≡ a → is_whole s ≡ true → stored_delta before (read_delta sizes s) ≡ record { answer = stored_with r (plus (warnings s) (deleted_counts n)); out = last }
ordered-read sizes a k u n h end before last r e d s i c =
    let w = plus (warnings s) (deleted_counts n) in
    ap (stored_delta before) (form-reads sizes a h.shape end s i c ∙ ap (λ (v : Counts). ok (read_back (delta_in sizes a)) (plus (warnings s) v)) d)
    ∙ (delta-stored (delta_in sizes a) w before
    ∙ (ap (counting w) e
    ∙ ap (λ (o : Outcome ℕ). record { answer = o; out = last }) (with-counts r w)))
