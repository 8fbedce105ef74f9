-- A delta after its front: what it is read as, and how that is stored. Assumes nothing.
use mathlib.Core.Path.{◌≡◌, refl, sym, ap, ◌∙◌}
use mathlib.Core.Bool.{Bool, false, not}
use mathlib.Core.List.{List, [], map}
use Prim.Native.Nat.{ℕ, ◌+◌, ◌-◌}
use lib.Dec.{eqb}
use lib.IntN.{ℤ}
use Rattle.definitions.specs.Ints.{bits}
use Rattle.definitions.specs.Refusals.{deleted_items_unpacking}
use Rattle.definitions.specs.Warnings.{Counts}
use Rattle.definitions.specs.Outcome.{Outcome, ok, err}
use Rattle.definitions.specs.Stored.{stored}
use Rattle.definitions.specs.Tables.{Item}
use Rattle.definitions.specs.DeltaReading.{DeltaRead, delta_read, read_delta}
use Rattle.definitions.specs.DeltaCalls.{stored_delta}
use Rattle.format.specs.Numbers.{number}
use Rattle.format.specs.Answers.{stored_with}
use Rattle.format.specs.declared.Error.{Error}
use Rattle.format.specs.Sources.{delta_counts}
use Rattle.delta_index.specs.Entries.{count_items}
use Rattle.delta_index.specs.RepeatLaws.{repeated}
use Rattle.delta_index.specs.declared.checked.Tally.{Tally}
use Rattle.delta_source.specs.Source.{Source, from, refusal_of, Headers, Skips, Judges}
use Rattle.delta_source.specs.Source as Source
use Rattle.std.specs.Prelude.{Result, Ok, Err}
use Rattle.delta_source.specs.declared.checked.Refusal.{Refusal}
use Rattle.delta_source.specs.declared.checked.Header.{Header}
use Rattle.delta_source.specs.declared.checked.Judged.{Judged}
use Rattle.delta_entries.specs.Told.{Told, Tallies}
use Rattle.delta_any_order.specs.KeyLaws.{walk-repeats}
use Rattle.delta_any_order.specs.ReadLaws.{twice, other_count, read_ending, header_refused, keys-refused, delta-walked}
use Rattle.delta_any_order.specs.Fronts.{Fronts}
use Rattle.delta_any_order.specs.declared.checked.Front.{Front}
use Rattle.delta_any_order.specs.OrderLaws.{length-bits}
use Rattle.delta_any_order.proofs.Fronting.{told}

-- a refused reading leaves the area unchanged
pub refused-stored : (out : List ℤ) (n : ℕ) (w : Counts) → stored_delta out (err n w) ≡ record { answer = err n w; out = out }
unfolding stored_delta stored
refused-stored out n w = refl

module _ {s : Source} {sizes : List ℤ} {f : Front} {j : Judged} (F : Fronts s f) (J : Judges s sizes f.first j) (t : Tally) (T : Tallies F.values J.items t) where
  -- what it is read as, if its updates end so
  abbrev reading : Result (Unit {0}) Error → Outcome DeltaRead
  reading x = read_ending (refusal_of x) (f.overlong + j.overlong) f.odd f.updated (map bits F.values) J.items

  read_is : read_delta sizes (from s 0) ≡ reading j.ended
  read_is =
      rw F.overlong-is
      (delta-walked s sizes f.deleted f.updated f.keys F.overlong-header f.odd F.header_is f.first F.overlong-keys j.overlong
      F.values J.items (refusal_of j.ended) F.keys-are J.walks)

  -- its warnings, as they were counted
  abbrev counted : Bool → Counts
  counted other = delta_counts (f.overlong + j.overlong) f.odd (not (eqb t.deleted f.deleted)) (j.updates - t.updated) t.crossing other

  -- they are those of the definition
  counts-are :
      (other : Bool) →
      delta_counts (f.overlong + j.overlong) f.odd (twice (map bits F.values)) (repeated [] J.items)
      (count_items (map bits F.values) J.items) other
      ≡ counted other
  counts-are other =
      rw (length-bits F.values, F.count, walk-repeats J.walks, T.deleted-is, T.updated-is, T.crossing_is, J.count-is)

  -- an update is refused
  pub refused-behind : (out : List ℤ) (e : Error) (w : Counts) → j.ended ≡ Err e → w ≡ counted false → stored_delta out (read_delta sizes (from s 0)) ≡ record { answer = err (number e) w; out = out }
  refused-behind out e w q c =
      let r : read_delta sizes (from s 0) ≡ err (number e) w = read_is ∙ (ap reading q ∙ ap (err (number e)) (counts-are false ∙ sym c)) in
      ap (stored_delta out) r ∙ refused-stored out (number e) w

  -- all updates are there
  pub stored-behind : (out last : List ℤ) (r : Result ℕ Error) (w : Counts) → j.ended ≡ Ok tt → w ≡ counted (not (eqb j.updates f.updated)) → ((values : List ℤ) (items : List Item) (v : Counts) → Told s sizes f.keys f.deleted f.first j.updates values items → stored_delta out (ok (delta_read (map bits values) items) v) ≡ record { answer = stored_with r v; out = last }) → stored_delta out (read_delta sizes (from s 0)) ≡ record { answer = stored_with r w; out = last }
  stored-behind out last r w q c g =
      let d : DeltaRead = delta_read (map bits F.values) J.items in
      let other : other_count J.items f.updated ≡ not (eqb j.updates f.updated) = ap (λ (n : ℕ). not (eqb n f.updated)) (sym J.count-is) in
      let counts = counts-are (other_count J.items f.updated) ∙ (ap counted other ∙ sym c) in
      let r : read_delta sizes (from s 0) ≡ ok d w = read_is ∙ (ap reading q ∙ ap (ok d) counts) in
      ap (stored_delta out) r ∙ g F.values J.items w (told F J)

-- ---- before the updates

module _ (s : Source) (sizes out : List ℤ) where
  -- the header is refused
  pub any-header :
      {r : Refusal} {a : Outcome ℕ} → Headers s (Err r) → err (number r.error) (delta_counts r.overlong false false 0 0 false) ≡ a →
      stored_delta out (read_delta sizes (from s 0)) ≡ record { answer = a; out = out }
  any-header {r} (Source.refused h) q =
      ap (stored_delta out) (header_refused s sizes (number r.error) r.overlong h)
      ∙ (refused-stored out (number r.error) (delta_counts r.overlong false false 0 0 false) ∙ ap (λ (x : Outcome ℕ). record { answer = x; out = out }) q)

  -- the keys are not all there
  pub any-keys :
      {h : Header} {r : Refusal} {a : Outcome ℕ} → Headers s (Ok h) → Skips s h.next h.deleted deleted_items_unpacking (Err r) →
      err (number r.error) (delta_counts (h.overlong + r.overlong) h.odd false 0 0 false) ≡ a →
      stored_delta out (read_delta sizes (from s 0)) ≡ record { answer = a; out = out }
  any-keys {h} {r} (Source.delta e b) (Source.refused l) q =
      ap (stored_delta out) (keys-refused s sizes h.deleted h.updated h.next h.overlong h.odd e (number r.error) r.overlong l)
      ∙ (refused-stored out (number r.error) (delta_counts (h.overlong + r.overlong) h.odd false 0 0 false) ∙ ap (λ (x : Outcome ℕ). record { answer = x; out = out }) q)
