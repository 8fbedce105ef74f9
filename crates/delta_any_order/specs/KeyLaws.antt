-- The keys of updates that are read are of 32 bits. Assumes nothing.
use Rattle.std.specs.Prelude.{◌≡◌, refl, Bool, true, false, List, [], ℕ, ◌-◌, ◌≤◌, ◌<◌, ◌^◌, ltb, ℤ, length}
use Rattle.std.proofs.Math.Option.{Option}
use Rattle.std.proofs.Common.{arith, lt-ltb, ltb-true}
use Rattle.definitions.specs.Refusals.{item_diffs_unpacking}
use Rattle.definitions.specs.Warnings.{Counts}
use Rattle.definitions.specs.Outcome.{Outcome, ok, err, require, after, ◌>>=◌, ◌>>◌}
use Rattle.definitions.specs.Stream.{Stream}
use Rattle.definitions.specs.Tables.{Item, key_of, num}
use Rattle.definitions.specs.Deltas.{keys, known_size}
use Rattle.definitions.specs.DeltaReading.{Got, Head, next, next_ints, update_size, read_head, read_update, ordered_updates}
use Rattle.delta_index.specs.Placing.{keys_fit}
use Rattle.delta_index.specs.RepeatLaws.{repeated, repeated-count, repeated-all}
use Rattle.delta_source.specs.Source.{Source, from, Walks, whole, broken, more}

-- a value, if there is one, has a property
data Always {A : Type 0} (P : A → Type 0) : Outcome A → Type 0 where
  value : {a : A} {w : Counts} → P a → Always P (ok a w)
  nothing : {n : ℕ} {w : Counts} → Always P (err n w)

module _ {A : Type 0} {P : A → Type 0} where
  -- after earlier warnings
  later : {o : Outcome A} (w : Counts) → Always P o → Always P (after w o)
  later w (value h) = value h
  later w nothing = nothing

  -- after any step
  then : {B : Type 0} (o : Outcome B) (f : B → Outcome A) → ((b : B) → Always P (f b)) → Always P (o >>= f)
  then (ok b w) f h = later w (h b)
  then (err n w) f h = nothing

  -- after a condition
  given : {o : Outcome A} (b : Bool) (n : ℕ) → (b ≡ true → Always P o) → Always P (require b n >> o)
  given true n h = later _ (h refl)
  given false n h = nothing

  -- after a step whose value has a property
  goes_on : {B : Type 0} {Q : B → Type 0} {o : Outcome B} (f : B → Outcome A) → Always Q o → ((b : B) → Q b → Always P (f b)) → Always P (o >>= f)
  goes_on f (value {w = w} h) k = later w (k _ h)
  goes_on f nothing k = nothing

  -- the property of a value that is present
  of-value : {a : A} {w : Counts} → Always P (ok a w) → P a
  of-value (value h) = h

-- for a head
head-fits : (sizes : List ℤ) (s : Stream) → Always (λ (g : Got Head). g.value.key < 2 ^ 32) (read_head sizes s)
unfolding read_head
head-fits sizes s =
    then (next item_diffs_unpacking s) _ (λ (t : Got ℤ). then (next item_diffs_unpacking t.rest) _ (λ (i : Got ℤ).
    given (ltb (num t.value) 65536) _ (λ e. given (ltb (num i.value) 65536) _ (λ f.
    then (update_size (known_size sizes (num t.value)) i.rest) _ (λ (n : Got ℕ). value (fits (num t.value) (num i.value) e f))))))
  where
    fits : (t i : ℕ) → ltb t 65536 ≡ true → ltb i 65536 ≡ true → key_of t i < 2 ^ 32
    fits t i e f = omega (arith, ltb-true t 65536 e, ltb-true i 65536 f)

-- for an update
update-fits : (sizes : List ℤ) (s : Stream) → Always (λ (g : Got Item). g.value.key < 2 ^ 32) (read_update sizes s)
unfolding read_update
update-fits sizes s = goes_on _ (head-fits sizes s) (λ (h : Got Head) f. then (next_ints item_diffs_unpacking h.value.size h.rest) _ (λ (l : Got (List ℤ)). value f))

-- all keys that a walk visits
pub walk-fits : {s : Source} {sizes : List ℤ} {at : ℕ} {us : List Item} {w : Counts} {e : Option ℕ} → Walks s sizes at us w e → keys_fit (keys us) ≡ true
unfolding keys_fit
walk-fits (whole h) = refl
walk-fits (broken h g) = refl
walk-fits {s} {sizes} {at} (more {u = u} h r q a b k) =
    rw (lt-ltb u.key (2 ^ 32) (of-value (rw r at (update-fits sizes (from s at))))) (walk-fits k)

-- how many of them repeat a key, by how many keys there are
pub walk-repeats : {s : Source} {sizes : List ℤ} {at : ℕ} {us : List Item} {w : Counts} {e : Option ℕ} → Walks s sizes at us w e → repeated [] us ≡ length us - length (ordered_updates us)
walk-repeats {us = us} k = repeated-count us (walk-fits k)

-- no more keys than updates
pub walk-keys : {s : Source} {sizes : List ℤ} {at : ℕ} {us : List Item} {w : Counts} {e : Option ℕ} → Walks s sizes at us w e → length (ordered_updates us) ≤ length us
walk-keys {us = us} k = omega (arith, repeated-all us (walk-fits k))
