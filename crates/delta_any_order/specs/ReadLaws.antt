-- What a delta reads as, from what its header, its keys and its updates read as. Assumes nothing.
use Rattle.std.specs.Prelude.{◌≡◌, refl, Bool, true, false, cond, not, eqb, ℤ, length}
use Rattle.std.proofs.Common.{sym, ap, ◌∙◌, arith}
use mathlib.Core.List.{List, [], ◌∷◌, ◌++◌, map, append-nil, append_assoc}
use Rattle.std.proofs.Math.Option.{Option, some, none}
use Prim.Native.Nat.{ℕ, zero, suc, ◌+◌, ◌<◌}
use Rattle.definitions.specs.Ints.{bits}
use Rattle.definitions.specs.Refusals.{deleted_items_unpacking}
use Rattle.definitions.specs.Warnings.{Warning, Counts, DuplicateDelete, DuplicateUpdate, DeleteUpdate, NumUpdatedItems, plus}
use Rattle.definitions.specs.Warnings as Warnings
use Rattle.definitions.specs.Outcome.{Outcome, ok, err, return, after, warn_if, ◌>>=◌, ◌>>◌}
use Rattle.definitions.specs.Stream.{Stream, ints}
use Rattle.definitions.specs.Tables.{Item, find, is_some}
use Rattle.definitions.specs.DeltaReading.{elem, next_ints, read_updates, ordered_keys, DeltaRead, delta_read, read_delta_header, read_delta}
use Rattle.laws.specs.WarningLaws.{packed, plus_none}
use Rattle.delta_index.specs.Entries.{count_items}
use Rattle.delta_index.specs.RepeatLaws.{repeated}
use Rattle.delta_source.specs.Source.{Source, from, odd_padding, Walks, whole, broken, more}
use Rattle.delta_source.specs.SourceLaws.{Reads, got, update-reads}
use Rattle.format.specs.Sources.{delta_counts}
use Rattle.delta_any_order.specs.Counted.{warned_if, update_counts, counts-turn, counts_whole, counts-broken, counts-refused}

-- ---- the updates

-- updates up to the end, or up to a refusal
abbrev pub ending : Option ℕ → List Item → Counts → Outcome (List Item)
ending none l w = ok l w
ending (some n) l w = err n w

-- an update takes at least one int
one_less : {s t : Stream} {u : Item} {v : Counts} (fuel : ℕ) → Reads 0 (λ (x : Item). 2 + length x.values) s (ok (record { value = u; rest = t }) v) → length (ints s) < suc fuel → length (ints t) < fuel
one_less fuel (got x y) h = omega arith

-- a warning and then the rest
warned : {A : Type 0} (b : Bool) (k : Warning) (o : Outcome A) → (warn_if b k >> o) ≡ after (warned_if b k) o
warned true k o = refl
warned false k o = refl

-- earlier warnings
ending-after : (e : Option ℕ) (l : List Item) (v w : Counts) → after v (ending e l w) ≡ ending e l (plus v w)
ending-after none l v w = refl
ending-after (some n) l v w = refl

-- the warnings of an update, then those after it
turn : (x y : Bool) (e : Option ℕ) (l : List Item) (v w : Counts) (r c : ℕ) → after v (warn_if x DuplicateUpdate >> (warn_if y DeleteUpdate >> ending e l (plus w (update_counts r c)))) ≡ ending e l (plus (plus v w) (update_counts (cond x 1 0 + r) (cond y 1 0 + c)))
turn x y e l v w r c =
    let m = plus w (update_counts r c) in
    let second : (warn_if y DeleteUpdate >> ending e l m) ≡ ending e l (plus (warned_if y DeleteUpdate) m) = warned y DeleteUpdate (ending e l m) ∙ ending-after e l (warned_if y DeleteUpdate) m in
    let n = plus (warned_if y DeleteUpdate) m in
    rw second
    (ap (after v) (warned x DuplicateUpdate (ending e l n) ∙ ending-after e l (warned_if x DuplicateUpdate) n)
    ∙ ending-after e l v (plus (warned_if x DuplicateUpdate) n)
    ∙ ap (ending e l) (counts-turn x y v w r c))

module _ {s : Source} {sizes : List ℤ} (deleted : List ℕ) where
  -- what a walk visits, after the updates before, with their warnings
  pub walk-reads : {at : ℕ} {us : List Item} {w : Counts} {e : Option ℕ} (fuel : ℕ) (before : List Item) → Walks s sizes at us w e → length (ints (from s at)) < fuel → read_updates sizes deleted fuel before (from s at) ≡ ending e (before ++ us) (plus w (update_counts (repeated before us) (count_items deleted us)))
  unfolding read_updates repeated count_items
  walk-reads zero before k h = absurd (omega arith)
  walk-reads (suc n) before (whole f) h = rw (f, append-nil before)
  walk-reads (suc n) before (broken {n = m} {w = w} f r) h = rw (f, r) (ap (err m) (sym (plus_none w)))
  walk-reads {at = at} {e = e} (suc n) before (more {next = next} {u = u} {us = us} {v = v} {w = w} f r q a b k) h =
      rw (f, r, walk-reads {at = next} n (before ++ u ∷ []) k (one_less n (rw r at (update-reads sizes (from s at))) h), append_assoc before (u ∷ []) us)
      (turn (is_some (find u.key before)) (elem u.key deleted) e (before ++ u ∷ us) v w (repeated (before ++ u ∷ []) us) (count_items deleted us))

-- ---- a delta

-- whether a key is deleted twice
abbrev pub twice : List ℕ → Bool
twice deleted = not (eqb (length (ordered_keys deleted)) (length deleted))

-- the count of updates differs from the header's
abbrev pub other_count : List Item → ℕ → Bool
other_count items u = not (eqb (length items) u)

-- a delta read to its end, or up to a refusal; after the packer's warnings
abbrev pub read_ending : Option ℕ → ℕ → Bool → ℕ → List ℕ → List Item → Outcome DeltaRead
read_ending none o odd u deleted items =
    ok (delta_read deleted items) (delta_counts o odd (twice deleted) (repeated [] items) (count_items deleted items) (other_count items u))
read_ending (some n) o odd u deleted items = err n (delta_counts o odd (twice deleted) (repeated [] items) (count_items deleted items) false)

-- a delta that was read, with the warnings of each step
steps : (t x : Bool) (d : DeltaRead) (a b c : Counts) → after a (after b (warn_if t DuplicateDelete >> after c (warn_if x NumUpdatedItems >> return d))) ≡ ok d (plus a (plus b (plus (warned_if t DuplicateDelete) (plus c (plus (warned_if x NumUpdatedItems) Warnings.none)))))
steps true true d a b c = refl
steps true false d a b c = refl
steps false true d a b c = refl
steps false false d a b c = refl

-- the same for a refusal
steps-refused : (t : Bool) (n : ℕ) (a b c : Counts) → ◌≡◌ {A = Outcome DeltaRead} (after a (after b (warn_if t DuplicateDelete >> err n c))) (err n (plus a (plus b (plus (warned_if t DuplicateDelete) c))))
steps-refused true n a b c = refl
steps-refused false n a b c = refl

-- how reading ends, after header and keys
ends :
    (e : Option ℕ) (o o2 o3 : ℕ) (odd : Bool) (u : ℕ) (deleted : List ℕ) (items : List Item) →
    after (plus (packed o) (odd_padding odd))
    (after (packed o2)
    (warn_if (twice deleted) DuplicateDelete
    >> (ending e items (plus (packed o3) (update_counts (repeated [] items) (count_items deleted items)))
    >>= λ updated. warn_if (not (eqb (length updated) u)) NumUpdatedItems >> return (delta_read deleted updated))))
    ≡ read_ending e (o + o2 + o3) odd u deleted items
ends none o o2 o3 odd u deleted items =
    steps (twice deleted) (other_count items u) (delta_read deleted items) (plus (packed o) (odd_padding odd)) (packed o2)
    (plus (packed o3) (update_counts (repeated [] items) (count_items deleted items)))
    ∙ ap (ok (delta_read deleted items)) (counts_whole o o2 o3 (repeated [] items) (count_items deleted items) odd (twice deleted) (other_count items u))
ends (some n) o o2 o3 odd u deleted items =
    steps-refused (twice deleted) n (plus (packed o) (odd_padding odd)) (packed o2)
    (plus (packed o3) (update_counts (repeated [] items) (count_items deleted items)))
    ∙ ap (err n) (counts-broken o o2 o3 (repeated [] items) (count_items deleted items) odd (twice deleted))

module _ (s : Source) (sizes : List ℤ) where
  -- the header is refused
  pub header_refused : (n o : ℕ) → read_delta_header (from s 0) ≡ err n (packed o) → read_delta sizes (from s 0) ≡ err n (delta_counts o false false 0 0 false)
  unfolding read_delta
  header_refused n o h = rw h

  module _ (k u next o : ℕ) (odd : Bool)
      (h :
      read_delta_header (from s 0)
      ≡ ok (record { value = record { deleted = k; updated = u }; rest = from s next }) (plus (packed o) (odd_padding odd))) where
    -- the keys are not all there
    pub keys-refused :
        (n o2 : ℕ) → next_ints deleted_items_unpacking k (from s next) ≡ err n (packed o2) →
        read_delta sizes (from s 0) ≡ err n (delta_counts (o + o2) odd false 0 0 false)
    unfolding read_delta
    keys-refused n o2 l = rw (h, l) (ap (err n) (counts-refused o o2 odd))

    -- the keys are all there, and the updates were walked
    pub delta-walked :
        (first o2 o3 : ℕ) (values : List ℤ) (items : List Item) (e : Option ℕ) →
        next_ints deleted_items_unpacking k (from s next) ≡ ok (record { value = values; rest = from s first }) (packed o2) →
        Walks s sizes first items (packed o3) e → read_delta sizes (from s 0) ≡ read_ending e (o + o2 + o3) odd u (map bits values) items
    unfolding read_delta
    delta-walked first o2 o3 values items e l w =
        let ups = walk-reads (map bits values) (length (ints (from s first)) + 1) [] w (omega arith) in
        rw (h, l, ups) (ends e o o2 o3 odd u (map bits values) items)
