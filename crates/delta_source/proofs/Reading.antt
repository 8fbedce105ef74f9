-- The head of an update, and the update, step by step. Assumes nothing.
use mathlib.Core.Path.{◌≡◌, refl, sym, ap, ◌∙◌}
use mathlib.Core.Bool.{Bool, cond}
use mathlib.Core.List.{List, []}
use mathlib.Core.Option.{some, none}
use Prim.Native.Nat.{ℕ, ◌+◌, ◌/◌, ◌≤◌, ◌<◌, ◌^◌}
use native.Mathlib.Omega.{arith}
use borrow.Author.Tests.{lt-ltb, le-ltb}
use lib.IntN.{ℤ, pos, negsuc, nat_abs}
use lib.ListN.{length}
use lib.Signed.{mag}
use Rattle.std.specs.Int.{FitsUnsignedBits}
use Rattle.std.specs.Prelude.{Result, Ok, Err}
use Rattle.definitions.specs.Ints.{bits}
use Rattle.definitions.specs.Refusals.{item_diffs_unpacking, type_id_range, id_range, negative_size}
use Rattle.definitions.specs.Warnings.{Counts, plus}
use Rattle.definitions.specs.Outcome.{Outcome, ok, err, return, after, ◌>>=◌}
use Rattle.definitions.specs.Packed.{warned}
use Rattle.definitions.specs.Stream.{int}
use Rattle.definitions.specs.Tables.{Item, key_of, num}
use Rattle.definitions.specs.Deltas.{known_size}
use Rattle.definitions.specs.DeltaReading.{Got, next, written_size, update_size, read_head, read_update}
use Rattle.definitions.specs.DeltaReading as Reading
use Rattle.laws.specs.OutcomeLaws.{after_none, after-after, ok-value, ok-not-err}
use Rattle.laws.specs.WarningLaws.{packed, warned-packed, plus_none}
use Rattle.format.specs.Numbers.{number}
use Rattle.format.specs.declared.Error.{Error}
use Rattle.format.specs.declared.Error.TheVariants as error
use Rattle.delta_form.specs.Held.{size_from}
use Rattle.packer.specs.Answers.{missing_as}
use Rattle.packer.specs.declared.IntRead.{IntRead}
use Rattle.delta_source.specs.Source.{Source, size, from, behind, behind_ints, Next, found, nothing, Skips, past, Heads, Updates}
use Rattle.delta_source.specs.Source as Source
use Rattle.delta_source.specs.Steps.{size_length, size_of, head_of, HeadOf}
use Rattle.delta_source.specs.Steps as Steps
use Rattle.delta_source.specs.SourcePlaces.{behind-none, behind-step, behind-head}
use Rattle.delta_source.specs.declared.checked.Head.{Head}
use Rattle.delta_source.specs.declared.checked.Refusal.{Refusal}
use Rattle.delta_source.specs.declared.checked.Skip.{Skip}

-- an integer's warnings after those so far
pub more-warned : (o : ℕ) (overlong : Bool) → plus (packed o) (warned overlong) ≡ packed (o + cond overlong 1 0)
more-warned o overlong = ap (plus (packed o)) (warned-packed overlong)

-- ---- known sizes

known-absent : (sizes : List ℤ) (i : ℕ) → length sizes ≤ i → known_size sizes i ≡ none
unfolding known_size
known-absent sizes i h = rw (le-ltb i (length sizes) h)

-- ---- the size of an update

-- an int that is a count, and one that is none
pub as-count : (z : ℤ) → num z < 2 ^ 32 → z ≡ pos (num z)
unfolding num
as-count (pos n) h = refl
as-count (negsuc n) h = absurd (omega arith)

pub as-negative : (z : ℤ) → mag z < 2 ^ 31 → 2 ^ 32 ≤ num z → z ≡ negsuc (mag z)
unfolding num
as-negative (pos n) m h = absurd (omega arith)
as-negative (negsuc n) m h = refl

-- an int of 32 bits that converts to a count, and one that does not
pub is-count : (z : ℤ) → mag z < 2 ^ 31 → FitsUnsignedBits 64 z → (nat_abs z ≡ num z) × (num z < 2 ^ 32)
unfolding num
is-count (pos n) m h = (refl, omega arith)
is-count (negsuc n) m h = absurd h

pub is-negative : (z : ℤ) → mag z < 2 ^ 31 → (FitsUnsignedBits 64 z → ⊥) → 2 ^ 32 ≤ num z
unfolding num
is-negative (pos n) m h = absurd (h (omega arith))
is-negative (negsuc n) m h = omega arith

-- the same for 16 bits
pub is-16 : (z : ℤ) → FitsUnsignedBits 16 z → (nat_abs z ≡ num z) × (num z < 65536)
unfolding num
is-16 (pos n) h = (refl, omega arith)
is-16 (negsuc n) h = absurd h

pub not-16 : (z : ℤ) → (FitsUnsignedBits 16 z → ⊥) → 65536 ≤ num z
unfolding num
not-16 (pos n) h = omega (arith, h)
not-16 (negsuc n) h = omega arith

-- after a size that is not known
size-place : (s : Source) (at type : ℕ) {next : ℕ} → next ≡ behind s at → next ≡ behind_ints s at (size_length (known_size [] type))
size-place s at type {next} e = rw (known-absent [] type (omega arith)) (sym (behind-step s at 0 e ∙ behind-none s next))

-- the key of a head whose size was read
key-kept : (w v : Counts) (key : ℕ) (u : Outcome (Got ℕ)) (g : Got Reading.Head) → after w (u >>= λ n. return (record { value = record { key = key; size = n.value }; rest = n.rest })) ≡ ok g v → g.value.key ≡ key
key-kept w v key (ok n c) g e = sym (ap (λ (h : Got Reading.Head). h.value.key) (ok-value e))
key-kept w v key (err n c) g e = absurd (ok-not-err (sym e))

module _ (s : Source) (at k o : ℕ) where
  pub no_size :
      {r : Error} (e : Error) → Next s at (Err r) → number e ≡ missing_as (number r) item_diffs_unpacking →
      HeadOf s [] at (after (packed o) (size_of none k (from s at))) (Err (record { error = e; overlong = o }))
  unfolding size_of update_size
  no_size e (nothing f) q = Steps.refused {r = record { error = e; overlong = o }} (rw (f item_diffs_unpacking, q, plus_none (packed o)))

  module _ {r : IntRead} where
    pub size-negative :
        Next s at (Ok r) → mag r.value < 2 ^ 31 → 2 ^ 32 ≤ num r.value →
        HeadOf s [] at (after (packed o) (size_of none k (from s at))) (Err (record { error = error.NegativeSize; overlong = o + cond r.overlong 1 0 }))
    unfolding size_of update_size
    size-negative (found e j a b) m h =
        let w = warned r.overlong in
        Steps.refused {r = record { error = error.NegativeSize; overlong = o + cond r.overlong 1 0 }}
        (rw (e, ap written_size (as-negative r.value m h))
        (ap (λ (v : Counts). err negative_size (plus (packed o) v)) (plus_none w) ∙ ap (err negative_size) (more-warned o r.overlong)))

  module _ {key : ℤ} {r : IntRead} where
    pub size-read :
        bits key ≡ k → Next s at (Ok r) → num r.value < 2 ^ 32 →
        HeadOf s [] at (after (packed o) (size_of none k (from s at)))
        (Ok (record { key = key; size = num r.value; start = r.next; overlong = o + cond r.overlong 1 0 }))
    unfolding size_of update_size
    size-read q (found e j a b) h =
        let w = warned r.overlong in
        let g : Got Reading.Head = record { value = record { key = k; size = num r.value }; rest = from s r.next } in
        Steps.update {h = record { key = key; size = num r.value; start = r.next; overlong = o + cond r.overlong 1 0 }}
        (rw (e, ap written_size (as-count r.value h), q)
        (ap (λ (v : Counts). ok g (plus (packed o) v)) (plus_none _ ∙ plus_none w) ∙ ap (ok g) (more-warned o r.overlong)))
        (size-place s at (bits key / 65536) j) (omega arith) b

-- ---- type and id

module _ (s : Source) (sizes : List ℤ) (at : ℕ) (t i : ℤ) (o : ℕ) where
  pub type-range : 65536 ≤ num t → HeadOf s sizes at (after (packed o) (head_of sizes t i (from s at))) (Err (record { error = error.TypeIdRange; overlong = o }))
  unfolding head_of
  type-range h = Steps.refused {r = record { error = error.TypeIdRange; overlong = o }} (rw (le-ltb (num t) 65536 h) (ap (err type_id_range) (plus_none (packed o))))

  pub id-range : num t < 65536 → 65536 ≤ num i → HeadOf s sizes at (after (packed o) (head_of sizes t i (from s at))) (Err (record { error = error.IdRange; overlong = o }))
  unfolding head_of
  id-range h k = Steps.refused {r = record { error = error.IdRange; overlong = o }} (rw (lt-ltb (num t) 65536 h, le-ltb (num i) 65536 k) (ap (err id_range) (plus_none (packed o))))

  module _ (h : num t < 65536) (k : num i < 65536) where
    in-range : head_of sizes t i (from s at) ≡ size_of (known_size sizes (num t)) (key_of (num t) (num i)) (from s at)
    unfolding head_of
    in-range = rw (lt-ltb (num t) 65536 h, lt-ltb (num i) 65536 k) (after_none _ ∙ after_none _)

    type-of : {key : ℕ} → key ≡ key_of (num t) (num i) → key / 65536 ≡ num t
    type-of e = omega arith

    pub size-known :
        {key : ℤ} {n : ℕ} → bits key ≡ key_of (num t) (num i) → known_size sizes (num t) ≡ size_from n → n < 2 ^ 32 → at ≤ size s →
        HeadOf s sizes at (after (packed o) (head_of sizes t i (from s at))) (Ok (record { key = key; size = n; start = at; overlong = o }))
    unfolding size_of update_size
    size-known {key} {n} e q l b =
        let r : Got Reading.Head = record { value = record { key = bits key; size = n }; rest = from s at } in
        let m : size_from n ≡ some n = rw (lt-ltb n (2 ^ 32) l) in
        Steps.update {h = record { key = key; size = n; start = at; overlong = o }}
        (rw (in-range, q, m, ← e) (ap (ok r) (plus_none (packed o))))
        (rw (type-of e, q, m) (sym (behind-none s at))) (omega arith) b

    pub size-unknown :
        (key : ℤ) (n : ℕ) {r : Result Head Refusal} → bits key ≡ key_of (num t) (num i) → known_size sizes (num t) ≡ size_from n → 2 ^ 32 ≤ n →
        HeadOf s [] at (after (packed o) (size_of none (bits key) (from s at))) r → HeadOf s sizes at (after (packed o) (head_of sizes t i (from s at))) r
    unfolding size_of
    size-unknown key n e q l (Steps.update {h = h₂} g f a b) =
        let m : size_from n ≡ none = rw (le-ltb n (2 ^ 32) l) in
        let y : bits h₂.key ≡ bits key = key-kept (packed o) _ (bits key) (update_size none (from s at)) _ g in
        let z : h₂.start ≡ behind_ints s at 1 = rw (known-absent [] (bits h₂.key / 65536) (omega arith)) at f in
        Steps.update {h = h₂} (rw (in-range, q, m, ← e) g) (rw (type-of (y ∙ e), q, m) z) a b
    size-unknown key n e q l (Steps.refused {r = r₂} g) =
        let m : size_from n ≡ none = rw (le-ltb n (2 ^ 32) l) in
        Steps.refused {r = r₂} (rw (in-range, q, m, ← e) g)

-- ---- the head

module _ (s : Source) (sizes : List ℤ) (at : ℕ) where
  pub no-type : {r : Error} (e : Error) → Next s at (Err r) → number e ≡ missing_as (number r) item_diffs_unpacking → Heads s sizes at (Err (record { error = e; overlong = 0 }))
  unfolding read_head
  no-type e (nothing f) q = Source.refused {r = record { error = e; overlong = 0 }} (rw (f item_diffs_unpacking, q))

  module _ (t : IntRead) where
    pub no-id :
        {r : Error} (e : Error) → Next s at (Ok t) → Next s t.next (Err r) → number e ≡ missing_as (number r) item_diffs_unpacking →
        Heads s sizes at (Err (record { error = e; overlong = cond t.overlong 1 0 }))
    unfolding read_head
    no-id e (found g j x y) (nothing f) q =
        Source.refused {r = record { error = e; overlong = cond t.overlong 1 0 }}
        (rw (g, f item_diffs_unpacking, q, plus_none (warned t.overlong), warned-packed t.overlong))

    module _ (i : IntRead) where
      both_read :
          from s at ≡ int t.value (warned t.overlong) (from s t.next) → from s t.next ≡ int i.value (warned i.overlong) (from s i.next) →
          read_head sizes (from s at) ≡ after (packed (cond t.overlong 1 0 + cond i.overlong 1 0)) (head_of sizes t.value i.value (from s i.next))
      unfolding read_head head_of size_of
      both_read e f =
          let o = head_of sizes t.value i.value (from s i.next) in
          rw (e, f)
          (after-after (warned t.overlong) (warned i.overlong) o
          ∙ ap (λ (w : Counts). after (plus w (warned i.overlong)) o) (warned-packed t.overlong)
          ∙ ap (λ (w : Counts). after w o) (more-warned (cond t.overlong 1 0) i.overlong))

      pub head-judged :
          {r : Result Head Refusal} → Next s at (Ok t) → Next s t.next (Ok i) →
          HeadOf s sizes i.next (after (packed (cond t.overlong 1 0 + cond i.overlong 1 0)) (head_of sizes t.value i.value (from s i.next))) r →
          Heads s sizes at r
      head-judged (found e q x y) (found f r z u) (Steps.update {h = h} g j k b) =
          Source.update (both_read e f ∙ g) (j ∙ sym (behind-head s at (known_size sizes (bits h.key / 65536)) q r)) (omega arith) b
      head-judged (found e q x y) (found f r z u) (Steps.refused g) = Source.refused (both_read e f ∙ g)

-- ---- the update

-- the place of the differences
pub data-inside : {s : Source} {sizes : List ℤ} {at : ℕ} {h : Head} → Heads s sizes at (Ok h) → h.start ≤ size s
data-inside (Source.update e q a b) = b

module _ (s : Source) (sizes : List ℤ) (at : ℕ) where
  pub head-refused : {r : Refusal} → Heads s sizes at (Err r) → Updates s sizes at (Err r)
  unfolding read_update
  head-refused {r} (Source.refused q) = Source.refused {r = r} (rw q)

  module _ {h : Head} where
    pub values-refused :
        {r : Refusal} → Heads s sizes at (Ok h) → Skips s h.start h.size item_diffs_unpacking (Err r) →
        Updates s sizes at (Err (record { error = r.error; overlong = h.overlong + r.overlong }))
    unfolding read_update
    values-refused {r} (Source.update g q a b) (Source.refused f) = Source.refused {r = record { error = r.error; overlong = h.overlong + r.overlong }} (rw (g, f))

    pub update-read :
        {k : Skip} → Heads s sizes at (Ok h) → Skips s h.start h.size item_diffs_unpacking (Ok k) →
        Updates s sizes at (Ok (record { key = h.key; size = h.size; start = h.start; next = k.next; overlong = h.overlong + k.overlong }))
    unfolding read_update
    update-read {k} (Source.update e q a b) (past xs l f r m i) =
        let u : Got Item = record { value = record { key = bits h.key; values = xs }; rest = from s k.next } in
        Source.update {u = record { key = h.key; size = h.size; start = h.start; next = k.next; overlong = h.overlong + k.overlong }} xs (packed k.overlong) l f
        (rw (e, f item_diffs_unpacking) (ap (λ (w : Counts). ok u (plus (packed h.overlong) w)) (plus_none (packed k.overlong)))) q r a m i
