-- Reading from a stream whose ints are known, whatever its warnings. Assumes nothing.
use Rattle.std.specs.Prelude.{ℕ, ◌/◌, ◌%◌, ◌<◌, ◌^◌, ◌≡◌, refl, true, List, [], ◌∷◌, ◌++◌, ℤ, pos, length}
use Rattle.std.proofs.Common.{sym, ap, ap₂, ◌∙◌, append_assoc, arith, lt-ltb, eqb-true}
use Rattle.std.proofs.Math.Option.{Option, some, none}
use Rattle.definitions.specs.Warnings.{Counts, plus}
use Rattle.definitions.specs.Warnings as Warnings
use Rattle.definitions.specs.Outcome.{Outcome, ok}
use Rattle.definitions.specs.Stream.{Stream, int, end, cut, padded, ints, warnings}
use Rattle.definitions.specs.Tables.{Item, key_of, num}
use Rattle.definitions.specs.Deltas.{known_size, size_ints, update_ints}
use Rattle.definitions.specs.DeltaCalls.{is_size}
use Rattle.definitions.specs.DeltaReading.{Got, next, next_ints, update_size, read_head, read_update}
use Rattle.laws.specs.StreamLaws.{is_whole}
use Rattle.laws.specs.WarningLaws.{none-plus, plus_none, plus_assoc}

-- the result of reading some ints from the front of a stream, followed by ys
pub record Took {A : Type 0} (read : Stream → Outcome (Got A)) (s : Stream) (a : A) (ys : List ℤ) : Type 0 where
  pub rest : Stream
  pub front : Counts
  pub reads : read s ≡ ok (record { value = a; rest = rest }) front
  pub behind : ints rest ≡ ys
  pub same_end : is_whole rest ≡ is_whole s
  pub all : warnings s ≡ plus front (warnings rest)

tail-is : {x y : ℤ} {xs ys : List ℤ} → x ∷ xs ≡ y ∷ ys → xs ≡ ys
tail-is e = cc

head-is : {x y : ℤ} {xs ys : List ℤ} → x ∷ xs ≡ y ∷ ys → x ≡ y
head-is e = cc

nothing : {y : ℤ} {ys : List ℤ} → [] ≡ y ∷ ys → ⊥
nothing e = let z : ◌≡◌ {A = ℕ} 0 1 = cc in omega arith

-- the next int
pub take-one : (refusal : ℕ) (s : Stream) (x : ℤ) (ys : List ℤ) → ints s ≡ x ∷ ys → Took (next refusal) s x ys
take-one refusal end x ys e = absurd (nothing e)
take-one refusal cut x ys e = absurd (nothing e)
take-one refusal padded x ys e = absurd (nothing e)
take-one refusal (int y w s) x ys e =
    record { rest = s; front = w; reads = let q : y ≡ x = head-is e in rw q; behind = tail-is e; same_end = refl; all = refl }

-- the next ints
pub take-ints : (refusal : ℕ) (s : Stream) (xs ys : List ℤ) → ints s ≡ xs ++ ys → Took (next_ints refusal (length xs)) s xs ys
unfolding next_ints
take-ints refusal s [] ys e =
    record { rest = s; front = Warnings.none; reads = refl; behind = e; same_end = refl; all = sym (none-plus (warnings s)) }
take-ints refusal s (x ∷ xs) ys e =
    let a = take-one refusal s x (xs ++ ys) e in
    let b = take-ints refusal a.rest xs ys a.behind in
    record {
      rest = b.rest;
      front = plus a.front b.front;
      reads = rw (a.reads, b.reads) (ap (λ (c : Counts). ok (record { value = x ∷ xs; rest = b.rest }) (plus a.front c)) (plus_none b.front));
      behind = b.behind;
      same_end = b.same_end ∙ a.same_end;
      all = a.all ∙ ap (plus a.front) b.all ∙ sym (plus_assoc a.front b.front (warnings b.rest));
    }

-- a size, where none is known
take-size : (o : Option ℕ) (s : Stream) (n : ℕ) (ys : List ℤ) → is_size o n ≡ true → ints s ≡ size_ints o n ++ ys → Took (update_size o) s n ys
unfolding update_size
take-size (some m) s n ys q e =
    record { rest = s; front = Warnings.none; reads = let k : m ≡ n = eqb-true m n q in rw k; behind = e; same_end = refl; all = sym (none-plus (warnings s)) }
take-size none s n ys q e =
    let a = take-one 4 s (pos n) ys e in
    record {
      rest = a.rest;
      front = a.front;
      reads = rw a.reads (ap (λ (c : Counts). ok (record { value = n; rest = a.rest }) c) (plus_none a.front));
      behind = a.behind;
      same_end = a.same_end;
      all = a.all;
    }

key-parts : (k : ℕ) → key_of (k / 65536) (k % 65536) ≡ k
key-parts k = omega arith

-- the counts of the four steps, put together
tidy : (a b c d : Counts) → plus (plus a (plus b (plus Warnings.none (plus Warnings.none (plus c Warnings.none))))) (plus d Warnings.none) ≡ plus a (plus b (plus c d))
tidy a b c d =
    ap₂ plus
    (ap (λ (w : Counts). plus a (plus b w)) (none-plus (plus Warnings.none (plus c Warnings.none)) ∙ none-plus (plus c Warnings.none) ∙ plus_none c))
    (plus_none d)
    ∙ plus_assoc a (plus b c) d
    ∙ ap (plus a) (plus_assoc b c d)

gathered : (a b c d w : Counts) → plus a (plus b (plus c (plus d w))) ≡ plus (plus a (plus b (plus c d))) w
gathered a b c d w =
    sym (plus_assoc a (plus b (plus c d)) w ∙ ap (plus a) (plus_assoc b (plus c d) w ∙ ap (plus b) (plus_assoc c d w)))

-- an update
pub take-update : (sizes : List ℤ) (s : Stream) (x : Item) (ys : List ℤ) → x.key < 2 ^ 32 → is_size (known_size sizes (x.key / 65536)) (length x.values) ≡ true → ints s ≡ update_ints sizes x ++ ys → Took (read_update sizes) s x ys
unfolding read_update read_head update_ints num
take-update sizes s x ys l q e =
    let o = known_size sizes (x.key / 65536) in
    let n = length x.values in
    let a = take-one 4 s (pos (x.key / 65536)) (pos (x.key % 65536) ∷ (size_ints o n ++ x.values) ++ ys) e in
    let b = take-one 4 a.rest (pos (x.key % 65536)) ((size_ints o n ++ x.values) ++ ys) a.behind in
    let c = take-size o b.rest n (x.values ++ ys) q (b.behind ∙ append_assoc (size_ints o n) x.values ys) in
    let d = take-ints 4 c.rest x.values ys c.behind in
    let t : x.key / 65536 < 65536 = omega arith in
    let i : x.key % 65536 < 65536 = omega arith in
    record {
      rest = d.rest;
      front = plus a.front (plus b.front (plus c.front d.front));
      reads = rw (a.reads, b.reads, lt-ltb (x.key / 65536) 65536 t, lt-ltb (x.key % 65536) 65536 i, c.reads, d.reads, key-parts x.key) (ap (ok (record { value = x; rest = d.rest })) (tidy a.front b.front c.front d.front));
      behind = d.behind;
      same_end = d.same_end ∙ (c.same_end ∙ (b.same_end ∙ a.same_end));
      all = a.all ∙ ap (plus a.front) (b.all ∙ ap (plus b.front) (c.all ∙ ap (plus c.front) d.all)) ∙ gathered a.front b.front c.front d.front (warnings d.rest);
    }
