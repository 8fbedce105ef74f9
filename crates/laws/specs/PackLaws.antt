-- Laws of the packed form of some ints: how long it is, how it is laid, and that it is read back. Assumes nothing.
use Rattle.std.specs.Prelude.{◌≡◌, refl, List, [], ◌∷◌, ◌++◌, true, ℕ, ◌+◌, ◌*◌, ◌≤◌, ◌<◌, ℤ, pos, length, drop, get_or}
use Rattle.std.proofs.Common.{sym, ap, ◌∙◌, append_assoc, add-one, arith, le-leb, length-append, drop-cons, SFits}
use Rattle.std.proofs.lemmas.Bool.{lt-leb}
use Rattle.std.specs.Int.{w32}
use Rattle.definitions.specs.Areas.{lay, lay_at}
use Rattle.definitions.specs.Refusals.{capacity_error}
use Rattle.definitions.specs.Warnings.{Counts, none}
use Rattle.definitions.specs.Outcome.{ok, err}
use Rattle.definitions.specs.Packed.{write_int, pack_ints}
use Rattle.definitions.specs.Stored.{stored}
use Rattle.definitions.specs.Stream.{Stream, stream, ints, warnings}
use Rattle.laws.specs.AreaLaws.{lay_at-append}
use Rattle.laws.specs.PackedLaws.{read-write}
use Rattle.laws.specs.Shortest.{length-write_int}
use Rattle.laws.specs.StreamLaws.{stream_end, stream-step, is_whole}
use Rattle.laws.specs.WarningLaws.{none-plus}

-- ---- results in an area

module _ {E : Type 0} where
  module _ (xs out : List E) (w : Counts) where
    -- a result that fits
    pub stored-fits : length xs ≤ length out → stored out (ok xs w) ≡ record { answer = ok (length xs) w; out = lay xs out }
    unfolding stored
    stored-fits h = rw (le-leb (length xs) (length out) h)

    -- and one that does not
    pub stored-full : length out < length xs → stored out (ok xs w) ≡ record { answer = err capacity_error w; out = out }
    unfolding stored
    stored-full h = rw (lt-leb (length xs) (length out) h)

-- ---- int by int

-- at most five bytes an int
pub length-pack_ints : (xs : List ℤ) → length (pack_ints xs) ≤ 5 * length xs
unfolding pack_ints
length-pack_ints [] = omega arith
length-pack_ints (x ∷ xs) =
    rw (length-append (write_int x) (pack_ints xs)) (omega (arith, length-write_int x, length-pack_ints xs))

-- one list is packed, and then the other behind it
pub pack-append : (xs ys : List ℤ) → pack_ints (xs ++ ys) ≡ pack_ints xs ++ pack_ints ys
unfolding pack_ints
pack-append [] ys = refl
pack-append (x ∷ xs) ys = rw (pack-append xs ys) (sym (append_assoc (write_int x) (pack_ints xs) (pack_ints ys)))

module _ (xs : List ℤ) (i : ℕ) (inside : i < length xs) where
  -- the int at a place, and then those behind it
  pub pack-step : pack_ints (drop i xs) ≡ write_int (get_or xs i (pos 0)) ++ pack_ints (drop (i + 1) xs)
  pack-step = rw (drop-cons xs i (pos 0) inside, add-one i) (unfold pack_ints in refl)

  pub pack-length : length (pack_ints (drop i xs)) ≡ length (write_int (get_or xs i (pos 0))) + length (pack_ints (drop (i + 1) xs))
  pack-length = ap length pack-step ∙ length-append (write_int (get_or xs i (pos 0))) (pack_ints (drop (i + 1) xs))

  pub pack-laid : (at : ℕ) (area : List ℕ) → lay_at at (pack_ints (drop i xs)) area ≡ lay_at (at + length (write_int (get_or xs i (pos 0)))) (pack_ints (drop (i + 1) xs)) (lay_at at (write_int (get_or xs i (pos 0))) area)
  pack-laid at area = rw pack-step (lay_at-append at (write_int (get_or xs i (pos 0))) (pack_ints (drop (i + 1) xs)) area)

-- ---- reading what was packed

-- ints that all fit 32 bits
pub data Whole : List ℤ → Type 0 where
  nil : Whole []
  cons : {x : ℤ} {xs : List ℤ} → SFits w32 x → Whole xs → Whole (x ∷ xs)

-- a stream of exactly these ints
pub record Gives (s : Stream) (xs : List ℤ) : Type 0 where
  pub ints-are : ints s ≡ xs
  pub no-warnings : warnings s ≡ none
  pub whole : is_whole s ≡ true

-- what was packed is read back
pub read-packed : {xs : List ℤ} → Whole xs → Gives (stream (pack_ints xs)) xs
unfolding pack_ints
read-packed nil = rw stream_end (record { ints-are = refl; no-warnings = refl; whole = refl })
read-packed (cons {x = x} {xs = xs} f h) =
    let l = pack_ints xs in
    let some : 0 < length (write_int x ++ l) = omega (arith, length-append (write_int x) l, length-write_int x) in
    let r = read-packed h in
    rw (stream-step (write_int x ++ l) some, read-write x l f)
    (record {
      ints-are = ap (λ (ys : List ℤ). x ∷ ys) r.ints-are;
      no-warnings = none-plus (warnings (stream l)) ∙ r.no-warnings;
      whole = r.whole;
    })
