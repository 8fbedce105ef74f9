-- The ints of the delta between two sound tables of 32-bit ints fit 32 bits, so that it is read back from its packed form. Assumes nothing.
use Rattle.std.specs.Prelude.{ℕ, suc, ◌/◌, ◌%◌, ◌<◌, ◌^◌, ◌≡◌, true, List, [], ◌∷◌, ◌++◌, map, ℤ, pos, leb, ltb}
use Rattle.std.proofs.Math.Option.{Option, some, none}
use Rattle.std.proofs.Common.{arith, length-append, ltb-true, SFits}
use Rattle.std.proofs.Math.ListN.{length}
use Rattle.std.specs.Int.{w32}
use Rattle.definitions.specs.Ints.{from_bits, wrapping_sub}
use Rattle.definitions.specs.Outcome.{return}
use Rattle.definitions.specs.Packed.{pack_ints}
use Rattle.definitions.specs.Stream.{stream}
use Rattle.definitions.specs.Tables.{Item, Table, body, sound, rising, find, walk}
use Rattle.definitions.specs.Deltas.{rank, keys, signed_rising, is_in_order, known_size, size_ints, update_ints, updates_ints, delta_ints}
use Rattle.definitions.specs.DeltaMaking.{zip_with, agree, differences, lacking, changes, alike, delta_from}
use Rattle.definitions.specs.DeltaCalls.{sizes_match}
use Rattle.definitions.specs.DeltaReading.{read_delta}
use Rattle.laws.specs.IntLaws.{from_bits-fits, wrapping_sub-fits}
use Rattle.laws.specs.PackLaws.{Whole, nil, cons}
use Rattle.laws.specs.ZipLaws.{length-differences}
use Rattle.laws.specs.TableShape.{both}
use Rattle.laws.specs.TableForm.{length-written}
use Rattle.laws.specs.TableWalk.{rises, length-walk}
use Rattle.laws.specs.TableEach.{Each, no_more, one, each-walk, WholeTable}
use Rattle.laws.specs.DeltaLaws.{delta-read-packed}
use Rattle.laws.specs.DeltaReadBack.{read_back}
use Rattle.laws.specs.DeltaMakingLaws.{delta_from-apart}
use Rattle.laws.specs.DeltaSize.{length-changes, length_keys_of}
use Rattle.laws.specs.DeltaMade.{length-lacking, facts, made-in_order}

-- ---- lists of ints

-- two lists, one behind the other
pub whole_append : {xs ys : List ℤ} → Whole xs → Whole ys → Whole (xs ++ ys)
whole_append nil k = k
whole_append (cons f h) k = cons f (whole_append h k)

-- a number below 2^31
pub whole-number : (n : ℕ) → n < 2 ^ 31 → SFits w32 (pos n)
whole-number n l = record { sfits = l }

-- keys that rise as signed
whole-keys : (low : ℕ) (l : List ℕ) → signed_rising low l ≡ true → Whole (map from_bits l)
unfolding signed_rising
whole-keys low [] e = nil
whole-keys low (k ∷ l) e =
    let p = both (leb low (rank k)) _ e in
    let q = both (ltb k (2 ^ 32)) _ p.1 in
    cons (from_bits-fits (ltb-true _ _ q.0)) (whole-keys (suc (rank k)) l q.1)

-- differences from data of 32 bits, or from any
whole-differences : (o : Option (List ℤ)) (v : List ℤ) → Whole v → Whole (differences o v)
whole-differences none v h = h
whole-differences (some w) v h = zipped v w
  where
    zipped : (v w : List ℤ) → Whole (zip_with wrapping_sub v w)
    zipped [] w = nil
    zipped (x ∷ v) [] = nil
    zipped (x ∷ v) (y ∷ w) = cons (wrapping_sub-fits x y) (zipped v w)

-- ---- updates

-- the ints of an update fit 32 bits
pub record WholeUpdate (x : Item) : Type 0 where
  pub key_below : x.key < 2 ^ 32
  pub short : length x.values < 2 ^ 31
  pub whole : Whole x.values

-- as it is written under known sizes
whole-update : (sizes : List ℤ) (x : Item) → WholeUpdate x → Whole (update_ints sizes x)
unfolding update_ints
whole-update sizes x u =
    let k = u.key_below in
    cons (whole-number (x.key / 65536) (omega arith))
    (cons (whole-number (x.key % 65536) (omega arith)) (whole_append (sized (known_size sizes (x.key / 65536))) u.whole))
  where
    sized : (o : Option ℕ) → Whole (size_ints o (length x.values))
    sized (some m) = nil
    sized none = cons (whole-number (length x.values) u.short) nil

-- several of them
whole-updates : (sizes : List ℤ) {l : List Item} → Each WholeUpdate l → Whole (updates_ints sizes l)
unfolding updates_ints
whole-updates sizes no_more = nil
whole-updates sizes (one {x} u r) = whole_append (whole-update sizes x u) (whole-updates sizes r)

-- the changes to a table of 32-bit ints
whole-changes : (b : Table) (low : ℕ) {t : Table} → WholeTable t → rising low t ≡ true → length (body t) < 2 ^ 31 → alike b t ≡ true → Each WholeUpdate (changes b t)
unfolding changes alike body
whole-changes b low no_more e l a = no_more
whole-changes b low (one {x} {t} w r) e l a =
    let s = rises low x t e in
    let p = both (agree (find x.key b) x.values) _ a in
    let n = length-append x.values (body t) in
    let m : length (differences (find x.key b) x.values) < 2 ^ 31 = omega (arith, length-differences (find x.key b) x.values p.0) in
    one (record {
      key_below = s.whole;
      short = m;
      whole = whole-differences (find x.key b) x.values w;
    })
    (whole-changes b (suc x.key) r s.rest (omega arith) p.1)

-- ---- the delta

module _ (b t : Table) (sb : sound b ≡ true) (st : sound t ≡ true) (h : WholeTable t) (a : alike b t ≡ true) where
  -- all its ints
  pub made-whole : (sizes : List ℤ) → Whole (delta_ints sizes (delta_from b t))
  unfolding delta_ints delta_from is_in_order
  made-whole sizes =
      let kb = facts b sb in
      let kt = facts t st in
      let o = both (signed_rising 0 (keys (walk (lacking t b)))) _ (made-in_order b t sb st) in
      let gone : length (keys (walk (lacking t b))) < 2 ^ 31 = omega (arith, length_keys_of (walk (lacking t b)), length-walk (lacking t b), length-lacking t b, kb.few) in
      let many : length (walk (changes b t)) < 2 ^ 31 = omega (arith, length-walk (changes b t), length-changes b t, kt.few) in
      cons (whole-number _ gone) (cons (whole-number _ many) (cons (whole-number 0 (omega arith))
      (whole_append (whole-keys 0 (keys (walk (lacking t b))) o.0)
      (whole-updates sizes (each-walk WholeUpdate (whole-changes b 0 h kt.rises (omega (arith, kt.short, length-written t)) a))))))

  -- so it is read back from its packed form, without a warning
  pub made-read-packed : (sizes : List ℤ) → sizes_match sizes (delta_from b t).updated ≡ true → read_delta sizes (stream (pack_ints (delta_ints sizes (delta_from b t)))) ≡ return (read_back (delta_from b t))
  made-read-packed sizes m =
      delta-read-packed sizes (delta_from b t) (made-whole sizes) (made-in_order b t sb st) m (delta_from-apart b t)
