-- A delta whose keys rise is found in its own ints, whatever follows them.
use Prim.Native.Nat.{ℕ, zero, suc, ◌+◌, ◌-◌, ◌/◌, ◌%◌, ◌<◌, ◌≤◌, ◌^◌}
use Rattle.std.specs.Prelude.{◌≡◌, Bool, ℤ, pos, take, leb, ltb}
use Rattle.std.proofs.Math.Path.{refl, sym, ap}
use Rattle.std.proofs.Common.{ap₂, ◌∙◌, length-drop, get_or-drop, drop-drop, take_at}
use Rattle.std.proofs.Math.Bool.{true}
use mathlib.Core.List.{List, [], ◌∷◌, ◌++◌, map, append_assoc}
use Rattle.std.proofs.Math.Option.{Option, some, none}
use native.Mathlib.Omega.{arith}
use Rattle.std.proofs.Math.ListN.{length, get_or, drop, length-append, get_or-append}
use Rattle.std.proofs.Math.Seq.{drop_at}
use borrow.Author.Tests.{lt-ltb, le-leb, leb-true, ltb-true, eqb-true}
use Rattle.definitions.specs.Ints.{bits, from_bits}
use Rattle.definitions.specs.Tables.{Item, num, nat, list, all}
use Rattle.definitions.specs.Deltas.{Delta, rank, keys, signed_rising, is_in_order, known_size, update_ints, updates_ints, delta_ints, written_delta, num_deleted, num_updated, deleted_at, update_key, head_length, data_at, size_or, size_at, update_end, update_at, updates, delta_in, lowest_rank, deleted_fits, update_fits, updates_fit, delta_form, delta_of}
use Rattle.definitions.specs.DeltaCalls.{is_size, sizes_match}
use Rattle.laws.specs.IntLaws.{bits_back, digits-below}
use Rattle.laws.specs.ListLaws.{list_ext, list-get_or}
use Rattle.laws.specs.TableShape.{both}
use Rattle.laws.specs.DeltaShape.{nothing_known, two-at-least}
use Rattle.laws.specs.DeltaReadBack.{length-keys, length-delta_ints, many-ints}

-- ---- one update, at place p

module _ (sizes a ys : List ℤ) (x : Item) (p : ℕ) (s : drop p a ≡ update_ints sizes x ++ ys) where
  nat-on : (j : ℕ) → nat a (p + j) ≡ nat (update_ints sizes x ++ ys) j
  unfolding nat
  nat-on j = ap num (sym (get_or-drop p a j (pos 0)) ∙ ap (λ (l : List ℤ). get_or l j (pos 0)) s)

  type-on : nat a p ≡ x.key / 65536
  type-on = let e : p + 0 ≡ p = omega arith in ap (nat a) (sym e) ∙ (nat-on 0 ∙ (unfold update_ints nat num in refl))

  id-on : nat a (p + 1) ≡ x.key % 65536
  id-on = nat-on 1 ∙ (unfold update_ints nat num in refl)

  pub key-on : update_key a p ≡ x.key
  unfolding update_key
  key-on = rw (type-on, id-on) (omega arith)

  abbrev known_on : Option ℕ
  known_on = known_size sizes (x.key / 65536)

  pub data-on : data_at sizes a p ≡ p + head_length known_on
  unfolding data_at
  data-on = rw type-on

  written-size : known_on ≡ none → nat a (p + 2) ≡ length x.values
  written-size e = nat-on 2 ∙ (unfold update_ints in rw e (unfold nat num in refl))

  pub size-on : is_size known_on (length x.values) ≡ true → size_at sizes a p ≡ length x.values
  unfolding size_at
  size-on m = rw type-on (go known_on refl m)
    where
      go : (o : Option ℕ) → known_on ≡ o → is_size o (length x.values) ≡ true → size_or a (p + 2) o ≡ length x.values
      go (some n) e q = eqb-true n (length x.values) q
      go none e q = written-size e

  pub values-on : drop (data_at sizes a p) a ≡ x.values ++ ys
  values-on =
      ap (λ (i : ℕ). drop i a) data-on
      ∙ (sym (drop-drop (head_length known_on) p a) ∙ (ap (drop (head_length known_on)) s ∙ go known_on refl))
    where
      go : (o : Option ℕ) → known_on ≡ o → drop (head_length o) (update_ints sizes x ++ ys) ≡ x.values ++ ys
      go (some n) e = unfold update_ints in rw e
      go none e = unfold update_ints in rw e

  pub end_on : is_size known_on (length x.values) ≡ true → drop (update_end sizes a p) a ≡ ys
  unfolding update_end
  end_on m =
      sym (drop-drop (size_at sizes a p) (data_at sizes a p) a)
      ∙ (ap (drop (size_at sizes a p)) values-on ∙ drop_at x.values ys (size_at sizes a p) (sym (size-on m)))

  pub update-on : is_size known_on (length x.values) ≡ true → update_at sizes a p ≡ x
  update-on m =
      ap₂ (λ (k : ℕ) (v : List ℤ). record { key = k; values = v }) key-on
      (ap (take (size_at sizes a p)) values-on ∙ take_at x.values ys (size_at sizes a p) (sym (size-on m)))

  length-update : length (update_ints sizes x) ≡ head_length known_on + length x.values
  length-update = go known_on refl
    where
      go : (o : Option ℕ) → known_on ≡ o → length (update_ints sizes x) ≡ head_length o + length x.values
      go (some n) e = unfold update_ints in rw e (omega arith)
      go none e = unfold update_ints in rw e (omega arith)

  length-on : length a - p ≡ head_length known_on + length x.values + length ys
  length-on = sym (length-drop p a) ∙ (ap length s ∙ (length-append (update_ints sizes x) ys ∙ rw length-update))

  pub fits_on : (low : ℕ) → is_size known_on (length x.values) ≡ true → x.key < 2 ^ 32 → length x.values < 2 ^ 32 → low ≤ rank x.key → update_fits sizes a p low ≡ true
  unfolding update_fits
  fits_on low m k v l =
      let e : update_end sizes a p ≡ p + head_length known_on + length x.values = unfold update_end in rw (data-on, size-on m) in
      rw (
        key-on,
        type-on,
        id-on,
        size-on m,
        e,
        data-on,
        le-leb (p + 2) (length a) (omega (arith, length-on, two-at-least known_on)),
        lt-ltb (x.key / 65536) 65536 (omega arith),
        lt-ltb (x.key % 65536) 65536 (omega arith),
        le-leb (p + head_length known_on) (length a) (omega (arith, length-on, two-at-least known_on)),
        lt-ltb (length x.values) (2 ^ 32) v,
        le-leb (p + head_length known_on + length x.values) (length a) (omega (arith, length-on, two-at-least known_on)),
        le-leb low (rank x.key) l,
      )

-- ---- all updates

module _ (sizes a rest : List ℤ) where
  pub updates-on : (l : List Item) (p low : ℕ) → drop p a ≡ updates_ints sizes l ++ rest → signed_rising low (keys l) ≡ true → sizes_match sizes l ≡ true → length (updates_ints sizes l) < 2 ^ 32 → (updates sizes a p (length l) ≡ l) × (updates_fit sizes a p low (length l) ≡ true)
  unfolding updates updates_ints updates_fit signed_rising sizes_match
  updates-on [] p low s r m h = (refl, refl)
  updates-on (x ∷ l) p low s r m h =
      let ys = updates_ints sizes l ++ rest in
      let s1 : drop p a ≡ update_ints sizes x ++ ys = s ∙ append_assoc (update_ints sizes x) (updates_ints sizes l) rest in
      let r1 = both (leb low (rank x.key)) _ r in
      let r2 = both (ltb x.key (2 ^ 32)) _ r1.1 in
      let m1 = both (is_size (known_size sizes (x.key / 65536)) (length x.values)) _ m in
      let n = length-append (update_ints sizes x) (updates_ints sizes l) in
      let again = updates-on l (update_end sizes a p) (suc (rank x.key)) (end_on sizes a ys x p s1 m1.0) r2.1 m1.1 (omega arith) in
      let fit = fits_on sizes a ys x p s1 low m1.0 (ltb-true x.key (2 ^ 32) r2.0) (omega (arith, length-update sizes a ys x p s1)) (leb-true low (rank x.key) r1.0) in
      (ap₂ (λ (y : Item) (t : List Item). y ∷ t) (update-on sizes a ys x p s1 m1.0) again.0, rw (fit, key-on sizes a ys x p s1) again.1)

-- ---- the deleted keys

ranks : (low : ℕ) (l : List ℕ) (i : ℕ) → signed_rising low l ≡ true → i < length l → (low ≤ rank (get_or l i 0)) × (get_or l i 0 < 2 ^ 32)
unfolding signed_rising
ranks low [] i e h = absurd (omega arith)
ranks low (k ∷ l) zero e h =
    let p = both (leb low (rank k)) _ e in
    (leb-true low (rank k) p.0, ltb-true k (2 ^ 32) (both (ltb k (2 ^ 32)) _ p.1).0)
ranks low (k ∷ l) (suc i) e h =
    let p = both (leb low (rank k)) _ e in
    let low-is : low ≤ rank k = leb-true low (rank k) p.0 in
    let again = ranks (suc (rank k)) l i (both (ltb k (2 ^ 32)) _ p.1).1 (omega arith) in
    (omega (arith, again.0), again.1)

rank-next : (low : ℕ) (l : List ℕ) (i : ℕ) → signed_rising low l ≡ true → suc i < length l → rank (get_or l i 0) < rank (get_or l (suc i) 0)
unfolding signed_rising
rank-next low [] i e h = absurd (omega arith)
rank-next low (k ∷ l) zero e h =
    let p = both (leb low (rank k)) _ e in
    (ranks (suc (rank k)) l 0 (both (ltb k (2 ^ 32)) _ p.1).1 (omega arith)).0
rank-next low (k ∷ l) (suc i) e h =
    let p = both (leb low (rank k)) _ e in
    rank-next (suc (rank k)) l i (both (ltb k (2 ^ 32)) _ p.1).1 (omega arith)

get_or-keys : (l : List ℕ) (i : ℕ) → i < length l → get_or (map from_bits l) i (pos 0) ≡ from_bits (get_or l i 0)
get_or-keys [] i h = absurd (omega arith)
get_or-keys (k ∷ l) zero h = refl
get_or-keys (k ∷ l) (suc i) h = get_or-keys l i (omega arith)

all_true : (p : ℕ → Bool) (k : ℕ) → ((i : ℕ) → i < k → p i ≡ true) → all p k ≡ true
unfolding all
all_true p zero h = refl
all_true p (suc k) h = rw (all_true p k (λ i l. h i (omega arith)), h k (omega arith))

-- ---- the whole delta

module _ (sizes : List ℤ) (d : Delta) (rest : List ℤ) (o : is_in_order d ≡ true) where
  A : List ℤ
  A = delta_ints sizes d ++ rest

  in_order : (signed_rising 0 d.deleted ≡ true) × (signed_rising 0 (keys d.updated) ≡ true)
  unfolding is_in_order
  in_order = both (signed_rising 0 d.deleted) _ o

  int_at : (i : ℕ) → i < length d.deleted → get_or A (3 + i) (pos 0) ≡ from_bits (get_or d.deleted i 0)
  unfolding A delta_ints
  int_at i h =
      let e : 3 + i ≡ suc (suc (suc i)) = omega arith in
      rw (e, append_assoc (map from_bits d.deleted) (updates_ints sizes d.updated) rest, get_or-append (map from_bits d.deleted) (updates_ints sizes d.updated ++ rest) (pos 0) i (rw (length-keys d.deleted) h), get_or-keys d.deleted i h)

  key-at : (i : ℕ) → i < length d.deleted → deleted_at A i ≡ get_or d.deleted i 0
  unfolding deleted_at
  key-at i h = ap bits (int_at i h) ∙ bits_back (get_or d.deleted i 0) (ranks 0 d.deleted i in_order.0 h).1

  keys-at : list (deleted_at A) (length d.deleted) ≡ d.deleted
  keys-at = list_ext (deleted_at A) (λ i. get_or d.deleted i 0) (length d.deleted) key-at ∙ list-get_or 0 d.deleted

  lowest-at : (i : ℕ) → i < length d.deleted → lowest_rank A i ≤ rank (deleted_at A i)
  unfolding lowest_rank
  lowest-at zero h = omega arith
  lowest-at (suc i) h =
      rw (key-at i (omega arith), key-at (suc i) h) (rank-next 0 d.deleted i in_order.0 h)

  deleted-fits : (i : ℕ) → i < length d.deleted → deleted_fits A i ≡ true
  unfolding deleted_fits
  deleted-fits i h =
      rw (le-leb (lowest_rank A i) (rank (deleted_at A i)) (lowest-at i h))
      (rw (int_at i h) (lt-ltb _ _ (digits-below (get_or d.deleted i 0) (ranks 0 d.deleted i in_order.0 h).1)))

  behind : drop (3 + length d.deleted) A ≡ updates_ints sizes d.updated ++ rest
  unfolding A delta_ints
  behind =
      let e : 3 + length d.deleted ≡ suc (suc (suc (length d.deleted))) = omega arith in
      rw (e, append_assoc (map from_bits d.deleted) (updates_ints sizes d.updated) rest)
      (drop_at (map from_bits d.deleted) (updates_ints sizes d.updated ++ rest) (length d.deleted) (length-keys d.deleted))

  module _ (m : sizes_match sizes d.updated ≡ true) (short : length (delta_ints sizes d) < 2 ^ 32) where
    ups-at : (updates sizes A (3 + length d.deleted) (length d.updated) ≡ d.updated) × (updates_fit sizes A (3 + length d.deleted) 0 (length d.updated) ≡ true)
    ups-at = updates-on sizes A rest d.updated (3 + length d.deleted) 0 behind in_order.1 m (omega (arith, length-delta_ints sizes d))

    counted : (num_deleted A ≡ length d.deleted) × (num_updated A ≡ length d.updated) × (nat A 2 ≡ 0)
    unfolding A delta_ints nat num
    counted = (refl, refl, refl)

    many-updates : length d.updated < 2 ^ 32
    many-updates = omega (arith, length-delta_ints sizes d, many-ints sizes d.updated)

    length-all : length A ≡ length (delta_ints sizes d) + length rest
    unfolding A
    length-all = length-append (delta_ints sizes d) rest

    form-at : delta_form sizes A ≡ true
    unfolding delta_form
    form-at =
        rw (
          counted.0,
          counted.1,
          counted.2,
          le-leb 3 (length A) (omega (arith, length-all, length-delta_ints sizes d)),
          lt-ltb (length d.deleted) (2 ^ 32) (omega (arith, length-delta_ints sizes d)),
          lt-ltb (length d.updated) (2 ^ 32) many-updates,
          le-leb (3 + length d.deleted) (length A) (omega (arith, length-all, length-delta_ints sizes d)),
          all_true (deleted_fits A) (length d.deleted) deleted-fits,
          ups-at.1,
        )

    delta-at : delta_in sizes A ≡ d
    delta-at = rw (counted.0, counted.1, keys-at, ups-at.0)

-- ints that begin with a delta are in form, and hold it
pub delta-held : (sizes : List ℤ) (d : Delta) (rest : List ℤ) → is_in_order d ≡ true → sizes_match sizes d.updated ≡ true → length (delta_ints sizes d) < 2 ^ 32 → (delta_form sizes (delta_ints sizes d ++ rest) ≡ true) × (delta_in sizes (delta_ints sizes d ++ rest) ≡ d)
unfolding A
delta-held sizes d rest o m short = (form-at sizes d rest o m short, delta-at sizes d rest o m short)

none-known : (l : List Item) → sizes_match [] l ≡ true
unfolding sizes_match
none-known [] = refl
none-known (x ∷ l) = rw (nothing_known (x.key / 65536)) (none-known l)

-- an area that begins with a delta's written form holds it
pub delta-back : (d : Delta) (rest : List ℤ) → is_in_order d ≡ true → length (written_delta d) < 2 ^ 32 → delta_of (written_delta d ++ rest) ≡ some d
unfolding delta_of
delta-back d rest o short =
    let h = delta-held [] d rest o (none-known d.updated) short in
    rw (h.0, h.1)
