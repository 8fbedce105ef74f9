-- What ints in form under known sizes hold is what is written there, and its keys rise. Assumes nothing.
use Prim.Native.Nat.{ℕ, zero, suc, ◌+◌, ◌/◌, ◌%◌, ◌<◌, ◌≤◌, ◌^◌}
use Rattle.std.specs.Prelude.{◌≡◌, true, ℤ, take}
use Rattle.std.proofs.Math.Path.{refl, sym, ap}
use Rattle.std.proofs.Common.{◌∙◌, add-one, length-append, take-append-drop, drop-cons, drop-drop, take_at, lt-ltb, le-leb, eq-eqb}
use mathlib.Core.List.{List, [], ◌∷◌, ◌++◌, map, append_assoc}
use Rattle.std.proofs.Math.Option.{Option, some, none}
use native.Mathlib.Omega.{arith}
use Rattle.std.proofs.Math.IntN.{pos}
use Rattle.std.proofs.Math.ListN.{length, get_or, drop, length-drop}
use Rattle.std.proofs.Math.Seq.{get_or-drop, take-suc, length-take-le}
use Rattle.definitions.specs.Ints.{from_bits}
use Rattle.definitions.specs.Tables.{nat, list}
use Rattle.definitions.specs.Deltas.{rank, keys, signed_rising, is_in_order, known_size, size_ints, update_ints, updates_ints, delta_ints, num_deleted, num_updated, deleted_at, update_key, head_length, data_at, size_or, size_at, update_end, update_at, updates, delta_in, lowest_rank, update_fits, updates_fit}
use Rattle.definitions.specs.DeltaCalls.{is_size, sizes_match}
use Rattle.laws.specs.IntLaws.{whole-bits, bits_below}
use Rattle.laws.specs.ListLaws.{list-cons}
use Rattle.laws.specs.TableForm.{length-list, pos-nat}
use Rattle.laws.specs.TableShape.{both}
use Rattle.laws.specs.DeltaShape.{updates_end, end-above, DeletedKey, Update, update, Updates, last, more, DeltaShape, deleted-at, updates-at}

-- ---- one update

module _ (sizes a : List ℤ) (p : ℕ) (u : Update sizes a p) where
  -- its type and its id
  pub type-of : update_key a p / 65536 ≡ nat a p
  unfolding update_key
  type-of = omega (arith, u.id_below)

  pub id-of : update_key a p % 65536 ≡ nat a (p + 1)
  unfolding update_key
  id-of = omega (arith, u.id_below)

  pub key_below : update_key a p < 2 ^ 32
  unfolding update_key
  key_below = omega (arith, u.type-below, u.id_below)

  -- as many differences as its size says
  pub length-values : length (update_at sizes a p).values ≡ size_at sizes a p
  unfolding update_end
  length-values = length-take-le (size_at sizes a p) (drop (data_at sizes a p) a) (simp length-drop (omega (arith, u.ends)))

  -- the ints from place p on, by the head
  abbrev known-here : Option ℕ
  known-here = known_size sizes (nat a p)

  pub head-ints : drop p a ≡ get_or a p (pos 0) ∷ get_or a (p + 1) (pos 0) ∷ drop (p + 2) a
  head-ints =
      let e : suc (suc p) ≡ p + 2 = omega arith in
      rw (drop-cons a p (pos 0) (omega (arith, u.head)), drop-cons a (suc p) (pos 0) (omega (arith, u.head)), e, add-one p)

  pub behind-head : drop (p + 2) a ≡ size_ints known-here (size_at sizes a p) ++ drop (data_at sizes a p) a
  unfolding data_at size_at
  behind-head = go known-here refl
    where
      go : (o : Option ℕ) → known-here ≡ o → drop (p + 2) a ≡ size_ints o (size_or a (p + 2) o) ++ drop (p + head_length o) a
      go (some m) e = refl
      go none e =
          let room : p + 3 ≤ length a = rw e at u.begins in
          let small : nat a (p + 2) < 2 ^ 32 = rw e at u.size_below in
          let s : suc (p + 2) ≡ p + 3 = omega arith in
          rw (drop-cons a (p + 2) (pos 0) (omega arith), s, pos-nat a (p + 2) small)

  values-restore : drop (data_at sizes a p) a ≡ (update_at sizes a p).values ++ drop (update_end sizes a p) a
  unfolding update_end
  values-restore =
      sym (take-append-drop (size_at sizes a p) (drop (data_at sizes a p) a))
      ∙ ap (λ (l : List ℤ). (update_at sizes a p).values ++ l) (drop-drop (size_at sizes a p) (data_at sizes a p) a)

  -- the update is what is written there
  pub update-restores : drop p a ≡ update_ints sizes (update_at sizes a p) ++ drop (update_end sizes a p) a
  unfolding update_ints
  update-restores =
      let s = size_ints known-here (size_at sizes a p) in
      let rest = drop (update_end sizes a p) a in
      rw (length-values, type-of, id-of, pos-nat a p (omega (arith, u.type-below)), pos-nat a (p + 1) (omega (arith, u.id_below)), head-ints, behind-head)
      (ap (λ (l : List ℤ). get_or a p (pos 0) ∷ get_or a (p + 1) (pos 0) ∷ l)
      (ap (λ (l : List ℤ). s ++ l) values-restore ∙ sym (append_assoc s (update_at sizes a p).values rest)))

-- ---- all updates

pub updates-restore : (sizes a : List ℤ) (p n : ℕ) → Updates sizes a p n → drop p a ≡ updates_ints sizes (updates sizes a p n) ++ drop (updates_end sizes a p n) a
unfolding updates_ints updates updates_end
updates-restore sizes a p zero last = refl
updates-restore sizes a p (suc n) (more u us) =
    update-restores sizes a p u
    ∙ (ap (λ (l : List ℤ). update_ints sizes (update_at sizes a p) ++ l) (updates-restore sizes a (update_end sizes a p) n us)
    ∙ sym (append_assoc (update_ints sizes (update_at sizes a p)) (updates_ints sizes (updates sizes a (update_end sizes a p) n)) (drop (updates_end sizes a (update_end sizes a p) n) a)))

-- they end within the ints
pub updates-end : (sizes a : List ℤ) (p n : ℕ) → p ≤ length a → Updates sizes a p n → (p ≤ updates_end sizes a p n) × (updates_end sizes a p n ≤ length a)
unfolding updates_end
updates-end sizes a p zero l last = (omega arith, l)
updates-end sizes a p (suc n) l (more u us) =
    let again = updates-end sizes a (update_end sizes a p) n u.ends us in
    (omega (arith, again.0, end-above sizes a p), again.1)

pub length-updates : (sizes a : List ℤ) (p n : ℕ) → length (updates sizes a p n) ≡ n
unfolding updates
length-updates sizes a p zero = refl
length-updates sizes a p (suc n) = ap suc (length-updates sizes a (update_end sizes a p) n)

-- ---- the whole

-- the first ints: the header, and then the others
take-header : (a : List ℤ) (n : ℕ) → 3 ≤ length a → take (3 + n) a ≡ get_or a 0 (pos 0) ∷ get_or a 1 (pos 0) ∷ get_or a 2 (pos 0) ∷ take n (drop 3 a)
take-header [] n l = absurd (omega arith)
take-header (x ∷ []) n l = absurd (omega arith)
take-header (x ∷ y ∷ []) n l = absurd (omega arith)
take-header (x ∷ y ∷ z ∷ a) n l = let e : 3 + n ≡ suc (suc (suc n)) = omega arith in rw e

map_snoc : (l : List ℕ) (k : ℕ) → map from_bits (l ++ k ∷ []) ≡ map from_bits l ++ from_bits k ∷ []
map_snoc [] k = refl
map_snoc (j ∷ l) k = ap (λ (t : List ℤ). from_bits j ∷ t) (map_snoc l k)

-- the deleted keys are what follows the header
keys-restore : (a : List ℤ) (k : ℕ) → 3 + k ≤ length a → ((i : ℕ) → i < k → DeletedKey a i) → map from_bits (list (deleted_at a) k) ≡ take k (drop 3 a)
unfolding list
keys-restore a zero l h = refl
keys-restore a (suc k) l h =
    let room : k < length (drop 3 a) = simp length-drop (omega arith) in
    let here : from_bits (deleted_at a k) ≡ get_or a (3 + k) (pos 0) = unfold deleted_at in whole-bits (get_or a (3 + k) (pos 0)) (h k (omega arith)).whole in
    rw (map_snoc (list (deleted_at a) k) (deleted_at a k), keys-restore a k (omega arith) (λ i m. h i (omega arith)), take-suc (drop 3 a) k (pos 0) room, get_or-drop 3 a k (pos 0), here)

module _ (sizes a : List ℤ) (h : DeltaShape sizes a) where
  abbrev behind : ℕ
  behind = 3 + num_deleted a

  -- header and deleted keys are at the front, whatever sizes the updates are written under
  pub delta-front : (known : List ℤ) → delta_ints known (delta_in sizes a) ≡ take behind a ++ updates_ints known (updates sizes a behind (num_updated a))
  unfolding delta_ints
  delta-front known =
      let room : 3 ≤ length a = omega (arith, h.room) in
      let zero-there : pos 0 ≡ get_or a 2 (pos 0) = ap pos (sym h.padding) ∙ pos-nat a 2 (omega (arith, h.padding)) in
      rw (
        take-header a (num_deleted a) room,
        ← keys-restore a (num_deleted a) h.room (deleted-at h),
        length-list (deleted_at a) (num_deleted a),
        length-updates sizes a behind (num_updated a),
        pos-nat a 0 h.few-deleted,
        pos-nat a 1 h.few-updated,
        ← zero-there,
      )

  -- ints in form are the delta that they hold, and a rest
  pub delta-restores : a ≡ delta_ints sizes (delta_in sizes a) ++ drop (updates_end sizes a behind (num_updated a)) a
  delta-restores =
      let ups = updates_ints sizes (updates sizes a behind (num_updated a)) in
      let rest = drop (updates_end sizes a behind (num_updated a)) a in
      sym (take-append-drop behind a)
      ∙ (ap (λ (l : List ℤ). take behind a ++ l) (updates-restore sizes a behind (num_updated a) (updates-at h))
      ∙ (sym (append_assoc (take behind a) ups rest) ∙ ap (λ (l : List ℤ). l ++ rest) (sym (delta-front sizes))))

  pub length-delta : length (delta_ints sizes (delta_in sizes a)) ≡ updates_end sizes a behind (num_updated a)
  length-delta =
      let d = delta_ints sizes (delta_in sizes a) in
      let end = updates_end sizes a behind (num_updated a) in
      omega (arith, ap length delta-restores, length-append d (drop end a), length-drop end a, updates-end sizes a behind (num_updated a) h.room (updates-at h))

  -- what is held is what is written there
  pub delta-stands : take (updates_end sizes a behind (num_updated a)) a ≡ delta_ints sizes (delta_in sizes a)
  delta-stands =
      let end = updates_end sizes a behind (num_updated a) in
      ap (take end) delta-restores ∙ take_at (delta_ints sizes (delta_in sizes a)) (drop end a) end length-delta

-- ---- the keys rise

one_more : (low k : ℕ) (l : List ℕ) → low ≤ rank k → k < 2 ^ 32 → signed_rising (suc (rank k)) l ≡ true → signed_rising low (k ∷ l) ≡ true
unfolding signed_rising
one_more low k l r w e = rw (le-leb low (rank k) r, lt-ltb k (2 ^ 32) w, e)

no_more : (low : ℕ) → signed_rising low [] ≡ true
unfolding signed_rising
no_more low = refl

updates-rise : (sizes a : List ℤ) (p low n : ℕ) → updates_fit sizes a p low n ≡ true → signed_rising low (keys (updates sizes a p n)) ≡ true
unfolding updates_fit updates
updates-rise sizes a p low zero e = no_more low
updates-rise sizes a p low (suc n) e =
    let f = both (update_fits sizes a p low) _ e in
    let u = update sizes a p low f.0 in
    let end = update_end sizes a p in
    one_more low (update_key a p) (keys (updates sizes a end n)) u.1 (key_below sizes a p u.0) (updates-rise sizes a end (suc (rank (update_key a p))) n f.1)

-- keys by index rise where each is above the one before
list-rises : (f : ℕ → ℕ) (low k : ℕ) → (0 < k → low ≤ rank (f 0)) → ((i : ℕ) → suc i < k → rank (f i) < rank (f (suc i))) → ((i : ℕ) → i < k → f i < 2 ^ 32) → signed_rising low (list f k) ≡ true
list-rises f low zero b n w = unfold list in no_more low
list-rises f low (suc k) b n w =
    rw (list-cons f k)
    (one_more low (f 0) (list (λ i. f (suc i)) k) (b (omega arith)) (w 0 (omega arith))
    (list-rises (λ i. f (suc i)) (suc (rank (f 0))) k (λ l. n 0 (omega arith)) (λ i l. n (suc i) (omega arith)) (λ i l. w (suc i) (omega arith))))

-- what ints in form hold is in order
pub delta-in-order : (sizes a : List ℤ) → DeltaShape sizes a → is_in_order (delta_in sizes a) ≡ true
unfolding is_in_order
delta-in-order sizes a h =
    let next : (i : ℕ) → suc i < num_deleted a → rank (deleted_at a i) < rank (deleted_at a (suc i)) = λ i l. (unfold lowest_rank in (deleted-at h (suc i) l).order) in
    let whole : (i : ℕ) → i < num_deleted a → deleted_at a i < 2 ^ 32 = λ i l. (unfold deleted_at in bits_below (get_or a (3 + i) (pos 0)) (deleted-at h i l).whole) in
    rw (list-rises (deleted_at a) 0 (num_deleted a) (λ l. omega arith) next whole)
    (updates-rise sizes a (3 + num_deleted a) 0 (num_updated a) h.updates-fit)

-- ---- the known sizes are those of the updates

own-size : (a : List ℤ) (p : ℕ) (o : Option ℕ) → is_size o (size_or a p o) ≡ true
own-size a p (some m) = eq-eqb m m refl
own-size a p none = refl

updates-match : (sizes a : List ℤ) (p n : ℕ) → Updates sizes a p n → sizes_match sizes (updates sizes a p n) ≡ true
unfolding sizes_match updates
updates-match sizes a p zero last = refl
updates-match sizes a p (suc n) (more u us) =
    let here : is_size (known_size sizes (nat a p)) (size_at sizes a p) ≡ true = unfold size_at in own-size a (p + 2) (known_size sizes (nat a p)) in
    rw (type-of sizes a p u, length-values sizes a p u, here) (updates-match sizes a (update_end sizes a p) n us)

pub delta-sizes-match : (sizes a : List ℤ) → DeltaShape sizes a → sizes_match sizes (delta_in sizes a).updated ≡ true
delta-sizes-match sizes a h = updates-match sizes a (3 + num_deleted a) (num_updated a) (updates-at h)
