-- What is known about ints in form under known sizes, place by place. Assumes nothing.
use Rattle.std.specs.Prelude.{ℕ, zero, suc, ◌+◌, ◌-◌, ◌<◌, ◌≤◌, ◌^◌, ◌≡◌, true, false, List, [], ℤ, pos, length, get_or, ltb, leb, eqb}
use Rattle.std.proofs.Math.Option.{Option, some, none}
use Rattle.std.proofs.Math.Numerals.{add-one}
use Rattle.std.proofs.Common.{arith}
use Rattle.std.specs.Int.Signed.{mag}
use borrow.Author.Tests.{ltb-true, leb-true, eqb-true, lt-ltb, le-ltb, le-leb, eq-eqb}
use Rattle.definitions.specs.Tables.{nat, all}
use Rattle.definitions.specs.Deltas.{rank, known_size, num_deleted, num_updated, deleted_at, update_key, head_length, data_at, size_at, update_end, lowest_rank, deleted_fits, update_fits, updates_fit, delta_form}
use Rattle.laws.specs.TableShape.{both, fails, all-holds}

-- the place behind n updates from place p on
unfoldable pub updates_end : List ℤ → List ℤ → ℕ → ℕ → ℕ
updates_end sizes a p zero = p
updates_end sizes a p (suc n) = updates_end sizes a (update_end sizes a p) n

-- the i-th deleted key is an int above the one before, as signed
pub record DeletedKey (a : List ℤ) (i : ℕ) : Type 0 where
  pub order : lowest_rank a i ≤ rank (deleted_at a i)
  pub whole : mag (get_or a (3 + i) (pos 0)) < 2 ^ 31

-- the update at place p is within the ints, and its type and id have 16 bits
pub record Update (sizes a : List ℤ) (p : ℕ) : Type 0 where
  pub head : p + 2 ≤ length a
  pub type-below : nat a p < 65536
  pub id_below : nat a (p + 1) < 65536
  pub begins : data_at sizes a p ≤ length a
  pub size_below : size_at sizes a p < 2 ^ 32
  pub ends : update_end sizes a p ≤ length a

-- n updates follow one another from place p on
pub data Updates (sizes a : List ℤ) : ℕ → ℕ → Type 0 where
  last : {p : ℕ} → Updates sizes a p zero
  more : {p n : ℕ} → Update sizes a p → Updates sizes a (update_end sizes a p) n → Updates sizes a p (suc n)

-- ints in form: the tests on the header, on the deleted keys and on the updates
pub record DeltaShape (sizes a : List ℤ) : Type 0 where
  pub padding : nat a 2 ≡ 0
  pub few-deleted : num_deleted a < 2 ^ 32
  pub few-updated : num_updated a < 2 ^ 32
  pub room : 3 + num_deleted a ≤ length a
  pub deleted-fit : all (deleted_fits a) (num_deleted a) ≡ true
  pub updates-fit : updates_fit sizes a (3 + num_deleted a) 0 (num_updated a) ≡ true

-- ---- no known sizes, as in an area

pub nothing_known : (t : ℕ) → known_size [] t ≡ none
unfolding known_size
nothing_known t = rw (le-ltb t 0 (omega arith))

module _ (a : List ℤ) (p : ℕ) where
  pub area-data : data_at [] a p ≡ p + 3
  unfolding data_at
  area-data = rw (nothing_known (nat a p))

  pub area-size : size_at [] a p ≡ nat a (p + 2)
  unfolding size_at
  area-size = rw (nothing_known (nat a p))

  pub area-end : update_end [] a p ≡ p + 3 + nat a (p + 2)
  unfolding update_end
  area-end = rw (area-data, area-size)

-- an update has a type and an id
pub two-at-least : (o : Option ℕ) → 2 ≤ head_length o
two-at-least (some n) = omega arith
two-at-least none = omega arith

pub end-above : (sizes a : List ℤ) (p : ℕ) → p + 2 ≤ update_end sizes a p
unfolding update_end data_at
end-above sizes a p = omega (arith, two-at-least (known_size sizes (nat a p)))

-- ---- the deleted keys

module _ (a : List ℤ) (i : ℕ) where
  pub deleted-key : deleted_fits a i ≡ true → DeletedKey a i
  unfolding deleted_fits
  deleted-key e =
      let p = both (leb (lowest_rank a i) (rank (deleted_at a i))) _ e in
      record { order = leb-true _ _ p.0; whole = ltb-true _ _ p.1 }

  pub key_fits : DeletedKey a i → deleted_fits a i ≡ true
  unfolding deleted_fits
  key_fits k = rw (le-leb _ _ k.order, lt-ltb _ _ k.whole)

  pub not_key : (DeletedKey a i → ⊥) → deleted_fits a i ≡ false
  not_key h = fails (deleted_fits a i) (λ e. h (deleted-key e))

  pub lowest_rank-next : lowest_rank a (i + 1) ≡ suc (rank (deleted_at a i))
  unfolding lowest_rank
  lowest_rank-next = rw add-one

-- ---- one update

module _ (sizes a : List ℤ) (p low : ℕ) where
  pub update : update_fits sizes a p low ≡ true → Update sizes a p × (low ≤ rank (update_key a p))
  unfolding update_fits
  update e =
      let h = both (leb (p + 2) (length a)) _ e in
      let t = both (ltb (nat a p) 65536) _ h.1 in
      let i = both (ltb (nat a (p + 1)) 65536) _ t.1 in
      let d = both (leb (data_at sizes a p) (length a)) _ i.1 in
      let s = both (ltb (size_at sizes a p) (2 ^ 32)) _ d.1 in
      let n = both (leb (update_end sizes a p) (length a)) _ s.1 in (
        record {
          head = leb-true _ _ h.0;
          type-below = ltb-true _ _ t.0;
          id_below = ltb-true _ _ i.0;
          begins = leb-true _ _ d.0;
          size_below = ltb-true _ _ s.0;
          ends = leb-true _ _ n.0;
        },
        leb-true _ _ n.1,
      )

  pub update-fits : Update sizes a p → low ≤ rank (update_key a p) → update_fits sizes a p low ≡ true
  unfolding update_fits
  update-fits u l =
      rw (
        le-leb _ _ u.head,
        lt-ltb _ _ u.type-below,
        lt-ltb _ _ u.id_below,
        le-leb _ _ u.begins,
        lt-ltb _ _ u.size_below,
        le-leb _ _ u.ends,
        le-leb _ _ l,
      )

  pub not-update : (Update sizes a p → low ≤ rank (update_key a p) → ⊥) → update_fits sizes a p low ≡ false
  not-update h = fails (update_fits sizes a p low) (λ e. let u = update e in h u.0 u.1)

-- ---- all updates

-- updates that fit follow one another
pub updates-lie : (sizes a : List ℤ) (p low n : ℕ) → updates_fit sizes a p low n ≡ true → Updates sizes a p n
unfolding updates_fit
updates-lie sizes a p low zero e = last
updates-lie sizes a p low (suc n) e =
    let h = both (update_fits sizes a p low) _ e in
    more (update sizes a p low h.0).0 (updates-lie sizes a (update_end sizes a p) (suc (rank (update_key a p))) n h.1)

module _ {sizes a : List ℤ} where
  -- the first of them
  pub first-update : {p n : ℕ} → Updates sizes a p n → 0 < n → Update sizes a p
  first-update last l = absurd (omega arith)
  first-update (more u us) l = u

  -- and those behind it
  pub other-updates : {p n : ℕ} → Updates sizes a p n → 0 < n → Updates sizes a (update_end sizes a p) (n - 1)
  other-updates last l = absurd (omega arith)
  other-updates (more {n = n} u us) l = let e : suc n - 1 ≡ n = omega arith in rw e us

-- ---- the whole

pub delta-shape : (sizes a : List ℤ) → delta_form sizes a ≡ true → DeltaShape sizes a
unfolding delta_form
delta-shape sizes a e =
    let l = both (leb 3 (length a)) _ e in
    let z = both (eqb (nat a 2) 0) _ l.1 in
    let d = both (ltb (num_deleted a) (2 ^ 32)) _ z.1 in
    let u = both (ltb (num_updated a) (2 ^ 32)) _ d.1 in
    let r = both (leb (3 + num_deleted a) (length a)) _ u.1 in
    let k = both (all (deleted_fits a) (num_deleted a)) _ r.1 in
    record {
      padding = eqb-true _ _ z.0;
      few-deleted = ltb-true _ _ d.0;
      few-updated = ltb-true _ _ u.0;
      room = leb-true _ _ r.0;
      deleted-fit = k.0;
      updates-fit = k.1;
    }

pub shape-form : (sizes a : List ℤ) → DeltaShape sizes a → delta_form sizes a ≡ true
unfolding delta_form
shape-form sizes a h =
    rw (
      le-leb 3 (length a) (omega (arith, h.room)),
      eq-eqb _ _ h.padding,
      lt-ltb _ _ h.few-deleted,
      lt-ltb _ _ h.few-updated,
      le-leb _ _ h.room,
      h.deleted-fit,
      h.updates-fit,
    )

pub not-delta : (sizes a : List ℤ) → (DeltaShape sizes a → ⊥) → delta_form sizes a ≡ false
not-delta sizes a h = fails (delta_form sizes a) (λ e. h (delta-shape sizes a e))

module _ {sizes a : List ℤ} (h : DeltaShape sizes a) where
  -- the deleted keys one by one
  pub deleted-at : (i : ℕ) → i < num_deleted a → DeletedKey a i
  deleted-at i l = deleted-key a i (all-holds (deleted_fits a) i (num_deleted a) l h.deleted-fit)

  -- the updates one behind the other
  pub updates-at : Updates sizes a (3 + num_deleted a) (num_updated a)
  updates-at = updates-lie sizes a (3 + num_deleted a) 0 (num_updated a) h.updates-fit
