-- Updates of deleted keys, counted one after the other. Assumes nothing.
use Prim.Native.Nat.{ℕ, zero, suc, ◌+◌, ◌-◌, ◌<◌, ◌≤◌}
use mathlib.Core.Path.{◌≡◌, refl, sym, ap, ◌∙◌}
use mathlib.Core.Bool.{Bool, true, false, cond, ◌&&◌}
use mathlib.Core.List.{List, [], ◌∷◌}
use native.Mathlib.Omega.{arith}
use lib.IntN.{ℤ}
use lib.Dec.{ltb, eqb}
use Rattle.definitions.specs.Warnings.{Counts, DeleteUpdate, one, plus}
use Rattle.definitions.specs.Warnings as Warnings
use Rattle.definitions.specs.Tables.{Item, list}
use Rattle.definitions.specs.Deltas.{rank, num_deleted, deleted_at, update_key, update_end, updates, delta_in, update_fits, updates_fit}
use Rattle.definitions.specs.DeltaReading.{elem}
use Rattle.laws.specs.Tests.{at_most_one}
use Rattle.laws.specs.TableShape.{both}
use Rattle.laws.specs.WarningLaws.{plus_none, plus_assoc}
use Rattle.laws.specs.DeltaShape.{DeletedKey, Update, update}
use Rattle.laws.specs.DeltaRestores.{key_below}
use Rattle.laws.specs.DeltaReadBack.{delete_updates}
use Rattle.delta_form.specs.Held.{HeldDelta}
use Rattle.format.specs.Sources.{deleted_counts}
use Rattle.delta_form.specs.Reached.{Under, Reached, elem-reached}

-- one more, or not
one_more : (t : ℕ) (b : Bool) → plus (deleted_counts t) (cond b (one DeleteUpdate) Warnings.none) ≡ deleted_counts (t + cond b 1 0)
one_more t true = refl
one_more t false = refl

module _ (sizes a : List ℤ) (k u : ℕ) where
  abbrev counted : ℕ → ℕ → Counts
  counted p n = delete_updates (list (deleted_at a) k) (updates sizes a p n)

  -- n updates from place p on are left; the deleted keys before the i-th are below them
  pub record Counting (total i p n : ℕ) : Type 0 where
    pub low : ℕ
    pub fit : updates_fit sizes a p low n ≡ true
    pub few : i ≤ k
    pub under : Under a i low
    pub small : total + n ≤ u
    pub sum : plus (deleted_counts total) (counted p n) ≡ counted (3 + k) u

  module _ {total i p n : ℕ} (c : Counting total i p n) where
    -- the first of the updates left
    first_fits : (m : ℕ) → updates_fit sizes a p c.low m ≡ true → 0 < m → (update_fits sizes a p c.low ≡ true) × (updates_fit sizes a (update_end sizes a p) (suc (rank (update_key a p))) (m - 1) ≡ true)
    unfolding updates_fit
    first_fits zero e l = absurd (omega arith)
    first_fits (suc m) e l = let d : suc m - 1 ≡ m = omega arith in rw d (both (update_fits sizes a p c.low) _ e)

    pub next-update : 0 < n → Update sizes a p
    next-update l = (update sizes a p c.low (first_fits n c.fit l).0).0

    -- the keys passed are below it
    pub passed : (key : ℕ) → 0 < n → key ≡ update_key a p → Under a i (rank key)
    passed key l e =
        let d = (update sizes a p c.low (first_fits n c.fit l).0).1 in
        let r = ap rank e in
        record { below = λ j m. let b = c.under.below j m in omega arith }

    first_counted : (m : ℕ) → 0 < m → counted p m ≡ plus (cond (elem (update_key a p) (list (deleted_at a) k)) (one DeleteUpdate) Warnings.none) (counted (update_end sizes a p) (m - 1))
    unfolding updates delete_updates
    first_counted zero l = absurd (omega arith)
    first_counted (suc m) l = let d : suc m - 1 ≡ m = omega arith in rw d

    pub one-counted : (key j end r : ℕ) (b : Bool) → 0 < n → ((q : ℕ) → q < k → DeletedKey a q) → key ≡ update_key a p → Reached a k j (rank key) → b ≡ (ltb j k && eqb (deleted_at a j) key) → r ≡ cond b 1 0 → end ≡ update_end sizes a p → Counting (total + r) j end (n - 1)
    one-counted key j end r b l keys e f g d q =
        let x = update_key a p in
        let un = f.under in
        let rk = ap rank e in
        let is : elem x (list (deleted_at a) k) ≡ b = elem-reached a k keys j x (key_below sizes a p (next-update l)) (rw (← e) f) ∙ sym (g ∙ ap (λ (h : ℕ). ltb j k && eqb (deleted_at a j) h) e) in
        let rest = counted (update_end sizes a p) (n - 1) in
        let more : plus (deleted_counts (total + r)) rest ≡ plus (deleted_counts total) (counted p n) =
        ap (λ (w : Counts). plus w rest) (ap (λ (m : ℕ). deleted_counts (total + m)) d ∙ sym (one_more total b))
        ∙ (plus_assoc (deleted_counts total) (cond b (one DeleteUpdate) Warnings.none) rest
        ∙ ap (plus (deleted_counts total)) (sym (first_counted n l ∙ ap (λ (t : Bool). plus (cond t (one DeleteUpdate) Warnings.none) rest) is))) in
        record {
          low = suc (rank x);
          fit = rw q (first_fits n c.fit l).1;
          few = f.few;
          under = record { below = λ i m. let z = un.below i m in omega arith };
          small = omega (arith, c.small, at_most_one b);
          sum = rw q (more ∙ c.sum);
        }

    none-counted : (m : ℕ) → m ≤ 0 → counted p m ≡ Warnings.none
    unfolding updates delete_updates
    none-counted zero l = refl
    none-counted (suc m) l = absurd (omega arith)

    pub all-counted : HeldDelta sizes a k u → n ≤ 0 → (delete_updates (delta_in sizes a).deleted (delta_in sizes a).updated ≡ deleted_counts total) × (total ≤ u)
    all-counted h l =
        let e : counted (3 + k) u ≡ deleted_counts total = sym c.sum ∙ (ap (plus (deleted_counts total)) (none-counted n l) ∙ plus_none (deleted_counts total)) in
        (rw (h.deleted-is, h.updated-is) at e, omega (arith, c.small))

-- without deleted keys no update is of one
pub none-deleted : (l : List Item) → delete_updates [] l ≡ deleted_counts 0
unfolding delete_updates
none-deleted [] = refl
none-deleted (x ∷ l) = rw (none-deleted l)

-- of a delta that has none
pub no-crossings : (sizes a : List ℤ) (k u : ℕ) → HeldDelta sizes a k u → k ≡ 0 → (delete_updates (delta_in sizes a).deleted (delta_in sizes a).updated ≡ deleted_counts 0) × (0 ≤ u)
unfolding list
no-crossings sizes a k u h z =
    let e : num_deleted a ≡ 0 = sym h.deleted-is ∙ z in
    (ap (λ (n : ℕ). delete_updates (list (deleted_at a) n) (delta_in sizes a).updated) e ∙ none-deleted (delta_in sizes a).updated, omega arith)
