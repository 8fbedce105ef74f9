-- Deleted keys and updates, judged one after the other. Assumes nothing.
use Prim.Native.Nat.{ℕ, zero, suc, ◌+◌, ◌<◌, ◌≤◌, ◌^◌}
use native.Mathlib.Numerals.{add-one}
use native.Mathlib.Omega.{arith}
use mathlib.Core.Path.{◌≡◌, refl, sym, ◌∙◌}
use mathlib.Core.Bool.{Bool, true, false, cond, true≢false}
use mathlib.Core.List.{List}
use lib.IntN.{ℤ}
use lib.ListN.{length}
use Rattle.std.proofs.Common.{Some, None}
use Rattle.definitions.specs.Tables.{nat, all}
use Rattle.definitions.specs.Deltas.{rank, num_deleted, num_updated, update_key, update_end, deleted_fits, update_fits, updates_fit}
use Rattle.laws.specs.DeltaShape.{updates_end, Update, update, update-fits, not-update, DeltaShape}
use Rattle.delta_form.specs.Held.{end_of, updates_form_of}

module _ (sizes a : List ℤ) (p : ℕ) where
  pub no_end : (Update sizes a p → ⊥) → None ≡ end_of sizes a p
  unfolding end_of
  no_end h = rw (not-update sizes a p 0 (λ u l. h u))

  pub end_is : Update sizes a p → Some (update_end sizes a p) ≡ end_of sizes a p
  unfolding end_of
  end_is u = rw (update-fits sizes a p 0 u (omega arith))

  -- what the answer means
  pub end-found : (r : ℕ) → Some r ≡ end_of sizes a p → Update sizes a p × (r ≡ update_end sizes a p)
  unfolding end_of
  end-found r e = go (update_fits sizes a p 0) refl e
    where
      go : (b : Bool) → update_fits sizes a p 0 ≡ b → Some r ≡ cond b (Some (update_end sizes a p)) None → Update sizes a p × (r ≡ update_end sizes a p)
      go true q d = let f : r ≡ update_end sizes a p = cc in ((update sizes a p 0 q).0, f)
      go false q d = let z : ◌≡◌ {A = ℕ} 0 1 = cc in absurd (omega arith)

  pub end-missing : None ≡ end_of sizes a p → Update sizes a p → ⊥
  end-missing e u =
      let d : None ≡ Some (update_end sizes a p) = e ∙ sym (end_is u) in
      let z : ◌≡◌ {A = ℕ} 0 1 = cc in absurd (omega arith)

module _ (sizes a : List ℤ) (p low : ℕ) where
  pub none_left : (n : ℕ) → n ≤ 0 → Some p ≡ updates_form_of sizes a p low n
  unfolding updates_form_of updates_fit updates_end
  none_left zero l = refl
  none_left (suc n) l = absurd (omega arith)

  -- the first one does not fit
  pub unfit : (n : ℕ) → 0 < n → (Update sizes a p → low ≤ rank (update_key a p) → ⊥) → None ≡ updates_form_of sizes a p low n
  unfolding updates_form_of updates_fit
  unfit zero l h = absurd (omega arith)
  unfit (suc n) l h = rw (not-update sizes a p low h)

  -- the first one fits
  pub turn : (n m end r : ℕ) → n ≡ m + 1 → Update sizes a p → end ≡ update_end sizes a p → r ≡ rank (update_key a p) → low ≤ r → updates_form_of sizes a end (r + 1) m ≡ updates_form_of sizes a p low n
  unfolding updates_form_of updates_fit updates_end
  turn n m end r l u e f h =
      let d : n ≡ suc m = omega arith in
      let k : low ≤ rank (update_key a p) = omega arith in
      rw (d, e, add-one r, f, update-fits sizes a p low u k)

  -- what the answer means
  pub ended : (n e : ℕ) → Some e ≡ updates_form_of sizes a p low n → (updates_fit sizes a p low n ≡ true) × (e ≡ updates_end sizes a p n)
  unfolding updates_form_of
  ended n e q = go (updates_fit sizes a p low n) q
    where
      go : (b : Bool) → Some e ≡ cond b (Some (updates_end sizes a p n)) None → (b ≡ true) × (e ≡ updates_end sizes a p n)
      go true d = let r : e ≡ updates_end sizes a p n = cc in (refl, r)
      go false d = let z : ◌≡◌ {A = ℕ} 0 1 = cc in absurd (omega arith)

  pub not-ended : (n : ℕ) → None ≡ updates_form_of sizes a p low n → updates_fit sizes a p low n ≡ false
  unfolding updates_form_of
  not-ended n q = go (updates_fit sizes a p low n) q
    where
      go : (b : Bool) → None ≡ cond b (Some (updates_end sizes a p n)) None → b ≡ false
      go true d = let z : ◌≡◌ {A = ℕ} 0 1 = cc in absurd (omega arith)
      go false d = refl

-- ---- both, for ints with k deleted keys and u updates

module _ (sizes a : List ℤ) (k u : ℕ) (dk : k ≡ num_deleted a) (du : u ≡ num_updated a) where
  pub no_keys : false ≡ all (deleted_fits a) k → DeltaShape sizes a → ⊥
  no_keys e h = true≢false (sym h.deleted-fit ∙ sym (rw dk at e))

  pub no-updates : None ≡ updates_form_of sizes a (3 + k) 0 u → DeltaShape sizes a → ⊥
  no-updates e h =
      let f : updates_fit sizes a (3 + num_deleted a) 0 (num_updated a) ≡ false = rw (dk, du) at (not-ended sizes a (3 + k) 0 u e) in
      true≢false (sym h.updates-fit ∙ f)

  pub all-passed : nat a 2 ≡ 0 → k < 2 ^ 32 → u < 2 ^ 32 → 3 + k ≤ length a → true ≡ all (deleted_fits a) k → updates_fit sizes a (3 + k) 0 u ≡ true → DeltaShape sizes a
  all-passed z l m r f g =
      record {
        padding = z;
        few-deleted = omega arith;
        few-updated = omega arith;
        room = omega arith;
        deleted-fit = sym (rw dk at f);
        updates-fit = rw (dk, du) at g;
      }
