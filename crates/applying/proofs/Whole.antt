-- The two passes of the merge, and that they write the table that the delta makes. Assumes nothing.
use Prim.Native.Nat.{ℕ, ◌+◌, ◌-◌, ◌*◌, ◌≤◌, ◌^◌}
use mathlib.Core.Path.{◌≡◌, sym, ap, ◌∙◌, subst}
use mathlib.Core.Bool.{true}
use mathlib.Core.List.{List, [], ◌∷◌, ◌++◌}
use native.Mathlib.Omega.{arith}
use lib.IntN.{ℤ, pos}
use lib.ListN.{length, length-append, set, length-set}
use Rattle.definitions.specs.Areas.{lay, lay_at}
use Rattle.definitions.specs.Tables.{Item, Table, body, written, items}
use Rattle.definitions.specs.Deltas.{signed_rising, is_in_order, updates, delta_in}
use Rattle.definitions.specs.DeltaMaking.{alike}
use Rattle.laws.specs.AreaLaws.{lay_at-set, lay_at-nothing}
use Rattle.laws.specs.TableShape.{both}
use Rattle.laws.specs.TableForm.{body-append, length-written}
use Rattle.laws.specs.TableFind.{Place}
use Rattle.laws.specs.DeltaRestores.{delta-in-order}
use Rattle.laws.specs.ApplyJudging.{Judged, good, SizesOf, judge_delta, applied_table, delta-judged}
use Rattle.laws.specs.ApplyHalves.{HighBefore, NextLow, in_two, in_halves, items-rise, good-alike, alike-parts, updates-front}
use Rattle.laws.specs.ApplyWriting.{wrote, table-written}
use Rattle.table.specs.Held.{Held}
use Rattle.delta_form.specs.Held.{HeldDelta}
use Rattle.applying.specs.Merging.{rest_of, Going}
use Rattle.applying.specs.declared.checked.Merge.{Merge}

-- two counts at the front of an area
pub two-counts : (o o₁ o₂ : List ℤ) (x y : ℤ) → 2 ≤ length o → o₁ ≡ set o 0 x → o₂ ≡ set o₁ 1 y → o₂ ≡ lay_at 0 (x ∷ y ∷ []) o
two-counts o o₁ o₂ x y l e f =
    let n : length o₁ ≡ length o = ap length e ∙ length-set o 0 x in
    sym (lay_at-set 0 x (y ∷ []) o (omega arith) ∙ (ap (lay_at 1 (y ∷ [])) (sym e) ∙ (lay_at-set 1 y [] o₁ (omega arith) ∙ (lay_at-nothing (1 + 1) (set o₁ 1 y) ∙ sym f))))

module _ (base : List ℤ) (nb : ℕ) (hb : Held base nb) (delta : List ℤ) (k u : ℕ) (hd : HeldDelta [] delta k u) (n ints : ℕ) (ok : judge_delta (items base) (delta_in [] delta) ≡ good n ints) where
  abbrev table : Table
  table = applied_table (items base) (delta_in [] delta)

  -- the sizes are those of the table
  sizes : (n ≡ length table) × (ints ≡ length (written table))
  unfolding is_in_order
  sizes =
      subst (λ (j : Judged). SizesOf j table) ok
      (delta-judged (items base) (delta_in [] delta) (items-rise base hb.shape) (both (signed_rising 0 (delta_in [] delta).deleted) _ (delta-in-order [] delta hd.shape)).1).1

  module _ (h : ℕ) (ph : Place base (2 ^ 31) h) (p left : ℕ) (hi : HighBefore delta (3 + k) u p left) (lo : NextLow (updates [] delta p left)) where
    -- the two passes
    abbrev first : Merge
    first = record { item = 0; update = p; left = left; hint = 0; items = 0; at = 2 + n }

    abbrev second : ℕ → ℕ → Merge
    second m w = record { item = h; update = 3 + k; left = u - left; hint = 0; items = m; at = w }

    abbrev one : Table
    one = rest_of base h delta k first

    abbrev two : ℕ → ℕ → Table
    two m w = rest_of base nb delta k (second m w)

    -- they make the table
    both-make : (m w : ℕ) → table ≡ one ++ two m w
    unfolding rest_of
    both-make m w =
        let e : h - 0 ≡ h = omega arith in
        in_halves base hb.shape h ph delta k u p left hd.shape hd.deleted-is hd.updated-is hi lo
        ∙ rw (e, ← hd.deleted-is, ← hb.count-is)

    module _ (m w : ℕ) where
      lengths : (n ≡ length one + length (two m w)) × (ints ≡ 2 + n + (length (body one) + length (body (two m w))))
      lengths =
          let t = both-make m w in
          let a : length table ≡ length one + length (two m w) = ap length t ∙ length-append one (two m w) in
          let b : length (body table) ≡ length (body one) + length (body (two m w)) = ap (λ (l : Table). length (body l)) t ∙ (ap length (body-append one (two m w)) ∙ length-append (body one) (body (two m w))) in
          (omega (arith, sizes.0), omega (arith, sizes.0, sizes.1, length-written table))

    -- the updates of both are as long as the base's data
    long-enough : (alike (items base) (updates [] delta (3 + k) (u - left)) ≡ true) × (alike (items base) (updates [] delta p left) ≡ true)
    long-enough =
        let a = good-alike (delta_in [] delta).deleted (items base) (delta_in [] delta).updated _ _ n ints ok in
        let e : (delta_in [] delta).updated ≡ updates [] delta (3 + k) (u - left) ++ updates [] delta p left = rw (← hd.deleted-is, ← hd.updated-is) (in_two hi) in
        alike-parts (items base) (updates [] delta (3 + k) (u - left)) (updates [] delta p left) (subst (λ (l : List Item). alike (items base) l ≡ true) e a)

    -- there is room for each pass
    pub first-going : (long : ℕ) → ints ≤ long → ints ≤ 16384 → Going base nb h delta k n long first
    first-going long l s =
        let q = lengths 0 0 in
        record {
          item-within = omega arith;
          to-within = omega (arith, ph.within, hb.count-is);
          lie = hi.lie;
          same-long = long-enough.1;
          hint = omega arith;
          room = record { few = omega (arith, q.0); behind = omega arith; room = omega (arith, q.1); short = omega (arith, q.1) };
        }

    pub second-going : (m w long : ℕ) → m ≡ 0 + length one → w ≡ 2 + n + length (body one) → ints ≤ long → ints ≤ 16384 → Going base nb nb delta k n long (second m w)
    second-going m w long em ew l s =
        let q = lengths m w in
        record {
          item-within = omega (arith, ph.within, hb.count-is);
          to-within = omega arith;
          lie = updates-front (u - left) hd.updates (omega arith);
          same-long = long-enough.0;
          hint = omega arith;
          room = record { few = omega (arith, q.0); behind = omega arith; room = omega (arith, q.1); short = omega (arith, q.1) };
        }

    -- the counts and both passes write it
    pub whole-written : (m w : ℕ) (o o₁ o₂ o₃ o₄ : List ℤ) → ints ≤ length o → o₁ ≡ set o 0 (pos (4 * (ints - (2 + n)))) → o₂ ≡ set o₁ 1 (pos n) → o₃ ≡ wrote n o₂ 0 (2 + n) one → m ≡ 0 + length one → w ≡ 2 + n + length (body one) → o₄ ≡ wrote n o₃ m w (two m w) → o₄ ≡ lay_at 0 (written table) o
    whole-written m w o o₁ o₂ o₃ o₄ l e₁ e₂ e₃ em ew e₄ =
        let q = lengths m w in
        let v : ints - (2 + n) ≡ length (body one) + length (body (two m w)) = omega (arith, q.1) in
        let e : o₂ ≡ lay_at 0 (pos (4 * (length (body one) + length (body (two m w)))) ∷ pos n ∷ []) o = two-counts o o₁ o₂ (pos (4 * (ints - (2 + n)))) (pos n) (omega (arith, q.1)) e₁ e₂ ∙ ap (λ (x : ℕ). lay_at 0 (pos (4 * x) ∷ pos n ∷ []) o) v in
        table-written o o₂ o₃ o₄ n m w one (two m w) q.0 e e₃ em ew e₄ ∙ ap (λ (t : Table). lay (written t) o) (sym (both-make m w))

    -- the data is no more than the ints
    pub front-within : (2 + n ≤ ints) × (left ≤ u)
    front-within = let q = lengths 0 0 in (omega (arith, q.1), hi.few)
