-- A base and a delta in their areas, each in two halves: keys below 2^31, and the others. Assumes nothing.
use Rattle.std.specs.Prelude.{ℕ, zero, suc, ◌+◌, ◌-◌, ◌<◌, ◌≤◌, ◌^◌, ◌≡◌, Bool, cond, false, ◌&&◌, ℤ, pos, length, get_or, ltb, leb}
use Rattle.std.proofs.Math.Path.{refl, ap, ap₂, subst}
use Rattle.std.proofs.Common.{sym, ◌∙◌}
use Rattle.std.proofs.Math.Bool.{true}
use mathlib.Core.List.{List, [], ◌∷◌, ◌++◌}
use Rattle.std.proofs.Math.Option.{none}
use native.Mathlib.Omega.{arith}
use Rattle.definitions.specs.Refusals.{too_long_snap, too_many_items}
use Rattle.definitions.specs.Tables.{Item, Table, written, rising, sound, list, count, start, key_at, item_at, items, find, is_some}
use Rattle.definitions.specs.Deltas.{rank, keys, signed_rising, is_in_order, num_deleted, num_updated, update_end, update_at, updates, delta_in}
use Rattle.definitions.specs.DeltaMaking.{agree, alike}
use Rattle.definitions.specs.Applying.{kept}
use Rattle.laws.specs.IntLaws.{bits_below}
use Rattle.laws.specs.TableShape.{Shape, both, keys-rise}
use Rattle.laws.specs.TableFind.{Place}
use Rattle.laws.specs.TableRoundTrip.{items-sound}
use Rattle.laws.specs.TableWalk.{rise}
use Rattle.laws.specs.DeltaShape.{updates_end, Updates, last, more, DeltaShape}
use Rattle.laws.specs.DeltaRestores.{delta-in-order}
use Rattle.laws.specs.TableSettled.{find-nil, find-tail}
use Rattle.laws.specs.ApplyJudging.{bad, good, and_then, kept_of, judge_length, judge_update, judge_updates, updated_table, applied_table, signed-rises}
use Rattle.laws.specs.ApplyMerge.{merged, Lower, merges}

-- ---- items from a place on

-- f i, f (i + 1), .., k of them
unfoldable pub run : (ℕ → Item) → ℕ → ℕ → Table
run f i zero = []
run f i (suc k) = f i ∷ run f (i + 1) k

pub run-add : (f : ℕ → Item) (i m j : ℕ) → run f i (m + j) ≡ run f i m ++ run f (i + m) j
unfolding run
run-add f i zero j = let e : 0 + j ≡ j = omega arith in let d : i + 0 ≡ i = omega arith in rw (e, d)
run-add f i (suc m) j =
    let e : suc m + j ≡ suc (m + j) = omega arith in
    let d : i + suc m ≡ i + 1 + m = omega arith in
    rw (e, d) (ap (λ (t : Table). f i ∷ t) (run-add f (i + 1) m j))

list-run : (f : ℕ → Item) (k : ℕ) → list f k ≡ run f 0 k
unfolding list
list-run f zero = unfold run in refl
list-run f (suc k) =
    let e : suc k ≡ k + 1 = omega arith in
    rw (list-run f k, e, run-add f 0 k 1) (unfold run in ap (λ (i : ℕ). run f 0 k ++ f i ∷ []) (omega arith))

rising-run : (f : ℕ → Item) (low i k : ℕ) → ((j : ℕ) → i ≤ j → j < i + k → (f j).key < 2 ^ 32) → ((j l : ℕ) → i ≤ j → j < l → l < i + k → (f j).key < (f l).key) → (0 < k → low ≤ (f i).key) → rising low (run f i k) ≡ true
unfolding run
rising-run f low i zero u r l = unfold rising in refl
rising-run f low i (suc k) u r l =
    rise low (f i) (run f (i + 1) k) (record {
      from = l (omega arith);
      whole = u i (omega arith) (omega arith);
      rest = rising-run f (suc (f i).key) (i + 1) k (λ j a b. u j (omega arith) (omega arith)) (λ j m a b c. r j m (omega arith) b (omega arith)) (λ m. r i (i + 1) (omega arith) (omega arith) (omega arith));
    })

none-run : (f : ℕ → Item) (x i k : ℕ) → ((j : ℕ) → i ≤ j → j < i + k → (f j).key < x) → find x (run f i k) ≡ none
unfolding run
none-run f x i zero h = find-nil x
none-run f x i (suc k) h =
    find-tail x (f i) (run f (i + 1) k) (λ e. omega (arith, h i (omega arith) (omega arith))) ∙ none-run f x (i + 1) k (λ j a b. h j (omega arith) (omega arith))

-- ---- updates from a place on

pub updates-add : (sizes a : List ℤ) (p m n : ℕ) → updates sizes a p (m + n) ≡ updates sizes a p m ++ updates sizes a (updates_end sizes a p m) n
unfolding updates updates_end
updates-add sizes a p zero n = let e : 0 + n ≡ n = omega arith in rw e
updates-add sizes a p (suc m) n =
    let e : suc m + n ≡ suc (m + n) = omega arith in
    rw e (ap (λ (t : List Item). update_at sizes a p ∷ t) (updates-add sizes a (update_end sizes a p) m n))

pub end-next : (sizes a : List ℤ) (p m : ℕ) → updates_end sizes a p (m + 1) ≡ update_end sizes a (updates_end sizes a p m)
unfolding updates_end
end-next sizes a p zero = refl
end-next sizes a p (suc m) = let e : suc m + 1 ≡ suc (m + 1) = omega arith in rw e (end-next sizes a (update_end sizes a p) m)

pub updates-front : {sizes a : List ℤ} {p n : ℕ} (m : ℕ) → Updates sizes a p n → m ≤ n → Updates sizes a p m
updates-front zero h l = last
updates-front (suc m) last l = absurd (omega arith)
updates-front {sizes = sizes} {a = a} {p = p} (suc m) (more {n = n} u us) l =
    more u (updates-front {p = update_end sizes a p} m us (omega arith))

-- ---- updates in two halves

-- every key is negative as signed
abbrev pub AllHigh : List Item → Type 0
AllHigh [] = Unit {0}
AllHigh (x ∷ t) = (2 ^ 31 ≤ x.key) × AllHigh t

high-more : (t : List Item) (x : Item) → AllHigh t → 2 ^ 31 ≤ x.key → AllHigh (t ++ x ∷ [])
high-more [] x h l = (l, tt)
high-more (y ∷ t) x h l = (h.0, high-more t x h.1 l)

-- the next key is not, where there is one
abbrev pub NextLow : List Item → Type 0
NextLow [] = Unit {0}
NextLow (x ∷ t) = x.key < 2 ^ 31

-- of n updates from a place on, all but the last few have negative keys; the last few begin at p
pub record HighBefore (d : List ℤ) (from n p left : ℕ) : Type 0 where
  pub few : left ≤ n
  pub place : p ≡ updates_end [] d from (n - left)
  pub lie : Updates [] d p left
  pub high : AllHigh (updates [] d from (n - left))

pub high-start : (d : List ℤ) (from n : ℕ) → Updates [] d from n → HighBefore d from n from n
unfolding updates updates_end
high-start d from n h =
    let e : n - n ≡ 0 = omega arith in
    record { few = omega arith; place = rw e; lie = h; high = rw e tt }

rank-low : (k : ℕ) → k < 2 ^ 31 → rank k ≡ k + 2 ^ 31
unfolding rank
rank-low k l = omega arith

rank-high : (k : ℕ) → 2 ^ 31 ≤ k → k < 2 ^ 32 → rank k + 2 ^ 31 ≡ k
unfolding rank
rank-high k l m = omega arith

low-of-rank : (k : ℕ) → k < 2 ^ 32 → 2 ^ 31 ≤ rank k → k < 2 ^ 31
unfolding rank
low-of-rank k l m = omega arith

rising-low : (low : ℕ) (t : List Item) → signed_rising (low + 2 ^ 31) (keys t) ≡ true → rising low t ≡ true
rising-low low [] e = unfold rising in refl
rising-low low (x ∷ t) e =
    let s = signed-rises (low + 2 ^ 31) x.key (keys t) e in
    let k = low-of-rank x.key s.whole (omega (arith, s.from)) in
    let q : suc (rank x.key) ≡ suc x.key + 2 ^ 31 = omega (arith, rank-low x.key k) in
    rise low x t (record { from = omega (arith, s.from, rank-low x.key k); whole = s.whole; rest = rising-low (suc x.key) t (subst (λ (r : ℕ). signed_rising r (keys t) ≡ true) q s.rest) })

none-low : (low j : ℕ) (t : List Item) → 2 ^ 31 ≤ low → signed_rising low (keys t) ≡ true → 2 ^ 31 ≤ j → find j t ≡ none
none-low low j [] l e m = find-nil j
none-low low j (x ∷ t) l e m =
    let s = signed-rises low x.key (keys t) e in
    let k = low-of-rank x.key s.whole (omega (arith, s.from)) in
    find-tail j x t (λ q. omega arith) ∙ none-low (suc (rank x.key)) j t (omega (arith, rank-low x.key k)) s.rest m

lower-part : (low : ℕ) (t : List Item) → NextLow t → signed_rising low (keys t) ≡ true → Lower (2 ^ 31) t
lower-part low [] h e = record { up = unfold rising in refl; none_above = λ j m. find-nil j }
lower-part low (x ∷ t) h e =
    let s = signed-rises low x.key (keys t) e in
    let q : suc (rank x.key) ≡ suc x.key + 2 ^ 31 = omega (arith, rank-low x.key h) in
    record {
      up = rise 0 x t (record { from = omega arith; whole = s.whole; rest = rising-low (suc x.key) t (subst (λ (r : ℕ). signed_rising r (keys t) ≡ true) q s.rest) });
      none_above = λ j m. find-tail j x t (λ i. omega arith) ∙ none-low (suc (rank x.key)) j t (omega arith) s.rest m;
    }

-- the upper half, and then the lower half
both-parts : (low : ℕ) (u₂ u₁ : List Item) → AllHigh u₂ → NextLow u₁ → signed_rising low (keys (u₂ ++ u₁)) ≡ true → (rising (low + 2 ^ 31) u₂ ≡ true) × Lower (2 ^ 31) u₁
both-parts low [] u₁ h l e = (unfold rising in refl, lower-part low u₁ l e)
both-parts low (x ∷ u₂) u₁ h l e =
    let s = signed-rises low x.key (keys (u₂ ++ u₁)) e in
    let r = both-parts (suc (rank x.key)) u₂ u₁ h.1 l s.rest in
    let k = rank-high x.key h.0 s.whole in
    let q : suc (rank x.key) + 2 ^ 31 ≡ suc x.key = omega arith in
    (rise (low + 2 ^ 31) x u₂ (record { from = omega (arith, s.from); whole = s.whole; rest = subst (λ (n : ℕ). rising n u₂ ≡ true) q r.0 }), r.1)

module _ {d : List ℤ} {from n p left : ℕ} (h : HighBefore d from n p left) where
  -- one more of them
  pub high-next : 0 < left → 2 ^ 31 ≤ (update_at [] d p).key → (next : ℕ) → next ≡ update_end [] d p → Updates [] d next (left - 1) → HighBefore d from n next (left - 1)
  high-next l k next e lie =
      let f : n - (left - 1) ≡ (n - left) + 1 = omega (arith, h.few) in
      record {
        few = omega (arith, h.few);
        place = rw (f, end-next [] d from (n - left), ← h.place) e;
        lie = lie;
        high = rw (f, updates-add [] d from (n - left) 1, ← h.place) (unfold updates in high-more (updates [] d from (n - left)) (update_at [] d p) h.high k);
      }

  -- all updates
  pub in_two : updates [] d from n ≡ updates [] d from (n - left) ++ updates [] d p left
  in_two =
      let e : n ≡ (n - left) + left = omega (arith, h.few) in
      ap (updates [] d from) e ∙ (updates-add [] d from (n - left) left ∙ ap (λ (q : ℕ). updates [] d from (n - left) ++ updates [] d q left) (sym h.place))

-- ---- the base in two halves

pub items-rise : (a : List ℤ) → Shape a → rising 0 (items a) ≡ true
unfolding sound
items-rise a sh =
    (both (leb (length (written (items a))) 16384) _ (both (leb (length (items a)) 1024) _ (items-sound a sh)).1).1

key_below : (a : List ℤ) → Shape a → (i : ℕ) → i < count a → key_at a i < 2 ^ 32
unfolding key_at
key_below a h i l = bits_below (get_or a (start a i) (pos 0)) (h.step i l).whole

module _ (a : List ℤ) (sh : Shape a) (h : ℕ) (ph : Place a (2 ^ 31) h) where
  abbrev f : ℕ → Item
  f = item_at a

  base-lower : Lower (2 ^ 31) (run f 0 h)
  base-lower =
      record {
        up = rising-run f 0 0 h (λ j x y. key_below a sh j (omega (arith, ph.within))) (λ j l x y z. keys-rise a sh j l y (omega (arith, ph.within))) (λ m. omega arith);
        none_above = λ x l. none-run f x 0 h (λ j m n. omega (arith, ph.below j (omega arith)));
      }

  base-upper : rising (2 ^ 31) (run f h (count a - h)) ≡ true
  base-upper =
      rising-run f (2 ^ 31) h (count a - h) (λ j x y. key_below a sh j (omega (arith, ph.within))) (λ j l x y z. keys-rise a sh j l y (omega (arith, ph.within))) (λ m. ph.above h (omega arith) (omega arith))

  base-split : items a ≡ run f 0 h ++ run f h (count a - h)
  unfolding items
  base-split =
      let e : count a ≡ h + (count a - h) = omega (arith, ph.within) in
      let z : 0 + h ≡ h = omega arith in
      list-run f (count a) ∙ (ap (run f 0) e ∙ (run-add f 0 h (count a - h) ∙ ap (λ (i : ℕ). run f 0 h ++ run f i (count a - h)) z))

  -- ---- both together

  module _ (d : List ℤ) (k u p left : ℕ) (s : DeltaShape [] d) (dk : k ≡ num_deleted d) (du : u ≡ num_updated d) (hi : HighBefore d (3 + k) u p left) (lo : NextLow (updates [] d p left)) where
    updates-split : (delta_in [] d).updated ≡ updates [] d (3 + k) (u - left) ++ updates [] d p left
    updates-split = rw (← dk, ← du) (in_two hi)

    -- the table that the delta makes, half by half
    pub in_halves : applied_table (items a) (delta_in [] d) ≡ merged (delta_in [] d).deleted (run f 0 h) (updates [] d p left) ++ merged (delta_in [] d).deleted (run f h (count a - h)) (updates [] d (3 + k) (u - left))
    unfolding is_in_order
    in_halves =
        let g = (delta_in [] d).deleted in
        let b₁ = run f 0 h in
        let b₂ = run f h (count a - h) in
        let u₂ = updates [] d (3 + k) (u - left) in
        let u₁ = updates [] d p left in
        let o : signed_rising 0 (keys (u₂ ++ u₁)) ≡ true = subst (λ (t : List Item). signed_rising 0 (keys t) ≡ true) updates-split (both (signed_rising 0 (delta_in [] d).deleted) _ (delta-in-order [] d s)).1 in
        let r = both-parts 0 u₂ u₁ hi.high lo o in
        let rb : rising 0 (b₁ ++ b₂) ≡ true = subst (λ (t : Table). rising 0 t ≡ true) base-split (items-rise a sh) in
        ap₂ (λ (b : Table) (us : List Item). updated_table b us (kept g b)) base-split updates-split ∙ merges g (2 ^ 31) b₁ b₂ u₁ u₂ base-lower base-upper r.1 r.0 o rb

-- ---- what a good judgement says

-- every update is as long as the base's data
pub good-alike : (g : List ℕ) (b : Table) (us : List Item) (n w n' w' : ℕ) → judge_updates g b us n w ≡ good n' w' → alike b us ≡ true
unfolding judge_updates alike judge_update
good-alike g b [] n w n' w' e = refl
good-alike g b (u ∷ us) n w n' w' e =
    go (is_some (kept_of g b u.key)) (agree (find u.key b) u.values) (ltb n 1024) (leb (w + (2 + length u.values)) 16384) e (λ m v q. good-alike g b us m v n' w' q)
  where
    go : (t same x y : Bool)
        → and_then (cond t (judge_length same n w) (cond x (cond y (judge_length same (n + 1) (w + (2 + length u.values))) (bad too_long_snap)) (bad too_many_items))) (judge_updates g b us) ≡ good n' w'
        → ((m v : ℕ) → judge_updates g b us m v ≡ good n' w' → alike b us ≡ true) → (same && alike b us) ≡ true
    go true true x y e r = r n w e
    go true false x y e r = let z : ◌≡◌ {A = ℕ} 0 1 = cc in absurd (omega arith)
    go false same false y e r = let z : ◌≡◌ {A = ℕ} 0 1 = cc in absurd (omega arith)
    go false same true false e r = let z : ◌≡◌ {A = ℕ} 0 1 = cc in absurd (omega arith)
    go false true true true e r = r (n + 1) (w + (2 + length u.values)) e
    go false false true true e r = let z : ◌≡◌ {A = ℕ} 0 1 = cc in absurd (omega arith)

pub alike-parts : (b : Table) (t u : List Item) → alike b (t ++ u) ≡ true → (alike b t ≡ true) × (alike b u ≡ true)
unfolding alike
alike-parts b [] u e = (refl, e)
alike-parts b (x ∷ t) u e =
    let h = both (agree (find x.key b) x.values) _ e in
    let r = alike-parts b t u h.1 in
    (rw h.0 r.0, r.1)
