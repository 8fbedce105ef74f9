-- One turn of the walk along the updates, and one of the walk along the base. Assumes nothing.
use Prim.Native.Nat.{ℕ, suc, ◌+◌, ◌-◌, ◌/◌, ◌<◌, ◌≤◌}
use mathlib.Core.Path.{◌≡◌, refl, sym, ap, ◌∙◌}
use mathlib.Core.Bool.{true, false, not}
use mathlib.Core.List.{List, [], ◌∷◌, ◌++◌, append-nil}
use native.Mathlib.Numerals.{add-one}
use native.Mathlib.Omega.{arith}
use lib.IntN.{ℤ}
use lib.Dec.{eqb}
use lib.ListN.{length, length-append}
use Rattle.definitions.specs.Tables.{Table, body, written, list, items, item_at, values_at, count, size}
use Rattle.definitions.specs.Deltas.{deleted_at, update_end, update_at, updates, delta_in}
use Rattle.definitions.specs.DeltaReading.{elem}
use Rattle.definitions.specs.Applying.{kept}
use Rattle.laws.specs.TableShape.{start-within}
use Rattle.laws.specs.TableForm.{length-list, length-body, length-items, length-items-body, length-written, body-append}
use Rattle.laws.specs.DeltaShape.{Update, Updates, first-update, other-updates}
use Rattle.laws.specs.ApplyEmpty as Empty
use Rattle.laws.specs.ApplyFound.{kept_append, kept_less}
use Rattle.laws.specs.ApplyJudging.{Judged, bad, good, and_then, judge_update, judge_updates, judge_delta, has_unknown}
use Rattle.table.specs.Held.{Held}
use Rattle.delta_form.specs.Held.{HeldDelta}
use Rattle.apply_judging.specs.Judging.{deleted_of}

-- ---- the updates

-- judging n updates from place p on, for a table of so many items and ints, gives the whole judgement
pub record Judging (g : List ℕ) (b : Table) (d : List ℤ) (whole : Judged) (p left items ints : ℕ) : Type 0 where
  pub lie : Updates [] d p left
  pub same : judge_updates g b (updates [] d p left) items ints ≡ whole
  pub few : items ≤ 1024
  pub short : ints ≤ 16384

module _ {g : List ℕ} {b : Table} {d : List ℤ} {whole : Judged} {p left items ints : ℕ} (s : Judging g b d whole p left items ints) where
  pub next-update : 0 < left → Update [] d p
  next-update l = first-update s.lie l

  -- the first of them, and then the others
  step : 0 < left → whole ≡ and_then (judge_update g b (update_at [] d p) items ints) (judge_updates g b (updates [] d (update_end [] d p) (left - 1)))
  unfolding judge_updates updates
  step l =
      let e : left ≡ suc (left - 1) = omega arith in
      sym s.same ∙ ap (λ (n : ℕ). judge_updates g b (updates [] d p n) items ints) e

  -- it is refused
  pub update-refused : 0 < left → (e : ℕ) → bad e ≡ judge_update g b (update_at [] d p) items ints → bad e ≡ whole
  update-refused l e f = sym (step l ∙ rw (← f))

  -- it is not
  pub update-fine : 0 < left → (n w next : ℕ) → good n w ≡ judge_update g b (update_at [] d p) items ints → (n ≤ 1024) × (w ≤ 16384) → next ≡ update_end [] d p → Judging g b d whole next (left - 1) n w
  update-fine l n w next f m e =
      record { lie = rw e (other-updates s.lie l); same = rw e (sym (step l ∙ rw (← f))); few = m.0; short = m.1 }

  pub all-judged : left ≤ 0 → good items ints ≡ whole
  unfolding judge_updates updates
  all-judged l =
      let e : left ≡ 0 = omega arith in
      sym (ap (λ (n : ℕ). judge_updates g b (updates [] d p n) items ints) e) ∙ s.same

-- ---- the base

-- of the first i items so many are kept, whose keys and data take so many ints
pub record Keeping (g : List ℕ) (a : List ℤ) (i n w : ℕ) : Type 0 where
  pub items-are : n ≡ length (kept g (list (item_at a) i))
  pub ints-are : w ≡ length (body (kept g (list (item_at a) i)))

pub keep-start : (g : List ℕ) (a : List ℤ) → Keeping g a 0 0 0
unfolding list kept body
keep-start g a = record { items-are = refl; ints-are = refl }

module _ (g : List ℕ) (a : List ℤ) (nb : ℕ) (h : Held a nb) {i n w : ℕ} (s : Keeping g a i n w) where
  -- they are no more than there are
  pub kept-within : i ≤ nb → (n ≤ i) × (w ≤ 16384)
  kept-within l =
      let k = kept_less g (list (item_at a) i) in
      let c = h.count-is in
      let d = start-within a h.shape i (omega arith) in
      (omega (arith, s.items-are, k.0, length-list (item_at a) i), omega (arith, s.ints-are, k.1, length-body a h.shape i (omega arith), h.shape.short))

  grown : kept g (list (item_at a) (i + 1)) ≡ kept g (list (item_at a) i) ++ kept g (item_at a i ∷ [])
  unfolding list
  grown = rw add-one (kept_append g (list (item_at a) i) (item_at a i ∷ []))

  -- one more is not kept
  pub keep-none : elem (item_at a i).key g ≡ true → Keeping g a (i + 1) n w
  keep-none e =
      let t : kept g (list (item_at a) (i + 1)) ≡ kept g (list (item_at a) i) = grown ∙ unfold kept in rw e (append-nil (kept g (list (item_at a) i))) in
      record { items-are = s.items-are ∙ ap length (sym t); ints-are = s.ints-are ∙ ap (λ (l : Table). length (body l)) (sym t) }

  -- one more is kept
  pub keep_one : (m : ℕ) → elem (item_at a i).key g ≡ false → m ≡ length (values_at a i) → Keeping g a (i + 1) (n + 1) (w + (1 + m))
  keep_one m e f =
      let k = kept g (list (item_at a) i) in
      let t : kept g (list (item_at a) (i + 1)) ≡ k ++ item_at a i ∷ [] = grown ∙ unfold kept in rw e in
      record {
        items-are = omega (arith, s.items-are, ap length t, length-append k (item_at a i ∷ []));
        ints-are = omega (arith, s.ints-are, ap (λ (l : Table). length (body l)) t, ap length (body-append k (item_at a i ∷ [])), length-append (body k) (body (item_at a i ∷ [])), one-long, f);
      }
    where
      one-long : length (body (item_at a i ∷ [])) ≡ suc (length (values_at a i))
      one-long = unfold body in omega (arith, length-append (values_at a i) [])

  -- all were looked at
  pub all-kept : i ≤ nb → nb ≤ i → (n ≡ length (kept g (items a))) × (w ≡ length (body (kept g (items a))))
  unfolding items
  all-kept l m =
      let e : i ≡ count a = omega (arith, h.count-is) in
      (s.items-are ∙ ap (λ (k : ℕ). length (kept g (list (item_at a) k))) e, s.ints-are ∙ ap (λ (k : ℕ). length (body (kept g (list (item_at a) k)))) e)

-- ---- the whole

module _ (a : List ℤ) (nb : ℕ) (h : Held a nb) (d : List ℤ) (k u : ℕ) (f : HeldDelta [] d k u) (n w : ℕ) (en : n ≡ length (kept (deleted_of d k) (items a))) (ew : w ≡ length (body (kept (deleted_of d k) (items a)))) where
  -- what is kept is within the limits
  pub kept-sizes-within : (n ≤ 1024) × (2 + n + w ≤ 16384)
  kept-sizes-within =
      let l = kept_less (deleted_of d k) (items a) in
      let m = length-items a h.shape in
      let v = length-items-body a h.shape in
      (omega (arith, l.0, h.shape.few), omega (arith, l.0, l.1, h.shape.short))

  -- the judgement of the updates is that of the delta
  pub whole-judged : (j : Judged) → j ≡ judge_updates (deleted_of d k) (items a) (updates [] d (3 + k) u) n (2 + n + w) → j ≡ judge_delta (items a) (delta_in [] d)
  whole-judged j e =
      let q : 2 + n + w ≡ length (written (kept (deleted_of d k) (items a))) = omega (arith, en, ew, length-written (kept (deleted_of d k) (items a))) in
      rw (← f.deleted-is, ← f.updated-is, ← q, ← en) e

  -- a deleted key is unknown if fewer were found
  pub unknown-told : not (eqb (n + k) nb) ≡ has_unknown (items a) (delta_in [] d)
  unknown-told = rw (← f.deleted-is, length-list (deleted_at d) k, ← en, length-items a h.shape, ← h.count-is)

-- without deleted keys all of the base is kept
pub keeps-all : (a : List ℤ) (n : ℕ) → Held a n → (d : List ℤ) (k s : ℕ) → k ≡ 0 → s ≡ size a → (n ≡ length (kept (deleted_of d k) (items a))) × (s / 4 ≡ length (body (kept (deleted_of d k) (items a))))
unfolding list
keeps-all a n h d k s z e =
    let f : kept (deleted_of d k) (items a) ≡ items a = ap (λ (m : ℕ). kept (deleted_of d m) (items a)) z ∙ Empty.all-kept (items a) in
    let w : s / 4 ≡ length (body (items a)) = ap (λ (x : ℕ). x / 4) e ∙ sym (length-items-body a h.shape) in
    (h.count-is ∙ sym (length-items a h.shape) ∙ sym (ap length f), w ∙ sym (ap (λ (t : Table). length (body t)) f))
