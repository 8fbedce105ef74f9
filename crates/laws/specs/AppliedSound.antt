-- A delta in form applied to a sound base makes a sound table. Assumes nothing.
use Rattle.std.specs.Prelude.{◌≡◌, refl, Bool, true, false, cond, List, [], ◌∷◌, ℕ, ◌+◌, ◌≤◌, leb, ltb, length}
use Rattle.std.proofs.Common.{suc, sym, ◌∙◌, arith, le-leb, leb-true, ltb-true}
use Rattle.definitions.specs.Refusals.{too_long_snap, too_many_items}
use Rattle.definitions.specs.Warnings.{Counts}
use Rattle.definitions.specs.Outcome.{ok, after}
use Rattle.definitions.specs.Tables.{Item, Table, written, rising, sound, find, is_some}
use Rattle.definitions.specs.Deltas.{Delta, rank, keys, signed_rising}
use Rattle.definitions.specs.DeltaMaking.{agree}
use Rattle.definitions.specs.Applying.{kept, apply_delta}
use Rattle.laws.specs.TableForm.{length-written}
use Rattle.laws.specs.TableChanged.{rising-kept}
use Rattle.laws.specs.DeltaMade.{Sound, facts}
use Rattle.laws.specs.ApplyFound.{rising-with_item, kept_less}
use Rattle.laws.specs.ApplyJudging as Judging

-- a judgement whose sizes are within the limits
abbrev Small : Judging.Judged → Type 0
Small (Judging.bad r) = Unit {0}
Small (Judging.good n w) = (n ≤ 1024) × (w ≤ 16384)

-- one update keeps the sizes within the limits
small-length : (b : Bool) (n w : ℕ) → n ≤ 1024 → w ≤ 16384 → Small (Judging.judge_length b n w)
small-length true n w h k = (h, k)
small-length false n w h k = tt

-- an update of a new key
small-new : (same : Bool) (size n w : ℕ) → Small (Judging.judge_new same size n w)
small-new same size n w = go (ltb n 1024) (leb (w + (2 + size)) 16384) refl refl
  where
    go : (b c : Bool) → ltb n 1024 ≡ b → leb (w + (2 + size)) 16384 ≡ c
        → Small (cond b (cond c (Judging.judge_length same (n + 1) (w + (2 + size))) (Judging.bad too_long_snap)) (Judging.bad too_many_items))
    go false c p q = tt
    go true false p q = tt
    go true true p q = small-length same (n + 1) (w + (2 + size)) (omega (arith, ltb-true n 1024 p)) (leb-true (w + (2 + size)) 16384 q)

-- an update of any key
small-update : (g : List ℕ) (b : Table) (u : Item) (n w : ℕ) → n ≤ 1024 → w ≤ 16384 → Small (Judging.judge_update g b u n w)
unfolding Judging.judge_update
small-update g b u n w h k = go (is_some (Judging.kept_of g b u.key))
  where
    go : (c : Bool)
        → Small (cond c (Judging.judge_length (agree (find u.key b) u.values) n w) (Judging.judge_new (agree (find u.key b) u.values) (length u.values) n w))
    go true = small-length (agree (find u.key b) u.values) n w h k
    go false = small-new (agree (find u.key b) u.values) (length u.values) n w

-- one judgement and then the next
small-then : (j : Judging.Judged) (f : ℕ → ℕ → Judging.Judged) → Small j → ((n w : ℕ) → n ≤ 1024 → w ≤ 16384 → Small (f n w)) → Small (Judging.and_then j f)
small-then (Judging.bad r) f s h = tt
small-then (Judging.good n w) f s h = h n w s.0 s.1

-- so do all updates
small-updates : (g : List ℕ) (b : Table) (us : List Item) (n w : ℕ) → n ≤ 1024 → w ≤ 16384 → Small (Judging.judge_updates g b us n w)
unfolding Judging.judge_updates
small-updates g b [] n w h k = (h, k)
small-updates g b (u ∷ us) n w h k =
    small-then (Judging.judge_update g b u n w) (Judging.judge_updates g b us) (small-update g b u n w h k) (λ i j p q. small-updates g b us i j p q)

-- the keys rise
rising-updates : (low : ℕ) (b : Table) (us : List Item) (t : Table) → signed_rising low (keys us) ≡ true → rising 0 t ≡ true
    → rising 0 (Judging.updated_table b us t) ≡ true
unfolding Judging.updated_table
rising-updates low b [] t e r = r
rising-updates low b (u ∷ us) t e r =
    let s = Judging.signed-rises low u.key (keys us) e in
    rising-updates (suc (rank u.key)) b us _ s.rest (rising-with_item 0 (Judging.made_item b u) t r (omega arith) s.whole)

-- a table of which this is known is sound
is-sound : (t : Table) → Sound t → sound t ≡ true
unfolding sound
is-sound t s = rw (le-leb (length t) 1024 s.few, le-leb (length (written t)) 16384 s.short) s.rises

module _ (b : Table) (d : Delta) (s : sound b ≡ true) (e : signed_rising 0 (keys d.updated) ≡ true) where
  -- the table that was made is sound
  pub applied-sound : (t : Table) (w : Counts) → apply_delta b d ≡ ok t w → sound t ≡ true
  applied-sound t w q =
      let f = facts b s in
      let j = Judging.delta-judged b d f.rises e in
      let l = kept_less d.deleted b in
      let k = small-updates d.deleted b d.updated (length (kept d.deleted b)) (length (written (kept d.deleted b))) (omega (arith, f.few, l.0)) (omega (arith, f.short, l, length-written b, length-written (kept d.deleted b))) in
      let r = rising-updates 0 b d.updated (kept d.deleted b) e (rising-kept 0 d.deleted b f.rises) in
      go (Judging.judge_delta b d) j.1 k (sym j.0 ∙ q)
    where
      go : (o : Judging.Judged) → Judging.SizesOf o (Judging.applied_table b d) → Small o
          → after (Judging.unknown_counts (Judging.has_unknown b d)) (Judging.judged_as o (Judging.applied_table b d)) ≡ ok t w → sound t ≡ true
      go (Judging.bad n) z k q = let z : ◌≡◌ {A = ℕ} 0 1 = cc in absurd (omega arith)
      go (Judging.good n m) z k q =
          let i : Judging.applied_table b d ≡ t = cc in
          rw (← i) (is-sound (Judging.applied_table b d) (record { few = omega (arith, z.0, k.0); short = omega (arith, z.1, k.1); rises = rising-updates 0 b d.updated (kept d.deleted b) e (rising-kept 0 d.deleted b (facts b s).rises) }))
