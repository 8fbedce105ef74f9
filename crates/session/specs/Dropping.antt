-- Held tables, whose ticks fall: what is left after older ones are dropped, and when its oldest has a tick. Assumes nothing.
use Rattle.std.specs.Prelude.{◌≡◌, refl, true, List, [], ◌∷◌, ◌⊎◌, ℕ, ◌<◌, eqb, ℤ, pos}
use Rattle.std.proofs.Common.{sym, ◌∙◌, ap, subst, inl, inr, arith, eqb-true}
use Rattle.definitions.specs.Ints.{signed_less}
use Rattle.definitions.specs.Receiver.{same}
use Rattle.definitions.specs.Storage.{StoredSnap, drop_older, oldest_or, oldest_at, is_held}
use Rattle.definitions.specs.Logbook.{has_tick}
use Rattle.laws.specs.ListLaws.{among_first, among-nothing}
use Rattle.session.specs.Statement.{Among, here, there, HeldAt}
use Rattle.session.specs.Lists.{contra, either}
use Rattle.session.specs.HeldTicks.{Falls, next, same-pos, ticks-drop, falls-drop, dropped-at_least, oldest-among, Found, found, missing, find-base, has_tick-not_below, held-has_tick, end}

-- a table of a newer tick before those that fall
pub falls-next : {k : ℕ} (n : ℕ) (x : StoredSnap) (l : List StoredSnap) → x.tick ≡ pos n → n < k → Falls n l → Falls k (x ∷ l)
falls-next {k} n x l e h f = subst (λ (z : ℤ). Falls k (record { tick = z; snap = x.snap } ∷ l)) (sym e) (next h f)

-- the tick of one held
pub falls-tick : {k : ℕ} {x : StoredSnap} {l : List StoredSnap} → Falls k l → Among x l → (n : ℕ) × (x.tick ≡ pos n) × (n < k)
falls-tick end m = elim m [ ]
falls-tick (next {n = n} h f) here = (n, refl, h)
falls-tick (next {n = n} h f) (there m) = let (j, q, i) = falls-tick f m in (j, q, omega arith)

-- ---- what is left

-- one that is left was there
pub among-drop : (b : ℤ) (l : List StoredSnap) {x : StoredSnap} → Among x (drop_older b l) → Among x l
unfolding drop_older
among-drop b [] m = m
among-drop b (y ∷ l) {x} m =
    either (signed_less y.tick b)
    (λ q. absurd (among-nothing (rw q at m)))
    (λ q. further (among_first (rw q at m)) (λ k. among-drop b l k))
  where
    further : (x ≡ y) ⊎ Among x (drop_older b l) → (Among x (drop_older b l) → Among x l) → Among x (y ∷ l)
    further (inl e) f = subst (λ (z : StoredSnap). Among x (z ∷ l)) e here
    further (inr k) f = there (f k)

-- ---- the oldest

-- a tick that is held is that of the oldest left
pub held_found : (b : ℕ) {k : ℕ} (l : List StoredSnap) → Falls k l → HeldAt (pos b) l → is_held (oldest_at (pos b) (drop_older (pos b) l)) ≡ true
held_found b l f h = go (find-base b (falls-drop b f) (dropped-at_least b l))
  where
    go : Found b (drop_older (pos b) l) → is_held (oldest_at (pos b) (drop_older (pos b) l)) ≡ true
    go (found x m e p q) = ap is_held p
    go (missing p q) =
        contra (held-has_tick (pos b) l h.snap h.among h.tick_is)
        (sym (ap (has_tick (pos b)) (ticks-drop b f) ∙ has_tick-not_below b f) ∙ q)

-- the oldest of some tables has the tick b
pub record Oldest (b : ℕ) (l : List StoredSnap) : Type 0 where
  pub first : StoredSnap
  pub others : List StoredSnap
  pub all_are : l ≡ first ∷ others
  pub tick_is : (oldest_or first others).tick ≡ pos b

-- it has, if it is found at that tick
pub oldest-found : (b : ℕ) {k : ℕ} (l : List StoredSnap) → Falls k l → is_held (oldest_at (pos b) l) ≡ true → Oldest b l
unfolding oldest_at
oldest-found b [] f e = contra e refl
oldest-found b (x ∷ l) f e = either (same (oldest_or x l).tick (pos b)) there-is (λ q. contra (rw q at e) refl)
  where
    there-is : same (oldest_or x l).tick (pos b) ≡ true → Oldest b (x ∷ l)
    there-is q =
        let t = falls-tick f (oldest-among x l) in
        let n : eqb t.0 b ≡ true = sym (same-pos t.0 b) ∙ (rw t.1 at q) in
        record { first = x; others = l; all_are = refl; tick_is = t.1 ∙ ap pos (eqb-true t.0 b n) }
