-- Held tables, whose ticks are from 0 and fall strictly: what dropping and pushing out do to them, as in the logbook. Assumes nothing.
use Rattle.std.specs.Prelude.{◌≡◌, refl, true, false, List, [], ◌∷◌, map, ℕ, zero, suc, ◌≤◌, ◌<◌, ltb, eqb, ℤ, pos, length, take}
use Rattle.std.proofs.Common.{sym, ◌∙◌, ap, subst, arith, ltb-true, ltb-false, lt-ltb, eqb-true, ne_eqb, take_all}
use Rattle.std.proofs.Math.Option.{Option, some}
use Rattle.definitions.specs.Ints.{bits, signed_less}
use Rattle.definitions.specs.Tables.{Table}
use Rattle.definitions.specs.Receiver.{same}
use Rattle.definitions.specs.Storage.{StoredSnap, newest_tick, drop_older, oldest_or, oldest_at, push_snap}
use Rattle.definitions.specs.Logbook.{has_tick, not_below, lowest, without, holding}
use Rattle.session.specs.Statement.{Among, here, there, All, none, more, HeldAt}
use Rattle.session.specs.Lists.{contra, either, eqb-self, or-true, or-false}

-- the ticks of some tables
abbrev pub ticks : List StoredSnap → List ℤ
ticks l = map (λ (x : StoredSnap). x.tick) l

-- a table at a tick from 0
abbrev pub snap_at : ℕ → Table → StoredSnap
snap_at n t = record { tick = pos n; snap = t }

-- all below k, and falling
pub data Falls : ℕ → List StoredSnap → Type 0 where
  end : {k : ℕ} → Falls k []
  next : {k n : ℕ} {t : Table} {l : List StoredSnap} → n < k → Falls n l → Falls k (snap_at n t ∷ l)

-- ticks below k are below j, where j is not less
pub falls-weaken : {k : ℕ} {l : List StoredSnap} (j : ℕ) → k ≤ j → Falls k l → Falls j l
falls-weaken j h end = end
falls-weaken j h (next {n = n} p f) = let q : n < j = omega arith in next q f

-- as many ticks as tables
pub length-ticks : (l : List StoredSnap) → length (ticks l) ≡ length l
length-ticks [] = refl
length-ticks (x ∷ l) = ap suc (length-ticks l)

-- ---- ticks as numbers

-- two ticks from 0 are the same when their numbers are
pub same-pos : (a b : ℕ) → same (pos a) (pos b) ≡ eqb a b
unfolding bits
same-pos a b = refl

-- a tick is the same as itself
pub same_self : (z : ℤ) → same z z ≡ true
same_self z = eqb-self (bits z)

-- ints from 0 that are equal are equal numbers
pub pos_inj : (a b : ℕ) → pos a ≡ pos b → a ≡ b
pos_inj a b e = cc

-- ---- dropping

-- of ticks below b none is left
all-below : (b : ℕ) {k : ℕ} {l : List StoredSnap} → Falls k l → k ≤ b → not_below (pos b) (ticks l) ≡ []
unfolding not_below
all-below b end h = refl
all-below b (next {n = n} p f) h = rw (lt-ltb n b (omega arith)) (all-below b f (omega arith))

-- dropping older tables leaves the ticks that are not below
pub ticks-drop : (b : ℕ) {k : ℕ} {l : List StoredSnap} → Falls k l → ticks (drop_older (pos b) l) ≡ not_below (pos b) (ticks l)
unfolding not_below drop_older
ticks-drop b end = refl
ticks-drop b (next {n = n} p f) =
    either (ltb n b)
    (λ e. rw e (sym (all-below b f (omega (arith, ltb-true n b e)))))
    (λ e. rw e (ap (λ (z : List ℤ). pos n ∷ z) (ticks-drop b f)))

-- what is left falls
pub falls-drop : (b : ℕ) {k : ℕ} {l : List StoredSnap} → Falls k l → Falls k (drop_older (pos b) l)
unfolding drop_older
falls-drop b end = end
falls-drop b (next {n = n} p f) = either (ltb n b) (λ e. rw e end) (λ e. rw e (next p (falls-drop b f)))

-- what all have, all that is left has
pub all_drop : {P : StoredSnap → Type 0} (b : ℤ) (l : List StoredSnap) → All P l → All P (drop_older b l)
unfolding drop_older
all_drop b [] none = none
all_drop b (x ∷ l) (more p f) =
    either (signed_less x.tick b) (λ e. rw e none) (λ e. rw e (more p (all_drop b l f)))

-- all of a tick not below b
abbrev pub AtLeast : ℕ → List StoredSnap → Type 0
AtLeast b l = All (λ x. signed_less x.tick (pos b) ≡ false) l

-- what is left is not below b
pub dropped-at_least : (b : ℕ) (l : List StoredSnap) → AtLeast b (drop_older (pos b) l)
unfolding drop_older
dropped-at_least b [] = none
dropped-at_least b (x ∷ l) =
    either (signed_less x.tick (pos b)) (λ e. rw e none) (λ e. rw e (more e (dropped-at_least b l)))

-- ---- the oldest

-- the oldest is one of them
pub oldest-among : (x : StoredSnap) (l : List StoredSnap) → Among (oldest_or x l) (x ∷ l)
unfolding oldest_or
oldest-among x [] = here
oldest-among x (y ∷ l) = there (oldest-among y l)

-- where no tick is below b, the oldest is b when b is among them
pub oldest-is : (b : ℕ) {k : ℕ} {x : StoredSnap} {l : List StoredSnap} → Falls k (x ∷ l) → AtLeast b (x ∷ l) → same (oldest_or x l).tick (pos b) ≡ has_tick (pos b) (ticks (x ∷ l))
unfolding oldest_or has_tick bits
oldest-is b (next {n = n} p end) a = sym (or-false (eqb n b))
oldest-is b (next {n = n} p (next {n = j} q f)) (more a (more c d)) =
    rw (ne_eqb n b (omega (arith, ltb-false j b c))) (oldest-is b (next q f) (more c d))

-- the oldest tick is a number below the bound
oldest-below : {k : ℕ} {x : StoredSnap} {l : List StoredSnap} → Falls k (x ∷ l) → (j : ℕ) × ((oldest_or x l).tick ≡ pos j) × (j < k)
unfolding oldest_or
oldest-below (next {n = n} p end) = (n, refl, p)
oldest-below (next {n = n} p (next {n = j} {t = t} {l = l} q f)) =
    let r = oldest-below {k = n} {x = snap_at j t} {l = l} (next q f) in
    (r.0, r.1, omega (arith, r.2))

-- the lowest tick is that of the oldest
lowest-oldest : {k n : ℕ} {t : Table} {l : List StoredSnap} → Falls k (snap_at n t ∷ l) → lowest (pos n) (ticks l) ≡ (oldest_or (snap_at n t) l).tick
unfolding oldest_or lowest
lowest-oldest (next p end) = refl
lowest-oldest (next {n = n} p (next {n = j} {l = l} q f)) = rw (lt-ltb j n q) (lowest-oldest (next q f))

-- ---- the 101st

-- all but the last are all but the oldest
last-without : {k : ℕ} {x : StoredSnap} {l : List StoredSnap} (j : ℕ) → Falls k (x ∷ l) → length l ≡ j → ticks (take j (x ∷ l)) ≡ without (oldest_or x l).tick (x.tick ∷ ticks l)
unfolding oldest_or without
last-without zero (next {n = n} p end) e = rw (same_self (pos n)) refl
last-without (suc j) (next {n = n} p end) e = absurd (omega arith)
last-without zero (next {n = n} p (next {t = u} q f)) e = absurd (omega arith)
last-without (suc j) (next {n = n} p (next {t = u} q f)) e =
    let (i, d, h) = oldest-below (next {t = u} q f) in
    let r : same (pos n) (pos i) ≡ false = same-pos n i ∙ ne_eqb n i (omega arith) in
    rw (ap (same (pos n)) d ∙ r) (ap (λ (z : List ℤ). pos n ∷ z) (last-without j (next q f) (omega arith)))

-- one more table; of 101 the oldest is dropped
pub push-holding : {k n : ℕ} {t : Table} {l : List StoredSnap} → Falls k (snap_at n t ∷ l) → length l ≤ 100 → ticks (push_snap (pos n) t l) ≡ holding (pos n) (ticks l)
push-holding {n = n} {t = t} {l = l} f h =
    rw (length-ticks l)
    (either (ltb 100 (suc (length l)))
    (λ e. rw (e, lowest-oldest f) (last-without 100 f (omega (arith, ltb-true 100 (suc (length l)) e))))
    (λ e. rw e (ap ticks (take_all 100 (snap_at n t ∷ l) (omega (arith, ltb-false 100 (suc (length l)) e))))))

-- the first of them fall
pub falls-take : (j : ℕ) {k : ℕ} {l : List StoredSnap} → Falls k l → Falls k (take j l)
falls-take zero f = end
falls-take (suc j) end = end
falls-take (suc j) (next p f) = next p (falls-take j f)

-- what all have, the first of them have
pub all_take : {P : StoredSnap → Type 0} (j : ℕ) (l : List StoredSnap) → All P l → All P (take j l)
all_take zero l f = none
all_take (suc j) [] f = none
all_take (suc j) (x ∷ l) (more p f) = more p (all_take j l f)

-- a tick above all is above the newest
pub above-newest : {t : ℕ} {l : List StoredSnap} → Falls t l → signed_less (newest_tick l) (pos t) ≡ true
above-newest end = refl
above-newest {t} (next {n = n} p f) = lt-ltb n t p

-- ---- the base

-- what dropping for the base b leaves at the oldest end
pub data Found (b : ℕ) (l : List StoredSnap) : Type 0 where
  found : (x : StoredSnap) → Among x l → x.tick ≡ pos b → oldest_at (pos b) l ≡ some x.snap → has_tick (pos b) (ticks l) ≡ true → Found b l
  missing : oldest_at (pos b) l ≡ Option.none → has_tick (pos b) (ticks l) ≡ false → Found b l

-- a tick that is the same as a number is that number
same-tick : {j k : ℕ} (z : ℤ) → z ≡ pos j → same z (pos k) ≡ true → z ≡ pos k
unfolding bits
same-tick {j} {k} z d e = let q : eqb j k ≡ true = subst (λ (y : ℤ). same y (pos k) ≡ true) d e in d ∙ ap pos (eqb-true j k q)

-- if no tick is below b, the oldest end shows whether b is held
pub find-base : (b : ℕ) {k : ℕ} {l : List StoredSnap} → Falls k l → AtLeast b l → Found b l
unfolding oldest_at has_tick
find-base b end a = missing refl refl
find-base b (next {n = n} {t = t} {l = l} p f) a =
    let x : StoredSnap = snap_at n t in
    let (j, d, h) = oldest-below (next {t = t} p f) in
    either (same (oldest_or x l).tick (pos b))
    (λ e. found (oldest_or x l) (oldest-among x l) (same-tick (oldest_or x l).tick d e) (rw e refl) (sym (oldest-is b (next p f) a) ∙ e))
    (λ e. missing (rw e refl) (sym (oldest-is b (next p f) a) ∙ e))

-- dropping what is below b keeps whether b is held
pub has_tick-not_below : (b : ℕ) {k : ℕ} {l : List StoredSnap} → Falls k l → has_tick (pos b) (not_below (pos b) (ticks l)) ≡ has_tick (pos b) (ticks l)
unfolding has_tick not_below bits
has_tick-not_below b end = refl
has_tick-not_below b (next {n = n} p f) =
    either (ltb n b)
    (λ e. rw (e, ne_eqb n b (omega (arith, ltb-true n b e))) (has_tick-not_below b f))
    (λ e. rw (e, has_tick-not_below b f) refl)

-- ---- held at a tick

-- what is held is held with one table more
held-there : {b : ℤ} {x : StoredSnap} {l : List StoredSnap} → HeldAt b l → HeldAt b (x ∷ l)
held-there h = record { snap = h.snap; among = there h.among; tick_is = h.tick_is }

-- a tick among those of the tables is held
pub has_tick-held : (b : ℕ) {k : ℕ} {l : List StoredSnap} → Falls k l → has_tick (pos b) (ticks l) ≡ true → HeldAt (pos b) l
unfolding has_tick
has_tick-held b end e = contra e refl
has_tick-held b (next {n = n} {t = t} p f) e =
    either (same (pos n) (pos b))
    (λ q. record { snap = snap_at n t; among = here; tick_is = same-tick (pos n) refl q })
    (λ q. held-there (has_tick-held b f (rw q at e)))

-- a tick that is held is among those of the tables
pub held-has_tick : (b : ℤ) (l : List StoredSnap) (x : StoredSnap) → Among x l → x.tick ≡ b → has_tick b (ticks l) ≡ true
unfolding has_tick
held-has_tick b [] x m e = elim m [ ]
held-has_tick b (y ∷ l) x here e = rw (e, same_self b) refl
held-has_tick b (y ∷ l) x (there m) e = rw (held-has_tick b l x m e) (or-true (same y.tick b))
