-- What holds of the store whatever deltas come: its ticks fall, and a table that it takes has the sum that was sent. Assumes nothing.
use Rattle.std.specs.Prelude.{◌≡◌, refl, Bool, cond, List, [], ◌∷◌, ℕ, zero, suc, leb, ℤ, take}
use Rattle.std.proofs.Math.Bool.{true, false}
use Rattle.std.proofs.Math.Option.{Option, some}
use Rattle.std.proofs.Common.{arith}
use Rattle.definitions.specs.Ints.{signed_less}
use Rattle.definitions.specs.Refusals.{store_old_delta, invalid_crc, capacity_error}
use Rattle.definitions.specs.Warnings.{Counts}
use Rattle.definitions.specs.Outcome.{Outcome, ok, err, refuse, ◌>>=◌, ◌>>◌}
use Rattle.definitions.specs.Tables.{Table, crc}
use Rattle.definitions.specs.Deltas.{Delta}
use Rattle.definitions.specs.Applying.{apply_delta}
use Rattle.definitions.specs.Types.{typed}
use Rattle.definitions.specs.Receiver.{same}
use Rattle.definitions.specs.Storage.{StoredSnap, Storage, newest_tick, drop_older, is_negative, warn_weird, drop_for, base_for, Keeps, with_snaps, with_ack, sum_fits, push_snap, add_table, add_on, add_delta}
use Rattle.laws.specs.StoreForm.{store_room}

-- ---- ticks

-- a tick is above that of the first of some tables, if there is one
abbrev pub Above : List StoredSnap → ℤ → Type 0
Above [] t = Unit {0}
Above (x ∷ l) t = signed_less x.tick t ≡ true

-- each tick is above the next
pub data Falling : List StoredSnap → Type 0 where
  none : Falling []
  more : {x : StoredSnap} {l : List StoredSnap} → Above l x.tick → Falling l → Falling (x ∷ l)

-- a tick above the newest is above the first
newest-above : (l : List StoredSnap) (t : ℤ) → signed_less (newest_tick l) t ≡ true → Above l t
newest-above [] t h = tt
newest-above (x ∷ l) t h = h

-- it is above the first of the front
above-take : (n : ℕ) (l : List StoredSnap) (t : ℤ) → Above l t → Above (take n l) t
above-take zero l t h = tt
above-take (suc n) [] t h = tt
above-take (suc n) (x ∷ l) t h = h

-- the front of ticks that fall
falling-take : (n : ℕ) (l : List StoredSnap) → Falling l → Falling (take n l)
falling-take zero l f = none
falling-take (suc n) [] f = none
falling-take (suc n) (x ∷ l) (more h f) = more (above-take n l x.tick h) (falling-take n l f)

-- it is above the first of those that are left
above-drop : (b : ℤ) (l : List StoredSnap) (t : ℤ) → Above l t → Above (drop_older b l) t
unfolding drop_older
above-drop b [] t h = tt
above-drop b (x ∷ l) t h = go (signed_less x.tick b)
  where
    go : (c : Bool) → Above (cond c [] (x ∷ drop_older b l)) t
    go true = tt
    go false = h

-- those that are left fall
falling-drop : (b : ℤ) (l : List StoredSnap) → Falling l → Falling (drop_older b l)
unfolding drop_older
falling-drop b [] f = none
falling-drop b (x ∷ l) (more h f) = go (signed_less x.tick b) (falling-drop b l f)
  where
    go : (c : Bool) → Falling (drop_older b l) → Falling (cond c [] (x ∷ drop_older b l))
    go true g = none
    go false g = more (above-drop b l x.tick h) g

module _ (n : ℕ) (sum : Option ℤ) (tick : ℤ) where
  -- a table more, or a refusal
  table-falls : (s : Storage) (o : Outcome Table) → Above s.snaps tick → Falling s.snaps → Falling (add_table n sum tick s o).storage.snaps
  unfolding add_table
  table-falls s (err e w) h f = f
  table-falls s (ok t w) h f = go (sum_fits sum t) (leb (store_room (push_snap tick t s.snaps)) n)
    where
      go : (a b : Bool) → Falling (cond {A = Keeps ℤ} a (cond b (record { answer = ok tick w; storage = with_ack (with_snaps s (push_snap tick t s.snaps)) (some tick) }) (record { answer = err capacity_error w; storage = s })) (record { answer = err invalid_crc w; storage = with_ack s Option.none })).storage.snaps
      go true true = falling-take 100 (record { tick = tick; snap = t } ∷ s.snaps) (more h f)
      go true false = f
      go false b = f

  -- a delta with its base, or without
  base-falls : (base : ℤ) (d : Delta) (s : Storage) (b : Option Table) → Above s.snaps tick → Falling s.snaps → Falling (add_on n sum base tick d s b).storage.snaps
  unfolding add_on
  base-falls base d s Option.none h f = f
  base-falls base d s (some b) h f = table-falls s (warn_weird base >> (apply_delta b d >>= typed)) h f

  -- whatever delta comes, the ticks held fall
  pub ticks-fall : (base : ℤ) (d : Delta) (s : Storage) → Falling s.snaps → Falling (add_delta n sum base tick d s).storage.snaps
  unfolding add_delta
  ticks-fall base d s f = go (signed_less (newest_tick s.snaps) tick) (newest-above s.snaps tick)
    where
      left : Above s.snaps tick → (c : Bool) → Above (cond c s.snaps (drop_older base s.snaps)) tick
      left h true = h
      left h false = above-drop base s.snaps tick h

      fall : (c : Bool) → Falling (cond c s.snaps (drop_older base s.snaps))
      fall true = f
      fall false = falling-drop base s.snaps f

      go : (c : Bool) → (c ≡ true → Above s.snaps tick) → Falling (cond {A = Keeps ℤ} c (add_on n sum base tick d (with_snaps s (drop_for base s.snaps)) (base_for base s.snaps)) (record { answer = refuse store_old_delta; storage = s })).storage.snaps
      go true h =
          base-falls base d (with_snaps s (drop_for base s.snaps)) (base_for base s.snaps) (left (h refl) (is_negative base)) (fall (is_negative base))
      go false h = f

-- ---- sums

-- a table that is taken has the sum that was sent
pub sum_is : (n : ℕ) (sum tick : ℤ) (s : Storage) (t : Table) (w v : Counts) → (add_table n (some sum) tick s (ok t w)).answer ≡ ok tick v → same sum (crc t) ≡ true
unfolding add_table
sum_is n sum tick s t w v h = go (same sum (crc t)) _ h
  where
    go : (a : Bool) (x : Keeps ℤ) → (cond {A = Keeps ℤ} a x (record { answer = err invalid_crc w; storage = with_ack s Option.none })).answer ≡ ok tick v → a ≡ true
    go true x e = refl
    go false x e = let z : ◌≡◌ {A = ℕ} 0 1 = cc in absurd (omega arith)
