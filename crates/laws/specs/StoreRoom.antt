-- Tables that stay when others are dropped: they are sound, no more than before, and take no more ints. Assumes nothing.
use Rattle.std.specs.Prelude.{Bool, true, false, cond, List, [], ◌∷◌, ℕ, zero, suc, ◌*◌, ◌≤◌, ℤ, length, take}
use Rattle.std.proofs.Common.{arith}
use Rattle.definitions.specs.Ints.{signed_less}
use Rattle.definitions.specs.Storage.{StoredSnap, drop_older, is_negative, drop_for}
use Rattle.laws.specs.StoreForm.{Sounds, nothing, more, sound-short, store_room, room-none, room_cons}

-- sound tables take at most 16,386 ints each
pub room_most : {l : List StoredSnap} → Sounds l → store_room l ≤ 16386 * length l
room_most nothing = omega (arith, room-none)
room_most (more {x = x} {l = l} e h) = omega (arith, room_cons x l, sound-short x.snap e, room_most h)

-- ---- the first tables

pub sounds-take : (i : ℕ) (l : List StoredSnap) → Sounds l → Sounds (take i l)
sounds-take zero l s = nothing
sounds-take (suc i) [] s = nothing
sounds-take (suc i) (x ∷ l) (more e s) = more e (sounds-take i l s)

pub room_take : (i : ℕ) (l : List StoredSnap) → store_room (take i l) ≤ store_room l
room_take zero l = omega (arith, room-none)
room_take (suc i) [] = omega arith
room_take (suc i) (x ∷ l) = omega (arith, room_cons x l, room_cons x (take i l), room_take i l)

-- ---- the tables before the first that is older than a tick

pub sounds-older : (tick : ℤ) (l : List StoredSnap) → Sounds l → Sounds (drop_older tick l)
unfolding drop_older
sounds-older tick [] s = nothing
sounds-older tick (x ∷ l) (more e s) = go (signed_less x.tick tick) (sounds-older tick l s)
  where
    go : (b : Bool) → Sounds (drop_older tick l) → Sounds (cond b [] (x ∷ drop_older tick l))
    go true h = nothing
    go false h = more e h

pub room-older : (tick : ℤ) (l : List StoredSnap) → store_room (drop_older tick l) ≤ store_room l
unfolding drop_older
room-older tick [] = omega arith
room-older tick (x ∷ l) = go (signed_less x.tick tick) (room-older tick l)
  where
    go : (b : Bool) → store_room (drop_older tick l) ≤ store_room l → store_room (cond b [] (x ∷ drop_older tick l)) ≤ store_room (x ∷ l)
    go true h = omega (arith, room-none)
    go false h = omega (arith, room_cons x (drop_older tick l), room_cons x l)

pub length-older : (tick : ℤ) (l : List StoredSnap) → length (drop_older tick l) ≤ length l
unfolding drop_older
length-older tick [] = omega arith
length-older tick (x ∷ l) = go (signed_less x.tick tick) (length-older tick l)
  where
    go : (b : Bool) → length (drop_older tick l) ≤ length l → length (cond b [] (x ∷ drop_older tick l)) ≤ length (x ∷ l)
    go true h = omega arith
    go false h = omega arith

-- ---- the tables that are left for a base

-- no more than before
pub length-for : (tick : ℤ) (l : List StoredSnap) → length (drop_for tick l) ≤ length l
length-for tick l = go (is_negative tick)
  where
    go : (b : Bool) → length (cond b l (drop_older tick l)) ≤ length l
    go true = omega arith
    go false = length-older tick l
