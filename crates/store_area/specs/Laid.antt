-- Areas that hold tables: tables laid out are held, and what is held is laid out. Assumes nothing.
use Rattle.std.specs.Prelude.{◌≡◌, refl, true, List, [], ◌∷◌, ℕ, zero, suc, ◌<◌, ◌≤◌, ℤ, length}
use Rattle.std.proofs.Common.{sym, ap, ap₂, ◌∙◌, subst, arith}
use Rattle.std.proofs.Math.Option.{some}
use Rattle.definitions.specs.Tables.{sound}
use Rattle.definitions.specs.Storage.{StoredSnap, store_area, snaps_of}
use Rattle.laws.specs.StoreForm.{Sounds, more, area-found, store_room, LaidIn, length-area}
use Rattle.store_area.specs.Held.{snaps_in, snap_at, Stands, HeldStore, Leaves}

-- each of sound tables is sound
pub sound-at : (l : List StoredSnap) (i : ℕ) → Sounds l → i < length l → sound (snap_at l i).snap ≡ true
sound-at [] i s h = absurd (omega arith)
sound-at (x ∷ l) zero (more e s) h = e
sound-at (x ∷ l) (suc i) (more e s) h = sound-at l i s (omega arith)

-- ---- tables that are laid out

module _ (a : List ℤ) (l : List StoredSnap) (h : Stands a l) where
  -- they are found
  pub stands-found : snaps_of (length l) a ≡ some l
  stands-found = ap (snaps_of (length l)) h.area-is ∙ area-found (length a) l h.sounds

  -- they are the tables that the area holds
  stands-in : (n : ℕ) → n ≡ length l → snaps_in n a ≡ l
  unfolding snaps_in
  stands-in n e = rw (e, stands-found)

  -- the area holds so many
  stands-held : (n : ℕ) → n ≡ length l → HeldStore a n
  stands-held n e =
      let i = stands-in n e in
      record { many = ap length i ∙ sym e; stands = subst (Stands a) (sym i) h }

module _ (a out : List ℤ) (l : List StoredSnap) (laid : LaidIn (length a) l out) (s : Sounds l) (room : store_room l ≤ length a) where
  -- an area keeps its length
  laid-length : length out ≡ length a
  laid-length = ap length laid ∙ length-area (length a) l room

  -- and is these tables
  laid-stands : Stands out l
  laid-stands =
      record { sounds = s; room = rw laid-length room; area-is = laid ∙ ap (λ (m : ℕ). store_area m l) (sym laid-length) }

  -- so it holds them
  pub laid-leaves : (n k : ℕ) → n ≡ length l → k ≡ store_room l → Leaves a l n k out
  laid-leaves n k e f =
      let i = stands-in out l laid-stands n e in
      record {
        held = stands-held out l laid-stands n e;
        snaps-are = i;
        ints-are = f ∙ ap (λ (m : List StoredSnap). store_room m) (sym i);
        same_length = laid-length;
      }

-- ---- tables that are held

-- an area that was left as it is
pub held-leaves : (a : List ℤ) (n k : ℕ) → HeldStore a n → k ≡ store_room (snaps_in n a) → Leaves a (snaps_in n a) n k a
held-leaves a n k h e = record { held = h; snaps-are = refl; ints-are = e; same_length = refl }

-- equal tables
pub leaves-same : {a out : List ℤ} {l m : List StoredSnap} {n k : ℕ} → m ≡ l → Leaves a l n k out → Leaves a m n k out
leaves-same e h = rw e h

module _ {a out : List ℤ} {l : List StoredSnap} {n k : ℕ} (h : Leaves a l n k out) where
  -- as many tables are left
  pub leaves-many : length l ≡ n
  leaves-many = ap length (sym h.snaps-are) ∙ h.held.many

  -- they are laid out
  pub leaves-laid : LaidIn (length a) l out
  leaves-laid =
      h.held.stands.area-is ∙ ap₂ (λ (i : ℕ) (m : List StoredSnap). store_area i m) h.same_length h.snaps-are

  -- and so is a table that is then laid before them
  pub leaves-more : (x : StoredSnap) (b : List ℤ) → LaidIn (length out) (x ∷ snaps_in n out) b → LaidIn (length a) (x ∷ l) b
  leaves-more x b e = e ∙ ap₂ (λ (i : ℕ) (m : List StoredSnap). store_area i (x ∷ m)) h.same_length h.snaps-are
