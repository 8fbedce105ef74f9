-- What the form check of a store says. Assumes nothing.
use Rattle.std.specs.Prelude.{◌≡◌, refl, List, ◌++◌, ℕ, ◌+◌, ◌-◌, ℤ, pos, length, replicate, Some, None}
use Rattle.std.proofs.Common.{sym, ap, ◌∙◌, arith, length-append}
use Rattle.std.proofs.Math.Option.{Option, some, none}
use Rattle.definitions.specs.Storage.{StoredSnap, store_ints, snaps_of}
use Rattle.laws.specs.StoreForm.{snaps-laid, are-zeros, store_room}
use Rattle.store_area.specs.Held.{form_of, snaps_in, Stands, HeldStore}

-- tables that are found in some ints are laid out in them
pub found-stands : (n : ℕ) (a : List ℤ) (l : List StoredSnap) → snaps_of n a ≡ some l → Stands a l
found-stands n a l e =
    let k = snaps-laid n a l e in
    let m : length a ≡ store_room l + length k.rest = ap length k.whole ∙ length-append (store_ints l) k.rest in
    let d : length k.rest ≡ length a - store_room l = omega arith in
    record {
      sounds = k.sounds;
      room = omega arith;
      area-is = k.whole ∙ ap (λ (r : List ℤ). store_ints l ++ r) (are-zeros k.rest k.zeros ∙ ap (λ (i : ℕ). replicate i (pos 0)) d);
    }

-- what is known if tables are found
pub record Found (n : ℕ) (a : List ℤ) (k : ℕ) : Type 0 where
  pub held : HeldStore a n
  pub snaps-are : snaps_of n a ≡ some (snaps_in n a)
  pub ints-are : k ≡ store_room (snaps_in n a)

-- what an answer says, by what is found
abbrev Tells : ℕ → List ℤ → ℕ → Option (List StoredSnap) → Type 0
Tells n a k o = snaps_of n a ≡ o → Some k ≡ form_of o → Found n a k

-- by cases
tells : (n : ℕ) (a : List ℤ) (k : ℕ) (o : Option (List StoredSnap)) → Tells n a k o
unfolding snaps_in
tells n a k none q e = let z : ◌≡◌ {A = ℕ} 0 1 = cc in absurd (omega arith)
tells n a k (some l) q e =
    let i : snaps_in n a ≡ l = rw q in
    let d : k ≡ store_room l = cc in
    record {
      held = record { many = ap length i ∙ (snaps-laid n a l q).many; stands = rw i (found-stands n a l q) };
      snaps-are = q ∙ ap some (sym i);
      ints-are = d ∙ ap (λ (m : List StoredSnap). store_room m) (sym i);
    }

-- the area holds tables
pub tested : (n : ℕ) (a : List ℤ) (k : ℕ) → Some k ≡ form_of (snaps_of n a) → Found n a k
tested n a k e = tells n a k (snaps_of n a) refl e
