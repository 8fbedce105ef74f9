-- How many ints the written delta between two tables takes. Assumes nothing.
use Rattle.std.specs.Prelude.{suc, ◌+◌, ◌*◌, ◌/◌, ◌%◌, ◌^◌, ◌≡◌, refl, Bool, cond, true, false, List, [], ◌∷◌, ◌++◌, ℤ, pos, length, leb}
use Rattle.std.proofs.Common.{sym, ap, ◌∙◌, append_assoc, arith, le-ltb, length-append}
use Rattle.definitions.specs.Tables.{Item, Table, body, find, negatives, positives, walk}
use Rattle.definitions.specs.Deltas.{keys, known_size, update_ints, updates_ints, written_delta}
use Rattle.definitions.specs.DeltaMaking.{agree, differences, lacking, changes, alike, delta_from}
use Rattle.laws.specs.ZipLaws.{length-differences}
use Rattle.laws.specs.TableShape.{both}
use Rattle.laws.specs.TableWalk.{length-walk}
use Rattle.laws.specs.DeltaReadBack.{length-delta_ints}

-- an update as an area holds it: type, id, size, differences
pub update-written : (x : Item) → update_ints [] x ≡ pos (x.key / 65536) ∷ pos (x.key % 65536) ∷ pos (length x.values) ∷ x.values
unfolding update_ints known_size
update-written x = rw (le-ltb (x.key / 65536) 0 (omega arith))

pub length-update : (x : Item) → length (update_ints [] x) ≡ 3 + length x.values
length-update x = ap length (update-written x) ∙ omega arith

-- the updates of two lists, one behind the other
pub updates_ints-append : (sizes : List ℤ) (t u : List Item) → updates_ints sizes (t ++ u) ≡ updates_ints sizes t ++ updates_ints sizes u
unfolding updates_ints
updates_ints-append sizes [] u = refl
updates_ints-append sizes (x ∷ t) u =
    rw (updates_ints-append sizes t u) (sym (append_assoc (update_ints sizes x) (updates_ints sizes t) (updates_ints sizes u)))

halves-ints : (t : Table) → length (updates_ints [] (negatives t)) + length (updates_ints [] (positives t)) ≡ length (updates_ints [] t)
unfolding negatives positives updates_ints
halves-ints [] = refl
halves-ints (x ∷ t) = go (leb (2 ^ 31) x.key) (halves-ints t)
  where
    go : (q : Bool) → length (updates_ints [] (negatives t)) + length (updates_ints [] (positives t)) ≡ length (updates_ints [] t)
        → length (updates_ints [] (cond q (x ∷ negatives t) (negatives t))) + length (updates_ints [] (cond q (positives t) (x ∷ positives t))) ≡ length (update_ints [] x ++ updates_ints [] t)
    go true e =
        omega (arith, length-append (update_ints [] x) (updates_ints [] (negatives t)), length-append (update_ints [] x) (updates_ints [] t))
    go false e =
        omega (arith, length-append (update_ints [] x) (updates_ints [] (positives t)), length-append (update_ints [] x) (updates_ints [] t))

walk-ints : (t : Table) → length (updates_ints [] (walk t)) ≡ length (updates_ints [] t)
walk-ints t =
    ap length (updates_ints-append [] (negatives t) (positives t))
    ∙ (length-append (updates_ints [] (negatives t)) (updates_ints [] (positives t)) ∙ halves-ints t)

-- each item of the target is changed
pub length-changes : (b t : Table) → length (changes b t) ≡ length t
unfolding changes
length-changes b [] = refl
length-changes b (x ∷ t) = ap suc (length-changes b t)

changes-ints : (b t : Table) → alike b t ≡ true → length (updates_ints [] (changes b t)) ≡ 2 * length t + length (body t)
unfolding changes updates_ints alike body
changes-ints b [] e = refl
changes-ints b (x ∷ t) e =
    let p = both (agree (find x.key b) x.values) _ e in
    let y : Item = record { key = x.key; values = differences (find x.key b) x.values } in
    omega (
      arith,
      length-append (update_ints [] y) (updates_ints [] (changes b t)),
      length-update y,
      length-differences (find x.key b) x.values p.0,
      changes-ints b t p.1,
      length-append x.values (body t),
    )

pub length_keys_of : (t : Table) → length (keys t) ≡ length t
length_keys_of [] = refl
length_keys_of (x ∷ t) = ap suc (length_keys_of t)

-- three ints, the deleted keys, and for each item of the target three ints and its data
pub length-delta_from : (b t : Table) → alike b t ≡ true → length (written_delta (delta_from b t)) ≡ 3 + length (lacking t b) + (2 * length t + length (body t))
unfolding delta_from
length-delta_from b t e =
    omega (
      arith,
      length-delta_ints [] (delta_from b t),
      length_keys_of (walk (lacking t b)),
      length-walk (lacking t b),
      walk-ints (changes b t),
      changes-ints b t e,
    )
