-- Updates measured and written one after the other, as ints or packed. Assumes nothing.
use Prim.Native.Nat.{ℕ, zero, suc, ◌+◌, ◌-◌, ◌*◌, ◌<◌, ◌≤◌}
use mathlib.Core.Path.{◌≡◌, refl, sym, ap, ◌∙◌}
use mathlib.Core.Bool.{Bool, true}
use mathlib.Core.List.{List, [], ◌++◌}
use native.Mathlib.Omega.{arith}
use lib.IntN.{ℤ}
use lib.ListN.{length, take, drop, length-append, length-take, length-drop}
use borrow.Author.Tests.{le-leb}
use Rattle.definitions.specs.Areas.{lay_at}
use Rattle.definitions.specs.Packed.{pack_ints}
use Rattle.definitions.specs.Deltas.{update_ints, updates_ints, update_end, update_at, updates}
use Rattle.laws.specs.AreaLaws.{lay_at-nothing, lay_at-append, length-lay_at}
use Rattle.laws.specs.DeltaShape.{Update, Updates, other-updates}
use Rattle.laws.specs.PackLaws.{length-pack_ints, pack-append}
use Rattle.laws.specs.DeltaWriting.{rest_ints, update-parts, written-within}
use Rattle.ints.specs.Copies.{Copied, copy_at}

-- n updates from place p on, written in a form that concatenates lists
abbrev pub formed : {E : Type 0} → (List ℤ → List E) → List ℤ → List ℤ → ℕ → ℕ → List E
formed form sizes a p n = form (updates_ints sizes (updates [] a p n))

-- n updates from place p on are left to measure
pub record Measuring {E : Type 0} (form : List ℤ → List E) (sizes a : List ℤ) (start count total p n : ℕ) : Type 0 where
  pub lie : Updates [] a p n
  pub sum : total + length (formed form sizes a p n) ≡ length (formed form sizes a start count)

-- n updates from place p on are left to write; then the area is as with all written from the first place on
pub record Writing {E : Type 0} (form : List ℤ → List E) (sizes a : List ℤ) (start count first : ℕ) (before out : List E) (at p n : ℕ) : Type 0 where
  pub lie : Updates [] a p n
  pub same : length out ≡ length before
  pub ends : at + length (formed form sizes a p n) ≡ first + length (formed form sizes a start count)
  pub laid : lay_at at (formed form sizes a p n) out ≡ lay_at first (formed form sizes a start count) before

module _ {E : Type 0} (form : List ℤ → List E) (nothing : form [] ≡ []) (joined : (xs ys : List ℤ) → form (xs ++ ys) ≡ form xs ++ form ys) (sizes a : List ℤ) where
  -- the update at place p
  abbrev one : ℕ → List E
  one p = form (update_ints sizes (update_at [] a p))

  none_left : (p n : ℕ) → n ≤ 0 → formed form sizes a p n ≡ []
  unfolding updates_ints updates
  none_left p zero l = nothing
  none_left p (suc n) l = absurd (omega arith)

  first-left : (p n : ℕ) → 0 < n → formed form sizes a p n ≡ one p ++ formed form sizes a (update_end [] a p) (n - 1)
  unfolding updates_ints updates
  first-left p zero l = absurd (omega arith)
  first-left p (suc n) l =
      let m : suc n - 1 ≡ n = omega arith in
      rw m (joined (update_ints sizes (update_at [] a p)) (updates_ints sizes (updates [] a (update_end [] a p) n)))

  length-left : (p n : ℕ) → 0 < n → length (formed form sizes a p n) ≡ length (one p) + length (formed form sizes a (update_end [] a p) (n - 1))
  length-left p n l = ap length (first-left p n l) ∙ length-append (one p) (formed form sizes a (update_end [] a p) (n - 1))

  -- ---- one update, in two parts

  module _ (p : ℕ) (u : Update [] a p) where
    abbrev head : List ℤ
    head = take (p + 2 - p) (drop p a)

    pub two-parts : one p ≡ form head ++ form (rest_ints sizes a p)
    two-parts =
        let e : p + 2 - p ≡ 2 = omega arith in
        rw (e, update-parts sizes a p u) (joined (take 2 (drop p a)) (rest_ints sizes a p))

    pub length-parts : length (one p) ≡ length (form head) + length (form (rest_ints sizes a p))
    length-parts = ap length two-parts ∙ length-append (form head) (form (rest_ints sizes a p))

    -- both were written
    pub both-written : (at n r : ℕ) (out o1 o2 : List E) → n ≡ at + length (form head) → o1 ≡ lay_at at (form head) out → r ≡ n + length (form (rest_ints sizes a p)) → o2 ≡ lay_at n (form (rest_ints sizes a p)) o1 → (r ≡ at + length (one p)) × (o2 ≡ lay_at at (one p) out)
    both-written at n r out o1 o2 en e1 er e2 =
        (omega (arith, length-parts), rw (two-parts, lay_at-append at (form head) (form (rest_ints sizes a p)) out, ← e1, ← en) e2)

  module _ {start count : ℕ} where
    -- ---- measuring

    pub measure : Updates [] a start count → Measuring form sizes a start count 0 start count
    measure us = record { lie = us; sum = omega arith }

    module _ {total p n : ℕ} (m : Measuring form sizes a start count total p n) where
      pub measured-under : 0 < n → total + length (one p) ≤ length (formed form sizes a start count)
      measured-under l = omega (arith, m.sum, length-left p n l)

      pub one-measured : (end r : ℕ) → 0 < n → end ≡ update_end [] a p → r ≡ total + length (one p) → Measuring form sizes a start count r end (n - 1)
      one-measured end r l e d =
          record { lie = rw e (other-updates m.lie l); sum = rw e (omega (arith, m.sum, length-left p n l)) }

      pub all-measured : n ≤ 0 → total ≡ length (formed form sizes a start count)
      all-measured l = omega (arith, m.sum, ap length (none_left p n l))

    -- ---- writing

    module _ {first : ℕ} {before : List E} where
      pub begin : Updates [] a start count → Writing form sizes a start count first before before first start count
      begin us = record { lie = us; same = refl; ends = refl; laid = refl }

      module _ {out : List E} {at p n : ℕ} (w : Writing form sizes a start count first before out at p n) where
        pub room : 0 < n → first + length (formed form sizes a start count) ≤ length before → at + length (one p) ≤ length out
        room l h = omega (arith, w.same, w.ends, length-left p n l)

        pub one_written : (end r : ℕ) (o : List E) → 0 < n → end ≡ update_end [] a p → r ≡ at + length (one p) → o ≡ lay_at at (one p) out → Writing form sizes a start count first before o r end (n - 1)
        one_written end r o l e d f =
            let after = formed form sizes a (update_end [] a p) (n - 1) in
            record {
              lie = rw e (other-updates w.lie l);
              same = ap length f ∙ length-lay_at at (one p) out ∙ w.same;
              ends = rw e (omega (arith, w.ends, length-left p n l));
              laid = rw (e, d, f, ← lay_at-append at (one p) after out, ← first-left p n l) w.laid;
            }

        pub all-written : n ≤ 0 → (at ≡ first + length (formed form sizes a start count)) × (out ≡ lay_at first (formed form sizes a start count) before)
        all-written l =
            let e = none_left p n l in
            (omega (arith, w.ends, ap length e), sym (lay_at-nothing at out) ∙ (rw e at w.laid))

-- ---- as ints

-- ints that had room were copied
pub copied : (out : List ℤ) (at : ℕ) (xs o : List ℤ) (b : Bool) → at + length xs ≤ length out → copy_at out at xs ≡ record { fits = b; out = o } → o ≡ lay_at at xs out
unfolding copy_at
copied out at xs o b h e =
    let q : ◌≡◌ {A = Copied} (record { fits = true; out = lay_at at xs out }) (record { fits = b; out = o }) = rw (le-leb (at + length xs) (length out) h) at e in
    sym (ap (λ (c : Copied). c.out) q)

abbrev plain : List ℤ → List ℤ
plain xs = xs

module _ (sizes a : List ℤ) (p : ℕ) (u : Update [] a p) where
  length-head : length (take (p + 2 - p) (drop p a)) ≡ 2
  length-head = simp (length-take, length-drop) (omega (arith, u.head))

  pub int-length : (rest : List ℤ) → rest ≡ rest_ints sizes a p → 2 + length rest ≡ length (update_ints sizes (update_at [] a p))
  int-length rest e =
      omega (arith, length-parts plain refl (λ xs ys. refl) sizes a p u, length-head, ap length e)

  pub int-written : (at : ℕ) (out o1 o2 rest : List ℤ) (b1 b2 : Bool) → at + length (update_ints sizes (update_at [] a p)) ≤ length out → copy_at out at (take (p + 2 - p) (drop p a)) ≡ record { fits = b1; out = o1 } → rest ≡ rest_ints sizes a p → copy_at o1 (at + 2) rest ≡ record { fits = b2; out = o2 } → (at + 2 + length rest ≡ at + length (update_ints sizes (update_at [] a p))) × (o2 ≡ lay_at at (update_ints sizes (update_at [] a p)) out)
  int-written at out o1 o2 rest b1 b2 h c1 e c2 =
      let n = int-length rest e in
      let head = take (p + 2 - p) (drop p a) in
      let k = length-head in
      let o1-is = copied out at head o1 b1 (omega arith) c1 in
      let same : length o1 ≡ length out = ap length o1-is ∙ length-lay_at at head out in
      let o2-is = copied o1 (at + 2) rest o2 b2 (omega arith) c2 in
      both-written plain refl (λ xs ys. refl) sizes a p u at (at + 2) (at + 2 + length rest) out o1 o2 (omega arith) o1-is (ap (λ (l : List ℤ). at + 2 + length l) e) (rw (← e) o2-is)

-- ---- packed

pub packed-nothing : pack_ints [] ≡ []
unfolding pack_ints
packed-nothing = refl

module _ (sizes a : List ℤ) (start n : ℕ) where
  -- the packed form's length fits if the area's does
  pub packed-under : start ≤ length a → Updates [] a start n → length (pack_ints (updates_ints sizes (updates [] a start n))) ≤ 5 * length a
  packed-under l us = omega (arith, length-pack_ints (updates_ints sizes (updates [] a start n)), written-within sizes a start n l us)

module _ (sizes a : List ℤ) (p : ℕ) (u : Update [] a p) (rest : List ℤ) (e : rest ≡ rest_ints sizes a p) where
  abbrev packed-head : List ℕ
  packed-head = pack_ints (take (p + 2 - p) (drop p a))

  abbrev packed-one : List ℕ
  packed-one = pack_ints (update_ints sizes (update_at [] a p))

  pub packed-parts : length packed-one ≡ length packed-head + length (pack_ints rest)
  packed-parts = rw e (length-parts pack_ints packed-nothing pack-append sizes a p u)

  module _ (at : ℕ) (out : List ℕ) (h : at + length packed-one ≤ length out) where
    pub head-room : at + length packed-head ≤ length out
    head-room = omega (arith, packed-parts)

    module _ (n : ℕ) (o1 : List ℕ) (en : n ≡ at + length packed-head) (e1 : o1 ≡ lay_at at packed-head out) where
      pub rest-room : n + length (pack_ints rest) ≤ length o1
      rest-room = omega (arith, packed-parts, ap length e1, length-lay_at at packed-head out)

      pub packed-written : (r : ℕ) (o2 : List ℕ) → r ≡ n + length (pack_ints rest) → o2 ≡ lay_at n (pack_ints rest) o1 → (r ≡ at + length packed-one) × (o2 ≡ lay_at at packed-one out)
      packed-written r o2 er e2 =
          both-written pack_ints packed-nothing pack-append sizes a p u at n r out o1 o2 en e1 (rw e at er) (rw e at e2)
