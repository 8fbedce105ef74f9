-- A sound table is read back from its written form, and what is read is sound.
use Prim.Native.Nat.{ℕ, zero, suc, ◌+◌, ◌-◌, ◌*◌, ◌<◌, ◌≤◌, ◌^◌}
use Rattle.std.proofs.Math.Path.{◌≡◌, refl, sym, ap, ap₂}
use Rattle.std.proofs.Common.{◌∙◌, subst, ⊎_elim, eq-or-lt_of_le, add-one, take-append-drop, take-suc, lt-ltb, le-leb, leb-true, ltb-true}
use Rattle.std.specs.Prelude.{Bool, true, ℤ, take, leb, ltb}
use Rattle.std.proofs.Math.Bool.{false}
use mathlib.Core.List.{List, [], ◌∷◌, ◌++◌, append_assoc}
use Rattle.std.proofs.Math.Option.{some, none}
use native.Mathlib.Omega.{arith}
use Rattle.std.proofs.Math.IntN.{pos}
use Rattle.std.specs.Int.Signed.{mag}
use Rattle.std.proofs.Math.ListN.{length, get_or, drop, length-append, get_or-append}
use Rattle.std.proofs.Math.Seq.{split_at, drop_at, take_at, take-length}
use Rattle.std.proofs.lemmas.List.{get_or_at}
use Rattle.definitions.specs.Ints.{bits, from_bits}
use Rattle.laws.specs.IntLaws.{bits_below, bits_back, digits-below}
use Rattle.definitions.specs.Tables.{Item, Table, body, offsets, written, rising, sound, list, size, count, edge, start, key_at, values_at, item_at, lowest, in_form, items, table_of, num, nat}
use Rattle.laws.specs.ListLaws.{list-cons, list_ext, list-get_or}
use Rattle.laws.specs.TableShape.{Shape, both, shape, some_is, edge-end, key-next}
use Rattle.laws.specs.TableForm.{body-append, length-offsets, length-written, length-items, length-form, restores, edge-nat}

abbrev pub no_item : Item
no_item = record { key = 0; values = [] }

-- ---- what is read is sound

rising-list : (f : ℕ → Item) (k low : ℕ) → ((i : ℕ) → i < k → (f i).key < 2 ^ 32) → ((i : ℕ) → suc i < k → (f i).key < (f (suc i)).key) → (0 < k → low ≤ (f 0).key) → rising low (list f k) ≡ true
unfolding list rising
rising-list f zero low u r l = refl
rising-list f (suc k) low u r l =
    rw (list-cons f k, le-leb _ _ (l (omega arith)), lt-ltb _ _ (u 0 (omega arith)))
    (rising-list (λ i. f (suc i)) k (suc (f 0).key) (λ i m. u (suc i) (omega arith)) (λ i m. r (suc i) (omega arith)) (λ m. r 0 (omega arith)))

key_below : (a : List ℤ) → Shape a → (i : ℕ) → i < count a → key_at a i < 2 ^ 32
unfolding key_at
key_below a h i l = bits_below (get_or a (start a i) (pos 0)) (h.step i l).whole

rises : (a : List ℤ) → Shape a → rising 0 (items a) ≡ true
unfolding items
rises a h = rising-list (item_at a) (count a) 0 (λ i l. key_below a h i l) (λ i l. rw add-one at (key-next a h i (omega arith))) (λ l. omega arith)

pub items-sound : (a : List ℤ) → Shape a → sound (items a) ≡ true
unfolding sound
items-sound a h =
    rw (le-leb (length (items a)) 1024 (omega (arith, length-items a h, h.few)), le-leb (length (written (items a))) 16384 (omega (arith, length-form a h, h.short)))
    (rises a h)

-- what a list in form holds is written at its beginning, and is sound
pub soundly : (a : List ℤ) (t : Table) → table_of a ≡ some t → (a ≡ written t ++ drop (length (written t)) a) × (sound t ≡ true)
soundly a t e = go (in_form a) refl
  where
    go : (b : Bool) → in_form a ≡ b → (a ≡ written t ++ drop (length (written t)) a) × (sound t ≡ true)
    go true q =
        let h = shape a q in
        let r : table_of a ≡ some (items a) = unfold table_of in rw q in
        let d : items a ≡ t = cc in
        (subst (λ (u : Table). a ≡ written u ++ drop (length (written u)) a) d (rw (length-form a h) (restores a h)), rw d at (items-sound a h))
    go false q =
        let r : table_of a ≡ none = unfold table_of in rw q in
        let z : ◌≡◌ {A = ℕ} 0 1 = cc in absurd (omega arith)

-- ---- a written table is read back

low_t : ℕ → Table → ℕ → ℕ
low_t low t zero = low
low_t low t (suc i) = suc (get_or t i no_item).key

ranks : (low : ℕ) (t : Table) (i : ℕ) → rising low t ≡ true → i < length t → (low_t low t i ≤ (get_or t i no_item).key) × ((get_or t i no_item).key < 2 ^ 32)
unfolding low_t rising
ranks low [] i e l = absurd (omega arith)
ranks low (x ∷ t) zero e l =
    let p = both (leb low x.key) _ e in
    (leb-true _ _ p.0, ltb-true _ _ (both (ltb x.key (2 ^ 32)) _ p.1).0)
ranks low (x ∷ t) (suc zero) e l =
    let p = both (leb low x.key) _ e in
    ranks (suc x.key) t zero (both (ltb x.key (2 ^ 32)) _ p.1).1 (omega arith)
ranks low (x ∷ t) (suc (suc i)) e l =
    let p = both (leb low x.key) _ e in
    ranks (suc x.key) t (suc i) (both (ltb x.key (2 ^ 32)) _ p.1).1 (omega arith)

offset_at : (o : ℕ) (t : Table) (i : ℕ) → i < length t → get_or (offsets o t) i (pos 0) ≡ pos (o + 4 * length (body (take i t)))
unfolding offsets body
offset_at o [] i l = absurd (omega arith)
offset_at o (x ∷ t) zero l = ap pos (omega arith)
offset_at o (x ∷ t) (suc i) l = offset_at (o + 4 * suc (length x.values)) t i (omega arith) ∙ ap pos (omega (arith, length-append x.values (body (take i t))))

body_more : (t : Table) (i : ℕ) → i < length t → length (body (take (i + 1) t)) ≡ length (body (take i t)) + suc (length (get_or t i no_item).values)
unfolding body
body_more t i l = rw (add-one i, take-suc t i no_item l, body-append, length-append) (omega (arith, length-append (get_or t i no_item).values []))

body-part : (t : Table) (i : ℕ) → length (body (take i t)) ≤ length (body t)
body-part t i = omega (arith, ap (λ (u : Table). length (body u)) (take-append-drop i t), ap length (body-append (take i t) (drop i t)), length-append (body (take i t)) (body (drop i t)))

module _ (t : Table) (rest : List ℤ) where
  W : List ℤ
  W = written t ++ rest

  count-w : count W ≡ length t
  unfolding W nat num written
  count-w = refl

  size-w : size W ≡ 4 * length (body t)
  unfolding W nat num written
  size-w = refl

  length-w : length W ≡ 2 + length t + length (body t) + length rest
  unfolding W
  length-w = omega (arith, length-append (written t) rest, length-written t)

  nat-w : (i : ℕ) → i < length t → nat W (2 + i) ≡ 4 * length (body (take i t))
  unfolding W nat num written
  nat-w i l =
      let e : 2 + i ≡ suc (suc i) = omega arith in
      let k : i < length (offsets 0 t) = omega (arith, length-offsets 0 t) in
      rw (e, append_assoc (offsets 0 t) (body t) rest, get_or-append (offsets 0 t) (body t ++ rest) (pos 0) i k, offset_at 0 t i l) (omega arith)

  edge-w : (i : ℕ) → i ≤ length t → edge W i ≡ 4 * length (body (take i t))
  edge-w i l = ⊎_elim
      (λ (q : i ≡ length t). ap (edge W) (q ∙ sym count-w) ∙ (edge-end W ∙ (size-w ∙ ap (λ (u : Table). 4 * length (body u)) (sym (ap (λ (j : ℕ). take j t) q ∙ take-length t)))))
      (λ (m : i < length t). edge-nat W i (omega (arith, count-w)) ∙ nat-w i m)
      (eq-or-lt_of_le l)

  start-w : (i : ℕ) → i ≤ length t → start W i ≡ 2 + length t + length (body (take i t))
  unfolding start
  start-w i l = omega (arith, edge-w i l, count-w)

  -- the ints before item i, and those behind its key
  before : ℕ → List ℤ
  before i = pos (4 * length (body t)) ∷ pos (length t) ∷ offsets 0 t ++ body (take i t)

  length_before : (i : ℕ) → length (before i) ≡ 2 + length t + length (body (take i t))
  unfolding before
  length_before i = omega (arith, length-append (offsets 0 t) (body (take i t)), length-offsets 0 t)

  split-w : (i : ℕ) → i < length t → let x = get_or t i no_item in W ≡ before i ++ from_bits x.key ∷ (x.values ++ (body (drop (suc i) t) ++ rest))
  unfolding W before written
  split-w i l =
      let x = get_or t i no_item in
      let e : body t ≡ body (take i t) ++ (from_bits x.key ∷ (x.values ++ body (drop (suc i) t))) = ap body (split_at t i no_item l) ∙ (body-append (take i t) (x ∷ drop (suc i) t) ∙ (unfold body in refl)) in
      ap (λ (m : List ℤ). pos (4 * length (body t)) ∷ pos (length t) ∷ m)
      (append_assoc (offsets 0 t) (body t) rest
      ∙ (ap (λ (m : List ℤ). offsets 0 t ++ (m ++ rest)) e
      ∙ (ap (λ (m : List ℤ). offsets 0 t ++ m) (append_assoc (body (take i t)) (from_bits x.key ∷ (x.values ++ body (drop (suc i) t))) rest
      ∙ ap (λ (m : List ℤ). body (take i t) ++ (from_bits x.key ∷ m)) (append_assoc x.values (body (drop (suc i) t)) rest))
      ∙ sym (append_assoc (offsets 0 t) (body (take i t)) (from_bits x.key ∷ (x.values ++ (body (drop (suc i) t) ++ rest)))))))

  module _ (ok : rising 0 t ≡ true) where
    int-w : (i : ℕ) → i < length t → get_or W (start W i) (pos 0) ≡ from_bits (get_or t i no_item).key
    int-w i l =
        let x = get_or t i no_item in
        ap (λ (m : List ℤ). get_or m (start W i) (pos 0)) (split-w i l)
        ∙ get_or_at (before i) (from_bits x.key) (x.values ++ (body (drop (suc i) t) ++ rest)) (pos 0) (start W i) (omega (arith, length_before i, start-w i (omega arith)))

    key-w : (i : ℕ) → i < length t → key_at W i ≡ (get_or t i no_item).key
    unfolding key_at
    key-w i l = ap bits (int-w i l) ∙ bits_back (get_or t i no_item).key (ranks 0 t i ok l).1

    vals-w : (i : ℕ) → i < length t → values_at W i ≡ (get_or t i no_item).values
    unfolding values_at
    vals-w i l =
        let x = get_or t i no_item in
        let r = body (drop (suc i) t) ++ rest in
        let e : W ≡ (before i ++ from_bits x.key ∷ []) ++ (x.values ++ r) = split-w i l ∙ sym (append_assoc (before i) (from_bits x.key ∷ []) (x.values ++ r)) in
        let d : drop (start W i + 1) W ≡ x.values ++ r = ap (drop (start W i + 1)) e ∙ drop_at (before i ++ from_bits x.key ∷ []) (x.values ++ r) (start W i + 1) (omega (arith, length-append (before i) (from_bits x.key ∷ []), length_before i, start-w i (omega arith))) in
        ap (take (start W (i + 1) - (start W i + 1))) d
        ∙ take_at x.values r (start W (i + 1) - (start W i + 1)) (omega (arith, start-w i (omega arith), start-w (i + 1) (omega arith), body_more t i l))

    items-w : items W ≡ t
    unfolding items
    items-w =
        ap (list (item_at W)) count-w
        ∙ (list_ext (item_at W) (λ i. get_or t i no_item) (length t) (λ i l. ap₂ (λ (k : ℕ) (v : List ℤ). record { key = k; values = v }) (key-w i l) (vals-w i l))
        ∙ list-get_or no_item t)

    lowest-w : (i : ℕ) → i < length t → lowest W i ≤ key_at W i
    unfolding lowest low_t
    lowest-w zero l = omega arith
    lowest-w (suc i) l = omega (arith, key-w i (omega arith), key-w (suc i) l, (ranks 0 t (suc i) ok l).0)

    whole-w : (i : ℕ) → i < length t → mag (get_or W (start W i) (pos 0)) < 2 ^ 31
    whole-w i l = rw (int-w i l) (digits-below (get_or t i no_item).key (ranks 0 t i ok l).1)

    shape-w : length t ≤ 1024 → 2 + length t + length (body t) ≤ 16384 → Shape W
    shape-w few short = record {
      few = omega (arith, count-w);
      short = omega (arith, count-w, size-w);
      room = omega (arith, count-w, size-w, length-w);
      first = edge-w 0 (omega arith) ∙ (unfold body in refl);
      step = λ i l.
          let m : i < length t = omega (arith, count-w) in
          record {
            aligned = omega (arith, edge-w (i + 1) (omega arith));
            rises = omega (arith, edge-w i (omega arith), edge-w (i + 1) (omega arith), body_more t i m);
            within = omega (arith, edge-w (i + 1) (omega arith), size-w, body-part t (i + 1));
            order = lowest-w i m;
            whole = whole-w i m;
          };
    }

-- a sound table is read back from its written form, whatever follows it
pub back : (t : Table) (rest : List ℤ) → sound t ≡ true → table_of (written t ++ rest) ≡ some t
unfolding sound W
back t rest e =
    let p = both (leb (length t) 1024) _ e in
    let q = both (leb (length (written t)) 16384) _ p.1 in
    let h = shape-w t rest q.1 (leb-true _ _ p.0) (let k : length (written t) ≤ 16384 = leb-true _ _ q.0 in omega (arith, length-written t)) in
    some_is (written t ++ rest) h ∙ ap some (items-w t rest q.1)
