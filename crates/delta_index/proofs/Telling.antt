-- The walk over sorted entries: results so far, and what remains. Assumes nothing.
use mathlib.Core.Path.{◌≡◌, sym, ap, ◌∙◌}
use mathlib.Core.Bool.{Bool, true, false, cond, not}
use mathlib.Core.List.{List, [], ◌∷◌, map}
use Prim.Native.Nat.{ℕ, suc, ◌+◌, ◌≤◌, ◌<◌}
use native.Mathlib.Numerals.{add-one}
use native.Mathlib.Omega.{arith}
use borrow.Author.Tests.{eq-eqb, ne_eqb, eqb-true, eqb-false}
use lib.Dec.{eqb}
use lib.IntN.{ℤ}
use lib.ListN.{length, drop, set, length-set}
use Rattle.definitions.specs.Areas.{lay_at}
use Rattle.definitions.specs.Ints.{from_bits}
use Rattle.definitions.specs.Deltas.{rank}
use Rattle.definitions.specs.Tables.{list}
use Rattle.laws.specs.AreaLaws.{lay_at-set, lay_at-nothing}
use Rattle.sorting.specs.Pairs.{key, place}
use Rattle.delta_index.specs.Entries.{is_deleted, deleted_once, first_has, last_updates, crossing, key_int}
use Rattle.delta_index.specs.Walks.{next-entry, none_left}
use Rattle.delta_index.specs.Steps.{test, once-nil, once-update, once-again, once-new, last-nil, last-deleted, last-update, cross-nil, cross-deleted, cross-update}

-- ---- the next pair

pub last_end : (f : ℕ → ℕ) (n k i : ℕ) → n ≤ i → true ≡ not (first_has k (drop i (list f n)))
last_end f n k i h = rw (none_left f n i h)

pub last_inner : (f : ℕ → ℕ) (n k i : ℕ) → i < n → first_has k (drop i (list f n)) ≡ eqb k (key (f i))
last_inner f n k i h = rw (next-entry f n i h)

-- ---- counts

-- the counts of the entries before i, and what those from i on add
pub record Telling (l : List ℕ) (i deleted updated across d : ℕ) : Type 0 where
  pub deleted-few : deleted ≤ i
  pub updated-few : updated ≤ i
  pub across-few : across ≤ i
  pub deleted-is : deleted + length (deleted_once d (drop i l)) ≡ length (deleted_once 0 l)
  pub updated-is : updated + length (last_updates (drop i l)) ≡ length (last_updates l)
  pub across-is : across + crossing d (drop i l) ≡ crossing 0 l

-- a deleted key counts if it differs from the last one
once-counts : (d x next r : ℕ) (l : List ℕ) → is_deleted x ≡ true → next ≡ suc (key x) → r ≡ cond (not (eqb d next)) 1 0 → length (deleted_once d (x ∷ l)) ≡ r + length (deleted_once next l)
once-counts d x next r l e q c =
    test (eqb d next)
    (λ (t : eqb d next ≡ true).
    let s : d ≡ next = eqb-true d next t in
    let z : r ≡ 0 = rw t at c in
    ap length (once-again d x l e (s ∙ q)) ∙ rw (z, s) (omega arith))
    (λ (t : eqb d next ≡ false).
    let z : r ≡ 1 = rw t at c in
    let n : d ≡ suc (key x) → ⊥ = λ (s : d ≡ suc (key x)). eqb-false d next t (s ∙ sym q) in
    ap length (once-new d x l e n) ∙ rw (z, q) (omega arith))

-- an update counts if it is the last with its key
last-counts : (x r : ℕ) (l : List ℕ) → is_deleted x ≡ false → r ≡ cond (not (first_has (key x) l)) 1 0 → length (last_updates (x ∷ l)) ≡ r + length (last_updates l)
last-counts x r l e c =
    ap length (last-update x l e)
    ∙ test (first_has (key x) l)
    (λ (t : first_has (key x) l ≡ true). rw t (let z : r ≡ 0 = rw t at c in omega arith))
    (λ (t : first_has (key x) l ≡ false). rw t (let z : r ≡ 1 = rw t at c in omega arith))

-- counts of a test
pub small : (b : Bool) (r : ℕ) → r ≡ cond b 1 0 → r ≤ 1
small true r e = omega arith
small false r e = omega arith

module _ (l : List ℕ) (i deleted updated across d x next : ℕ) (s : Telling l i deleted updated across d) (h : drop i l ≡ x ∷ drop (i + 1) l) (q : next ≡ key x + 1) where
  -- the next entry is a deleted key
  pub tells-key : (r : ℕ) → place x ≡ 0 → r ≡ cond (not (eqb d next)) 1 0 → Telling l (i + 1) (deleted + r) updated across next
  tells-key r p c =
      let e : is_deleted x ≡ true = eq-eqb (place x) 0 p in
      let m : next ≡ suc (key x) = q ∙ add-one (key x) in
      let a = once-counts d x next r (drop (i + 1) l) e m c in
      record {
        deleted-few = omega (arith, s.deleted-few, small (not (eqb d next)) r c);
        updated-few = omega (arith, s.updated-few);
        across-few = omega (arith, s.across-few);
        deleted-is = omega (arith, rw h at s.deleted-is);
        updated-is = rw (h, last-deleted x (drop (i + 1) l) e) at s.updated-is;
        across-is = rw m (rw (h, cross-deleted d x (drop (i + 1) l) e) at s.across-is);
      }

  -- the next entry is an update
  pub tells-update : (u v : ℕ) (last : Bool) → (place x ≡ 0 → ⊥) → last ≡ not (first_has (key x) (drop (i + 1) l)) → u ≡ cond last 1 0 → v ≡ cond (eqb d next) 1 0 → Telling l (i + 1) deleted (updated + u) (across + v) d
  tells-update u v last p f cu cv =
      let e : is_deleted x ≡ false = ne_eqb (place x) 0 p in
      let m : next ≡ suc (key x) = q ∙ add-one (key x) in
      let a = last-counts x u (drop (i + 1) l) e (rw f at cu) in
      let b : v ≡ cond (eqb d (suc (key x))) 1 0 = rw m at cv in
      record {
        deleted-few = omega (arith, s.deleted-few);
        updated-few = omega (arith, s.updated-few, small last u cu);
        across-few = omega (arith, s.across-few, small (eqb d next) v cv);
        deleted-is = rw (h, once-update d x (drop (i + 1) l) e) at s.deleted-is;
        updated-is = omega (arith, rw h at s.updated-is);
        across-is = omega (arith, rw (h, cross-update d x (drop (i + 1) l) e, ← b) at s.across-is);
      }

-- all is counted
pub told-all : (l : List ℕ) (i deleted updated across d : ℕ) → Telling l i deleted updated across d → drop i l ≡ [] → (deleted ≡ length (deleted_once 0 l)) × (updated ≡ length (last_updates l)) × (across ≡ crossing 0 l)
told-all l i deleted updated across d s h =
    (omega (arith, rw (h, once-nil d) at s.deleted-is), omega (arith, rw (h, last-nil) at s.updated-is), omega (arith, rw (h, cross-nil d) at s.across-is))

-- ---- the written keys

-- the deleted keys from entry i on remain to be laid, from w on
pub record Putting (l : List ℕ) (at : ℕ) (out₀ : List ℤ) (i w d : ℕ) (out : List ℤ) : Type 0 where
  pub few : w ≤ at + i
  pub long : length out ≡ length out₀
  pub place_is : w + length (deleted_once d (drop i l)) ≡ at + length (deleted_once 0 l)
  pub same : lay_at w (map key_int (deleted_once d (drop i l))) out ≡ lay_at at (map key_int (deleted_once 0 l)) out₀

module _ (l : List ℕ) (at : ℕ) (out₀ : List ℤ) (i w d : ℕ) (out : List ℤ) (x : ℕ) (s : Putting l at out₀ i w d out) (h : drop i l ≡ x ∷ drop (i + 1) l) where
  -- the next entry gives no key
  passed : deleted_once d (x ∷ drop (i + 1) l) ≡ deleted_once d (drop (i + 1) l) → Putting l at out₀ (i + 1) w d out
  passed e = record { few = omega (arith, s.few); long = s.long; place_is = rw (h, e) at s.place_is; same = rw (h, e) at s.same }

  pub passes-update : (place x ≡ 0 → ⊥) → Putting l at out₀ (i + 1) w d out
  passes-update p = passed (once-update d x (drop (i + 1) l) (ne_eqb (place x) 0 p))

  pub passes-again : place x ≡ 0 → d ≡ key x + 1 → Putting l at out₀ (i + 1) w d out
  passes-again p q = passed (once-again d x (drop (i + 1) l) (eq-eqb (place x) 0 p) (q ∙ add-one (key x)))

  module _ (p : place x ≡ 0) (n : d ≡ key x + 1 → ⊥) where
    new-key : deleted_once d (drop i l) ≡ x ∷ deleted_once (key x + 1) (drop (i + 1) l)
    new-key = rw (h, add-one (key x)) (once-new d x (drop (i + 1) l) (eq-eqb (place x) 0 p) (λ (e : d ≡ suc (key x)). n (e ∙ sym (add-one (key x)))))

    -- there is room for a new key
    pub has_room : at + length (deleted_once 0 l) ≤ length out₀ → w < length out
    has_room r = omega (arith, rw new-key at s.place_is, s.long)

    pub puts-key : (k : ℕ) (v : ℤ) → k ≡ key x → v ≡ from_bits (rank k) → at + length (deleted_once 0 l) ≤ length out₀ → Putting l at out₀ (i + 1) (w + 1) (k + 1) (set out w v)
    puts-key k v q e r =
        let f : v ≡ key_int x = e ∙ ap (λ (j : ℕ). from_bits (rank j)) q in
        rw (f, q)
        (record {
          few = omega (arith, s.few);
          long = length-set out w (key_int x) ∙ s.long;
          place_is = omega (arith, rw new-key at s.place_is);
          same = sym (lay_at-set w (key_int x) (map key_int (deleted_once (key x + 1) (drop (i + 1) l))) out (has_room r)) ∙ (rw new-key at s.same);
        })

-- all are written
pub put_all : (l : List ℕ) (at : ℕ) (out₀ : List ℤ) (i w d : ℕ) (out : List ℤ) → Putting l at out₀ i w d out → drop i l ≡ [] → (w ≡ at + length (deleted_once 0 l)) × (out ≡ lay_at at (map key_int (deleted_once 0 l)) out₀)
put_all l at out₀ i w d out s h =
    (omega (arith, rw (h, once-nil d) at s.place_is), sym (lay_at-nothing w out) ∙ (rw (h, once-nil d) at s.same))
