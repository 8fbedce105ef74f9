-- The first key that clashes: when there is one, that both tables have it with unequal lengths and no smaller one does, in either order. Assumes nothing.
use Rattle.std.specs.Prelude.{ℕ, suc, ◌<◌, ◌≤◌, ◌^◌, refl, Bool, true, List, [], ◌∷◌, ℤ, length, eqb}
use Rattle.std.proofs.Math.Path.{◌≡◌}
use Rattle.std.proofs.Common.{sym, ap, ◌∙◌, subst, ⊎_elim, true≢false, arith, eqb-true}
use Rattle.std.proofs.Math.Bool.{false}
use Rattle.std.proofs.Math.Option.{Option, some, none}
use Rattle.std.proofs.lemmas.Bool.{eqb-false}
use Rattle.definitions.specs.Tables.{Item, Table, rising, find}
use Rattle.definitions.specs.DeltaMaking.{agree, alike, first_clash}
use Rattle.laws.specs.TableShape.{both, fails}
use Rattle.laws.specs.TableWalk.{rises, rise}
use Rattle.laws.specs.TableFind.{order}
use Rattle.laws.specs.TableSettled.{find-nil, find_head, find-tail, found-above, found-not-none}

-- ---- whether there is one

-- tables that are alike have none
pub alike-clash : (b t : Table) → alike b t ≡ true → first_clash b t ≡ none
unfolding alike first_clash
alike-clash b [] e = refl
alike-clash b (x ∷ t) e =
    let p = both (agree (find x.key b) x.values) _ e in rw p.0 (alike-clash b t p.1)

-- the item at the front agrees with the base's, and no other clashes
none-clash : (b t : Table) (x : Item) → first_clash b (x ∷ t) ≡ none → (agree (find x.key b) x.values ≡ true) × (first_clash b t ≡ none)
none-clash b t x e = go (agree (find x.key b) x.values) refl
  where
    go : (p : Bool) → agree (find x.key b) x.values ≡ p → (agree (find x.key b) x.values ≡ true) × (first_clash b t ≡ none)
    go true q = (q, unfold first_clash in rw q at e)
    go false q =
        let r : some x.key ≡ none = unfold first_clash in rw q at e in
        let z : ◌≡◌ {A = ℕ} 0 1 = cc in absurd (omega arith)

-- tables without one are alike
pub clash-alike : (b t : Table) → first_clash b t ≡ none → alike b t ≡ true
unfolding alike
clash-alike b [] e = refl
clash-alike b (x ∷ t) e = let n = none-clash b t x e in rw n.0 (clash-alike b t n.1)

-- so tables with one are not
pub clash-unlike : (b t : Table) (k : ℕ) → first_clash b t ≡ some k → alike b t ≡ false
clash-unlike b t k e =
    fails (alike b t) (λ q. let n = alike-clash b t q in let z : ◌≡◌ {A = ℕ} 0 1 = cc in omega arith)

-- and tables that are not have one
pub unlike-clash : (b t : Table) → alike b t ≡ false → (k : ℕ) × (first_clash b t ≡ some k)
unlike-clash b t e = go (first_clash b t) refl
  where
    go : (o : Option ℕ) → first_clash b t ≡ o → (k : ℕ) × (first_clash b t ≡ some k)
    go (some k) f = (k, f)
    go none f = absurd (true≢false (sym (clash-alike b t f) ∙ e))

-- ---- that it is the first

-- both tables have a key, with data of different lengths
pub record Clashes (b t : Table) (k : ℕ) : Type 0 where
  pub from : List ℤ
  pub to : List ℤ
  pub from_is : find k b ≡ some from
  pub to_is : find k t ≡ some to
  pub lengths : length from ≡ length to → ⊥

-- it clashes, and no smaller key does
pub record First (b t : Table) (k : ℕ) : Type 0 where
  pub clashes : Clashes b t k
  pub whole : k < 2 ^ 32
  pub least : (j : ℕ) (w v : List ℤ) → j < k → find j b ≡ some w → find j t ≡ some v → length w ≡ length v

disagrees : (o : Option (List ℤ)) (v : List ℤ) → agree o v ≡ false → (w : List ℤ) × (o ≡ some w) × (length w ≡ length v → ⊥)
disagrees none v e = absurd (true≢false e)
disagrees (some w) v e = (w, refl, eqb-false (length w) (length v) e)

agrees : (o : Option (List ℤ)) (v w : List ℤ) → agree o v ≡ true → o ≡ some w → length w ≡ length v
agrees none v w e f = let z : ◌≡◌ {A = ℕ} 0 1 = cc in absurd (omega arith)
agrees (some u) v w e f = let d : u ≡ w = cc in sym (ap length d) ∙ eqb-true (length u) (length v) e

-- an item that agrees with the base's in front of a table: no key clashes that does not in the table
agrees_at : (b t : Table) (x : Item) → agree (find x.key b) x.values ≡ true → (j : ℕ) (w v : List ℤ) → find j b ≡ some w → find j (x ∷ t) ≡ some v
    → (find j t ≡ some v → length w ≡ length v) → length w ≡ length v
agrees_at b t x q j w v fb ft more = by (eqb x.key j) refl
  where
    by : (s : Bool) → eqb x.key j ≡ s → length w ≡ length v
    by true s =
        let i : x.key ≡ j = eqb-true x.key j s in
        let d : find j (x ∷ t) ≡ some x.values = subst (λ (n : ℕ). find n (x ∷ t) ≡ some x.values) i (find_head x t) in
        let m : x.values ≡ v = cc in
        agrees (find x.key b) x.values w q (subst (λ (n : ℕ). find n b ≡ some w) (sym i) fb) ∙ ap length m
    by false s = more (sym (find-tail j x t (eqb-false x.key j s)) ∙ ft)

-- without a first clash no key clashes
none-clashes : (b t : Table) → first_clash b t ≡ none → (j : ℕ) (w v : List ℤ) → find j b ≡ some w → find j t ≡ some v → length w ≡ length v
none-clashes b [] e j w v fb ft = found-not-none ft (find-nil j)
none-clashes b (x ∷ t) e j w v fb ft =
    let n = none-clash b t x e in agrees_at b t x n.0 j w v fb ft (λ f. none-clashes b t n.1 j w v fb f)

-- the first clash, in a table whose keys are at least low
record From (b t : Table) (low k : ℕ) : Type 0 where
  from_low : low ≤ k
  first : First b t k

clash-from : (b t : Table) (low k : ℕ) → rising low t ≡ true → first_clash b t ≡ some k → From b t low k
unfolding first_clash
clash-from b [] low k r e = let z : ◌≡◌ {A = ℕ} 0 1 = cc in absurd (omega arith)
clash-from b (x ∷ t) low k r e = go (agree (find x.key b) x.values) refl (clash-from b t (suc x.key) k (rises low x t r).rest)
  where
    go : (p : Bool) → agree (find x.key b) x.values ≡ p → (first_clash b t ≡ some k → From b t (suc x.key) k) → From b (x ∷ t) low k
    go true q f =
        let g = f (rw q at e) in
        let c = g.first.clashes in
        let l = g.from_low in
        let h = find-tail k x t (λ s. omega arith) ∙ c.to_is in
        record {
          from_low = omega (arith, (rises low x t r).from);
          first =
              record {
                clashes = record { from = c.from; to = c.to; from_is = c.from_is; to_is = h; lengths = c.lengths };
                whole = g.first.whole;
                least = λ j w v h fb ft. agrees_at b t x q j w v fb ft (λ s. g.first.least j w v h fb s);
              };
        }
    go false q f =
        let m : some x.key ≡ some k = rw q at e in
        let i : x.key ≡ k = cc in
        let d = disagrees (find x.key b) x.values q in
        let f : find k b ≡ some d.0 = subst (λ (n : ℕ). find n b ≡ some d.0) i d.1 in
        let h : find k (x ∷ t) ≡ some x.values = subst (λ (n : ℕ). find n (x ∷ t) ≡ some x.values) i (find_head x t) in
        let s = rises low x t r in
        let up = rise x.key x t (record { from = omega arith; whole = s.whole; rest = s.rest }) in
        record {
          from_low = omega (arith, s.from);
          first =
              record {
                clashes = record { from = d.0; to = x.values; from_is = f; to_is = h; lengths = d.2 };
                whole = omega (arith, s.whole);
                least = λ j w v h fb ft. absurd (omega (arith, found-above x.key j v (x ∷ t) up ft));
              };
        }

-- the definition's key clashes, and no smaller one does
pub clash-first : (b t : Table) (k : ℕ) → rising 0 t ≡ true → first_clash b t ≡ some k → First b t k
clash-first b t k r e = (clash-from b t 0 k r e).first

-- ---- base and target exchanged

-- a key that clashes is not below the first
not-below : (b t : Table) (k j : ℕ) → Clashes b t k → First t b j → k < j → ⊥
not-below b t k j c f l = c.lengths (sym (f.least k c.to c.from l c.to_is c.from_is))

-- where one order has a clash, so has the other
not_none : (b t : Table) (k : ℕ) → Clashes b t k → first_clash t b ≡ none → ⊥
not_none b t k c e = c.lengths (sym (none-clashes t b e k c.to c.from c.to_is c.from_is))

-- the first clash is the same
pub clash-same : (b t : Table) → rising 0 b ≡ true → rising 0 t ≡ true → first_clash b t ≡ first_clash t b
clash-same b t rb rt = go (first_clash b t) (first_clash t b) refl refl
  where
    go : (o p : Option ℕ) → first_clash b t ≡ o → first_clash t b ≡ p → o ≡ p
    go none none e f = refl
    go none (some j) e f = absurd (not_none t b j (clash-first t b j rb f).clashes e)
    go (some k) none e f = absurd (not_none b t k (clash-first b t k rt e).clashes f)
    go (some k) (some j) e f =
        let c = clash-first b t k rt e in
        let d = clash-first t b j rb f in
        ⊎_elim
        (λ (l : k < j). absurd (not-below b t k j c.clashes d l))
        (⊎_elim
        (λ (s : k ≡ j). ap some s)
        (λ (l : j < k). absurd (not-below t b j k d.clashes c l)))
        (order k j)
