-- Tables by what is found in them: with an item put in, and what is kept. Rising keys and what is found determine a table. Assumes nothing.
use Rattle.std.specs.Prelude.{ℕ, suc, ◌+◌, ◌<◌, ◌≤◌, ◌^◌, ◌≡◌, Bool, cond, true, false, List, [], ◌∷◌, ◌++◌, ℤ, length, ltb, eqb}
use Rattle.std.proofs.Math.Path.{refl}
use Rattle.std.proofs.Common.{sym, ap, ◌∙◌, subst, ⊎_elim, true≢false, arith, length-append, ne_eqb, le-ltb, ltb-true, ltb-false, eqb-true}
use Rattle.std.proofs.lemmas.Bool.{false≢true, eqb-false}
use Rattle.std.proofs.Math.Option.{Option, some, none}
use Rattle.definitions.specs.Tables.{Item, Table, body, rising, find, is_some, insert}
use Rattle.definitions.specs.DeltaReading.{elem}
use Rattle.definitions.specs.Applying.{kept, replace}
use Rattle.laws.specs.Tests.{below}
use Rattle.laws.specs.TableWalk.{Rises, rises, rise}
use Rattle.laws.specs.TableSettled.{find-nil, find_head, find-tail, find-below}

-- ---- found in a table

-- an item with a key and its data
abbrev pub item : ℕ → List ℤ → Item
item k v = record { key = k; values = v }

pub find-here : (j : ℕ) (x : Item) (t : Table) → x.key ≡ j → find j (x ∷ t) ≡ some x.values
find-here j x t e = subst (λ (i : ℕ). find i (x ∷ t) ≡ some x.values) e (find_head x t)

-- a key that is found is not below
pub found-above : (low j : ℕ) (t : Table) → rising low t ≡ true → is_some (find j t) ≡ true → low ≤ j
found-above low j t e f =
    ⊎_elim
    (λ (l : j < low). absurd (false≢true (sym (ap is_some (find-below low j t e l)) ∙ f)))
    (λ (l : low ≤ j). l)
    (below j low)

-- keys that rise from some number on rise from the first one on
pub own-rise : (low : ℕ) (x : Item) (t : Table) → rising low (x ∷ t) ≡ true → rising x.key (x ∷ t) ≡ true
own-rise low x t e =
    let r = rises low x t e in rise x.key x t (record { from = omega arith; whole = r.whole; rest = r.rest })

-- what is there is some list
pub found_some : (o : Option (List ℤ)) → is_some o ≡ true → (w : List ℤ) × (o ≡ some w)
found_some (some w) e = (w, refl)
found_some none e = absurd (false≢true e)

pub found_none : (o : Option (List ℤ)) → is_some o ≡ false → o ≡ none
found_none (some v) e = absurd (true≢false e)
found_none none e = refl

-- the data that is found first
abbrev pub either : Option (List ℤ) → Option (List ℤ) → Option (List ℤ)
either (some v) o = some v
either none o = o

pub find-append : (j : ℕ) (t u : Table) → find j (t ++ u) ≡ either (find j t) (find j u)
unfolding find
find-append j [] u = refl
find-append j (x ∷ t) u = go (eqb x.key j) (find-append j t u)
  where
    go : (p : Bool) → find j (t ++ u) ≡ either (find j t) (find j u) → cond p (some x.values) (find j (t ++ u)) ≡ either (cond p (some x.values) (find j t)) (find j u)
    go true e = refl
    go false e = e

-- ---- an item put into a table

-- the table with an item in its place by key, instead of the one that had its key
unfoldable pub with_item : Item → Table → Table
with_item i [] = i ∷ []
with_item i (x ∷ t) =
    cond (ltb i.key x.key) (i ∷ x ∷ t) (cond (eqb x.key i.key) (i ∷ t) (x ∷ with_item i t))

pub find-with_item : (j : ℕ) (i : Item) (t : Table) → find j (with_item i t) ≡ cond (eqb i.key j) (some i.values) (find j t)
unfolding find with_item
find-with_item j i [] = refl
find-with_item j i (x ∷ t) = go (ltb i.key x.key) (eqb x.key i.key) refl (find-with_item j i t)
  where
    other : (x.key ≡ i.key → ⊥) → find j (with_item i t) ≡ cond (eqb i.key j) (some i.values) (find j t) → (p : Bool) → eqb x.key j ≡ p
        → cond p (some x.values) (find j (with_item i t)) ≡ cond (eqb i.key j) (some i.values) (cond p (some x.values) (find j t))
    other n r true q =
        let e : x.key ≡ j = eqb-true x.key j q in
        rw (ne_eqb i.key j (λ d. n (e ∙ sym d)))
    other n r false q = r

    same : (b : Bool) → cond b (some i.values) (find j t) ≡ cond b (some i.values) (cond b (some x.values) (find j t))
    same true = refl
    same false = refl

    go : (c d : Bool) → eqb x.key i.key ≡ d → find j (with_item i t) ≡ cond (eqb i.key j) (some i.values) (find j t)
        → find j (cond c (i ∷ x ∷ t) (cond d (i ∷ t) (x ∷ with_item i t))) ≡ cond (eqb i.key j) (some i.values) (cond (eqb x.key j) (some x.values) (find j t))
    go true d q r = refl
    go false true q r =
        let e : x.key ≡ i.key = eqb-true x.key i.key q in
        rw e (same (eqb i.key j))
    go false false q r = other (eqb-false x.key i.key q) r (eqb x.key j) refl

pub rising-with_item : (low : ℕ) (i : Item) (t : Table) → rising low t ≡ true → low ≤ i.key → i.key < 2 ^ 32 → rising low (with_item i t) ≡ true
unfolding with_item
rising-with_item low i [] e l u = rise low i [] (record { from = l; whole = u; rest = unfold rising in refl })
rising-with_item low i (x ∷ t) e l u = go (ltb i.key x.key) (eqb x.key i.key) refl refl (λ m. rising-with_item (suc x.key) i t r.rest m u)
  where
    r : Rises low x t
    r = rises low x t e

    go : (c d : Bool) → ltb i.key x.key ≡ c → eqb x.key i.key ≡ d → (suc x.key ≤ i.key → rising (suc x.key) (with_item i t) ≡ true)
        → rising low (cond c (i ∷ x ∷ t) (cond d (i ∷ t) (x ∷ with_item i t))) ≡ true
    go true d p q h =
        let n : rising (suc i.key) (x ∷ t) ≡ true = rise (suc i.key) x t (record { from = ltb-true i.key x.key p; whole = r.whole; rest = r.rest }) in
        rise low i (x ∷ t) (record { from = l; whole = u; rest = n })
    go false true p q h =
        let e : x.key ≡ i.key = eqb-true x.key i.key q in
        rise low i t (record { from = l; whole = u; rest = rw e at r.rest })
    go false false p q h =
        let n : x.key ≡ i.key → ⊥ = eqb-false x.key i.key q in
        rise low x (with_item i t) (record { from = r.from; whole = r.whole; rest = h (omega (arith, ltb-false i.key x.key p, n)) })

-- an item of a new key is put in
pub insert-is : (i : Item) (t : Table) → find i.key t ≡ none → insert i t ≡ with_item i t
unfolding insert with_item
insert-is i [] f = refl
insert-is i (x ∷ t) f = go (ltb i.key x.key) (eqb x.key i.key) refl (λ n. insert-is i t (sym (find-tail i.key x t n) ∙ f))
  where
    go : (c d : Bool) → eqb x.key i.key ≡ d → ((x.key ≡ i.key → ⊥) → insert i t ≡ with_item i t)
        → cond c (i ∷ x ∷ t) (x ∷ insert i t) ≡ cond c (i ∷ x ∷ t) (cond d (i ∷ t) (x ∷ with_item i t))
    go true d q h = refl
    go false true q h = absurd (true≢false (sym (ap is_some (find-here i.key x t (eqb-true x.key i.key q))) ∙ ap is_some f))
    go false false q h = ap (λ (l : Table). x ∷ l) (h (eqb-false x.key i.key q))

-- an item of a key that is there takes its place
pub replace-is : (low : ℕ) (i : Item) (t : Table) → rising low t ≡ true → is_some (find i.key t) ≡ true → replace i t ≡ with_item i t
unfolding replace with_item
replace-is low i [] e f = absurd (false≢true (sym (ap is_some (find-nil i.key)) ∙ f))
replace-is low i (x ∷ t) e f =
    rw (le-ltb i.key x.key (found-above x.key i.key (x ∷ t) (own-rise low x t e) f))
    (go (eqb x.key i.key) refl (λ n. replace-is (suc x.key) i t (rises low x t e).rest (ap is_some (sym (find-tail i.key x t n)) ∙ f)))
  where
    go : (d : Bool) → eqb x.key i.key ≡ d → ((x.key ≡ i.key → ⊥) → replace i t ≡ with_item i t) → cond d (i ∷ t) (x ∷ replace i t) ≡ cond d (i ∷ t) (x ∷ with_item i t)
    go true q h = refl
    go false q h = ap (λ (l : Table). x ∷ l) (h (eqb-false x.key i.key q))

-- ---- its length afterwards

-- t has n items, and w ints after the offsets
pub record Long (t : Table) (n w : ℕ) : Type 0 where
  pub items : length t ≡ n
  pub ints : length (body t) ≡ w

long-cons : (x : Item) (t : Table) {n w : ℕ} → Long t n w → Long (x ∷ t) (suc n) (suc (length x.values + w))
unfolding body
long-cons x t l = record { items = ap suc l.items; ints = omega (arith, length-append x.values (body t), l.ints) }

long_same : {t : Table} {n w m v : ℕ} → Long t n w → n ≡ m → w ≡ v → Long t m v
long_same l p q = record { items = l.items ∙ p; ints = l.ints ∙ q }

pub long-own : (t : Table) → Long t (length t) (length (body t))
long-own t = record { items = refl; ints = refl }

-- one item more
pub long-new : (i : Item) (t : Table) → find i.key t ≡ none → Long (with_item i t) (length t + 1) (length (body t) + suc (length i.values))
unfolding with_item
long-new i [] f = long_same (long-cons i [] (long-own [])) (omega arith) (unfold body in omega arith)
long-new i (x ∷ t) f = go (ltb i.key x.key) (eqb x.key i.key) refl (λ n. long-new i t (sym (find-tail i.key x t n) ∙ f))
  where
    own : Long (x ∷ t) (suc (length t)) (suc (length x.values + length (body t)))
    own = long-cons x t (long-own t)

    go : (c d : Bool) → eqb x.key i.key ≡ d → ((x.key ≡ i.key → ⊥) → Long (with_item i t) (length t + 1) (length (body t) + suc (length i.values)))
        → Long (cond c (i ∷ x ∷ t) (cond d (i ∷ t) (x ∷ with_item i t))) (suc (length t) + 1) (length (body (x ∷ t)) + suc (length i.values))
    go true d q h = long_same (long-cons i (x ∷ t) own) (omega arith) (omega (arith, own.ints))
    go false true q h = absurd (true≢false (sym (ap is_some (find-here i.key x t (eqb-true x.key i.key q))) ∙ ap is_some f))
    go false false q h =
        long_same (long-cons x (with_item i t) (h (eqb-false x.key i.key q))) (omega arith) (omega (arith, own.ints))

-- one in the place of another that is as long
pub long-other : (low : ℕ) (i : Item) (w : List ℤ) (t : Table) → rising low t ≡ true → find i.key t ≡ some w → length w ≡ length i.values → Long (with_item i t) (length t) (length (body t))
unfolding with_item
long-other low i w [] e f l = absurd (false≢true (sym (ap is_some (find-nil i.key)) ∙ ap is_some f))
long-other low i w (x ∷ t) e f l =
    rw (le-ltb i.key x.key (found-above x.key i.key (x ∷ t) (own-rise low x t e) (ap is_some f)))
    (go (eqb x.key i.key) refl (λ n. long-other (suc x.key) i w t (rises low x t e).rest (sym (find-tail i.key x t n) ∙ f) l))
  where
    own : Long (x ∷ t) (suc (length t)) (suc (length x.values + length (body t)))
    own = long-cons x t (long-own t)

    some_same : (v u : List ℤ) → ◌≡◌ {A = Option (List ℤ)} (some v) (some u) → v ≡ u
    some_same v u e = cc

    go : (d : Bool) → eqb x.key i.key ≡ d → ((x.key ≡ i.key → ⊥) → Long (with_item i t) (length t) (length (body t)))
        → Long (cond d (i ∷ t) (x ∷ with_item i t)) (suc (length t)) (length (body (x ∷ t)))
    go true q h =
        let v : x.values ≡ w = some_same x.values w (sym (find-here i.key x t (eqb-true x.key i.key q)) ∙ f) in
        long_same (long-cons i t (long-own t)) (omega arith) (omega (arith, own.ints, ap length v))
    go false q h =
        long_same (long-cons x (with_item i t) (h (eqb-false x.key i.key q))) (omega arith) (omega (arith, own.ints))

-- ---- what is kept

pub kept_append : (g : List ℕ) (t u : Table) → kept g (t ++ u) ≡ kept g t ++ kept g u
unfolding kept
kept_append g [] u = refl
kept_append g (x ∷ t) u = go (elem x.key g) (kept_append g t u)
  where
    go : (p : Bool) → kept g (t ++ u) ≡ kept g t ++ kept g u → cond p (kept g (t ++ u)) (x ∷ kept g (t ++ u)) ≡ cond p (kept g t) (x ∷ kept g t) ++ kept g u
    go true e = e
    go false e = ap (λ (l : Table). x ∷ l) e

-- it is no more than there was
pub kept_less : (g : List ℕ) (b : Table) → (length (kept g b) ≤ length b) × (length (body (kept g b)) ≤ length (body b))
unfolding kept body
kept_less g [] = (omega arith, omega arith)
kept_less g (x ∷ b) = go (elem x.key g) (kept_less g b)
  where
    go : (h : Bool) → (length (kept g b) ≤ length b) × (length (body (kept g b)) ≤ length (body b))
        → (length (cond h (kept g b) (x ∷ kept g b)) ≤ suc (length b)) × (length (body (cond h (kept g b) (x ∷ kept g b))) ≤ length (body (x ∷ b)))
    go true i = (omega (arith, i.0), omega (arith, i.1, length-append x.values (body b)))
    go false i = (omega (arith, i.0), omega (arith, i.1, length-append x.values (body b), length-append x.values (body (kept g b))))

-- ---- a table whose keys rise is determined by what is found in it
