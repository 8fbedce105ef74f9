-- Which item of a table wins for an ingredient, in the words of the customer, and that the definition finds it. Assumes nothing.
use Rattle.std.specs.Prelude.{ℕ, suc, ◌<◌, ◌≤◌, ◌≡◌, refl, Bool, true, false, cond, ◌&&◌, ◌||◌, List, [], ◌∷◌, ltb, eqb, ℤ, pos, negsuc, length}
use Rattle.std.proofs.Common.{sym, ap, ap₂, ◌∙◌, subst, arith, eq-eqb, eqb-true, ltb-true, ltb-false, SFits}
use Rattle.std.proofs.Math.Option.{Option, some, none}
use Rattle.std.specs.Int.{w32}
use Rattle.definitions.specs.Ints.{bits, from_bits, signed_less}
use Rattle.definitions.specs.Refusals.{short_rule}
use Rattle.definitions.specs.Outcome.{Outcome, return, refuse, ◌>>=◌}
use Rattle.definitions.specs.Tables.{Item, Table, rising}
use Rattle.definitions.specs.DeltaReading.{elem}
use Rattle.definitions.specs.Receiver.{same}
use Rattle.definitions.specs.Types.{type_of}
use Rattle.definitions.specs.Rules.{Rule, rule_in, rules_of, goes_before, first_of, winner_of, Winner, winner_in}
use Rattle.laws.specs.ListLaws.{Among, here, there}
use Rattle.laws.specs.IntLaws.{same_bits}
use Rattle.laws.specs.TickLaws.{both_ways, not-below-itself, not-below-back, below-before}
use Rattle.laws.specs.PackLaws.{Whole, cons}
use Rattle.laws.specs.TableEach.{no_more, one, WholeTable}
use Rattle.laws.specs.TableWalk.{rises}

-- ---- the customer's words

-- an item of a named type that is a rule for an ingredient, with its priority and its action
pub record Matching (types : List ℕ) (i : ℤ) (x : Item) (p a : ℤ) : Type 0 where
  pub named : Among (type_of x) types
  pub more : List ℤ
  pub values-are : x.values ≡ i ∷ p ∷ a ∷ more

-- a rule of key k and priority p does not go before one of key m and priority q: its priority is lower, or the same and its key is not greater
pub data Behind (k : ℕ) (p : ℤ) (m : ℕ) (q : ℤ) : Type 0 where
  lower : signed_less p q ≡ true → Behind k p m q
  equal : p ≡ q → k ≤ m → Behind k p m q

-- an item is a rule for the ingredient, and no other rule for it goes before
pub record Wins (types : List ℕ) (i : ℤ) (t : Table) (w : Winner) : Type 0 where
  pub item : Item
  pub priority : ℤ
  pub among : Among item t
  pub matches : Matching types i item priority w.action
  pub key-is : w.key ≡ from_bits item.key
  pub first : (y : Item) (p a : ℤ) → Among y t → Matching types i y p a → Behind y.key p item.key priority

-- no item is a rule for the ingredient
abbrev pub NoMatch : List ℕ → ℤ → Table → Type 0
NoMatch types i t = (y : Item) (p a : ℤ) → Among y t → Matching types i y p a → ⊥

-- an item of a named type has fewer than three ints
pub record Short (types : List ℕ) (t : Table) : Type 0 where
  pub item : Item
  pub among : Among item t
  pub named : Among (type_of item) types
  pub short : length item.values < 3

-- ---- types that are named

-- a type that is found is among those named
pub elem-among : (k : ℕ) (l : List ℕ) → elem k l ≡ true → Among k l
elem-among k [] e = both_ways (sym e)
elem-among k (x ∷ l) e = go (eqb k x) refl e (elem-among k l)
  where
    go : (b : Bool) → eqb k x ≡ b → (b || elem k l) ≡ true → (elem k l ≡ true → Among k l) → Among k (x ∷ l)
    go true q e f = subst (λ (z : ℕ). Among k (z ∷ l)) (eqb-true k x q) here
    go false q e f = there (f e)

-- a type that is among those named is found
pub among-elem : {k : ℕ} {l : List ℕ} → Among k l → elem k l ≡ true
among-elem {k} here = rw (eq-eqb k k refl)
among-elem {k} (there {b} {l} m) = go (eqb k b) (among-elem m)
  where
    go : (p : Bool) → elem k l ≡ true → (p || elem k l) ≡ true
    go true e = refl
    go false e = e

-- ---- the order of rules

-- of two ints one is less, or they are the same
not-less-same : (a b : ℤ) → signed_less a b ≡ false → signed_less b a ≡ false → a ≡ b
not-less-same (pos a) (pos b) e f = ap pos (omega (arith, ltb-false a b e, ltb-false b a f))
not-less-same (pos a) (negsuc b) e f = both_ways f
not-less-same (negsuc a) (pos b) e f = both_ways e
not-less-same (negsuc a) (negsuc b) e f = ap negsuc (omega (arith, ltb-false b a e, ltb-false a b f))

-- a rule is behind those that one before it is behind
behind-further : {k m n : ℕ} {p q r : ℤ} → Behind k p m q → Behind m q n r → Behind k p n r
behind-further {p = p} {q = q} {r = r} (lower e) (lower f) = lower (below-before p q r f (not-below-back p q e))
behind-further {p = p} (lower e) (equal h l) = lower (subst (λ (z : ℤ). signed_less p z ≡ true) h e)
behind-further {r = r} (equal h l) (lower f) = lower (subst (λ (z : ℤ). signed_less z r ≡ true) (sym h) f)
behind-further (equal h l) (equal g n) = equal (h ∙ g) (omega arith)

module _ (r s : Rule) where
  -- the other is behind a rule that goes before it
  before-behind : SFits w32 r.priority → SFits w32 s.priority → goes_before r s ≡ true → Behind s.key s.priority r.key r.priority
  before-behind f g e = go (signed_less s.priority r.priority) (same r.priority s.priority) refl refl e
    where
      go : (b c : Bool) → signed_less s.priority r.priority ≡ b → same r.priority s.priority ≡ c
          → (b || (c && ltb s.key r.key)) ≡ true → Behind s.key s.priority r.key r.priority
      go true c q d h = lower q
      go false true q d h =
          equal (sym (same_bits f g (eqb-true (bits r.priority) (bits s.priority) d))) (omega (arith, ltb-true s.key r.key h))
      go false false q d h = both_ways (sym h)

  -- a rule that does not go before the other is behind it
  not-before : goes_before r s ≡ false → Behind r.key r.priority s.key s.priority
  not-before e = go (signed_less s.priority r.priority) (signed_less r.priority s.priority) refl refl e
    where
      go : (b c : Bool) → signed_less s.priority r.priority ≡ b → signed_less r.priority s.priority ≡ c
          → (b || (same r.priority s.priority && ltb s.key r.key)) ≡ false → Behind r.key r.priority s.key s.priority
      go true c q d h = both_ways h
      go false true q d h = lower d
      go false false q d h =
          let p : r.priority ≡ s.priority = not-less-same r.priority s.priority d q in
          equal p (ltb-false s.key r.key (rw (eq-eqb (bits r.priority) (bits s.priority) (ap bits p)) at h))

-- ---- the rules of a table

-- the rule of a key and three ints
abbrev pub rule_of : ℕ → ℤ → ℤ → ℤ → Rule
rule_of k i p a = record { key = k; ingredient = i; priority = p; action = a }

-- what an item's data is: too short, or a rule
data OneRule (k : ℕ) (v : List ℤ) : Outcome Rule → Type 0 where
  lacks : length v < 3 → OneRule k v (refuse short_rule)
  whole : {i p a : ℤ} {more : List ℤ} → v ≡ i ∷ p ∷ a ∷ more → OneRule k v (return (rule_of k i p a))

-- three ints or more make a rule, and fewer are refused
one-rule : (k : ℕ) (v : List ℤ) → OneRule k v (rule_in k v)
unfolding rule_in
one-rule k [] = lacks (omega arith)
one-rule k (i ∷ []) = lacks (omega arith)
one-rule k (i ∷ p ∷ []) = lacks (omega arith)
one-rule k (i ∷ p ∷ a ∷ more) = whole refl

-- the rules of a table's items of named types, in their order
pub data Ruled (types : List ℕ) : Table → List Rule → Type 0 where
  no-rule : Ruled types [] []
  rule : {x : Item} {t : Table} {l : List Rule} {i p a : ℤ} → Matching types i x p a → Ruled types t l
      → Ruled types (x ∷ t) (rule_of x.key i p a ∷ l)
  other : {x : Item} {t : Table} {l : List Rule} → (Among (type_of x) types → ⊥) → Ruled types t l → Ruled types (x ∷ t) l

-- what a table's rules are: refused, or listed
pub data RulesAre (types : List ℕ) (t : Table) : Outcome (List Rule) → Type 0 where
  short : Short types t → RulesAre types t (refuse short_rule)
  all : {l : List Rule} → Ruled types t l → RulesAre types t (return l)

-- a table has a short item where the items after the first have one
short-more : {types : List ℕ} {x : Item} {t : Table} → Short types t → Short types (x ∷ t)
short-more s = record { item = s.item; among = there s.among; named = s.named; short = s.short }

-- the rules of all items of named types are listed, unless one of these items is short
pub rules-are : (types : List ℕ) (t : Table) → RulesAre types t (rules_of types t)
unfolding rules_of
rules-are types [] = all no-rule
rules-are types (x ∷ t) = go (elem (type_of x) types) refl (one-rule x.key x.values) (rules-are types t)
  where
    go : (b : Bool) → elem (type_of x) types ≡ b → {r : Outcome Rule} → OneRule x.key x.values r → {o : Outcome (List Rule)} → RulesAre types t o
        → RulesAre types (x ∷ t) (cond b (r >>= λ r. o >>= λ l. return (r ∷ l)) o)
    go true q (lacks n) m = short (record { item = x; among = here; named = elem-among (type_of x) types q; short = n })
    go true q (whole e) (short s) = short (short-more s)
    go true q (whole e) (all r) = all (rule (record { named = elem-among (type_of x) types q; more = _; values-are = e }) r)
    go false q o (short s) = short (short-more s)
    go false q o (all r) = all (other (λ m. both_ways (sym (among-elem m) ∙ q)) r)

-- a table whose rules are listed has no short item of a named type
pub ruled-long : {types : List ℕ} {t : Table} {l : List Rule} → Ruled types t l → (x : Item) → Among x t → Among (type_of x) types → length x.values < 3
    → ⊥
ruled-long no-rule x m n h = elim m [ ]
ruled-long (rule m r) x here n h = let e = ap length m.values-are in omega arith
ruled-long (rule m r) x (there k) n h = ruled-long r x k n h
ruled-long (other f r) x here n h = f n
ruled-long (other f r) x (there k) n h = ruled-long r x k n h

-- so a short item is refused, whatever the other items are
pub short-refuses : {types : List ℕ} {t : Table} → Short types t → rules_of types t ≡ refuse short_rule
short-refuses {types} {t} h = go (rules-are types t)
  where
    go : {o : Outcome (List Rule)} → RulesAre types t o → o ≡ refuse short_rule
    go (short s) = refl
    go (all r) = absurd (ruled-long r h.item h.among h.named h.short)

-- ---- the winner

-- an item has one ingredient, one priority and one action
same-reading : {types kinds : List ℕ} {i j p q a b : ℤ} {x : Item} → Matching types i x p a → Matching kinds j x q b → (i ≡ j) × (p ≡ q) × (a ≡ b)
same-reading m n = let e = sym m.values-are ∙ n.values-are in (cc, cc, cc)

-- the first of a rule and another is there
first_some : (r : Rule) (o : Option Rule) → first_of r o ≡ none → ⊥
first_some r none e = let z : ◌≡◌ {A = ℕ} 0 1 = cc in omega arith
first_some r (some s) e = go (goes_before r s) e
  where
    go : (b : Bool) → cond b (some r) (some s) ≡ none → ⊥
    go true h = let z : ◌≡◌ {A = ℕ} 0 1 = cc in omega arith
    go false h = let z : ◌≡◌ {A = ℕ} 0 1 = cc in omega arith

-- where there is no winner, there is none without the first rule
others-win : (c : Bool) (r : Rule) (o : Option Rule) → cond c (first_of r o) o ≡ none → o ≡ none
others-win true r o e = absurd (first_some r o e)
others-win false r o e = e

-- where there is no winner, no item is a rule for the ingredient
pub none-matches : {types : List ℕ} {t : Table} {l : List Rule} (i : ℤ) → Ruled types t l → winner_of i l ≡ none → NoMatch types i t
unfolding winner_of
none-matches i no-rule e y p a m k = elim m [ ]
none-matches i (rule {l = l} {i = j} m r) e y p a here k =
    let h : same j i ≡ true = eq-eqb (bits j) (bits i) (ap bits (same-reading m k).0) in
    first_some _ (winner_of i l) (rw h at e)
none-matches i (rule {l = l} {i = j} m r) e y p a (there h) k = none-matches i r (others-win (same j i) _ (winner_of i l) e) y p a h k
none-matches i (other f r) e y p a here k = f k.named
none-matches i (other f r) e y p a (there h) k = none-matches i r e y p a h k

-- the ints of an item fit 32 bits
pub whole-among : {t : Table} {x : Item} → WholeTable t → Among x t → Whole x.values
whole-among no_more m = elim m [ ]
whole-among (one w ws) here = w
whole-among (one w ws) (there m) = whole-among ws m

-- ingredient and priority of a rule fit 32 bits
pub whole-rule : {types : List ℕ} {i p a : ℤ} {x : Item} → Whole x.values → Matching types i x p a → SFits w32 i × SFits w32 p
whole-rule w m = go (subst Whole m.values-are w)
  where
    go : {i p : ℤ} {more : List ℤ} → Whole (i ∷ p ∷ more) → SFits w32 i × SFits w32 p
    go (cons f (cons g h)) = (f, g)

-- what the first rule for an ingredient is: none, or one that no other goes before
data Best (types : List ℕ) (i : ℤ) (t : Table) : Option Rule → Type 0 where
  nothing : NoMatch types i t → Best types i t none
  best : {x : Item} {j p a : ℤ} → Among x t → Matching types i x p a
      → ((y : Item) (q b : ℤ) → Among y t → Matching types i y q b → Behind y.key q x.key p)
      → Best types i t (some (rule_of x.key j p a))

module _ (types : List ℕ) (i : ℤ) (x : Item) (t : Table) where
  -- what holds of the first item and of the others holds of each
  each_item : {P : Item → ℤ → Type 0} → ((q b : ℤ) → Matching types i x q b → P x q) → ((y : Item) (q b : ℤ) → Among y t → Matching types i y q b → P y q)
      → (y : Item) (q b : ℤ) → Among y (x ∷ t) → Matching types i y q b → P y q
  each_item f g y q b here m = f q b m
  each_item f g y q b (there k) m = g y q b k m

  -- an item that is no rule for the ingredient changes nothing
  best-other : {o : Option Rule} → ((q b : ℤ) → Matching types i x q b → ⊥) → Best types i t o → Best types i (x ∷ t) o
  best-other f (nothing n) = nothing (each_item {P = λ y q. ⊥} f n)
  best-other f (best {x = z} {p = p} m k g) =
      best (there m) k (each_item {P = λ y q. Behind y.key q z.key p} (λ q b n. absurd (f q b n)) g)

  module _ (p a : ℤ) (m : Matching types i x p a) where
    -- the item is behind what its rule is behind
    first-behind : {k : ℕ} {r : ℤ} → Behind x.key p k r → (q b : ℤ) → Matching types i x q b → Behind x.key q k r
    first-behind {k} {r} h q b n = subst (λ (z : ℤ). Behind x.key z k r) (same-reading m n).1 h

    -- an item that is a rule for the ingredient wins, or the winner of the others does
    best-first : (j : ℤ) → Whole x.values → WholeTable t → {o : Option Rule} → Best types i t o
        → Best types i (x ∷ t) (first_of (rule_of x.key j p a) o)
    best-first j w ws (nothing n) =
        best here m
        (each_item {P = λ y q. Behind y.key q x.key p} (first-behind (equal refl (omega arith))) (λ y q b k h. absurd (n y q b k h)))
    best-first j w ws (best {x = z} {j = g} {p = q} {a = b} k n f) = go (goes_before (rule_of x.key j p a) (rule_of z.key g q b)) refl
      where
        go : (c : Bool) → goes_before (rule_of x.key j p a) (rule_of z.key g q b) ≡ c
            → Best types i (x ∷ t) (cond c (some (rule_of x.key j p a)) (some (rule_of z.key g q b)))
        go true e =
            let h : Behind z.key q x.key p =
            before-behind (rule_of x.key j p a) (rule_of z.key g q b) (whole-rule w m).1 (whole-rule (whole-among ws k) n).1 e in
            best here m
            (each_item {P = λ y c. Behind y.key c x.key p} (first-behind (equal refl (omega arith))) (λ y c d l v. behind-further (f y c d l v) h))
        go false e =
            let h : Behind x.key p z.key q = not-before (rule_of x.key j p a) (rule_of z.key g q b) e in
            best (there k) n (each_item {P = λ y c. Behind y.key c z.key q} (first-behind h) f)

-- the definition finds the first rule
best-is : {types : List ℕ} (i : ℤ) → SFits w32 i → {t : Table} {l : List Rule} → WholeTable t → Ruled types t l → Best types i t (winner_of i l)
unfolding winner_of
best-is i f ws no-rule = nothing (λ y p a k m. elim k [ ])
best-is {types} i f (one w ws) (other {x = x} {t = t} n r) = best-other types i x t (λ q b m. n m.named) (best-is i f ws r)
best-is {types} i f (one w ws) (rule {x = x} {t = t} {l = l} {i = j} {p = p} {a = a} m r) = go (same j i) refl (best-is i f ws r)
  where
    go : (c : Bool) → same j i ≡ c → Best types i t (winner_of i l)
        → Best types i (x ∷ t) (cond c (first_of (rule_of x.key j p a) (winner_of i l)) (winner_of i l))
    go true e b =
        let h : j ≡ i = same_bits (whole-rule w m).0 f (eqb-true (bits j) (bits i) e) in
        best-first types i x t p a (subst (λ (z : ℤ). Matching types z x p a) h m) j w ws b
    go false e b =
        best-other types i x t (λ q d n. both_ways (sym (eq-eqb (bits j) (bits i) (ap bits (same-reading m n).0)) ∙ e)) b

-- what a table says about an ingredient: no item is a rule for it, or one wins
pub data WinnerIs (types : List ℕ) (i : ℤ) (t : Table) : Option Winner → Type 0 where
  no-winner : NoMatch types i t → WinnerIs types i t none
  winner : {w : Winner} → Wins types i t w → WinnerIs types i t (some w)

-- the definition's answer is what the table says
pub winner-is : {types : List ℕ} (i : ℤ) → SFits w32 i → {t : Table} {l : List Rule} → WholeTable t → Ruled types t l
    → WinnerIs types i t (winner_in (winner_of i l))
winner-is {types} i f {t} ws r = go (best-is i f ws r)
  where
    go : {o : Option Rule} → Best types i t o → WinnerIs types i t (winner_in o)
    go (nothing n) = no-winner n
    go (best {x = x} {p = p} m k g) = winner (record { item = x; priority = p; among = m; matches = k; key-is = refl; first = g })

-- ---- the winner is one

-- two rules that are behind each other have the same key
behind-both : {k m : ℕ} {p q : ℤ} → Behind k p m q → Behind m q k p → k ≡ m
behind-both {p = p} {q = q} (lower e) (lower f) = both_ways (sym f ∙ not-below-back p q e)
behind-both {p = p} {q = q} (lower e) (equal h l) = both_ways (sym e ∙ subst (λ (z : ℤ). signed_less p z ≡ false) (sym h) (not-below-itself p))
behind-both {p = p} {q = q} (equal h l) (lower f) = both_ways (sym f ∙ subst (λ (z : ℤ). signed_less z p ≡ false) h (not-below-itself p))
behind-both (equal h l) (equal g n) = omega arith

-- the keys of a table are at least the lowest
among-above : {x : Item} {low : ℕ} {t : Table} → rising low t ≡ true → Among x t → low ≤ x.key
among-above {x = x} {low = low} e (here {l = t}) = (rises low x t e).from
among-above {low = low} e (there {b = y} {l = t} m) = let r = rises low y t e in omega (arith, r.from, among-above r.rest m)

-- a key stands once
among-once : {x y : Item} (low : ℕ) {t : Table} → rising low t ≡ true → Among x t → Among y t → x.key ≡ y.key → x ≡ y
among-once low e here here k = refl
among-once {x = x} low e (here {l = t}) (there m) k = absurd (omega (arith, among-above (rises low x t e).rest m))
among-once {y = y} low e (there m) (here {l = t}) k = absurd (omega (arith, among-above (rises low y t e).rest m))
among-once low e (there {b = z} {l = t} m) (there n) k = among-once (suc z.key) (rises low z t e).rest m n k

-- so one item wins
pub one-winner : {types : List ℕ} {i : ℤ} {t : Table} {v w : Winner} → rising 0 t ≡ true → Wins types i t v → Wins types i t w → v ≡ w
one-winner {types} {i} {w = w} e g h =
    let k : g.item.key ≡ h.item.key = behind-both (h.first _ _ _ g.among g.matches) (g.first _ _ _ h.among h.matches) in
    let x : g.item ≡ h.item = among-once 0 e g.among h.among k in
    let m = subst (λ (z : Item). Matching types i z h.priority w.action) (sym x) h.matches in
    ap₂ (λ (y a : ℤ). record { key = y; action = a }) (g.key-is ∙ ap from_bits k ∙ sym h.key-is) (same-reading g.matches m).2
