-- What the call for the winner answers, by the items of the table, and that equal tables answer alike. Assumes nothing.
use Rattle.std.specs.Prelude.{ℕ, suc, ◌+◌, ◌*◌, ◌<◌, ◌≤◌, ◌^◌, ◌≡◌, refl, Bool, false, ◌&&◌, List, [], ◌∷◌, ℤ, drop}
use Rattle.std.proofs.Common.{sym, ◌∙◌, subst, arith, length-append, take_at, SFits}
use Rattle.std.proofs.Math.Path.{ap}
use Rattle.std.proofs.Math.Bool.{true}
use Rattle.std.proofs.Math.Option.{Option, some, none}
use borrow.Author.Tests.{le-leb, leb-true}
use Rattle.std.proofs.Math.Dec.{leb}
use Rattle.std.proofs.Math.ListN.{length, take, length-take}
use Rattle.std.specs.Int.{w32}
use Rattle.definitions.specs.Refusals.{scratch_too_short, input_too_long, short_rule, not_in_form}
use Rattle.definitions.specs.Warnings.{Counts}
use Rattle.definitions.specs.Outcome.{Outcome, ok, err, return, refuse, require, ◌>>=◌, ◌>>◌}
use Rattle.definitions.specs.Packed.{pack_ints}
use Rattle.definitions.specs.Stored.{stored}
use Rattle.definitions.specs.Stream.{stream}
use Rattle.definitions.specs.Tables.{Table, body, offsets, written, rising, table_of}
use Rattle.definitions.specs.TableReading.{read_table, read_packed}
use Rattle.definitions.specs.TableCalls.{held, stored_table, read_from_ints_call, read_call, write_to_ints_call, write_call}
use Rattle.definitions.specs.DeltaReading.{elem}
use Rattle.definitions.specs.Types.{type_of}
use Rattle.definitions.specs.Builder.{new_call}
use Rattle.definitions.specs.Rules.{Rule, rules_of, winner_of, Winner, winner_in, winner_call}
use Rattle.laws.specs.ListLaws.{Among}
use Rattle.laws.specs.IntLaws.{from_bits-fits}
use Rattle.laws.specs.TickLaws.{both_ways}
use Rattle.laws.specs.OutcomeLaws.{ok-value, ok-not-err, after_none}
use Rattle.laws.specs.AreaLaws.{lay-append}
use Rattle.laws.specs.StreamLaws.{whole-uncut, whole-unpadded}
use Rattle.laws.specs.PackLaws.{length-pack_ints, Whole, nil, cons, read-packed}
use Rattle.laws.specs.TableForm.{length-written}
use Rattle.laws.specs.TableRoundTrip.{soundly}
use Rattle.laws.specs.TableReadBack.{read-written}
use Rattle.laws.specs.TableEach.{no_more, one, WholeTable}
use Rattle.laws.specs.TableWalk.{rises}
use Rattle.laws.specs.StoreForm.{sound-short}
use Rattle.laws.specs.DeltaMade.{facts}
use Rattle.laws.specs.DeltaWhole.{whole_append, whole-number}
use Rattle.laws.specs.BuilderCalls.{laid-held}
use Rattle.laws.specs.BuildAll.{Add, AllGiven, call_all, equal-tables}
use Rattle.laws.specs.RuleLaws.{Wins, NoMatch, Short, elem-among, among-elem, RulesAre, short, all, rules-are}
use Rattle.laws.specs.RuleLaws.{short-refuses, none-matches, whole-among, whole-rule, WinnerIs, no-winner, winner, winner-is, one-winner}

-- ---- what is answered

-- the answer, from the rules of the table
abbrev from_rules : ℤ → Outcome (List Rule) → Outcome (Option Winner)
from_rules i o = o >>= λ l. return (winner_in (winner_of i l))

-- no rule is first where no winner is told
winner-none : (o : Option Rule) → winner_in o ≡ none → o ≡ none
winner-none none e = refl
winner-none (some r) e = let z : ◌≡◌ {A = ℕ} 0 1 = cc in absurd (omega arith)

-- a table in form has rising keys
held-rises : (area : List ℤ) (t : Table) → table_of area ≡ some t → rising 0 t ≡ true
held-rises area t e = (facts t (soundly area t e).1).rises

-- an area that is not in form is refused as 47
pub not-in-form : (area : List ℤ) (types : List ℕ) (i : ℤ) → table_of area ≡ none → winner_call area types i ≡ refuse not_in_form
unfolding held
not-in-form area types i e = rw e

module _ (area : List ℤ) (t : Table) (e : table_of area ≡ some t) (types : List ℕ) (i : ℤ) where
  -- the call answers from the rules of the table that the area holds
  call-held : winner_call area types i ≡ from_rules i (rules_of types t)
  unfolding held
  call-held = rw e (after_none (from_rules i (rules_of types t)))

  -- a short item of a named type is refused as 55, whatever the ingredient
  pub short-refused : Short types t → winner_call area types i ≡ refuse short_rule
  short-refused h = call-held ∙ ap (from_rules i) (short-refuses h)

  -- nothing else is refused
  pub refused-short : (n : ℕ) (c : Counts) → winner_call area types i ≡ err n c → (n ≡ short_rule) × Short types t
  refused-short n c q = go (rules-are types t) (sym call-held ∙ q)
    where
      go : {o : Outcome (List Rule)} → RulesAre types t o → from_rules i o ≡ err n c → (n ≡ short_rule) × Short types t
      go (short s) h = (cc, s)
      go (all r) h = absurd (ok-not-err h)

  -- where no winner is told, no item is a rule for the ingredient
  pub no-match : (c : Counts) → winner_call area types i ≡ ok none c → NoMatch types i t
  no-match c q = go (rules-are types t) (sym call-held ∙ q)
    where
      go : {o : Outcome (List Rule)} → RulesAre types t o → from_rules i o ≡ ok none c → NoMatch types i t
      go (short s) h = absurd (ok-not-err (sym h))
      go (all {l = l} r) h = none-matches i r (winner-none (winner_of i l) (ok-value h))

  -- the call's answer is what the table says, unless it is refused
  answered : WholeTable t → SFits w32 i → (Short types t → ⊥) → (o : Option Winner) × (winner_call area types i ≡ return o) × WinnerIs types i t o
  answered ws f n = go (rules-are types t) call-held
    where
      go : {o : Outcome (List Rule)} → RulesAre types t o → winner_call area types i ≡ from_rules i o
          → (o : Option Winner) × (winner_call area types i ≡ return o) × WinnerIs types i t o
      go (short s) q = absurd (n s)
      go (all {l = l} r) q = (winner_in (winner_of i l), q, winner-is i f ws r)

  -- a winner that is told wins
  pub is-best : WholeTable t → SFits w32 i → (w : Winner) (c : Counts) → winner_call area types i ≡ ok (some w) c → Wins types i t w
  is-best ws f w c q =
      let a = answered ws f (λ s. ok-not-err (sym q ∙ short-refused s)) in
      go a.2 (ok-value (sym a.1 ∙ q))
    where
      go : {o : Option Winner} → WinnerIs types i t o → o ≡ some w → Wins types i t w
      go (no-winner n) h = let z : ◌≡◌ {A = ℕ} 0 1 = cc in absurd (omega arith)
      go (winner {w = v} g) h = let d : v ≡ w = cc in subst (Wins types i t) d g

  -- where no item is a rule for the ingredient, that is told
  pub none_told : WholeTable t → SFits w32 i → (Short types t → ⊥) → NoMatch types i t → winner_call area types i ≡ return none
  none_told ws f n h = let a = answered ws f n in a.1 ∙ go a.2
    where
      go : {o : Option Winner} → WinnerIs types i t o → return o ≡ return none
      go (no-winner g) = refl
      go (winner g) = absurd (h _ _ _ g.among g.matches)

  -- the item that wins is told
  pub is-told : WholeTable t → (Short types t → ⊥) → (w : Winner) → Wins types i t w → winner_call area types i ≡ return (some w)
  is-told ws n w h =
      let a = answered ws (whole-rule (whole-among ws h.among) h.matches).0 n in a.1 ∙ go a.2
    where
      go : {o : Option Winner} → WinnerIs types i t o → return o ≡ return (some w)
      go (no-winner g) = absurd (g _ _ _ h.among h.matches)
      go (winner g) = ap (λ (v : Winner). return (some v)) (one-winner (held-rises area t e) g h)

-- ---- equal tables

-- equal tables give equal winners
pub equal-winners : (a b : List ℤ) (types : List ℕ) (i : ℤ) → table_of a ≡ table_of b → winner_call a types i ≡ winner_call b types i
unfolding held
equal-winners a b types i e = rw e

-- equal calls of a builder, in any two new areas of 16,384 ints or more, give equal winners
pub built_alike : (a b : List ℤ) (l : List Add) (types : List ℕ) (i : ℤ) → AllGiven l → 16384 ≤ length a → 16384 ≤ length b
    → winner_call (call_all (new_call a).out l) types i ≡ winner_call (call_all (new_call b).out l) types i
built_alike a b l types i g r s = equal-winners _ _ types i (equal-tables a b l g r s)

-- ---- tables that are written and read back

-- the byte offsets of a table that is not too long
whole-offsets : (o : ℕ) (t : Table) → o + 4 * length (body t) < 2 ^ 31 → Whole (offsets o t)
unfolding offsets body
whole-offsets o [] l = nil
whole-offsets o (x ∷ t) l =
    let n = length-append x.values (body t) in
    cons (whole-number o (omega arith)) (whole-offsets (o + 4 * suc (length x.values)) t (omega arith))

-- the keys and the data of a table
whole-body : (low : ℕ) {t : Table} → rising low t ≡ true → WholeTable t → Whole (body t)
unfolding body
whole-body low e no_more = nil
whole-body low e (one {x} {t} w ws) =
    let r = rises low x t e in
    cons (from_bits-fits r.whole) (whole_append w (whole-body (suc x.key) r.rest ws))

module _ (area : List ℤ) (t : Table) (e : table_of area ≡ some t) where
  -- the written form of a table fits 32 bits
  whole-written : WholeTable t → Whole (written t)
  unfolding written
  whole-written ws =
      let s = (soundly area t e).1 in
      let l : length (body t) ≤ 16384 = omega (arith, sound-short t s, length-written t) in
      cons (whole-number (4 * length (body t)) (omega arith)) (cons (whole-number (length t) (omega (arith, sound-short t s, length-written t)))
      (whole_append (whole-offsets 0 t (omega arith)) (whole-body 0 (held-rises area t e) ws)))

  -- what is packed is read back
  packed-read : WholeTable t → read_packed (pack_ints (written t)) ≡ return t
  unfolding read_packed
  packed-read ws =
      let g = read-packed (whole-written ws) in
      let s = stream (pack_ints (written t)) in
      rw (g.no-warnings, whole-unpadded s g.whole, whole-uncut s g.whole, g.ints-are, read-written t (soundly area t e).1)

  -- the table that is read is then held
  read_held : (out : List ℤ) → length (written t) ≤ length out → table_of (stored_table out (return t)).out ≡ some t
  unfolding stored
  read_held out r = rw (le-leb (length (written t)) (length out) r) (laid-held t out (soundly area t e).1 r)

-- what a call laid into an area is there
laid-taken : {E : Type 0} (xs out : List E) (n : ℕ) (c : Counts) → (stored out (return xs)).answer ≡ ok n c
    → take n (stored out (return xs)).out ≡ xs
unfolding stored
laid-taken xs out n c e = go (leb (length xs) (length out)) refl
  where
    go : (b : Bool) → leb (length xs) (length out) ≡ b → take n (stored out (return xs)).out ≡ xs
    go true q =
        let d : length xs ≡ n = ok-value (rw q at e) in
        rw (q, lay-append xs out (leb-true (length xs) (length out) q)) (take_at xs (drop (length xs) out) n d)
    go false q = absurd (ok-not-err (sym (rw q at e)))

module _ (area : List ℤ) (t : Table) (e : table_of area ≡ some t) (types : List ℕ) (i : ℤ) where
  -- an area into which the table was read gives the winner of the area that was written
  stored-alike : (out : List ℤ) (o : Outcome Table) → o ≡ return t → length (written t) ≤ length out
      → winner_call (stored_table out o).out types i ≡ winner_call area types i
  stored-alike out o q r =
      equal-winners (stored_table out o).out area types i
      (ap (λ (p : Outcome Table). table_of (stored_table out p).out) q ∙ (read_held area t e out r ∙ sym e))

  -- so does a table that was written as ints and read back, into an area with room
  pub ints-alike : (ints out : List ℤ) (n : ℕ) (c : Counts) → (write_to_ints_call area ints).answer ≡ ok n c → length (written t) ≤ length out
      → winner_call (read_from_ints_call (take n (write_to_ints_call area ints).out) out).out types i ≡ winner_call area types i
  unfolding held
  ints-alike ints out n c q r =
      let s = (soundly area t e).1 in
      let k : leb (length (written t)) 1048576 ≡ true = le-leb (length (written t)) 1048576 (omega (arith, sound-short t s)) in
      let l : take n (write_to_ints_call area ints).out ≡ written t = rw e (laid-taken (written t) ints n c (rw e at q)) in
      rw l
      (stored-alike out (require (leb (length (written t)) 1048576) input_too_long >> read_table (written t)) (rw (k, read-written t s)) r)

  -- so does one that was packed and read back, into an area with room and with enough scratch
  pub packed_alike : WholeTable t → (bytes : List ℕ) (out : List ℤ) (scratch n : ℕ) (c : Counts) → (write_call area bytes).answer ≡ ok n c
      → length (written t) ≤ length out → 16384 ≤ scratch → n ≤ scratch
      → winner_call (read_call (take n (write_call area bytes).out) out scratch).out types i ≡ winner_call area types i
  unfolding held
  packed_alike ws bytes out scratch n c q r s m =
      let xs = pack_ints (written t) in
      let l : take n (write_call area bytes).out ≡ xs = rw e (laid-taken xs bytes n c (rw e at q)) in
      let few : length xs ≤ n = omega (arith, ap length l, length-take n (write_call area bytes).out) in
      let k : leb (length xs) 1048576 ≡ true =
      le-leb (length xs) 1048576 (omega (arith, length-pack_ints (written t), sound-short t (soundly area t e).1)) in
      rw l
      (stored-alike out
      (require (leb 16384 scratch && leb (length xs) scratch) scratch_too_short >> (require (leb (length xs) 1048576) input_too_long >> read_packed xs))
      (rw (le-leb 16384 scratch s, le-leb (length xs) scratch (omega arith), k, packed-read area t e ws)) r)

-- ---- equal types

-- a type is found alike in two lists with the same types
elem-alike : (types kinds : List ℕ) → ((k : ℕ) → Among k types → Among k kinds) → ((k : ℕ) → Among k kinds → Among k types)
    → (k : ℕ) → elem k types ≡ elem k kinds
elem-alike types kinds f g k = go (elem k types) (elem k kinds) refl refl
  where
    go : (p q : Bool) → elem k types ≡ p → elem k kinds ≡ q → p ≡ q
    go true true e h = refl
    go true false e h = both_ways (sym (among-elem (f k (elem-among k types e))) ∙ h)
    go false true e h = both_ways (sym (among-elem (g k (elem-among k kinds h))) ∙ e)
    go false false e h = refl

-- so a table has the same rules
rules-alike : (types kinds : List ℕ) → ((k : ℕ) → elem k types ≡ elem k kinds) → (t : Table) → rules_of types t ≡ rules_of kinds t
unfolding rules_of
rules-alike types kinds h [] = refl
rules-alike types kinds h (x ∷ t) = rw (h (type_of x), rules-alike types kinds h t)

-- lists of the same types give equal winners, whatever their order and repetitions
pub same-types : (area : List ℤ) (types kinds : List ℕ) (i : ℤ) → ((k : ℕ) → Among k types → Among k kinds)
    → ((k : ℕ) → Among k kinds → Among k types) → winner_call area types i ≡ winner_call area kinds i
same-types area types kinds i f g = go (table_of area) refl
  where
    go : (o : Option Table) → table_of area ≡ o → winner_call area types i ≡ winner_call area kinds i
    go none e = not-in-form area types i e ∙ sym (not-in-form area kinds i e)
    go (some t) e =
        call-held area t e types i
        ∙ (ap (from_rules i) (rules-alike types kinds (elem-alike types kinds f g) t) ∙ sym (call-held area t e kinds i))
