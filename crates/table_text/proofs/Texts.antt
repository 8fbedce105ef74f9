-- The texts of a listing, put one part after the other. Assumes nothing.
use mathlib.Core.Path.{◌≡◌, refl, sym, ap, ap₂, ◌∙◌, subst}
use mathlib.Core.Logic.{⊎_elim}
use mathlib.Core.List.{List, [], ◌∷◌, ◌++◌, append_assoc, append-nil}
use Prim.Native.Nat.{ℕ, ◌+◌, ◌/◌, ◌%◌, ◌<◌, ◌≤◌}
use native.Mathlib.Numerals.{add-one}
use native.Mathlib.Omega.{arith}
use borrow.Author.Tests.{lt-ltb, le-ltb}
use lib.IntN.{ℤ}
use lib.ListN.{length, length-set}
use Rattle.definitions.specs.Outcome.{Outcome, ok, err}
use Rattle.definitions.specs.Tables.{Item, Table, list, items, item_at, key_at, values_at, crc}
use Rattle.io.specs.Counts.{IsPrefixLen}
use Rattle.io.proofs.Counting.{prefix_len_of_le}
use Rattle.laws.specs.Tests.{below}
use Rattle.laws.specs.TableForm.{length-items}
use Rattle.table.specs.Held.{Held}
use Rattle.replay_text.specs.Buffer.{Put, put_byte, puts}
use Rattle.replay_text.specs.Numbers.{decimal, signed}
use Rattle.replay_text.specs.Answers.{next}
use Rattle.replay_text.proofs.BufferLaws.{then}
use Rattle.table_text.specs.Reading.{tabled, unwarned}
use Rattle.table_text.specs.Listing.{line, item_line, item_lines, heading, table_text, answer_text, listing_text}

-- a text, and then another
pub both-put : (a b : List ℕ) (p : Put) {q w : Put} → puts a p ≡ q → puts b q ≡ w → puts (a ++ b) p ≡ w
both-put a b p e f = then a b p ∙ ap (puts b) e ∙ f

-- the line of an item, part by part
pub line-put : (t i n : ℕ) (p : Put) {q₁ q₂ q₃ w : Put} → puts (decimal t) p ≡ q₁ → puts (next i) q₁ ≡ q₂ → puts (next n) q₂ ≡ q₃ → put_byte 10 q₃ ≡ w → puts (line t i n) p ≡ w
line-put t i n p e₁ e₂ e₃ e₄ =
    both-put (decimal t ++ next i ++ next n) (10 ∷ []) p (both-put (decimal t ++ next i) (next n) p (both-put (decimal t) (next i) p e₁ e₂) e₃) e₄

-- the same, with the halves of a key
pub item-line : (k t i n : ℕ) (p : Put) {q₁ q₂ q₃ w : Put} → t ≡ k / 65536 → i ≡ k % 65536 → puts (decimal t) p ≡ q₁ → puts (next i) q₁ ≡ q₂ → puts (next n) q₂ ≡ q₃ → put_byte 10 q₃ ≡ w → puts (line (k / 65536) (k % 65536) n) p ≡ w
item-line k t i n p et ei e₁ e₂ e₃ e₄ = ap₂ (λ (a b : ℕ). puts (line a b n) p) (sym et) (sym ei) ∙ line-put t i n p e₁ e₂ e₃ e₄

-- the words "items" and " sum "
abbrev word-items : List ℕ
word-items = 105 ∷ 116 ∷ 101 ∷ 109 ∷ 115 ∷ []

abbrev word_sum : List ℕ
word_sum = 32 ∷ 115 ∷ 117 ∷ 109 ∷ 32 ∷ []

-- the heading, part by part
pub heading-put : (n : ℕ) (s : ℤ) (p : Put) {q₁ q₂ q₃ q₄ w : Put} → puts word-items p ≡ q₁ → puts (next n) q₁ ≡ q₂ → puts word_sum q₂ ≡ q₃ → puts (signed s) q₃ ≡ q₄ → put_byte 10 q₄ ≡ w → puts (heading n s) p ≡ w
unfolding heading
heading-put n s p {q₁} {q₂} e₁ e₂ e₃ e₄ e₅ =
    both-put (word-items ++ (next n ++ (word_sum ++ signed s))) (10 ∷ []) p
    (both-put word-items (next n ++ (word_sum ++ signed s)) p e₁ (both-put (next n) (word_sum ++ signed s) q₁ e₂ (both-put word_sum (signed s) q₂ e₃ e₄)))
    e₅

-- ---- the lines of the items

item_lines-append : (t u : Table) → item_lines (t ++ u) ≡ item_lines t ++ item_lines u
unfolding item_lines
item_lines-append [] u = refl
item_lines-append (x ∷ t) u = rw (item_lines-append t u) (sym (append_assoc (item_line x) (item_lines t) (item_lines u)))

-- one more item is one more line
lines_more : (f : ℕ → Item) (i : ℕ) → item_lines (list f (i + 1)) ≡ item_lines (list f i) ++ item_line (f i)
unfolding list
lines_more f i = rw (add-one i) (item_lines-append (list f i) (f i ∷ []) ∙ (unfold item_lines in ap (λ (m : List ℕ). item_lines (list f i) ++ m) (append-nil (item_line (f i)))))

module _ (a : List ℤ) where
  -- before the first turn
  pub none-put : (p : Put) → puts (item_lines (list (item_at a) 0)) p ≡ p
  unfolding list item_lines
  none-put p = refl

  -- a turn of the loop: the line of item i is put after those before it
  pub item-put : (i k n : ℕ) (v : List ℤ) (p : Put) {q w : Put} → k ≡ key_at a i → v ≡ values_at a i → n ≡ length v → puts (item_lines (list (item_at a) i)) p ≡ q → puts (line (k / 65536) (k % 65536) n) q ≡ w → puts (item_lines (list (item_at a) (i + 1))) p ≡ w
  item-put i k n v p {q} {w} ek ev en e f =
      let l : item_line (item_at a i) ≡ line (k / 65536) (k % 65536) n = unfold item_line in rw (← ek, ← ev, ← en) in
      ap (λ (m : List ℕ). puts m p) (lines_more (item_at a) i)
      ∙ both-put (item_lines (list (item_at a) i)) (item_line (item_at a i)) p e (ap (λ (m : List ℕ). puts m q) l ∙ f)

  module _ (n : ℕ) (h : Held a n) where
    -- after the last turn
    pub all-put : (i : ℕ) (p : Put) {q : Put} → n ≤ i → i ≤ n → puts (item_lines (list (item_at a) i)) p ≡ q → puts (item_lines (items a)) p ≡ q
    unfolding items
    all-put i p l m e = ap (λ (k : ℕ). puts (item_lines (list (item_at a) k)) p) (sym h.count-is ∙ (let d : n ≡ i = omega arith in d)) ∙ e

    -- the text of the table
    pub table-put : (s : ℤ) (p : Put) {q w : Put} → s ≡ crc (items a) → puts (heading n s) p ≡ q → puts (item_lines (items a)) q ≡ w → puts (table_text (items a)) p ≡ w
    unfolding table_text
    table-put s p {q} {w} es e f =
        both-put (heading (length (items a)) (crc (items a))) (item_lines (items a)) p
        (ap₂ (λ (k : ℕ) (z : ℤ). puts (heading k z) p) (length-items a h.shape ∙ sym h.count-is) (sym es) ∙ e) f

-- the text of what an area holds
pub held-text : {o v : Outcome Table} (p : Put) {w : Put} → o ≡ v → puts (answer_text v) p ≡ w → puts (answer_text o) p ≡ w
held-text p e f = ap (λ (u : Outcome Table). puts (answer_text u) p) e ∙ f

-- no text shows warnings
text-unwarned : (o : Outcome Table) → answer_text (unwarned o) ≡ answer_text o
text-unwarned (ok t w) = refl
text-unwarned (err n w) = refl

-- the text of what was read
pub listed : (src : List ℕ) {o : Outcome Table} → unwarned (tabled src) ≡ o → listing_text src ≡ answer_text o
unfolding listing_text
listed src e = sym (text-unwarned (tabled src)) ∙ ap answer_text e

-- ---- a buffer's place stays within it

byte-counts : (b : ℕ) (p : Put) → (put_byte b p).next ≤ length (put_byte b p).out
unfolding put_byte
byte-counts b p =
    ⊎_elim
    (λ (h : p.next < length p.out). rw (lt-ltb p.next (length p.out) h, length-set) (omega arith))
    (λ (h : length p.out ≤ p.next). rw (le-ltb p.next (length p.out) h) (omega arith))
    (below p.next (length p.out))

text-counts : (text : List ℕ) (p : Put) → p.next ≤ length p.out → (puts text p).next ≤ length (puts text p).out
text-counts [] p l = l
text-counts (b ∷ text) p l = text-counts text (put_byte b p) (byte-counts b p)

pub puts-counts : (text : List ℕ) (p : Put) {q : Put} → p.next ≤ length p.out → puts text p ≡ q → IsPrefixLen q.next q.out
puts-counts text p {q} l e = prefix_len_of_le q.next q.out (subst (λ (r : Put). r.next ≤ length r.out) e (text-counts text p l))

-- a text at the front of a buffer, and where it ends
pub told : {t : List ℕ} (u out : List ℕ) {n : ℕ} {o : List ℕ} → t ≡ u → puts u (record { next = 0; out = out }) ≡ record { next = n; out = o } → (puts t (record { next = 0; out = out }) ≡ record { next = n; out = o }) × IsPrefixLen n o
told u out {n} {o} e f =
    (ap (λ (l : List ℕ). puts l (record { next = 0; out = out })) e ∙ f, puts-counts u (record { next = 0; out = out }) {q = record { next = n; out = o }} (omega arith) f)
