-- How the bytes of a delta are cut into messages. Assumes nothing.
use Rattle.std.specs.Prelude.{◌≡◌, refl, false, List, [], ◌∷◌, ℕ, zero, suc, ◌+◌, ◌-◌, ◌*◌, ◌≤◌, ◌<◌, min, ℤ, length, take, drop, get_or}
use Rattle.std.proofs.Common.{sym, ap, ◌∙◌, ⊎_elim, arith, length-take, length-drop, drop_of_length-le, take_all, take-add}
use Rattle.std.proofs.Math.Option.{some, none}
use borrow.Author.Tests.{le-leb, lt-leb, eq-eqb, ne_eqb}
use Rattle.definitions.specs.Tables.{list}
use Rattle.definitions.specs.Messages.{Message, SnapEmpty, SnapSingle, num_parts, part_bytes, part_message, delta_chunks, nth_message, distance}
use Rattle.definitions.specs.Receiver.{is_in, part_in, joined}
use Rattle.laws.specs.Tests.{below}
use Rattle.laws.specs.ListLaws.{list-cons}
use Rattle.laws.specs.TableForm.{length-list}

-- ---- the messages of some bytes

module _ (tick base : ℤ) (x : List ℕ) (crc : ℤ) where
  -- no bytes make one empty message
  pub chunks-none : length x ≡ 0 → delta_chunks tick base x crc ≡ record { numbers = SnapEmpty tick (distance tick base); bytes = [] } ∷ []
  unfolding delta_chunks
  chunks-none e = rw (eq-eqb (length x) 0 e)

  -- up to 900 bytes make one single message
  pub chunks-single : 0 < length x → length x ≤ 900 → delta_chunks tick base x crc ≡ record { numbers = SnapSingle tick (distance tick base) crc; bytes = x } ∷ []
  unfolding delta_chunks
  chunks-single h l = rw (ne_eqb (length x) 0 (λ e. omega arith), le-leb (length x) 900 l)

  -- more bytes make parts
  pub chunks-parts : 900 < length x → delta_chunks tick base x crc ≡ list (part_message tick (distance tick base) x crc) (num_parts x)
  unfolding delta_chunks
  chunks-parts h = rw (ne_eqb (length x) 0 (λ e. omega arith), lt-leb (length x) 900 h)

  -- one message, up to 900 bytes
  pub one_chunk : length x ≡ 0 → length (delta_chunks tick base x crc) ≡ 1
  one_chunk e = rw (chunks-none e)

  -- a message for each part, where there are bytes
  pub length-chunks : 0 < length x → length (delta_chunks tick base x crc) ≡ num_parts x
  length-chunks h =
      ⊎_elim
      (λ (l : 900 < length x). rw (chunks-parts l) (length-list (part_message tick (distance tick base) x crc) (num_parts x)))
      (λ (l : length x ≤ 900). rw (chunks-single h l) (omega arith))
      (below 900 (length x))

-- ---- the message at a place

pub nth-list : (f : ℕ → Message) (n i : ℕ) → i < n → nth_message (list f n) i ≡ some (f i)
nth-list f zero i l = absurd (omega arith)
nth-list f (suc n) zero l = rw (list-cons f n)
nth-list f (suc n) (suc i) l = rw (list-cons f n) (nth-list (λ j. f (suc j)) n i (omega arith))

pub nth_past : (l : List Message) (i : ℕ) → length l ≤ i → nth_message l i ≡ none
nth_past [] i h = refl
nth_past (m ∷ l) zero h = absurd (omega arith)
nth_past (m ∷ l) (suc i) h = nth_past l i (omega arith)

-- message p of a delta in parts
pub nth-chunk : (tick base : ℤ) (x : List ℕ) (crc : ℤ) (p : ℕ) → 900 < length x → p < num_parts x → nth_message (delta_chunks tick base x crc) p ≡ some (part_message tick (distance tick base) x crc p)
nth-chunk tick base x crc p h l =
    rw (chunks-parts tick base x crc h) (nth-list (part_message tick (distance tick base) x crc) (num_parts x) p l)

-- ---- parts

-- the length of a part
pub length_part : (x : List ℕ) (p : ℕ) → length (part_bytes x p) ≡ min 900 (length x - 900 * p)
length_part x p = length-take 900 (drop (900 * p) x) ∙ ap (min 900) (length-drop (900 * p) x)

-- a part has at most 900 bytes
pub part-short : (x : List ℕ) (p : ℕ) → length (part_bytes x p) ≤ 900
part-short x p = omega (arith, length_part x p)

-- a part ends within the bytes
pub part-within : (x : List ℕ) (p : ℕ) → p < num_parts x → 900 * p + length (part_bytes x p) ≤ length x
part-within x p h = omega (arith, length_part x p)

-- behind the last part there is nothing
pub part-past : (x : List ℕ) (p : ℕ) → num_parts x ≤ p → part_bytes x p ≡ []
part-past x p h = rw (drop_of_length-le x {i = 900 * p} (omega arith))

-- a delta that fits the part areas has 2 to 32 parts
pub parts-few : (x : List ℕ) → 900 < length x → length x ≤ 28800 → (1 < num_parts x) × (num_parts x ≤ 32)
parts-few x h k = (omega arith, omega arith)

-- the first parts are the first bytes
pub joined-front : (lengths area x : List ℕ) (k : ℕ) → ((p : ℕ) → p < k → part_in lengths area p ≡ part_bytes x p) → joined lengths area k ≡ take (900 * k) x
unfolding joined
joined-front lengths area x zero h = refl
joined-front lengths area x (suc k) h =
    let e : 900 * suc k ≡ 900 * k + 900 = omega arith in
    rw (h k (omega arith), joined-front lengths area x k (λ p l. h p (omega arith)), e) (sym (take-add (900 * k) 900 x))

-- an area holds some bytes: the parts that are in are theirs, and all their parts are in
pub record Cut (lengths area x : List ℕ) : Type 0 where
  pub inside : (p : ℕ) → p < num_parts x → get_or lengths p 901 ≡ length (part_bytes x p)
  pub outside : (p : ℕ) → num_parts x ≤ p → is_in lengths p ≡ false
  pub held : (p : ℕ) → p < num_parts x → take (length (part_bytes x p)) (drop (900 * p) area) ≡ part_bytes x p

-- the parts of a cut, joined, are the bytes again
pub joined-cut : (lengths area x : List ℕ) → Cut lengths area x → length x ≤ 28800 → joined lengths area 32 ≡ x
joined-cut lengths area x c h = joined-front lengths area x 32 (λ p _. part p) ∙ take_all 28800 x h
  where
    part : (p : ℕ) → part_in lengths area p ≡ part_bytes x p
    part p =
        ⊎_elim
        (λ (l : p < num_parts x). rw (c.inside p l, le-leb (length (part_bytes x p)) 900 (part-short x p)) (c.held p l))
        (λ (l : num_parts x ≤ p). rw (c.outside p l) (sym (part-past x p l)))
        (below p (num_parts x))
