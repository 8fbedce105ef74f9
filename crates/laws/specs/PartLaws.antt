-- The parts of one cut, as a receiver takes them. Assumes nothing.
use Rattle.std.specs.Prelude.{◌≡◌, refl, Bool, true, false, cond, List, ℕ, zero, suc, ◌+◌, ◌-◌, ◌*◌, ◌≤◌, ◌<◌, eqb, length, get_or, take, drop, set, replicate}
use Rattle.std.proofs.Common.{sym, ap, ◌∙◌, ⊎_elim, arith, eqb-true, length-set, get_or-set_same, get_or-set_other}
use Rattle.std.proofs.lemmas.Bool.{eqb-false}
use Rattle.definitions.specs.Areas.{lay_at}
use Rattle.definitions.specs.Messages.{SnapMsg, Snap, SnapEmpty, SnapSingle, Message, num_parts, part_bytes}
use Rattle.definitions.specs.Receiver.{Receiver, Receives, no_parts, is_in, count_in, joined, snap_call, snap_single_call, snap_empty_call}
use Rattle.laws.specs.Tests.{below}
use Rattle.laws.specs.AreaLaws.{laid-there, laid-before, laid-behind}
use Rattle.laws.specs.TickLaws.{both_ways}
use Rattle.laws.specs.PartCounts.{count-all, count-missing, count-beyond, put_in, others-in}
use Rattle.laws.specs.CutLaws.{part-short, part-within, joined-cut}

-- the call for a message of each kind
abbrev pub receives_by : Receiver → SnapMsg → List ℕ → List ℕ → List ℕ → Receives
receives_by r (Snap tick distance n part crc) bytes area second =
    snap_call r (record { tick = tick; distance = distance; num_parts = n; part = part; crc = crc }) bytes area second
receives_by r (SnapEmpty tick distance) bytes area second = snap_empty_call r tick distance area second
receives_by r (SnapSingle tick distance crc) bytes area second = snap_single_call r tick distance crc bytes area second

-- a message with its bytes
abbrev pub receives : Receiver → Message → List ℕ → List ℕ → Receives
receives r m area second = receives_by r m.numbers m.bytes area second

-- ---- two numbers

-- by whether two numbers are the same
pub alike : {A : Type 0} (q p : ℕ) → (eqb q p ≡ true → q ≡ p → A) → (eqb q p ≡ false → (q ≡ p → ⊥) → A) → A
alike {A} q p f g = go (eqb q p) refl
  where
    go : (b : Bool) → eqb q p ≡ b → A
    go true e = f e (eqb-true q p e)
    go false e = g e (eqb-false q p e)

-- one more number
abbrev pub also : (ℕ → Bool) → ℕ → ℕ → Bool
also came p q = cond (eqb q p) true (came q)

-- no part is in at first
get_or-same : (n i a : ℕ) → get_or (replicate n a) i a ≡ a
get_or-same zero i a = refl
get_or-same (suc n) zero a = refl
get_or-same (suc n) (suc i) a = get_or-same n i a

none_in : (p : ℕ) → is_in no_parts p ≡ false
none_in p = rw (get_or-same 32 p 901)

-- ---- what is held of a cut

module _ (x : List ℕ) where
  -- the parts of x that came are in, with their lengths and bytes
  pub record Holds (lengths area : List ℕ) (came : ℕ → Bool) : Type 0 where
    pub entries : length lengths ≡ 32
    pub which : (p : ℕ) → is_in lengths p ≡ came p
    pub within : (p : ℕ) → came p ≡ true → p < num_parts x
    pub sizes : (p : ℕ) → came p ≡ true → get_or lengths p 901 ≡ length (part_bytes x p)
    pub held : (p : ℕ) → came p ≡ true → take (length (part_bytes x p)) (drop (900 * p) area) ≡ part_bytes x p

  -- nothing came
  pub holds-none : (area : List ℕ) → Holds no_parts area (λ p. false)
  holds-none area =
      record {
        entries = refl;
        which = none_in;
        within = λ p e. both_ways (sym e);
        sizes = λ p e. both_ways (sym e);
        held = λ p e. both_ways (sym e);
      }

  -- the same parts came
  pub holds_same : (lengths area : List ℕ) (came came' : ℕ → Bool) → ((p : ℕ) → came p ≡ came' p) → Holds lengths area came → Holds lengths area came'
  holds_same lengths area came came' e h =
      record {
        entries = h.entries;
        which = λ p. h.which p ∙ e p;
        within = λ p c. h.within p (e p ∙ c);
        sizes = λ p c. h.sizes p (e p ∙ c);
        held = λ p c. h.held p (e p ∙ c);
      }

  module _ (lengths area : List ℕ) (came : ℕ → Bool) (h : Holds lengths area came) (p : ℕ) (l : p < num_parts x) (short : length x ≤ 28800) (room : 28800 ≤ length area) where
    abbrev lengths' : List ℕ
    lengths' = set lengths p (length (part_bytes x p))

    abbrev area' : List ℕ
    area' = lay_at (900 * p) (part_bytes x p) area

    inside : p < length lengths
    inside = omega (arith, h.entries, short, l)

    which' : (q : ℕ) → is_in lengths' q ≡ also came p q
    which' q =
        alike q p
        (λ b e. rw (b, e) (put_in lengths p (length (part_bytes x p)) (part-short x p) inside))
        (λ b z. rw b (others-in lengths p (length (part_bytes x p)) (part-short x p) inside q z ∙ h.which q))

    within' : (q : ℕ) → also came p q ≡ true → q < num_parts x
    within' q c =
        alike q p
        (λ b e. rw e l)
        (λ b z. h.within q (ap (λ (u : Bool). cond u true (came q)) (sym b) ∙ c))

    sizes' : (q : ℕ) → also came p q ≡ true → get_or lengths' q 901 ≡ length (part_bytes x q)
    sizes' q c =
        alike q p
        (λ b e. rw e (get_or-set_same lengths p (length (part_bytes x p)) 901 inside))
        (λ b z. get_or-set_other lengths p q (length (part_bytes x p)) 901 z ∙ h.sizes q (ap (λ (u : Bool). cond u true (came q)) (sym b) ∙ c))

    -- the bytes of another part stay
    apart : (q : ℕ) → (q ≡ p → ⊥) → take (length (part_bytes x q)) (drop (900 * q) area') ≡ take (length (part_bytes x q)) (drop (900 * q) area)
    apart q z =
        ⊎_elim
        (λ (s : q < p). laid-before (900 * p) (part_bytes x p) area (900 * q) (length (part_bytes x q)) (omega (arith, part-short x q)))
        (λ (s : p ≤ q). ap (take (length (part_bytes x q))) (laid-behind (900 * p) (part_bytes x p) area (900 * q) (omega (arith, part-short x p))))
        (below q p)

    held' : (q : ℕ) → also came p q ≡ true → take (length (part_bytes x q)) (drop (900 * q) area') ≡ part_bytes x q
    held' q c =
        alike q p
        (λ b e. rw e (laid-there (900 * p) (part_bytes x p) area (omega (arith, part-within x p l))))
        (λ b z. apart q z ∙ h.held q (ap (λ (u : Bool). cond u true (came q)) (sym b) ∙ c))

    -- a part more came
    pub holds_more : Holds lengths' area' (also came p)
    holds_more =
        record { entries = length-set lengths p (length (part_bytes x p)) ∙ h.entries; which = which'; within = within'; sizes = sizes'; held = held' }

  module _ (lengths area : List ℕ) (came : ℕ → Bool) (h : Holds lengths area came) (few : num_parts x ≤ 32) where
    -- no part from the last on is in
    beyond : (p : ℕ) → num_parts x ≤ p → is_in lengths p ≡ false
    beyond p l = go (came p) refl
      where
        go : (b : Bool) → came p ≡ b → is_in lengths p ≡ false
        go true e = absurd (omega (arith, h.within p e))
        go false e = h.which p ∙ e

    counts-within : count_in lengths 32 ≡ count_in lengths (num_parts x)
    counts-within =
        let e : num_parts x + (32 - num_parts x) ≡ 32 = omega arith in
        ap (count_in lengths) (sym e) ∙ count-beyond lengths (num_parts x) (32 - num_parts x) beyond

    -- where one has not come, not all are in
    pub lacking : (q : ℕ) → q < num_parts x → came q ≡ false → count_in lengths 32 ≡ num_parts x → ⊥
    lacking q l e z =
        let s : count_in lengths (num_parts x) < num_parts x = count-missing lengths q (h.which q ∙ e) (num_parts x) l in
        omega (arith, counts-within)

    module _ (all : (q : ℕ) → q < num_parts x → came q ≡ true) where
      -- where all came, all are in
      pub complete : count_in lengths 32 ≡ num_parts x
      complete = counts-within ∙ count-all lengths (num_parts x) (λ p l. h.which p ∙ all p l)

      -- and joined they are the bytes that were cut
      pub joins : length x ≤ 28800 → joined lengths area 32 ≡ x
      joins short =
          joined-cut lengths area x
          (record { inside = λ p l. h.sizes p (all p l); outside = beyond; held = λ p l. h.held p (all p l) }) short
