-- The parts of one cut, in any order and with any repeats: the last one missing gives exactly the bytes that were cut.
-- Assumes nothing.
use Rattle.std.specs.Prelude.{◌≡◌, refl, Bool, true, false, cond, List, [], ◌∷◌, ◌⊎◌, ℕ, ◌*◌, ◌≤◌, ◌<◌, ℤ, length}
use Rattle.std.proofs.Common.{sym, ap, ◌∙◌, subst, inl, inr, arith, eq-eqb}
use Rattle.std.proofs.Math.Option.{some, none}
use Rattle.definitions.specs.Areas.{lay, lay_at}
use Rattle.definitions.specs.Refusals.{duplicate_part}
use Rattle.definitions.specs.Outcome.{ok, err}
use Rattle.definitions.specs.Messages.{base_tick, num_parts, part_bytes, part_message, distance}
use Rattle.definitions.specs.Receiver.{Receiver, Receives, finished_at, receiver_form, is_old, is_current}
use Rattle.definitions.specs.Warnings.{none as no-warning}
use Rattle.laws.specs.TickLaws.{both_ways}
use Rattle.laws.specs.CutLaws.{parts-few}
use Rattle.laws.specs.PartLaws.{receives, alike, also, holds_same}
use Rattle.laws.specs.PartSteps.{Parts, Waiting, first_part, repeated-part, next-part, last-part}

-- a receiver and its two part areas
pub record State : Type 0 where
  pub receiver : Receiver
  pub area : List ℕ
  pub second : List ℕ

-- whether a number is listed
abbrev pub listed : List ℕ → ℕ → Bool
listed [] q = false
listed (p ∷ ps) q = also (listed ps) p q

module _ (t b s : ℤ) (x : List ℕ) where
  -- the call with part p of the cut
  abbrev pub call_with : State → ℕ → Receives
  call_with i p = receives i.receiver (part_message t (distance t b) x s p) i.area i.second

  -- the state after the parts listed, the newest first
  abbrev pub fed : State → List ℕ → State
  fed i [] = i
  fed i (p ∷ ps) =
      let c : Receives = call_with (fed i ps) p in
      record { receiver = c.receiver; area = c.parts; second = c.joined }

  -- all are numbers of parts
  pub record Numbered (ps : List ℕ) : Type 0 where
    pub below : (q : ℕ) → listed ps q ≡ true → q < num_parts x

  -- some part is not listed
  pub record Lacks (ps : List ℕ) : Type 0 where
    pub part : ℕ
    pub is-part : part < num_parts x
    pub unlisted : listed ps part ≡ false

  -- every part is listed
  pub record Complete (ps : List ℕ) : Type 0 where
    pub every : (q : ℕ) → q < num_parts x → listed ps q ≡ true

  -- ---- lists

  head-listed : (p : ℕ) (ps : List ℕ) → listed (p ∷ ps) p ≡ true
  head-listed p ps = rw (eq-eqb p p refl)

  still-listed : (p q : ℕ) (ps : List ℕ) → listed ps q ≡ true → listed (p ∷ ps) q ≡ true
  still-listed p q ps e = alike q p (λ d _. rw d) (λ d _. rw d e)

  fewer : (p : ℕ) (ps : List ℕ) → Numbered (p ∷ ps) → Numbered ps
  fewer p ps h = record { below = λ q e. h.below q (still-listed p q ps e) }

  head-below : (p : ℕ) (ps : List ℕ) → Numbered (p ∷ ps) → p < num_parts x
  head-below p ps h = h.below p (head-listed p ps)

  lacks-fewer : (p : ℕ) (ps : List ℕ) → Lacks (p ∷ ps) → Lacks ps
  lacks-fewer p ps h =
      record { part = h.part; is-part = h.is-part; unlisted = not_listed (listed ps h.part) refl }
    where
      not_listed : (v : Bool) → listed ps h.part ≡ v → v ≡ false
      not_listed true e = both_ways (sym (still-listed p h.part ps e) ∙ h.unlisted)
      not_listed false e = refl

  repeated-same : (p : ℕ) (ps : List ℕ) → listed ps p ≡ true → (q : ℕ) → listed ps q ≡ listed (p ∷ ps) q
  repeated-same p ps e q = alike q p (λ d z. rw (d, z) e) (λ d _. rw d)

  -- ---- the parts before the last

  -- the receiver holds the parts listed, and the second area is as it was
  pub record Unfinished (i : State) (ps : List ℕ) : Type 0 where
    pub parts : Parts t b s x (fed i ps).receiver (fed i ps).area (listed ps)
    pub room : 28800 ≤ length (fed i ps).area
    pub untouched : (fed i ps).second ≡ i.second

  -- a delta of several parts, and a receiver in form to which its tick is new
  pub record Starts (i : State) : Type 0 where
    pub long : 900 < length x
    pub short : length x ≤ 28800
    pub back : base_tick t (distance t b) ≡ b
    pub form : receiver_form i.receiver ≡ true
    pub not-old : is_old i.receiver t ≡ false
    pub not-current : is_current i.receiver t ≡ false
    pub room : 28800 ≤ length i.area
    pub room2 : 28800 ≤ length i.second

  module _ (i : State) (h : Starts i) where
    -- the second area has room all the way
    second-room : (ps : List ℕ) → Unfinished i ps → 28800 ≤ length (fed i ps).second
    second-room ps w = rw w.untouched h.room2

    waited : (p : ℕ) (ps : List ℕ) → Waiting t b s x h.long h.short h.back (call_with (fed i ps) p) i.second (listed (p ∷ ps)) → Unfinished i (p ∷ ps)
    waited p ps w = record { parts = w.parts; room = w.room; untouched = w.untouched }

    first-call : (p : ℕ) → p < num_parts x → Waiting t b s x h.long h.short h.back (call_with i p) i.second (listed (p ∷ []))
    first-call p l =
        first_part t b s x h.long h.short h.back i.receiver i.area i.second h.room h.room2 p l h.form h.not-old h.not-current

    module _ (ps : List ℕ) (w : Unfinished i ps) (p : ℕ) (l : p < num_parts x) where
      repeated-call : listed ps p ≡ true → call_with (fed i ps) p ≡ record { answer = err duplicate_part no-warning; receiver = (fed i ps).receiver; parts = (fed i ps).area; joined = (fed i ps).second }
      repeated-call e =
          repeated-part t b s x h.long h.short h.back (fed i ps).receiver (fed i ps).area (fed i ps).second w.room (second-room ps w) p l (listed ps) w.parts e

      next-call : listed ps p ≡ false → Lacks (p ∷ ps) → Waiting t b s x h.long h.short h.back (call_with (fed i ps) p) (fed i ps).second (listed (p ∷ ps))
      next-call e k =
          next-part t b s x h.long h.short h.back (fed i ps).receiver (fed i ps).area (fed i ps).second w.room (second-room ps w) p l (listed ps) w.parts e k.part k.is-part k.unlisted

      again : listed ps p ≡ true → Unfinished i (p ∷ ps)
      again e =
          let c = repeated-call e in
          let m = holds_same x (fed i ps).receiver.parts (fed i ps).area (listed ps) (listed (p ∷ ps)) (repeated-same p ps e) w.parts.holds in
          record {
            parts =
                subst (λ (k : Receives). Parts t b s x k.receiver k.parts (listed (p ∷ ps))) (sym c)
                (record { form = w.parts.form; current = w.parts.current; holds = m });
            room = subst (λ (k : Receives). 28800 ≤ length k.parts) (sym c) w.room;
            untouched = ap (λ (k : Receives). k.joined) c ∙ w.untouched;
          }

      newly : listed ps p ≡ false → Lacks (p ∷ ps) → Unfinished i (p ∷ ps)
      newly e k =
          let c = next-call e k in
          record { parts = c.parts; room = c.room; untouched = c.untouched ∙ w.untouched }

      -- one part more, whether it came before or not
      one_more : Lacks (p ∷ ps) → Unfinished i (p ∷ ps)
      one_more k = go (listed ps p) refl
        where
          go : (v : Bool) → listed ps p ≡ v → Unfinished i (p ∷ ps)
          go true e = again e
          go false e = newly e k

      -- not yet, or a part that came before
      answered : Lacks (p ∷ ps) → ((call_with (fed i ps) p).answer ≡ ok none no-warning) ⊎ ((call_with (fed i ps) p).answer ≡ err duplicate_part no-warning)
      answered k = go (listed ps p) refl
        where
          go : (v : Bool) → listed ps p ≡ v → ((call_with (fed i ps) p).answer ≡ ok none no-warning) ⊎ ((call_with (fed i ps) p).answer ≡ err duplicate_part no-warning)
          go true e = inr (ap (λ (c : Receives). c.answer) (repeated-call e))
          go false e = inl (next-call e k).answer

      -- all bytes
      ended : listed ps p ≡ false → Complete (p ∷ ps) → call_with (fed i ps) p ≡ record { answer = ok (some (record { delta_tick = b; tick = t; data_and_crc = some (record { length = length x; crc = s }) })) no-warning; receiver = finished_at t; parts = lay_at (900 * p) (part_bytes x p) (fed i ps).area; joined = lay x (fed i ps).second }
      ended e k =
          last-part t b s x h.long h.short h.back (fed i ps).receiver (fed i ps).area (fed i ps).second w.room (second-room ps w) p l (listed ps) w.parts e k.every

    -- as long as a part is missing, the receiver holds those that came
    pub unfinished : (p : ℕ) (ps : List ℕ) → Numbered (p ∷ ps) → Lacks (p ∷ ps) → Unfinished i (p ∷ ps)
    unfinished p [] n k = waited p [] (first-call p (head-below p [] n))
    unfinished p (p' ∷ ps) n k =
        one_more (p' ∷ ps) (unfinished p' ps (fewer p (p' ∷ ps) n) (lacks-fewer p (p' ∷ ps) k)) p (head-below p (p' ∷ ps) n) k

    -- and each call answers not yet, or 23 to a part that came before
    pub before-the-last : (p : ℕ) (ps : List ℕ) → Numbered (p ∷ ps) → Lacks (p ∷ ps) → ((call_with (fed i ps) p).answer ≡ ok none no-warning) ⊎ ((call_with (fed i ps) p).answer ≡ err duplicate_part no-warning)
    before-the-last p [] n k = inl (first-call p (head-below p [] n)).answer
    before-the-last p (p' ∷ ps) n k =
        answered (p' ∷ ps) (unfinished p' ps (fewer p (p' ∷ ps) n) (lacks-fewer p (p' ∷ ps) k)) p (head-below p (p' ∷ ps) n) k

    -- the last one missing brings the bytes that were cut, their tick, base and sum
    pub the_last : (p : ℕ) (ps : List ℕ) → Numbered (p ∷ ps) → listed ps p ≡ false → Complete (p ∷ ps) → call_with (fed i ps) p ≡ record { answer = ok (some (record { delta_tick = b; tick = t; data_and_crc = some (record { length = length x; crc = s }) })) no-warning; receiver = finished_at t; parts = lay_at (900 * p) (part_bytes x p) (fed i ps).area; joined = lay x i.second }
    the_last p [] n e k =
        let two = (parts-few x h.long h.short).0 in
        absurd (omega (arith, only 0 (k.every 0 (omega arith)), only 1 (k.every 1 two)))
      where
        only : (q : ℕ) → listed (p ∷ []) q ≡ true → q ≡ p
        only q f = alike q p (λ d z. z) (λ d z. both_ways (sym f ∙ ap (λ (u : Bool). cond u true false) d))
    the_last p (p' ∷ ps) n e k =
        let w = unfinished p' ps (fewer p (p' ∷ ps) n) (record { part = p; is-part = head-below p (p' ∷ ps) n; unlisted = e }) in
        ended (p' ∷ ps) w p (head-below p (p' ∷ ps) n) e k
        ∙ ap (λ (l : List ℕ). record { answer = ok (some (record { delta_tick = b; tick = t; data_and_crc = some (record { length = length x; crc = s }) })) no-warning; receiver = finished_at t; parts = lay_at (900 * p) (part_bytes x p) (fed i (p' ∷ ps)).area; joined = lay x l }) w.untouched
