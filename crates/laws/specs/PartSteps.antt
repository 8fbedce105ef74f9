-- What the receiver answers to a part of one cut: by the parts that came. Assumes nothing.
use Rattle.std.specs.Prelude.{◌≡◌, Bool, true, false, cond, List, ℕ, ◌*◌, ◌≤◌, ◌<◌, ℤ, pos, length, set}
use Rattle.std.proofs.Math.Path.{refl}
use Rattle.std.proofs.Common.{sym, ap, ◌∙◌, subst, arith}
use Rattle.std.proofs.Math.Option.{Option, some, none}
use borrow.Author.Tests.{le-leb, lt-ltb, eq-eqb, ne_eqb}
use Rattle.definitions.specs.Areas.{lay, lay_at}
use Rattle.definitions.specs.Ints.{bits}
use Rattle.definitions.specs.Tables.{num}
use Rattle.definitions.specs.Refusals.{duplicate_part}
use Rattle.definitions.specs.Warnings.{none as no-warning}
use Rattle.definitions.specs.Outcome.{ok, err}
use Rattle.definitions.specs.Messages.{base_tick, num_parts, part_bytes, part_message, distance}
use Rattle.definitions.specs.Receiver.{Current, Receiver, Part, Taken, Receives, no_parts, finished_at, is_in, count_in, receiver_form, is_old, is_current, is_tick_of, opened_for, opened, differs, put_part}
use Rattle.laws.specs.TickLaws.{not-below-itself}
use Rattle.laws.specs.CutLaws.{part-short, parts-few}
use Rattle.laws.specs.ReceiverForm.{snap-form}
use Rattle.laws.specs.AreaLaws.{length-lay_at}
use Rattle.laws.specs.DifferingLaws.{all_same, counted}
use Rattle.laws.specs.PartLaws.{receives, alike, also, Holds, holds-none, holds_more, lacking, complete, joins}

module _ (t b s : ℤ) (x : List ℕ) where
  -- what the first part of the cut says
  abbrev pub said : Current
  said = record { tick = t; delta_tick = b; num_parts = num_parts x; crc = s }

  -- the numbers of part p
  abbrev pub numbers_of : ℕ → Part
  numbers_of p =
      record { tick = t; distance = distance t b; num_parts = pos (num_parts x); part = pos p; crc = s }

  -- a receiver that holds those parts of the cut that came
  pub record Parts (r : Receiver) (area : List ℕ) (came : ℕ → Bool) : Type 0 where
    pub form : receiver_form r ≡ true
    pub current : r.current ≡ some said
    pub holds : Holds x r.parts area came

  module _ (long : 900 < length x) (short : length x ≤ 28800) (back : base_tick t (distance t b) ≡ b) where
    few : num_parts x ≤ 32
    few = (parts-few x long short).1

    -- no part differs from what the first one said
    said-alike : (p : ℕ) → differs said (numbers_of p) ≡ false
    unfolding num
    said-alike p = all_same said (numbers_of p) back refl refl

    module _ (r : Receiver) (area second : List ℕ) (form : receiver_form r ≡ true) (new : is_old r t ≡ false) (room : 28800 ≤ length area) (room2 : 28800 ≤ length second) (p : ℕ) (l : p < num_parts x) where
      -- by whether the part is in
      judged : (lengths : List ℕ) → opened r (numbers_of p) ≡ record { current = said; parts = lengths } → receives r (part_message t (distance t b) x s p) area second ≡ cond (is_in lengths p) (record { answer = err duplicate_part no-warning; receiver = r; parts = area; joined = second }) (let k : Taken = put_part r.previous_tick (record { current = said; parts = set lengths p (length (part_bytes x p)) }) (lay_at (900 * p) (part_bytes x p) area) second in record { answer = ok k.received no-warning; receiver = k.receiver; parts = k.parts; joined = k.joined })
      unfolding num
      judged lengths o =
          counted r (numbers_of p) (part_bytes x p) area second form (rw (le-leb 28800 (length area) room, le-leb 28800 (length second) room2)) (le-leb (length (part_bytes x p)) 900 (part-short x p)) new (le-leb (num_parts x) 32 few) (lt-ltb p (num_parts x) l)
          ∙ rw (o, said-alike p)

      module _ (lengths : List ℕ) (o : opened r (numbers_of p) ≡ record { current = said; parts = lengths }) (came : ℕ → Bool) (h : Holds x lengths area came) where
        -- it came before
        repeats : came p ≡ true → receives r (part_message t (distance t b) x s p) area second ≡ record { answer = err duplicate_part no-warning; receiver = r; parts = area; joined = second }
        repeats e = judged lengths o ∙ rw (h.which p ∙ e)

        module _ (e : came p ≡ false) where
          more : Holds x (set lengths p (length (part_bytes x p))) (lay_at (900 * p) (part_bytes x p) area) (also came p)
          more = holds_more x lengths area came h p l short room

          -- another one is still missing
          waits : (q : ℕ) → q < num_parts x → also came p q ≡ false → receives r (part_message t (distance t b) x s p) area second ≡ record { answer = ok none no-warning; receiver = record { previous_tick = r.previous_tick; current = some said; parts = set lengths p (length (part_bytes x p)) }; parts = lay_at (900 * p) (part_bytes x p) area; joined = second }
          unfolding put_part
          waits q k z =
              judged lengths o
              ∙ rw (h.which p ∙ e, ne_eqb (count_in (set lengths p (length (part_bytes x p))) 32) (num_parts x) (lacking x _ _ _ more few q k z))

          -- it was the last one missing
          ends : ((q : ℕ) → q < num_parts x → also came p q ≡ true) → receives r (part_message t (distance t b) x s p) area second ≡ record { answer = ok (some (record { delta_tick = b; tick = t; data_and_crc = some (record { length = length x; crc = s }) })) no-warning; receiver = finished_at t; parts = lay_at (900 * p) (part_bytes x p) area; joined = lay x second }
          unfolding put_part
          ends all =
              judged lengths o
              ∙ rw (h.which p ∙ e, eq-eqb (count_in (set lengths p (length (part_bytes x p))) 32) (num_parts x) (complete x _ _ _ more few all), joins x _ _ _ more few all short)

    -- ---- the tick of a part

    opened-first : (current : Option Current) (lengths : List ℕ) (p : ℕ) → is_tick_of current t ≡ false → opened_for current lengths (numbers_of p) ≡ record { current = said; parts = no_parts }
    unfolding num
    opened-first none lengths p e = rw back
    opened-first (some c) lengths p e = rw (e, back)

    opened-new : (r : Receiver) (p : ℕ) → is_current r t ≡ false → opened r (numbers_of p) ≡ record { current = said; parts = no_parts }
    unfolding opened is_current
    opened-new r p e = opened-first r.current r.parts p e

    opened-held : (r : Receiver) (p : ℕ) → r.current ≡ some said → opened r (numbers_of p) ≡ record { current = said; parts = r.parts }
    unfolding opened
    opened-held r p e = rw (e, eq-eqb (bits t) (bits t) refl)

    not-old : (r : Receiver) → r.current ≡ some said → is_old r t ≡ false
    unfolding is_old
    not-old r e = rw e (not-below-itself t)

    -- ---- the four answers

    -- a part was taken, and others are missing: the answer is not yet, and the second area stays
    pub record Waiting (c : Receives) (second : List ℕ) (came : ℕ → Bool) : Type 0 where
      pub answer : c.answer ≡ ok none no-warning
      pub untouched : c.joined ≡ second
      pub room : 28800 ≤ length c.parts
      pub parts : Parts c.receiver c.parts came

    module _ (r : Receiver) (area second : List ℕ) (room : 28800 ≤ length area) (room2 : 28800 ≤ length second) (p : ℕ) (l : p < num_parts x) where
      -- the call with part p
      abbrev call : Receives
      call = receives r (part_message t (distance t b) x s p) area second

      taken : (lengths : List ℕ) (came : ℕ → Bool) → receiver_form r ≡ true → call ≡ record { answer = ok none no-warning; receiver = record { previous_tick = r.previous_tick; current = some said; parts = set lengths p (length (part_bytes x p)) }; parts = lay_at (900 * p) (part_bytes x p) area; joined = second } → Holds x (set lengths p (length (part_bytes x p))) (lay_at (900 * p) (part_bytes x p) area) came → Waiting call second came
      taken lengths came form e h =
          let f : receiver_form call.receiver ≡ true = snap-form r (numbers_of p) (part_bytes x p) area second form in
          record {
            answer = ap (λ (c : Receives). c.answer) e;
            untouched = ap (λ (c : Receives). c.joined) e;
            room = rw (ap (λ (c : Receives). c.parts) e, length-lay_at (900 * p) (part_bytes x p) area) room;
            parts =
                record {
                  form = f;
                  current = ap (λ (c : Receives). c.receiver.current) e;
                  holds = subst (λ (c : Receives). Holds x c.receiver.parts c.parts came) (sym e) h;
                };
          }

      -- the first part of a new tick
      pub first_part : receiver_form r ≡ true → is_old r t ≡ false → is_current r t ≡ false → Waiting call second (also (λ q. false) p)
      first_part form new fresh =
          let o = opened-new r p fresh in
          let h = holds-none x area in
          taken no_parts (also (λ q. false) p) form
          (alike p 0
          (λ d e. waits r area second form new room room2 p l no_parts o (λ q. false) h refl 1 (parts-few x long short).0 (rw (ne_eqb 1 p (λ z. omega arith))))
          (λ d z. waits r area second form new room room2 p l no_parts o (λ q. false) h refl 0 (omega (arith, (parts-few x long short).0)) (rw (ne_eqb 0 p (λ e. z (sym e))))))
          (holds_more x no_parts area (λ q. false) h p l short room)

      module _ (came : ℕ → Bool) (h : Parts r area came) where
        -- a part that came before
        pub repeated-part : came p ≡ true → call ≡ record { answer = err duplicate_part no-warning; receiver = r; parts = area; joined = second }
        repeated-part e =
            repeats r area second h.form (not-old r h.current) room room2 p l r.parts (opened-held r p h.current) came h.holds e

        -- a part that did not, where another one is missing too
        pub next-part : came p ≡ false → (q : ℕ) → q < num_parts x → also came p q ≡ false → Waiting call second (also came p)
        next-part e q k z =
            taken r.parts (also came p) h.form
            (waits r area second h.form (not-old r h.current) room room2 p l r.parts (opened-held r p h.current) came h.holds e q k z)
            (holds_more x r.parts area came h.holds p l short room)

        -- the last one missing
        pub last-part : came p ≡ false → ((q : ℕ) → q < num_parts x → also came p q ≡ true) → call ≡ record { answer = ok (some (record { delta_tick = b; tick = t; data_and_crc = some (record { length = length x; crc = s }) })) no-warning; receiver = finished_at t; parts = lay_at (900 * p) (part_bytes x p) area; joined = lay x second }
        last-part e all =
            ends r area second h.form (not-old r h.current) room room2 p l r.parts (opened-held r p h.current) came h.holds e all
