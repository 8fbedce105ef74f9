-- Parts: the printer answers as the logbook does. Assumes nothing.
use Rattle.std.specs.Prelude.{◌≡◌, Bool, ℕ, ◌*◌, ◌≤◌, ◌<◌, ltb, ℤ, pos, negsuc, take, set}
use Rattle.std.proofs.Math.Path.{refl, sym, subst}
use Rattle.std.proofs.Common.{◌∙◌, arith}
use Rattle.std.proofs.Math.Bool.{true, false}
use mathlib.Core.List.{List, [], ◌∷◌}
use Rattle.std.proofs.Math.Option.{Option, some}
use borrow.Author.Tests.{ltb-true, ltb-false, eqb-true, eqb-false, lt-ltb, le-ltb, ne_eqb}
use Rattle.std.proofs.Math.Dec.{eqb}
use Rattle.std.proofs.Math.ListN.{length}
use Rattle.definitions.specs.Areas.{lay, lay_at}
use Rattle.definitions.specs.Refusals.{old_delta, duplicate_part}
use Rattle.definitions.specs.Outcome.{Outcome, return}
use Rattle.definitions.specs.Stream.{stream}
use Rattle.definitions.specs.Tables.{Table, num, crc}
use Rattle.definitions.specs.DeltaReading.{elem, read_delta}
use Rattle.definitions.specs.Messages.{num_parts, part_bytes, base_tick, distance}
use Rattle.definitions.specs.Receiver.{Current, Receiver, no_parts, fresh_receiver, finished_at, is_in, count_in, joined, above_previous, receiver_form, is_old, Taken, Part, Opened, opened, with_part, put_part, take_snap, leaves}
use Rattle.definitions.specs.Storage.{StoredSnap, Storage}
use Rattle.definitions.specs.Manager.{after_receiving}
use Rattle.definitions.specs.Logbook.{Logbook, all_came, note, part_came}
use Rattle.laws.specs.AreaLaws.{laid-there}
use Rattle.laws.specs.CutLaws.{part-short}
use Rattle.session.specs.Runs.{Accepted, packed}
use Rattle.session.specs.Statement.{Among, Rising, Carried}
use Rattle.session.specs.Lists.{either}
use Rattle.session.specs.Room.{Room, BothLong}
use Rattle.session.specs.HeldTicks.{ticks, same-pos, same_self}
use Rattle.session.specs.PartsHeld.{Holding, holding-none, holding-all, holding-put, holding-joined}
use Rattle.session.specs.Sending.{is_large, parts_needed}
use Rattle.session.specs.PrinterState.{Naming, waiting_for, storing, notes, Held, held-weaken, Agree, fresh, finished, waiting, finished-old, finished-new, waiting-old, few-parts, agree-form}
use Rattle.session.specs.LogbookSteps.{note-older, note-newer, note-full, note-twice, note-more}
use Rattle.session.specs.ReceiverSteps.{Gives, Refuses, put-finishes, put-waits, snap-old, snap-twice, snap-takes}
use Rattle.session.specs.PrinterSteps.{Ready, Same, taken, refused-same, finishing, finishes}
use Rattle.session.specs.PrinterWhole.{held-nothing, same-entry}

-- a tick above another is above all that one was above
higher : (previous : Option ℤ) {u t : ℕ} → u < t → above_previous previous (pos u) ≡ true → above_previous previous (pos t) ≡ true
higher Option.none h e = refl
higher (some (pos v)) {u} {t} h e = lt-ltb v t (omega (arith, ltb-true v u e))
higher (some (negsuc v)) h e = refl

module _ (sizes : List ℤ) (instead : ℤ → Bool) (es : List Accepted) (At : ℤ → Table → Type 0) (n : ℕ) (up : Rising es) (nm : Naming es At) {a : Accepted} {t : ℕ} (m : Among a es) (is : a.tick ≡ pos t) (large : is_large sizes instead a ≡ true) (carried : Carried sizes a) (y : Ready sizes At a)
    (p : ℕ) (below : p < num_parts (packed sizes a)) (area second : List ℕ) (delta : List ℤ) (first : 28800 ≤ length area) (other : 28800 ≤ length second) where
  -- the table's bytes, and how many parts they make
  abbrev bytes : List ℕ
  bytes = packed sizes a

  -- how many parts they make
  abbrev count : ℕ
  count = num_parts (packed sizes a)

  -- at most 32
  few : count ≤ 32
  few = few-parts sizes instead es At n carried

  -- as many finish the tick
  parts-needed : parts_needed sizes instead a ≡ count
  unfolding parts_needed
  parts-needed = rw large

  -- what the first part says
  abbrev says : Current
  says = record { tick = pos t; delta_tick = a.base; num_parts = count; crc = crc a.table }

  -- the tick with parts of these lengths in
  abbrev opened_with : List ℕ → Opened
  opened_with lengths = record { current = says; parts = lengths }

  -- a logbook with these tables held
  abbrev noting : Option ℤ → List ℕ → List StoredSnap → Option ℤ → Logbook
  noting newest came l k = record { newest = newest; came = came; held = ticks l; acknowledged = k }

  -- the result of taking the part
  abbrev putting : Option ℤ → List ℕ → Taken
  putting previous lengths =
      put_part previous (with_part (opened_with lengths) p (length (part_bytes bytes p))) (lay_at (900 * p) (part_bytes bytes p) area) second

  module _ (previous : Option ℤ) {lengths came : List ℕ} (l : List StoredSnap) (k o : Option ℤ) (hold : Holding bytes lengths area came) (missing : elem p came ≡ false) (above : above_previous previous (pos t) ≡ true) (h : Held sizes instead es At n t l) where
    -- the parts that are in with this one
    more-in : Holding bytes (set lengths p (length (part_bytes bytes p))) (lay_at (900 * p) (part_bytes bytes p) area) (p ∷ came)
    more-in = holding-put hold p few below missing first

    -- with the last part
    last-same : (r : Receiver) (x : Outcome Taken) (newest : Option ℤ) (before : List ℕ) → Gives x (putting previous lengths) → all_came count (p ∷ came) ≡ true → Room (BothLong n (length delta)) (taken sizes n r (storing l k o) area second delta x).answer → Same sizes instead es At n (taken sizes n r (storing l k o) area second delta x) (part_came (noting newest before l k) (pos t) a.base count (p ∷ came))
    unfolding part_came
    last-same r x newest before g e s =
        let c : eqb (count_in (set lengths p (length (part_bytes bytes p))) 32) count ≡ true = holding-all more-in few ∙ e in
        let j : joined (set lengths p (length (part_bytes bytes p))) (lay_at (900 * p) (part_bytes bytes p) area) 32 ≡ bytes = holding-joined more-in e carried.short in
        let q : Gives x (finishing a t (some (record { length = length bytes; crc = crc a.table })) (lay_at (900 * p) (part_bytes bytes p) area) (lay bytes second)) = rw (put-finishes previous (with_part (opened_with lengths) p (length (part_bytes bytes p))) (lay_at (900 * p) (part_bytes bytes p) area) second c, j) at g in
        let z : read_delta sizes (stream (take (length bytes) (lay bytes second))) ≡ return y.read = rw (laid-there 0 bytes second (omega (arith, carried.short))) (y.reads carried.matches) in
        rw e
        (finishes sizes instead es At n up nm m is (p ∷ came) (rw parts-needed e) r l k o area second delta x (some (record { length = length bytes; crc = crc a.table })) (lay_at (900 * p) (part_bytes bytes p) area) (lay bytes second) y.read y.base y.room q z (same_self (crc a.table)) y.named (rw y.delta-is y.applies) h s)

    -- with another part
    wait-same : (r : Receiver) (x : Outcome Taken) (newest : Option ℤ) (before : List ℕ) → Gives x (putting previous lengths) → all_came count (p ∷ came) ≡ false → Same sizes instead es At n (taken sizes n r (storing l k o) area second delta x) (part_came (noting newest before l k) (pos t) a.base count (p ∷ came))
    unfolding part_came leaves after_receiving
    wait-same r x newest before g e =
        let c : eqb (count_in (set lengths p (length (part_bytes bytes p))) 32) count ≡ false = holding-all more-in few ∙ e in
        rw (e, g.gives, put-waits previous (with_part (opened_with lengths) p (length (part_bytes bytes p))) (lay_at (900 * p) (part_bytes bytes p) area) second c) (record { answer = refl; agree = waiting m is large carried more-in e (omega arith) above h })

    -- a part that was missing
    put_same : (r : Receiver) (x : Outcome Taken) (newest : Option ℤ) (before : List ℕ) → Gives x (putting previous lengths) → Room (BothLong n (length delta)) (taken sizes n r (storing l k o) area second delta x).answer → Same sizes instead es At n (taken sizes n r (storing l k o) area second delta x) (part_came (noting newest before l k) (pos t) a.base count (p ∷ came))
    put_same r x newest before g s =
        either (all_came count (p ∷ came)) (λ e. last-same r x newest before g e s) (λ e. wait-same r x newest before g e)

  module _ (back : base_tick (pos t) (distance (pos t) a.base) ≡ a.base) where
    -- the numbers of the part
    abbrev pub part_numbers : Part
    part_numbers =
        record {
          tick = pos t;
          distance = distance (pos t) a.base;
          num_parts = pos count;
          part = pos p;
          crc = crc a.table;
        }

    -- what the receiver answers to it
    abbrev pub part_taken : Receiver → Outcome Taken
    part_taken r = take_snap r part_numbers (part_bytes bytes p) area second

    -- a part of an old tick is refused
    old : (r : Receiver) → receiver_form r ≡ true → is_old r (pos t) ≡ true → Refuses (part_taken r) old_delta
    old r form q = snap-old r part_numbers (part_bytes bytes p) area second form first other (part-short bytes p) q

    module _ (r : Receiver) (lengths : List ℕ) (form : receiver_form r ≡ true) (new : is_old r (pos t) ≡ false) (opens : opened r part_numbers ≡ opened_with lengths) where
      -- a part that is in is refused
      twice : is_in lengths p ≡ true → Refuses (part_taken r) duplicate_part
      unfolding num
      twice i = snap-twice r part_numbers (part_bytes bytes p) area second form first other (part-short bytes p) new few below (rw opens i)

      -- a part that is missing is taken
      takes : is_in lengths p ≡ false → Gives (part_taken r) (putting r.previous_tick lengths)
      unfolding num
      takes i =
          subst (λ (z : Opened). Gives (part_taken r) (put_part r.previous_tick (with_part z p (length (part_bytes bytes p))) (lay_at (900 * p) (part_bytes bytes p) area) second)) opens
          (snap-takes r part_numbers (part_bytes bytes p) area second form first other (part-short bytes p) new few below (rw opens i))

    -- a tick that begins
    begins : (previous : Option ℤ) (lengths : List ℕ) → opened (record { previous_tick = previous; current = Option.none; parts = lengths }) part_numbers ≡ opened_with no_parts
    unfolding opened num
    begins previous lengths = rw back refl

    -- a newer tick drops the unfinished one
    drops : (previous : Option ℤ) (u : ℕ) (c : Accepted) (lengths : List ℕ) → u < t → opened (waiting_for sizes previous u c lengths) part_numbers ≡ opened_with no_parts
    unfolding opened num
    drops previous u c lengths h = rw (same-pos u t, ne_eqb u t (omega arith), back) refl

    -- the unfinished tick goes on
    goes_on : (previous : Option ℤ) (lengths : List ℕ) → opened (waiting_for sizes previous t a lengths) part_numbers ≡ opened_with lengths
    unfolding opened
    goes_on previous lengths = rw (same_self (pos t)) refl

    -- at first it is missing
    nothing-in : is_in no_parts p ≡ false
    nothing-in = (holding-none bytes area).in-came p (omega (arith, few))

    -- a part of the tick for which the receiver waits
    abbrev Again : Option ℤ → List ℕ → List ℕ → List StoredSnap → Option ℤ → Option ℤ → Accepted → ℕ → Type 0
    Again previous lengths came l k o c u =
        receiver_form (waiting_for sizes previous u c lengths) ≡ true → Holding (packed sizes c) lengths area came → all_came (num_parts (packed sizes c)) came ≡ false → 0 < length came → above_previous previous (pos u) ≡ true → Held sizes instead es At n u l → Room (BothLong n (length delta)) (taken sizes n (waiting_for sizes previous u c lengths) (storing l k o) area second delta (part_taken (waiting_for sizes previous u c lengths))).answer → Same sizes instead es At n (taken sizes n (waiting_for sizes previous u c lengths) (storing l k o) area second delta (part_taken (waiting_for sizes previous u c lengths))) (note (notes (pos u) came (ticks l) k) (pos t) a.base p count)

    -- a part of the tick that is waited for, which came already or not
    again : (previous : Option ℤ) (lengths came : List ℕ) (l : List StoredSnap) (k o : Option ℤ) → Again previous lengths came l k o a t
    unfolding is_old
    again previous lengths came l k o form hold c some_in above h s =
        let r : Receiver = waiting_for sizes previous t a lengths in
        let new : is_old r (pos t) ≡ false = le-ltb t t (omega arith) in
        let i : is_in lengths p ≡ elem p came = hold.in-came p (omega (arith, few)) in
        either (elem p came)
        (λ q.
        rw (note-twice t t a.base p count came (ticks l) k refl c q)
        (refused-same sizes instead es At n second delta (part_taken r) duplicate_part (twice r lengths form new (goes_on previous lengths) (i ∙ q)) (waiting m is large carried hold c some_in above h)))
        (λ q.
        rw (note-more t t a.base p count came (ticks l) k refl c q)
        (put_same previous l k o hold q above h r (part_taken r) (some (pos t)) came (takes r lengths form new (goes_on previous lengths) (i ∙ q)) s))

    -- a part, in whatever state
    pub part_same : {r : Receiver} {s : Storage} {g : Logbook} → Agree sizes instead es At n r area s g → Room (BothLong n (length delta)) (taken sizes n r s area second delta (part_taken r)).answer → Same sizes instead es At n (taken sizes n r s area second delta (part_taken r)) (note g (pos t) a.base p count)
    unfolding note is_old
    part_same (fresh {o = o}) s =
        let form = agree-form sizes instead es At n (fresh {area = area} {o = o}) in
        put_same Option.none [] Option.none o (holding-none bytes area) refl refl (held-nothing sizes instead es At n t) fresh_receiver (part_taken fresh_receiver) Option.none [] (takes fresh_receiver no_parts form refl (begins Option.none no_parts) nothing-in) s
    part_same (finished {a = c} {came = came} {l = l} {k = k} {o = o} {t = u} x e w h) s =
        let r : Receiver = finished_at (pos u) in
        let g : Agree sizes instead es At n r area (storing l k o) (notes (pos u) came (ticks l) k) = finished x e w h in
        let form = agree-form sizes instead es At n g in
        either (ltb u t)
        (λ q.
        let z : u < t = ltb-true u t q in
        rw (note-newer t u a.base p count came (ticks l) k z)
        (put_same (some (pos u)) l k o (holding-none bytes area) refl q (held-weaken sizes instead es At n t z h) r (part_taken r) (some (pos u)) came (takes r no_parts form (finished-new u t q) (begins (some (pos u)) no_parts) nothing-in) s))
        (λ q.
        let v = refused-same sizes instead es At n second delta (part_taken r) old_delta (old r form (finished-old u t q)) g in
        either (ltb t u)
        (λ j. rw (note-older t u a.base p count came (ticks l) k (ltb-true t u j)) v)
        (λ j.
        let z : t ≡ u = omega (arith, ltb-false u t q, ltb-false t u j) in
        let i : all_came count came ≡ true = rw (same-entry sizes instead es At n up nm m is u x e z, parts-needed) at w in
        rw (note-full t u a.base p count came (ticks l) k z i) v))
    part_same (waiting {a = c} {previous = previous} {lengths = lengths} {came = came} {l = l} {k = k} {o = o} {t = u} x e big carried hold w some_in above h) s =
        let r : Receiver = waiting_for sizes previous u c lengths in
        let g : Agree sizes instead es At n r area (storing l k o) (notes (pos u) came (ticks l) k) = waiting x e big carried hold w some_in above h in
        let form = agree-form sizes instead es At n g in
        either (ltb t u)
        (λ q.
        rw (note-older t u a.base p count came (ticks l) k (ltb-true t u q))
        (refused-same sizes instead es At n second delta (part_taken r) old_delta (old r form (waiting-old sizes previous u c lengths t true q)) g))
        (λ q.
        either (eqb t u)
        (λ j.
        let z : t ≡ u = eqb-true t u j in
        let d : a ≡ c = sym (same-entry sizes instead es At n up nm m is u x e z) in
        subst (λ (b : Accepted). Again previous lengths came l k o b u) d
        (subst (λ (v : ℕ). Again previous lengths came l k o a v) z (again previous lengths came l k o))
        form hold w some_in above h s)
        (λ j.
        let z : u < t = omega (arith, ltb-false t u q, eqb-false t u j) in
        rw (note-newer t u a.base p count came (ticks l) k z)
        (put_same previous l k o (holding-none bytes area) refl (higher previous z above) (held-weaken sizes instead es At n t (omega arith) h) r (part_taken r) (some (pos u)) came (takes r no_parts form (waiting-old sizes previous u c lengths t false q) (drops previous u c lengths z) nothing-in) s)))
