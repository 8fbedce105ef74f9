-- When the logbook acknowledges a tick, by the messages before and what is held. Assumes nothing.
use Rattle.std.specs.Prelude.{◌≡◌, refl, ◌↔◌, true, false, List, [], ◌∷◌, ℕ, ◌≤◌, ◌<◌, ltb, eqb, ℤ, pos, negsuc}
use Rattle.std.proofs.Common.{sym, ◌∙◌, ap, subst, arith, ltb-false, eqb-true, le-ltb, ne_eqb}
use Rattle.std.proofs.Math.Option.{Option, some}
use Rattle.std.proofs.lemmas.Bool.{eqb-false}
use Rattle.definitions.specs.Ints.{signed_less}
use Rattle.definitions.specs.Refusals.{old_delta, duplicate_part, unknown_snap}
use Rattle.definitions.specs.DeltaReading.{elem}
use Rattle.definitions.specs.Messages.{Message}
use Rattle.definitions.specs.Receiver.{same}
use Rattle.definitions.specs.Storage.{StoredSnap}
use Rattle.definitions.specs.Logbook.{refused, not_yet, acknowledges, Logbook, all_came, has_tick, late, came_of, held_for, complete, part_came, note, note_message}
use Rattle.laws.specs.ListLaws.{among-nothing}
use Rattle.session.specs.Statement.{tick_of, base_of, part_of, count_of, Came, HeldAt, Completes}
use Rattle.session.specs.Lists.{contra, either}
use Rattle.session.specs.PartsCame.{all_came-at, all-filled}
use Rattle.session.specs.HeldTicks.{ticks, Falls, same-pos, has_tick-not_below, has_tick-held, held-has_tick}
use Rattle.session.specs.History.{note-numbers, UpTo, never-above, History, nothing, since, Knows}

-- a refusal is no acknowledgement
refused-not : {A : Type 0} (n : ℕ) (t : ℤ) → refused n ≡ acknowledges t → A
refused-not n t e = let z : ◌≡◌ {A = ℕ} 0 1 = cc in absurd (omega arith)

-- nor is a part for which others are missing
waiting-not : {A : Type 0} (t : ℤ) → not_yet ≡ acknowledges t → A
waiting-not t e = let z : ◌≡◌ {A = ℕ} 0 1 = cc in absurd (omega arith)

-- ---- by the logbook's own entries

-- the last part of a tick comes, neither late nor again, and its base is held or negative
record Last (n : Option ℤ) (came : List ℕ) (held : List ℤ) (t b : ℤ) (p c : ℕ) : Type 0 where
  in-time : late n came t c ≡ false
  unseen : elem p (came_of n came t) ≡ false
  full : all_came c (p ∷ came_of n came t) ≡ true
  based : signed_less b (pos 0) ≡ false → has_tick b (held_for b held) ≡ true

-- a tick that is acknowledged has its base held, unless that is negative
base-needed : (t b : ℤ) (came : List ℕ) (held : List ℤ) → (complete t b came held).answer ≡ acknowledges t → signed_less b (pos 0) ≡ false → has_tick b held ≡ true
unfolding complete
base-needed t b came held e q = either (has_tick b held) (λ r. r) (λ r. refused-not unknown_snap t (rw (q, r) at e))

-- with its base held, or negative, a tick is acknowledged
base-enough : (t b : ℤ) (came : List ℕ) (held : List ℤ) → (signed_less b (pos 0) ≡ false → has_tick b held ≡ true) → (complete t b came held).answer ≡ acknowledges t
unfolding complete
base-enough t b came held f =
    either (signed_less b (pos 0)) (λ q. rw q refl) (λ q. rw (q, f q) refl)

module _ (n : Option ℤ) (came : List ℕ) (held : List ℤ) (k : Option ℤ) (t b : ℤ) (p c : ℕ) where
  -- a logbook of these entries
  abbrev book : Logbook
  book = record { newest = n; came = came; held = held; acknowledged = k }

  -- what is acknowledged came last of its tick
  acknowledged-last : (note book t b p c).answer ≡ acknowledges t → Last n came held t b p c
  unfolding note part_came
  acknowledged-last e =
      either (late n came t c)
      (λ l. refused-not old_delta t (rw l at e))
      (λ l.
      either (elem p (came_of n came t))
      (λ m. refused-not duplicate_part t (rw (l, m) at e))
      (λ m.
      either (all_came c (p ∷ came_of n came t))
      (λ f. record { in-time = l; unseen = m; full = f; based = base-needed t b (p ∷ came_of n came t) (held_for b held) (rw (l, m, f) at e) })
      (λ f. waiting-not t (rw (l, m, f) at e))))

  -- what comes last of its tick is acknowledged
  last-acknowledged : Last n came held t b p c → (note book t b p c).answer ≡ acknowledges t
  unfolding note part_came
  last-acknowledged r =
      rw (r.in-time, r.unseen, r.full) (base-enough t b (p ∷ came_of n came t) (held_for b held) r.based)

-- ---- the base

module _ {k : ℕ} {l : List StoredSnap} (f : Falls k l) where
  -- a base whose tick is among those held is held
  ticks-held : (b : ℤ) → signed_less b (pos 0) ≡ false → has_tick b (held_for b (ticks l)) ≡ true → HeldAt b l
  ticks-held (pos z) q e = has_tick-held z f (sym (has_tick-not_below z f) ∙ (rw q at e))
  ticks-held (negsuc z) q e = contra refl q

  -- a base that is held has its tick among those held
  held-ticks : (b : ℤ) → signed_less b (pos 0) ≡ false → HeldAt b l → has_tick b (held_for b (ticks l)) ≡ true
  held-ticks (pos z) q h = rw q (has_tick-not_below z f ∙ held-has_tick (pos z) l h.snap h.among h.tick_is)
  held-ticks (negsuc z) q h = contra refl q

-- ---- by the messages

module _ (xs : List Message) (m : Message) (t : ℕ) (e : tick_of m.numbers ≡ pos t) {k : ℕ} {l : List StoredSnap} (f : Falls k l) where
  -- the message's part number
  abbrev p : ℕ
  p = part_of m.numbers

  -- the message's part count
  abbrev c : ℕ
  c = count_of m.numbers

  -- the message's base
  abbrev b : ℤ
  b = base_of m.numbers

  -- a part of the newest tick is one of the message's
  came-at : {n q : ℕ} → t ≡ n → Came (pos n) q xs → Came (tick_of m.numbers) q xs
  came-at {n} {q} z h = subst (λ (v : ℤ). Came v q xs) (ap pos (sym z) ∙ sym e) h

  -- no tick up to n is above the message's, where that is not below n
  not-below : {n : ℕ} → n ≤ t → (y : Message) → UpTo n y → signed_less (tick_of m.numbers) (tick_of y.numbers) ≡ false
  not-below h y u = rw (u.tick_is, e) (le-ltb t u.number (omega (arith, u.most)))

  -- what comes last completes its tick, by the messages before
  last-completes : (n : Option ℤ) (came : List ℕ) → History xs n came → Last n came (ticks l) (pos t) b p c → Completes xs l m.numbers
  last-completes n came (nothing u) r =
      record {
        new = λ h. among-nothing (rw u at h.among);
        others = λ q h ne. contra (all_came-at c (p ∷ []) q r.full h) (rw (ne_eqb q p ne) refl);
        newest = λ x h. absurd (among-nothing (rw u at h));
        based = λ s. ticks-held f b s (r.based s);
      }
  last-completes n came (since {n = j} x hx ex le to fro) r =
      either (ltb t j)
      (λ q. contra refl (rw q at r.in-time))
      (λ q.
      either (eqb t j)
      (λ u.
      let z : t ≡ j = eqb-true t j u in
      let v : same (pos t) (pos j) ≡ true = same-pos t j ∙ u in
      record {
        new = λ h. contra (subst (λ (y : ℕ). elem y came ≡ true) h.part-is (fro h.message h.among (h.tick_is ∙ e ∙ ap pos z))) (rw v at r.unseen);
        others = λ y h ne. came-at z (to y (rw (v, ne_eqb y p ne) at (all_came-at c (p ∷ came_of (some (pos j)) came (pos t)) y r.full h)));
        newest = λ y h. not-below (omega arith) y (le y h);
        based = λ s. ticks-held f b s (r.based s);
      })
      (λ u.
      let z : j < t = omega (arith, ltb-false t j q, eqb-false t j u) in
      let v : same (pos t) (pos j) ≡ false = same-pos t j ∙ u in
      record {
        new = λ h. never-above h.message (le h.message h.among) (h.tick_is ∙ e) z;
        others = λ y h ne. contra (all_came-at c (p ∷ came_of (some (pos j)) came (pos t)) y r.full h) (rw (v, ne_eqb y p ne) refl);
        newest = λ y h. not-below (omega arith) y (le y h);
        based = λ s. ticks-held f b s (r.based s);
      }))

  -- what completes its tick comes last, by the logbook
  completes-last : (n : Option ℤ) (came : List ℕ) → p < c → History xs n came → Completes xs l m.numbers → Last n came (ticks l) (pos t) b p c
  completes-last n came lt (nothing u) r =
      record {
        in-time = refl;
        unseen = refl;
        full = all-filled c p [] (λ q h ne. absurd (among-nothing (rw u at (r.others q h ne).among)));
        based = λ s. held-ticks f b s (r.based s);
      }
  completes-last n came lt (since {n = j} x hx ex le to fro) r =
      let z : j ≤ t = ltb-false t j (rw (ex, e) at (r.newest x hx)) in
      either (eqb t j)
      (λ u.
      let w : t ≡ j = eqb-true t j u in
      let v : same (pos t) (pos j) ≡ true = same-pos t j ∙ u in
      record {
        in-time = rw (le-ltb t j z, v) (either (all_came c came) (λ i. absurd (r.new (came-at w (to p (all_came-at c came p i lt))))) (λ i. i));
        unseen = rw v (either (elem p came) (λ i. absurd (r.new (came-at w (to p i)))) (λ i. i));
        full =
            rw v
            (all-filled c p came
            (λ q h ne.
            let o = r.others q h ne in
            subst (λ (y : ℕ). elem y came ≡ true) o.part-is (fro o.message o.among (o.tick_is ∙ e ∙ ap pos w))));
        based = λ s. held-ticks f b s (r.based s);
      })
      (λ u.
      let w : j < t = omega (arith, eqb-false t j u) in
      let v : same (pos t) (pos j) ≡ false = same-pos t j ∙ u in
      record {
        in-time = rw (le-ltb t j z, v) refl;
        unseen = rw v refl;
        full =
            rw v
            (all-filled c p []
            (λ q h ne.
            let o = r.others q h ne in
            absurd (never-above o.message (le o.message o.among) (o.tick_is ∙ e) w)));
        based = λ s. held-ticks f b s (r.based s);
      })

  -- the logbook acknowledges a tick exactly when a message completes it
  pub acknowledges-when : (g : Logbook) → p < c → Knows xs g → ticks l ≡ g.held → ((note_message g m.numbers).answer ≡ acknowledges (tick_of m.numbers)) ↔ Completes xs l m.numbers
  acknowledges-when g lt i u =
      rw (note-numbers g m.numbers, e) (
        (λ q. last-completes g.newest g.came i (turn (sym u) (acknowledged-last g.newest g.came g.held g.acknowledged (pos t) b p c q))),
        (λ h. last-acknowledged g.newest g.came g.held g.acknowledged (pos t) b p c (turn u (completes-last g.newest g.came lt i h))),
      )
    where
      turn : {h j : List ℤ} → h ≡ j → Last g.newest g.came h (pos t) b p c → Last g.newest g.came j (pos t) b p c
      turn z r = subst (λ (y : List ℤ). Last g.newest g.came y (pos t) b p c) z r
