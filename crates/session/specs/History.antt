-- The logbook's newest tick and its parts, by the messages so far. Assumes nothing.
use Rattle.std.specs.Prelude.{◌≡◌, true, false, ◌||◌, List, [], ◌∷◌, ◌++◌, ℕ, ◌≤◌, ◌<◌, ltb, eqb, ℤ, pos}
use Rattle.std.proofs.Math.Path.{refl}
use Rattle.std.proofs.Common.{sym, ◌∙◌, subst, arith, ltb-true, ltb-false, eqb-true}
use Rattle.std.proofs.Math.Option.{Option, some}
use Rattle.std.proofs.lemmas.Bool.{eqb-false}
use Rattle.definitions.specs.Ints.{signed_less}
use Rattle.definitions.specs.DeltaReading.{elem}
use Rattle.definitions.specs.Messages.{SnapMsg, Snap, SnapEmpty, SnapSingle, Message}
use Rattle.definitions.specs.Receiver.{same}
use Rattle.definitions.specs.Logbook.{Logbook, all_came, has_tick, late, came_of, held_for, complete, part_came, note, note_message}
use Rattle.laws.specs.ListLaws.{among-nothing}
use Rattle.session.specs.Statement.{Among, here, tick_of, base_of, part_of, count_of, Came}
use Rattle.session.specs.Lists.{contra, either, eqb-self, or-true, among-left, among-right, one_more}
use Rattle.session.specs.PartsCame.{all_came-at}
use Rattle.session.specs.HeldTicks.{pos_inj, same-pos}

-- ---- what a note does to the newest tick and its parts

-- a tick that is complete is the newest
complete-newest : (t b : ℤ) (came : List ℕ) (held : List ℤ) → (complete t b came held).logbook.newest ≡ some t
unfolding complete
complete-newest t b came held =
    either (signed_less b (pos 0) || has_tick b held) (λ e. rw e refl) (λ e. rw e refl)

-- and its parts stay noted
complete-came : (t b : ℤ) (came : List ℕ) (held : List ℤ) → (complete t b came held).logbook.came ≡ came
unfolding complete
complete-came t b came held =
    either (signed_less b (pos 0) || has_tick b held) (λ e. rw e refl) (λ e. rw e refl)

module _ (g : Logbook) (t b : ℤ) (p c : ℕ) where
  module _ (in-time : late g.newest g.came t c ≡ false) (unseen : elem p (came_of g.newest g.came t) ≡ false) where
    -- a part that is taken makes its tick the newest
    noted-newest : (note g t b p c).logbook.newest ≡ some t
    unfolding note part_came
    noted-newest =
        rw (in-time, unseen)
        (either (all_came c (p ∷ came_of g.newest g.came t))
        (λ e. rw e (complete-newest t b (p ∷ came_of g.newest g.came t) (held_for b g.held)))
        (λ e. rw e refl))

    -- and is noted before those that came
    noted-came : (note g t b p c).logbook.came ≡ p ∷ came_of g.newest g.came t
    unfolding note part_came
    noted-came =
        rw (in-time, unseen)
        (either (all_came c (p ∷ came_of g.newest g.came t))
        (λ e. rw e (complete-came t b (p ∷ came_of g.newest g.came t) (held_for b g.held)))
        (λ e. rw e refl))

  -- a message that is late changes nothing
  noted-late : late g.newest g.came t c ≡ true → (note g t b p c).logbook ≡ g
  unfolding note
  noted-late e = rw e refl

  -- nor does a part that came already
  noted-twice : late g.newest g.came t c ≡ false → elem p (came_of g.newest g.came t) ≡ true → (note g t b p c).logbook ≡ g
  unfolding note
  noted-twice e i = rw (e, i) refl

-- the numbers of a message that go to the logbook
pub note-numbers : (g : Logbook) (x : SnapMsg) → note_message g x ≡ note g (tick_of x) (base_of x) (part_of x) (count_of x)
note-numbers g (Snap t d n p crc) = refl
note-numbers g (SnapEmpty t d) = refl
note-numbers g (SnapSingle t d crc) = refl

-- ---- the newest tick and its parts

-- a message's tick is a number, at most n
pub record UpTo (n : ℕ) (m : Message) : Type 0 where
  pub number : ℕ
  pub tick_is : tick_of m.numbers ≡ pos number
  pub most : number ≤ n

-- a tick up to n is not above n
pub never-above : {t n : ℕ} (y : Message) → UpTo n y → tick_of y.numbers ≡ pos t → n < t → ⊥
never-above {t} {n} y u q l = omega (arith, u.most, pos_inj u.number t (sym u.tick_is ∙ q))

-- of some messages the newest tick is n, and these parts of it came
pub data History (xs : List Message) : Option ℤ → List ℕ → Type 0 where
  nothing : {came : List ℕ} → xs ≡ [] → History xs Option.none came
  since : {n : ℕ} {came : List ℕ} (x : Message) → Among x xs → tick_of x.numbers ≡ pos n → ((y : Message) → Among y xs → UpTo n y) → ((p : ℕ) → elem p came ≡ true → Came (pos n) p xs) → ((y : Message) → Among y xs → tick_of y.numbers ≡ pos n → elem (part_of y.numbers) came ≡ true) → History xs (some (pos n)) came

-- what the logbook knows of the messages so far
abbrev pub Knows : List Message → Logbook → Type 0
Knows xs g = History xs g.newest g.came

-- a part that came has come when more messages came
came-left : {t : ℤ} {p : ℕ} {xs : List Message} (ys : List Message) → Came t p xs → Came t p (xs ++ ys)
came-left ys c =
    record { message = c.message; among = among-left ys c.among; tick_is = c.tick_is; part-is = c.part-is }

module _ (xs : List Message) (m : Message) (t : ℕ) (e : tick_of m.numbers ≡ pos t) where
  -- the part of the last message came
  came-last : Came (pos t) (part_of m.numbers) (xs ++ m ∷ [])
  came-last = record { message = m; among = among-right xs here; tick_is = e; part-is = refl }

  -- and so did every part of its number
  part-came : (p : ℕ) → eqb p (part_of m.numbers) ≡ true → Came (pos t) p (xs ++ m ∷ [])
  part-came p q = subst (λ (z : ℕ). Came (pos t) z (xs ++ m ∷ [])) (sym (eqb-true p (part_of m.numbers) q)) came-last

  -- a message that changes nothing
  again : {n : ℕ} {came : List ℕ} → History xs (some (pos n)) came → t ≤ n → (t ≡ n → elem (part_of m.numbers) came ≡ true) → History (xs ++ m ∷ []) (some (pos n)) came
  again {n} {came} (since x hx ex le to fro) l q =
      since {n = n} {came = came} x (among-left (m ∷ []) hx) ex
      (one_more {P = UpTo n} le (record { number = t; tick_is = e; most = l }))
      (λ p u. came-left (m ∷ []) (to p u))
      (one_more {P = λ (y : Message). tick_of y.numbers ≡ pos n → elem (part_of y.numbers) came ≡ true} fro (λ v. q (pos_inj t n (sym e ∙ v))))

  -- the first part of a newer tick
  newer : ((y : Message) → Among y xs → (k : ℕ) × (tick_of y.numbers ≡ pos k) × (k < t)) → History (xs ++ m ∷ []) (some (pos t)) (part_of m.numbers ∷ [])
  newer f =
      since {n = t} {came = part_of m.numbers ∷ []} m (among-right xs here) e
      (one_more {P = UpTo t} (λ y h. let (k, u, v) = f y h in record { number = k; tick_is = u; most = omega arith }) (record { number = t; tick_is = e; most = omega arith }))
      (λ p u. either (eqb p (part_of m.numbers)) (λ q. part-came p q) (λ q. contra (rw q at u) refl))
      (one_more {P = λ (y : Message). tick_of y.numbers ≡ pos t → elem (part_of y.numbers) (part_of m.numbers ∷ []) ≡ true}
      (λ y h u. let (k, v, w) = f y h in absurd (omega (arith, pos_inj k t (sym v ∙ u))))
      (λ u. rw (eqb-self (part_of m.numbers)) refl))

  -- one more part of the newest tick
  another : {came : List ℕ} → History xs (some (pos t)) came → History (xs ++ m ∷ []) (some (pos t)) (part_of m.numbers ∷ came)
  another {came} (since x hx ex le to fro) =
      since {n = t} {came = part_of m.numbers ∷ came} x (among-left (m ∷ []) hx) ex
      (one_more {P = UpTo t} le (record { number = t; tick_is = e; most = omega arith }))
      (λ p u. either (eqb p (part_of m.numbers)) (λ q. part-came p q) (λ q. came-left (m ∷ []) (to p (rw q at u))))
      (one_more {P = λ (y : Message). tick_of y.numbers ≡ pos t → elem (part_of y.numbers) (part_of m.numbers ∷ came) ≡ true}
      (λ y h u. rw (fro y h u) (or-true (eqb (part_of y.numbers) (part_of m.numbers))))
      (λ u. rw (eqb-self (part_of m.numbers)) refl))

  -- all messages are older than a tick above the newest
  all-older : {n : ℕ} {came : List ℕ} → n < t → History xs (some (pos n)) came → (y : Message) → Among y xs → (k : ℕ) × (tick_of y.numbers ≡ pos k) × (k < t)
  all-older l (since x hx ex le to fro) y h = let u = le y h in (u.number, u.tick_is, omega (arith, u.most))

  -- a logbook of these entries
  abbrev book : Option ℤ → List ℕ → List ℤ → Option ℤ → Logbook
  book n came held k = record { newest = n; came = came; held = held; acknowledged = k }

  -- what the logbook knows after a message
  note-knows : (n : Option ℤ) (came : List ℕ) (held : List ℤ) (k : Option ℤ) (b : ℤ) (c : ℕ) → part_of m.numbers < c → History xs n came → Knows (xs ++ m ∷ []) (note (book n came held k) (pos t) b (part_of m.numbers) c).logbook
  note-knows n came held k b c lt (nothing u) =
      let g : Logbook = book Option.none came held k in
      rw (noted-newest g (pos t) b (part_of m.numbers) c refl refl, noted-came g (pos t) b (part_of m.numbers) c refl refl)
      (newer (λ y q. absurd (among-nothing (rw u at q))))
  note-knows n came held k b c lt (since {n = j} x hx ex le to fro) =
      let i : History xs (some (pos j)) came = since x hx ex le to fro in
      let g : Logbook = book (some (pos j)) came held k in
      let p : ℕ = part_of m.numbers in
      either (ltb t j)
      (λ q.
      rw (noted-late g (pos t) b p c (rw q refl))
      (again i (omega (arith, ltb-true t j q)) (λ z. absurd (omega (arith, ltb-true t j q)))))
      (λ q.
      either (eqb t j)
      (λ r.
      let w : t ≡ j = eqb-true t j r in
      let v : same (pos t) (pos j) ≡ true = same-pos t j ∙ r in
      either (all_came c came)
      (λ s. rw (noted-late g (pos t) b p c (rw (q, v, s) refl)) (again i (omega arith) (λ z. all_came-at c came p s lt)))
      (λ s.
      either (elem p came)
      (λ u. rw (noted-twice g (pos t) b p c (rw (q, v, s) refl) (rw (v, u) refl)) (again i (omega arith) (λ z. u)))
      (λ u.
      rw (noted-newest g (pos t) b p c (rw (q, v, s) refl) (rw (v, u) refl), noted-came g (pos t) b p c (rw (q, v, s) refl) (rw (v, u) refl), v)
      (another (subst (λ (z : ℕ). History xs (some (pos z)) came) (sym w) i)))))
      (λ r.
      let v : same (pos t) (pos j) ≡ false = same-pos t j ∙ r in
      rw (noted-newest g (pos t) b p c (rw (q, v) refl) (rw v refl), noted-came g (pos t) b p c (rw (q, v) refl) (rw v refl), v)
      (newer (all-older (omega (arith, ltb-false t j q, eqb-false t j r)) i))))

  -- a message more
  pub message-known : (g : Logbook) → part_of m.numbers < count_of m.numbers → Knows xs g → Knows (xs ++ m ∷ []) (note_message g m.numbers).logbook
  message-known g lt i =
      rw (note-numbers g m.numbers, e)
      (note-knows g.newest g.came g.held g.acknowledged (base_of m.numbers) (count_of m.numbers) lt i)
