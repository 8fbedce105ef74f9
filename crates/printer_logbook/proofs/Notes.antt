-- What is noted of a message, step by step of its definition. Assumes nothing.
use mathlib.Core.Path.{◌≡◌, sym, ap, ap₂, ◌∙◌}
use mathlib.Core.Bool.{Bool, true, false, ◌&&◌, ◌||◌}
use mathlib.Core.List.{List, [], ◌∷◌}
use mathlib.Core.Option.{some, none}
use Prim.Native.Nat.{ℕ, suc, ◌+◌, ◌≤◌, ◌<◌}
use native.Mathlib.Omega.{arith}
use borrow.Author.Tests.{lt-ltb, le-ltb}
use lib.Dec.{ltb}
use lib.IntN.{ℤ, pos}
use lib.ListN.{length, set}
use Rattle.definitions.specs.Ints.{signed_less}
use Rattle.definitions.specs.Messages.{base_tick}
use Rattle.definitions.specs.Refusals.{old_delta, duplicate_part, unknown_snap}
use Rattle.definitions.specs.Receiver.{same}
use Rattle.definitions.specs.DeltaReading.{elem}
use Rattle.definitions.specs.Logbook.{
  Logbook,
  Note,
  refused,
  not_yet,
  acknowledges,
  all_came,
  has_tick,
  not_below,
  lowest,
  without,
  holding,
  late,
  came_of,
  held_for,
  complete,
  part_came,
  note,
  note_message,
}
use Rattle.definitions.specs.Tables.{num}
use Rattle.ticks.specs.Ticks.{distance_of, tick_of}
use Rattle.std.specs.Prelude.{Option, Some, None}
use Rattle.ticks.specs.declared.Tick.{Tick}
use Rattle.ticks.specs.declared.Distance.{Distance}
use Rattle.gamenet_snap.specs.declared.SnapMsg.{SnapMsg}
use Rattle.gamenet_snap.specs.declared.SnapMsg.TheVariants as msg
use Rattle.gamenet_snap.specs.Numbers.{numbers}
use Rattle.printer_logbook.specs.States.{ticks_in}
use Rattle.printer_logbook.proofs.Lists.{tick-stored, ticks-before, ticks-count}

-- the parts of a tick that came: without a newest tick none, of the newest those noted, of another none
pub came-first : {o : Option Tick} (came : List ℕ) (t : ℤ) → o ≡ None → [] ≡ came_of (tick_of o) came t
came-first came t e = rw e

pub came_same : {o : Option Tick} (newest : Tick) (came : List ℕ) (t : ℤ) → o ≡ Some newest → same t newest.0 ≡ true → came ≡ came_of (tick_of o) came t
came_same newest came t e g = rw (e, g)

pub came-other : {o : Option Tick} (newest : Tick) (came : List ℕ) (t : ℤ) → o ≡ Some newest → same t newest.0 ≡ false → [] ≡ came_of (tick_of o) came t
came-other newest came t e g = rw (e, g)

-- whether a tick is late: without a newest tick, and else
pub late-first : {o : Option Tick} (came : List ℕ) (t : ℤ) (n : ℕ) → o ≡ None → false ≡ late (tick_of o) came t n
late-first came t n e = rw e

pub late-after : {o : Option Tick} {r : Bool} (newest : Tick) (came : List ℕ) (t : ℤ) (n : ℕ) → o ≡ Some newest
    → r ≡ (signed_less t newest.0 || (same t newest.0 && all_came n came)) → r ≡ late (tick_of o) came t n
late-after newest came t n e g = rw e g

-- the ticks held for a negative base, and for another
pub for-negative : (b : ℤ) (held : List ℤ) → signed_less b (pos 0) ≡ true → held ≡ held_for b held
for-negative b held e = rw e

pub for-base : {l : List ℤ} (b : ℤ) (held : List ℤ) → signed_less b (pos 0) ≡ false → l ≡ not_below b held → l ≡ held_for b held
for-base b held e g = rw e g

-- one more tick, if there is room
pub holds-few : (n : ℕ) (a : List ℤ) (t : ℤ) → n < length a → n + 1 ≤ 100 → ticks_in (n + 1) (set a n t) ≡ holding t (ticks_in n a)
holds-few n a t h g =
    let few : ltb 100 (length (t ∷ ticks_in n a)) ≡ false = ap (λ (k : ℕ). ltb 100 (suc k)) (ticks-count n a) ∙ le-ltb 100 (suc n) (omega (arith, g)) in
    rw few (tick-stored n a t h)

-- one more tick, without the lowest
pub holds-many :
    {l : List ℤ}
    (n : ℕ)
    (a : List ℤ)
    (t low : ℤ) →
    n < length a →
    100 < n + 1 →
    low ≡ lowest t (ticks_in n (set a n t)) →
    l ≡ without low (ticks_in (n + 1) (set a n t)) →
    l ≡ holding t (ticks_in n a)
holds-many n a t low h g e k =
    let many : ltb 100 (length (t ∷ ticks_in n a)) ≡ true = ap (λ (j : ℕ). ltb 100 (suc j)) (ticks-count n a) ∙ lt-ltb 100 (suc n) (omega (arith, g)) in
    rw many (k ∙ ap₂ without (e ∙ ap (lowest t) (ticks-before n n a t (omega arith))) (tick-stored n a t h))

-- a tick whose base is held
pub complete-held :
    {h : List ℤ}
    (t b : ℤ)
    (came : List ℕ)
    (held : List ℤ) →
    (signed_less b (pos 0) || has_tick b held) ≡ true →
    h ≡ holding t held →
    complete t b came held ≡ record { answer = acknowledges t; logbook = record { newest = some t; came = came; held = h; acknowledged = some t } }
unfolding complete
complete-held t b came held e g = rw (e, g)

-- a tick whose base is not
pub complete-unknown :
    (t b : ℤ)
    (came : List ℕ)
    (held : List ℤ) →
    (signed_less b (pos 0) || has_tick b held) ≡ false →
    complete t b came held ≡ record { answer = refused unknown_snap; logbook = record { newest = some t; came = came; held = held; acknowledged = none } }
unfolding complete
complete-unknown t b came held e = rw e

-- the last part
pub part-last :
    {h : List ℤ}
    {r : Note}
    (g : Logbook)
    (t b : ℤ)
    (n : ℕ)
    (came : List ℕ) →
    all_came n came ≡ true →
    h ≡ held_for b g.held →
    complete t b came h ≡ r →
    part_came g t b n came ≡ r
unfolding part_came
part-last g t b n came e k q = rw e (ap (complete t b came) (sym k) ∙ q)

-- a part after which one is missing
pub part-missing :
    (g : Logbook)
    (t b : ℤ)
    (n : ℕ)
    (came : List ℕ) →
    all_came n came ≡ false →
    part_came g t b n came ≡ record { answer = not_yet; logbook = record { newest = some t; came = came; held = g.held; acknowledged = g.acknowledged } }
unfolding part_came
part-missing g t b n came e = rw e

-- a message that is late
pub note-late : (g : Logbook) (t b : ℤ) (p n : ℕ) → late g.newest g.came t n ≡ true → note g t b p n ≡ record { answer = refused old_delta; logbook = g }
unfolding note
note-late g t b p n e = rw e

-- a part that came already
pub note-again :
    (g : Logbook)
    (t b : ℤ)
    (p n : ℕ) →
    late g.newest g.came t n ≡ false →
    elem p (came_of g.newest g.came t) ≡ true →
    note g t b p n ≡ record { answer = refused duplicate_part; logbook = g }
unfolding note
note-again g t b p n e k = rw (e, k)

-- a part that is new
pub note-new :
    {came : List ℕ}
    {r : Note}
    (g : Logbook)
    (t b : ℤ)
    (p n : ℕ) →
    late g.newest g.came t n ≡ false →
    elem p (came_of g.newest g.came t) ≡ false →
    came ≡ p ∷ came_of g.newest g.came t →
    part_came g t b n came ≡ r →
    note g t b p n ≡ r
unfolding note
note-new g t b p n e k m q = rw (e, k) (ap (part_came g t b n) (sym m) ∙ q)

-- a message of a part: its counts as the code has them, its base, and what it is noted as
pub noted-part :
    {m : SnapMsg}
    {t : Tick}
    {d : Distance}
    {n p crc n' p' b : ℤ}
    {k i : ℕ}
    {r : Note}
    (g : Logbook) →
    m ≡ msg.Snap t d n p crc →
    n' ≡ n →
    p' ≡ p →
    b ≡ base_tick t.0 (distance_of d) →
    i ≡ num p' →
    k ≡ num n' →
    note g t.0 b i k ≡ r →
    note_message g (numbers m) ≡ r
noted-part g e n p x i k q = rw (e, ← n, ← p, ← x, ← i, ← k) q

-- a message of a whole delta
pub noted-single :
    {m : SnapMsg}
    {t : Tick}
    {d : Distance}
    {crc b : ℤ}
    {r : Note}
    (g : Logbook) →
    m ≡ msg.SnapSingle t d crc →
    b ≡ base_tick t.0 (distance_of d) →
    note g t.0 b 0 1 ≡ r →
    note_message g (numbers m) ≡ r
noted-single g e x q = rw (e, ← x) q

-- a message of an empty delta
pub noted-empty :
    {m : SnapMsg}
    {t : Tick}
    {d : Distance}
    {b : ℤ}
    {r : Note}
    (g : Logbook) →
    m ≡ msg.SnapEmpty t d →
    b ≡ base_tick t.0 (distance_of d) →
    note g t.0 b 0 1 ≡ r →
    note_message g (numbers m) ≡ r
noted-empty g e x q = rw (e, ← x) q
