-- Printer and logbook agree on every link if no call lacks room, and if areas are long. Assumes nothing.
use Rattle.std.specs.Prelude.{◌≡◌, refl, true, List, [], ◌∷◌, ℤ}
use Rattle.std.proofs.Common.{ap, subst}
use Rattle.definitions.specs.Outcome.{return}
use Rattle.definitions.specs.Tables.{Table}
use Rattle.definitions.specs.DeltaCalls.{sizes_match}
use Rattle.laws.specs.Clean.{Clean, empty-clean}
use Rattle.laws.specs.DeltaReadBack.{read_back}
use Rattle.laws.specs.SessionLaws.{pack_delta, read-packed-delta, created-short, apply-create-typed, apply-empty-typed}
use Rattle.session.specs.Runs.{Accepted, packed, fresh_printer, Printer, PrinterCall, message, left, printer_call, after_received}
use Rattle.session.specs.Statement.{Among, here, there, All, none, more, Base, empty, named, ReceivedSuffices, PrinterLong, ScratchLong}
use Rattle.session.specs.LinkStatement.{Link, LinkHolds, Agreement}
use Rattle.session.specs.Lists.{all_among}
use Rattle.session.specs.Room.{told, long}
use Rattle.session.specs.PrinterState.{Naming}
use Rattle.session.specs.PrinterSteps.{Ready}
use Rattle.session.specs.PrinterRuns.{AllRoom, end, next, held-noted, acknowledged-when, answers-noted}
use Rattle.session.specs.AreaLengths.{long-left}

-- ---- room

-- calls that are not refused for want of room have it
pub told-room : (sizes : List ℤ) (p : Printer) (cs : List PrinterCall) → ReceivedSuffices sizes p cs → AllRoom sizes p cs
unfolding after_received
told-room sizes p [] f = end
told-room sizes p (message m n ∷ cs) f =
    next (told (f [] cs m n refl))
    (told-room sizes (left (printer_call sizes p m n)) cs (λ xs ys x k e. f (message m n ∷ xs) ys x k (ap (λ (l : List PrinterCall). message m n ∷ l) e)))

-- calls with areas that always suffice have it too
pub long-room : (sizes : List ℤ) (p : Printer) (cs : List PrinterCall) → PrinterLong p → All ScratchLong cs → AllRoom sizes p cs
long-room sizes p [] l none = end
long-room sizes p (message m n ∷ cs) l (more s ss) =
    next (long (l, s)) (long-room sizes (left (printer_call sizes p m n)) cs (long-left sizes p m n l) ss)

-- ---- agreement

-- what each entry of a list has, all have
all_of : {A : Type 0} {P : A → Type 0} (l : List A) → ((a : A) → Among a l → P a) → All P l
all_of [] f = none
all_of (x ∷ l) f = more (f x here) (all_of l (λ a m. f a (there m)))

-- a delta whose sizes are the known ones is packed
packs : (sizes : List ℤ) (a : Accepted) → sizes_match sizes a.delta.updated ≡ true → pack_delta sizes a.delta ≡ return (packed sizes a)
packs sizes a e = rw e refl

module _ (At : ℤ → Table → Type 0) (k : Link) (h : LinkHolds At k) where
  -- the table that a base names is clean
  base-clean : {b : ℤ} {t : Table} → Base At b t → Clean t
  base-clean empty = empty-clean
  base-clean (named at) = h.clean at

  -- the tables at their ticks
  naming : Naming k.deltas At
  naming = record { one = h.one; number = h.number; sounds = λ at. (h.clean at).is-sound; covers = h.covers }

  -- what the printer needs of each delta
  ready : All (Ready k.sizes At) k.deltas
  ready = all_of k.deltas each
    where
      each : (a : Accepted) → Among a k.deltas → Ready k.sizes At a
      each a m =
          let r = all_among h.made m in
          let t = h.clean (h.covers m) in
          let b = base-clean r.named in
          record {
            base = r.base;
            named = r.named;
            read = read_back a.delta;
            reads = λ e. read-packed-delta r.base a.table a.delta b t r.made k.sizes (packed k.sizes a) (packs k.sizes a e);
            delta-is = refl;
            room = created-short r.base a.table a.delta b t r.made;
            applies = apply-create-typed r.base a.table a.delta b t r.made;
            unchanged = apply-empty-typed r.base b;
          }

  -- printer and logbook agree, where each call has room
  agreement-with : AllRoom k.sizes k.printer k.received → Agreement At k
  agreement-with room =
      let f : AllRoom k.sizes (fresh_printer h.area h.parts h.joined h.delta) k.received =
      subst (λ (p : Printer). AllRoom k.sizes p k.received) h.fresh room in
      record {
        printer = λ xs ys e. rw h.fresh (held-noted k.sizes k.instead k.deltas At h.area h.rising naming ready h.parts h.joined
            h.delta k.received h.sent f xs ys e);
        acknowledgements = λ xs ys m n e. rw h.fresh (acknowledged-when k.sizes k.instead k.deltas At h.area h.rising naming ready
            h.parts h.joined h.delta k.received h.sent f xs ys m n e);
        same_answers = rw h.fresh (answers-noted k.sizes k.instead k.deltas At h.area h.rising naming ready h.parts h.joined
            h.delta k.received h.sent f);
      }

  -- they agree where no call is refused for want of room
  pub agreement : ReceivedSuffices k.sizes k.printer k.received → Agreement At k
  agreement f = agreement-with (told-room k.sizes k.printer k.received f)

  -- and where areas and scratch are long
  pub agreement-long : PrinterLong k.printer → All ScratchLong k.received → Agreement At k
  agreement-long l s = agreement-with (long-room k.sizes k.printer k.received l s)
