-- Demand 3 holds of every session. Assumes nothing.
use Rattle.std.specs.Prelude.{◌≡◌, refl, ℕ, ◌≤◌, ℤ, pos}
use Rattle.std.proofs.Common.{sym, ◌∙◌, ap, subst}
use Rattle.definitions.specs.Tables.{Table}
use Rattle.laws.specs.Clean.{Clean, built-clean}
use Rattle.session.specs.Runs.{Accepted}
use Rattle.session.specs.Statement.{AcceptedAt, BaseRight, Session, accepted_in, Holds, AreasSuffice, AreasLong, Demand3}
use Rattle.session.specs.LinkStatement.{Link, LinkHolds, Agreement}
use Rattle.session.specs.Lists.{all_among, all_map}
use Rattle.session.specs.PrinterState.{one-accepted, numbered}
use Rattle.session.specs.Agreeing.{agreement, agreement-long}
use Rattle.session.specs.ControllerClaims.{CallsRoom, controller-holds, controller-answered, controller-sent, accepted-bases, told-calls, long-calls}

-- the link of a session
abbrev pub link_of : Session → Link
link_of s =
    record { sizes = s.sizes; instead = s.instead; deltas = accepted_in s; printer = s.printer; received = s.received }

module _ (s : Session) (h : Holds s) where
  -- the table accepted at a tick is one
  one_at : {t : ℤ} {u v : Table} → AcceptedAt (accepted_in s) t u → AcceptedAt (accepted_in s) t v → u ≡ v
  one_at a b =
      sym a.table_is
      ∙ (ap (λ (x : Accepted). x.table) (one-accepted h.rising a.accepted b.accepted (a.tick_is ∙ sym b.tick_is)) ∙ b.table_is)

  -- its tick is a number
  number_at : {t : ℤ} {u : Table} → AcceptedAt (accepted_in s) t u → (n : ℕ) × (t ≡ pos n) × (n ≤ 2147483647)
  number_at a = let k = numbered h.rising a.accepted in (k.number, sym a.tick_is ∙ k.tick_is, k.int)

  -- it is clean
  clean_at : {t : ℤ} {u : Table} → AcceptedAt (accepted_in s) t u → Clean u
  clean_at a = subst Clean a.table_is (built-clean (all_among h.built a.accepted))

  -- what the link requires holds
  link-holds : LinkHolds (AcceptedAt (accepted_in s)) (link_of s)
  link-holds =
      record {
        one = one_at;
        number = number_at;
        clean = clean_at;
        covers = λ m. record { table = _; accepted = m; tick_is = refl; table_is = refl };
        rising = h.rising;
        made = all_map (λ (a : Accepted) (r : BaseRight (accepted_in s) a). record { base = r.base; named = r.named; made = r.made }) (accepted-bases s h);
        area = h.printer_area;
        parts = h.parts;
        joined = h.joined;
        delta = h.printer_delta;
        fresh = h.printer_fresh;
        sent = h.sent;
      }

  -- the claim, where the controller's calls have room and printer and logbook agree
  claimed : CallsRoom s h → Agreement (AcceptedAt (accepted_in s)) (link_of s) → Demand3 s
  claimed room g =
      record {
        holds = controller-holds s h;
        controller = controller-answered s h room;
        bases = accepted-bases s h;
        sending = λ xs ys tick table a w e q. controller-sent s h xs ys tick table e a w q;
        printer = g.printer;
        acknowledgements = g.acknowledgements;
        same_answers = g.same_answers;
      }

  -- the claim holds of every session in which no call is refused for want of room
  pub demand3 : AreasSuffice s → Demand3 s
  demand3 a = claimed (told-calls s h a) (agreement (AcceptedAt (accepted_in s)) (link_of s) link-holds a.printer)

  -- and of every session with areas and scratch of the lengths that always suffice
  pub demand3-long : AreasLong s → Demand3 s
  demand3-long a =
      claimed (long-calls s h a) (agreement-long (AcceptedAt (accepted_in s)) (link_of s) link-holds a.printer a.scratch)
