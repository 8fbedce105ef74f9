-- Updates one after the other. Assumes nothing.
use mathlib.Core.Path.{◌≡◌, refl, sym, ap₂, ◌∙◌}
use mathlib.Core.Bool.{true, false}
use mathlib.Core.List.{List, [], ◌∷◌, ◌++◌, append_assoc, append-nil}
use mathlib.Core.Option.{Option}
use Prim.Native.Nat.{ℕ, ◌+◌, ◌*◌, ◌≤◌, ◌<◌}
use native.Mathlib.Omega.{arith}
use lib.IntN.{ℤ}
use lib.ListN.{length, length-append}
use Rattle.std.specs.Prelude.{Ok, Err}
use Rattle.definitions.specs.Ints.{bits}
use Rattle.definitions.specs.Warnings.{Counts, plus}
use Rattle.definitions.specs.Stream.{ints}
use Rattle.definitions.specs.Tables.{Item}
use Rattle.definitions.specs.Deltas.{update_ints, updates_ints}
use Rattle.definitions.specs.DeltaReading.{is_end}
use Rattle.laws.specs.WarningLaws.{packed, none-plus, plus_none, plus_assoc}
use Rattle.delta_source.specs.Source.{Source, size, from, behind_ints, data_place, behind_update, Updates, Walks, Judges}
use Rattle.delta_source.specs.Source as Source
use Rattle.delta_source.specs.SourceLaws.{overlongs, few-from, few-left}
use Rattle.delta_source.specs.SourceBounds.{update-counted, update-bounded, length-update, length-updates}
use Rattle.delta_source.specs.declared.checked.Refusal.{Refusal}
use Rattle.delta_source.specs.declared.checked.Update.{Update}
use Rattle.delta_source.specs.declared.checked.Judged.{Judged}

-- the place moves on
pub update-on : {s : Source} {sizes : List ℤ} {at : ℕ} {u : Update} → Updates s sizes at (Ok u) → at < u.next
update-on (Source.update xs v l q e r m a b h) = omega arith

-- the place after it
update-place : (s : Source) (sizes : List ℤ) (at key : ℕ) (xs : List ℤ) {n d next : ℕ} → length xs ≡ n → d ≡ data_place s sizes at key → next ≡ behind_ints s d n → next ≡ behind_update s sizes at (record { key = key; values = xs })
update-place s sizes at key xs l e f = f ∙ ap₂ (behind_ints s) e (sym l)

-- those walked so far, followed by what is left, are the whole
pub record Judging (s : Source) (sizes : List ℤ) (start here : ℕ) (t : Judged) : Type 0 where
  pub inside : here ≤ size s
  pub few-updates : t.updates ≤ here
  pub not-ended : t.ended ≡ Ok tt
  pub done : List Item
  pub count-is : t.updates ≡ length done
  pub room-is : t.room ≡ length (updates_ints [] done)
  pub joins : {us : List Item} {w : Counts} {e : Option ℕ} → Walks s sizes here us w e → Walks s sizes start (done ++ us) (plus (packed t.overlong) w) e
  pub overlong-all : t.overlong + overlongs (from s here) ≡ overlongs (from s start)
  pub room_most : 2 * t.room + 3 * length (ints (from s here)) ≤ 3 * length (ints (from s start))

module _ (s : Source) (sizes : List ℤ) (start : ℕ) where
  pub start-judging : start ≤ size s → Judging s sizes start start (record { updates = 0; room = 0; overlong = 0; ended = Ok tt })
  unfolding updates_ints
  start-judging h =
      record {
        inside = h;
        few-updates = omega arith;
        not-ended = refl;
        done = [];
        count-is = refl;
        room-is = refl;
        joins = λ {us} {w} k. rw (none-plus w) k;
        overlong-all = omega arith;
        room_most = omega arith;
      }

  -- an update more
  abbrev counting : Judged → Update → Judged
  counting t u = record { updates = t.updates + 1; room = t.room + (3 + u.size); overlong = t.overlong + u.overlong; ended = t.ended }

  module _ {here : ℕ} {t : Judged} where
    pub turn-judging :
        {u : Update} → Judging s sizes start here t → is_end (from s here) ≡ false → Updates s sizes here (Ok u) → Judging s sizes start u.next (counting t u)
    unfolding updates_ints
    turn-judging {u} i f (Source.update xs v l q e r m a b h) =
        let again : Updates s sizes here (Ok u) = Source.update xs v l q e r m a b h in
        let c = update-counted again in
        let x : Item = record { key = bits u.key; values = xs } in
        record {
          inside = h;
          few-updates = omega (arith, i.few-updates);
          not-ended = i.not-ended;
          done = i.done ++ x ∷ [];
          count-is = omega (arith, i.count-is, length-append i.done (x ∷ []));
          room-is = omega (arith, i.room-is, length-updates i.done (x ∷ []), length-update x, length-append (update_ints [] x) []);
          joins = λ {us} {w} j.
              rw (append_assoc i.done (x ∷ []) us, plus_assoc (packed t.overlong) (packed u.overlong) w)
              (i.joins (Source.more f e (update-place s sizes here (bits u.key) xs l r m) (omega arith) h j));
          overlong-all = omega (arith, i.overlong-all, c.overlong-all);
          room_most = omega (arith, i.room_most, c.ints-all);
        }

    -- nothing is left
    pub all-judged : Judging s sizes start here t → is_end (from s here) ≡ true → Judges s sizes start t
    all-judged i f =
        record {
          items = i.done;
          walks = rw i.not-ended (rw (append-nil i.done, plus_none (packed t.overlong)) at (i.joins (Source.whole f)));
          count-is = i.count-is;
          room-is = i.room-is;
        }

    -- an update is refused
    pub one-refused :
        {r : Refusal} → Judging s sizes start here t → is_end (from s here) ≡ false → Updates s sizes here (Err r) →
        Judges s sizes start (record { updates = t.updates; room = t.room; overlong = t.overlong + r.overlong; ended = Err r.error })
    one-refused i f (Source.refused q) =
        record {
          items = i.done;
          walks = rw (append-nil i.done) at (i.joins (Source.broken f q));
          count-is = i.count-is;
          room-is = i.room-is;
        }

    -- sums stay small
    pub refused-sum : {r : Refusal} → Judging s sizes start here t → Updates s sizes here (Err r) → t.overlong + r.overlong ≤ size s
    refused-sum i u =
        let l = few-left s start in
        omega (arith, i.overlong-all, update-bounded u, few-from s start)

    pub update-sums :
        {u : Update} → Judging s sizes start here t → Updates s sizes here (Ok u) →
        (t.overlong + u.overlong ≤ size s) × (2 * (t.room + (3 + u.size)) ≤ 3 * size s)
    update-sums i u =
        let c = update-counted u in
        let l = few-left s start in
        (omega (arith, i.overlong-all, c.overlong-all, few-from s start), omega (arith, i.room_most, c.ints-all))
