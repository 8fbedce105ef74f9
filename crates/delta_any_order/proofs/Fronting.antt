-- What header and keys say of the front of a delta, and its keys and updates. Assumes nothing.
use mathlib.Core.Path.{◌≡◌, refl, sym, ap, ap₂, ◌∙◌}
use mathlib.Core.List.{List, ◌∷◌}
use Prim.Native.Nat.{ℕ, zero, suc, ◌+◌, ◌*◌, ◌≤◌, ◌<◌, ◌^◌}
use native.Mathlib.Omega.{arith}
use lib.IntN.{ℤ}
use lib.ListN.{length}
use Rattle.definitions.specs.Refusals.{deleted_items_unpacking}
use Rattle.definitions.specs.Warnings.{Counts}
use Rattle.definitions.specs.Outcome.{Outcome, ok}
use Rattle.definitions.specs.Stream.{Stream}
use Rattle.definitions.specs.Tables.{Item}
use Rattle.definitions.specs.DeltaReading.{Got, read_update}
use Rattle.laws.specs.WarningLaws.{packed}
use Rattle.laws.specs.OutcomeLaws.{ok-value}
use Rattle.delta_index.specs.declared.checked.Tally.{Tally}
use Rattle.delta_source.specs.Source.{Source, size, from, behind_update, Headers, Skips, Items, walked, Judges}
use Rattle.delta_source.specs.Source as Source
use Rattle.delta_source.specs.SourceBounds.{Counted, counted-most, header-counted, skip-counted, skip-most, judged-most}
use Rattle.std.specs.Prelude.{Ok, Err}
use Rattle.delta_source.specs.declared.checked.Refusal.{Refusal}
use Rattle.delta_source.specs.declared.checked.Skip.{Skip}
use Rattle.delta_source.specs.declared.checked.Header.{Header}
use Rattle.delta_source.specs.declared.checked.Judged.{Judged}
use Rattle.delta_entries.specs.Told.{Told, Tallies}
use Rattle.delta_any_order.specs.KeyLaws.{walk-keys}
use Rattle.delta_any_order.specs.Fronts.{Fronts, Weighs}
use Rattle.delta_any_order.specs.declared.checked.Front.{Front}

-- ---- the front

-- three ints take a place at least
behind-header : (s : Source) (next o : ℕ) → Counted s 0 next 3 o → 1 ≤ next
behind-header s zero o c = absurd (omega (arith, c.ints-all))
behind-header s (suc n) o c = omega arith

-- header and keys make the front
pub fronting :
    {s : Source} {h : Header} {k : Skip} {refusal : ℕ} → Headers s (Ok h) → Skips s h.next h.deleted refusal (Ok k) →
    Fronts s
    (record { deleted = h.deleted; updated = h.updated; odd = h.odd; keys = h.next; first = k.next; overlong = h.overlong + k.overlong })
fronting {s} {h} {k} {refusal} (Source.delta e b) (Source.past xs l g q a i) =
    let told : Headers s (Ok h) = Source.delta e b in
    let m : Skips s h.next h.deleted refusal (Ok k) = Source.past xs l g q a i in
    let ch = header-counted told in
    let bh = counted-most ch in
    let bm = counted-most (skip-counted m) in
    let one : 1 ≤ h.next = behind-header s h.next h.overlong ch in
    record {
      values = xs;
      overlong-header = h.overlong;
      overlong-keys = k.overlong;
      header_is = e;
      keys-are = g deleted_items_unpacking;
      overlong-is = refl;
      count = l;
      few-keys = bm.1;
      few-overlong = omega (arith, bh.0, bm.0);
      keys-inside = b;
      behind = omega arith;
      first-inside = i;
    }

-- if they are not all there, sums stay small
pub refused-most :
    {s : Source} {h : Header} {r : Refusal} {refusal : ℕ} → Headers s (Ok h) → Skips s h.next h.deleted refusal (Err r) → h.overlong + r.overlong ≤ 2 * size s
refused-most h m = omega (arith, (counted-most (header-counted h)).0, skip-most m)

-- ---- the same keys and updates

-- what is read is settled
value_same : {A : Type 0} {o : Outcome (Got A)} {x y : A} {s t : Stream} {v w : Counts} → o ≡ ok (record { value = x; rest = s }) v → o ≡ ok (record { value = y; rest = t }) w → x ≡ y
value_same e f = ap (λ (g : Got _). g.value) (ok-value (sym e ∙ f))

-- as many updates from one place on are the same
items-same : {s : Source} {sizes : List ℤ} {at there : ℕ} {us vs : List Item} → at ≡ there → Items s sizes at us → Items s sizes there vs → length us ≡ length vs → us ≡ vs
items-same a Items.none Items.none l = refl
items-same a Items.none (Items.more r q m n k) l = absurd (omega arith)
items-same a (Items.more r q m n k) Items.none l = absurd (omega arith)
items-same {s} {sizes} {at} {there} a (Items.more {u = u} r q m n k) (Items.more {u = x} r2 q2 m2 n2 k2) l =
    let e : u ≡ x = value_same r (ap (λ (p : ℕ). read_update sizes (from s p)) a ∙ r2) in
    ap₂ (λ (y : Item) (m : List Item). y ∷ m) e
    (items-same (q ∙ (ap₂ (λ (p : ℕ) (y : Item). behind_update s sizes p y) a e ∙ sym q2)) k k2 (omega arith))

module _ {s : Source} {sizes : List ℤ} {keys k first n : ℕ} {values others : List ℤ} {items more : List Item} where
  -- the keys are the same
  pub same-values : Told s sizes keys k first n values items → Told s sizes keys k first n others more → values ≡ others
  same-values t u = value_same t.keys_read u.keys_read

  -- the updates are the same
  pub same-items : Told s sizes keys k first n values items → Told s sizes keys k first n others more → items ≡ more
  same-items t u = items-same refl t.items_read u.items_read (t.count ∙ sym u.count)

-- ---- keys and updates

module _ {s : Source} {sizes : List ℤ} {f : Front} {j : Judged} (F : Fronts s f) (J : Judges s sizes f.first j) where
  -- keys and updates are where they were read
  pub told : Told s sizes f.keys f.deleted f.first j.updates F.values J.items
  told =
      record {
        rest = from s f.first;
        warned = packed F.overlong-keys;
        keys_read = F.keys-are;
        items_read = walked J.walks;
        count = sym J.count-is;
      }

  -- no more keys than updates
  few-updates : (t : Tally) → Tallies F.values J.items t → t.updated ≤ j.updates
  few-updates t T = omega (arith, T.updated-is, J.count-is, walk-keys J.walks)

  -- sums stay small
  pub sums-small : (t : Tally) → Tallies F.values J.items t → size s ≤ 1048576 → (f.overlong + j.overlong < 2 ^ 32) × (t.updated ≤ j.updates)
  sums-small t T h = (omega (arith, F.few-overlong, (judged-most J).0), few-updates t T)

  -- what was counted of them
  pub weighs : (t : Tally) → Tallies F.values J.items t → Weighs s sizes f j.updates j.room t
  weighs t T =
      let b = judged-most J in
      record {
        values = F.values;
        items = J.items;
        told = told;
        key-count = F.count;
        room-is = J.room-is;
        tallied = T;
        few-keys = F.few-keys;
        few-updates = few-updates t T;
        more_room = b.2;
        few-room = b.1;
      }
