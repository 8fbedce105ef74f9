-- A pass over the integers of some bytes, one at a time. Assumes nothing.
use mathlib.Core.Path.{◌≡◌, refl, sym, ap, subst, ◌∙◌}
use mathlib.Core.List.{List, [], ◌∷◌, ◌++◌, append-nil}
use mathlib.Core.Bool.{Bool, true, false, cond, not}
use Prim.Native.Nat.{ℕ, zero, suc, ◌+◌, ◌-◌, ◌≤◌, ◌<◌}
use native.Mathlib.Nat.{zero-add}
use native.Mathlib.Omega.{arith}
use borrow.Author.Tests.{le-leb, lt-leb}
use lib.Dec.{eqb}
use lib.IntN.{ℤ}
use lib.ListN.{length, take, drop, set, drop_of_length-le, length-drop}
use borrow.Rule.Slice.PartMut.{put_mid}
use Rattle.definitions.specs.Areas.{lay, lay_at}
use Rattle.definitions.specs.Warnings.{Counts, none, plus}
use Rattle.definitions.specs.Refusals.{capacity_error, non_zero_int_padding}
use Rattle.definitions.specs.Outcome.{Outcome, ok, err}
use Rattle.definitions.specs.Packed.{warned}
use Rattle.definitions.specs.Packer.{Unpacked, unpack_stream}
use Rattle.definitions.specs.Stream.{Stream, cut, padded, stopped, stream, ints, warnings, is_cut, is_padded}
use Rattle.laws.specs.Tests.{at_most_one}
use Rattle.laws.specs.AreaLaws.{lay-nowhere, lay_at-set, lay_at-split, lay_at-nothing, length-lay_at}
use Rattle.laws.specs.WarningLaws.{none-plus, plus_none, plus_assoc, packed, warned-packed}
use Rattle.laws.specs.StreamLaws.{stream_end, Found}
use Rattle.packer.specs.Scans.{Scanned, stopped_at}
use Rattle.packer.specs.declared.checked.Totals.{Totals}

-- what is counted and laid so far, and what is left from a place on, make the whole
pub record Scanning (src : List ℕ) (before out : List ℤ) (at : ℕ) (t : Totals) : Type 0 where
  pub inside : at ≤ length src
  pub few : t.count ≤ at
  pub few-overlong : t.overlong ≤ t.count
  pub same : length out ≡ length before
  pub counted : t.count + length (ints (stream (drop at src))) ≡ length (ints (stream src))
  pub not-cut : t.cut ≡ false
  pub not-padded : t.padded ≡ false
  pub ends : is_cut (stream (drop at src)) ≡ is_cut (stream src)
  pub pads : is_padded (stream (drop at src)) ≡ is_padded (stream src)
  pub warns : plus (packed t.overlong) (warnings (stream (drop at src))) ≡ warnings (stream src)
  pub laid : lay_at t.count (ints (stream (drop at src))) out ≡ lay (ints (stream src)) before

pub start :
    (src : List ℕ) (before : List ℤ) (t : Totals) → (t.count ≡ 0) × ((t.cut ≡ false) × ((t.padded ≡ false) × (t.overlong ≡ 0))) →
    Scanning src before before 0 t
start src before t e =
    record {
      inside = omega arith;
      few = omega (arith, e.0);
      few-overlong = omega (arith, e.0, e.1.1.1);
      same = refl;
      counted = rw e.0 (zero-add (length (ints (stream src))));
      not-cut = e.1.0;
      not-padded = e.1.1.0;
      ends = refl;
      pads = refl;
      warns = rw e.1.1.1 (none-plus (warnings (stream src)));
      laid = rw e.0 refl;
    }

-- one integer more, overlong so many times
abbrev counting : Totals → ℕ → Totals
counting t o = record { count = t.count + 1; cut = t.cut; padded = t.padded; overlong = t.overlong + o }

-- what is laid from a place on leaves what is before it
lay_at-parts : (n : ℕ) (xs area : List ℤ) → lay_at n xs area ≡ take n area ++ lay xs (drop n area)
lay_at-parts zero xs area = refl
lay_at-parts (suc n) [] [] = refl
lay_at-parts (suc n) (x ∷ xs) [] = refl
lay_at-parts (suc n) xs (a ∷ area) = ap (λ (l : List ℤ). a ∷ l) (lay_at-parts n xs area)

-- a part up to the end that is laid anew
to_the_end : (n : ℕ) (l part : List ℤ) → put_mid n (length l - n) l part ≡ take n l ++ part
to_the_end n l part =
    ap (λ (e : List ℤ). take n l ++ (part ++ e)) (drop_of_length-le (drop n l) {i = length l - n} (simp length-drop (omega arith)))
    ∙ ap (λ (e : List ℤ). take n l ++ e) (append-nil part)

-- the totals, and how the integers end
abbrev ending : Totals → Bool → Bool → Totals
ending t c p = record { count = t.count; cut = c; padded = p; overlong = t.overlong }

module _ {src : List ℕ} {before out : List ℤ} {at : ℕ} {t : Totals} where
  pub turn :
      {x : ℤ} {next : ℕ} (overlong : Bool) → Scanning src before out at t → Found src at x next (warned overlong) →
      Scanning src before (lay_at t.count (x ∷ []) out) next (counting t (cond overlong 1 0))
  turn {x} {next} overlong s f =
      let rest = stream (drop next src) in
      let now = packed t.overlong in
      let c : t.count + suc (length (ints rest)) ≡ length (ints (stream src)) = rw f.step at s.counted in
      record {
        inside = f.inside;
        few = omega (arith, s.few, f.on);
        few-overlong = omega (arith, s.few-overlong, at_most_one overlong);
        same = length-lay_at t.count (x ∷ []) out ∙ s.same;
        counted = omega arith;
        not-cut = s.not-cut;
        not-padded = s.not-padded;
        ends = rw f.step at s.ends;
        pads = rw f.step at s.pads;
        warns =
            plus_assoc now (packed (cond overlong 1 0)) (warnings rest)
            ∙ ap (λ (w : Counts). plus now (plus w (warnings rest))) (sym (warned-packed overlong))
            ∙ (rw f.step at s.warns);
        laid = sym (lay_at-split t.count x (ints rest) out) ∙ (rw f.step at s.laid);
      }

  -- the same of an int that is stored where there is room for it
  pub turn-set :
      {x : ℤ} {next : ℕ} (overlong : Bool) → Scanning src before out at t → t.count < length out → Found src at x next (warned overlong) →
      Scanning src before (set out t.count x) next (counting t (cond overlong 1 0))
  turn-set {x} {next} overlong s room f =
      let e = lay_at-set t.count x [] out room ∙ lay_at-nothing (t.count + 1) (set out t.count x) in
      subst (λ (l : List ℤ). Scanning src before l next (counting t (cond overlong 1 0))) e (turn overlong s f)

  -- the rest of the integers, over the rest of the area
  pub joins :
      {r : Totals} {rest : List ℤ} → Scanning src before out at t → Scanned (stream (drop at src)) (drop t.count out) r rest →
      Scanned (stream src) before (record { count = t.count + r.count; cut = r.cut; padded = r.padded; overlong = t.overlong + r.overlong })
      (put_mid t.count (length out - t.count) out rest)
  joins {r} {rest} s f =
      record {
        count-is = omega (arith, f.count-is, s.counted);
        few = omega (arith, f.few, s.few-overlong);
        cut-is = f.cut-is ∙ s.ends;
        padded-is = f.padded-is ∙ s.pads;
        warnings-are = ap (plus (packed t.overlong)) f.warnings-are ∙ s.warns;
        out-is =
            to_the_end t.count out rest
            ∙ ap (λ (l : List ℤ). take t.count out ++ l) f.out-is
            ∙ sym (lay_at-parts t.count (ints (stream (drop at src))) out)
            ∙ s.laid;
      }

  -- nothing more comes
  last :
      {u : Stream} → Scanning src before out at t → stream (drop at src) ≡ u → ints u ≡ [] → warnings u ≡ none →
      Scanned (stream src) before (ending t (is_cut u) (is_padded u)) out
  last {u} s e i w =
      let c : t.count + length (ints u) ≡ length (ints (stream src)) = rw e at s.counted in
      let l : lay_at t.count (ints u) out ≡ lay (ints (stream src)) before = rw e at s.laid in
      let v : plus (packed t.overlong) (warnings u) ≡ warnings (stream src) = rw e at s.warns in
      record {
        count-is = omega (arith, ap length i);
        few = s.few-overlong;
        cut-is = rw e at s.ends;
        padded-is = rw e at s.pads;
        warnings-are = sym (plus_none (packed t.overlong)) ∙ (rw w at v);
        out-is = sym (lay_at-nothing t.count out) ∙ (rw i at l);
      }

  -- all bytes are read
  pub at-end : Scanning src before out at t → length src ≤ at → Scanned (stream src) before t out
  at-end s h =
      let r = last s (ap stream (drop_of_length-le src h) ∙ stream_end) refl refl in
      record {
        count-is = r.count-is;
        few = r.few;
        cut-is = s.not-cut ∙ r.cut-is;
        padded-is = s.not-padded ∙ r.padded-is;
        warnings-are = r.warnings-are;
        out-is = r.out-is;
      }

  -- the integer there is refused
  pub at-refusal : (n : ℕ) → Scanning src before out at t → stream (drop at src) ≡ stopped n → Scanned (stream src) before (stopped_at t n) out
  at-refusal n s e = go (eqb n non_zero_int_padding) e
    where
      go : (b : Bool) → stream (drop at src) ≡ cond b padded cut → Scanned (stream src) before (ending t (not b) b) out
      go true q = last s q refl refl
      go false q = last s q refl refl

-- ---- what the pass comes to

module _ (src : List ℕ) (before : List ℤ) (t : Totals) {o : Outcome Unpacked} where
  -- it wrote all integers, none of which has padding bits
  pub all-unpacked :
      (out : List ℤ) → o ≡ ok (record { count = t.count; cut = t.cut }) (packed t.overlong) →
      is_padded (stream src) ≡ false → length (ints (stream src)) ≤ length before → Scanned (stream src) before t out →
      unpack_stream (stream src) before ≡ record { answer = o; out = out }
  all-unpacked out e p h s =
      rw (p, le-leb (length (ints (stream src))) (length before) h, e, s.warnings-are, s.count-is, s.cut-is, s.out-is)

  -- it wrote none, and met padding bits
  pub has-padding :
      (front : List ℤ) → o ≡ err non_zero_int_padding (packed t.overlong) → t.padded ≡ true → Scanned (stream src) [] t front →
      unpack_stream (stream src) before ≡ record { answer = o; out = front ++ before }
  has-padding front e h s =
      let f : front ≡ [] = s.out-is ∙ lay-nowhere (ints (stream src)) in
      let p : is_padded (stream src) ≡ true = sym s.padded-is ∙ h in
      rw (p, e, s.warnings-are, f)

  -- it wrote none, met no padding bits and found too many
  pub no_room :
      (front : List ℤ) → o ≡ err capacity_error (packed t.overlong) → t.padded ≡ false → length (front ++ before) < t.count →
      Scanned (stream src) [] t front → unpack_stream (stream src) before ≡ record { answer = o; out = front ++ before }
  no_room front e n h s =
      let f : front ≡ [] = s.out-is ∙ lay-nowhere (ints (stream src)) in
      let p : is_padded (stream src) ≡ false = sym s.padded-is ∙ n in
      let few : length before < length (ints (stream src)) = omega (arith, s.count-is, ap (λ (l : List ℤ). length (l ++ before)) f) in
      rw (p, lt-leb (length (ints (stream src))) (length before) few, e, s.warnings-are, f)
