-- Integers skipped or copied, one at a time. Assumes nothing.
use mathlib.Core.Path.{◌≡◌, refl, sym, ap, ◌∙◌}
use mathlib.Core.Bool.{Bool, true, false, cond}
use mathlib.Core.List.{List, [], ◌∷◌, ◌++◌, append_assoc, append-nil}
use Prim.Native.Nat.{ℕ, zero, suc, ◌+◌, ◌-◌, ◌≤◌, ◌<◌}
use native.Mathlib.Nat.{add_assoc, add-zero}
use native.Mathlib.Omega.{arith}
use borrow.Author.Tests.{le-leb}
use lib.IntN.{ℤ}
use lib.ListN.{length, drop, take, set, length-append, length-drop, length-set, take-append-drop}
use lib.Seq.{drop-drop, length-take-le}
use Rattle.std.specs.Prelude.{Ok, Err}
use Rattle.definitions.specs.Areas.{lay_at, fits_at}
use Rattle.definitions.specs.Warnings.{Counts, plus}
use Rattle.definitions.specs.Outcome.{Outcome, ok, err, return, refuse, after, ◌>>=◌}
use Rattle.definitions.specs.Packed.{warned}
use Rattle.definitions.specs.Stream.{Stream, int}
use Rattle.definitions.specs.DeltaReading.{Got, int_stream, next, next_ints}
use Rattle.laws.specs.Tests.{at_most_one}
use Rattle.laws.specs.AreaLaws.{lay_at-nothing, lay_at-set}
use Rattle.laws.specs.WarningLaws.{packed, warned-packed, none-plus, plus_none, plus_assoc}
use Rattle.laws.specs.OutcomeLaws.{ok-value, ok-not-err}
use Rattle.laws.specs.DeltaReadBack.{reads}
use Rattle.ints.specs.Copies.{Copied, copy_at}
use Rattle.format.specs.Numbers.{number}
use Rattle.format.specs.declared.Error.{Error}
use Rattle.packer.specs.Answers.{missing_as}
use Rattle.packer.specs.declared.IntRead.{IntRead}
use Rattle.delta_source.specs.Source.{Source, source, size, from, behind_ints, Next, found, nothing, Skips, past, refused, Copies}
use Rattle.delta_source.specs.SourcePlaces.{behind-none, behind-step, behind-ints}

-- ---- one more integer

-- what is read after some ints
abbrev pub prefixed : List ℤ → Counts → Outcome (Got (List ℤ)) → Outcome (Got (List ℤ))
prefixed d w (ok g v) = ok (record { value = d ++ g.value; rest = g.rest }) (plus w v)
prefixed d w (err n v) = err n (plus w v)

first : (x : ℤ) (w : Counts) (o : Outcome (Got (List ℤ))) → after w (o >>= λ l. return (record { value = x ∷ l.value; rest = l.rest })) ≡ prefixed (x ∷ []) w o
first x w (ok g v) = ap (λ (u : Counts). ok (record { value = x ∷ g.value; rest = g.rest }) (plus w u)) (plus_none v)
first x w (err n v) = refl

one_more : (refusal k : ℕ) {s t : Stream} {x : ℤ} {w : Counts} → s ≡ int x w t → next_ints refusal (suc k) s ≡ prefixed (x ∷ []) w (next_ints refusal k t)
unfolding next_ints
one_more refusal k {s} {t} {x} {w} e = rw e (first x w (next_ints refusal k t))

no_more : (refusal k : ℕ) (s : Stream) {n : ℕ} → next refusal s ≡ refuse n → next_ints refusal (suc k) s ≡ refuse n
unfolding next_ints
no_more refusal k s e = rw e

prefixed-twice : (a b : List ℤ) (v w : Counts) (o : Outcome (Got (List ℤ))) → prefixed a v (prefixed b w o) ≡ prefixed (a ++ b) (plus v w) o
prefixed-twice a b v w (ok g u) =
    rw (append_assoc a b g.value) (ap (λ (c : Counts). ok (record { value = a ++ (b ++ g.value); rest = g.rest }) c) (sym (plus_assoc v w u)))
prefixed-twice a b v w (err n u) = ap (err n) (sym (plus_assoc v w u))

-- ---- skipping

-- those skipped so far, followed by what is left, are the whole
pub record Skipping (s : Source) (start n at left o : ℕ) : Type 0 where
  pub on : start ≤ at
  pub inside : at ≤ size s
  pub few-overlong : o ≤ at
  pub done : List ℤ
  pub long : length done + left ≡ n
  pub place : behind_ints s at left ≡ behind_ints s start n
  pub joins : (refusal : ℕ) → next_ints refusal n (from s start) ≡ prefixed done (packed o) (next_ints refusal left (from s at))

module _ (s : Source) (start n : ℕ) where
  nothing-first : (o : Outcome (Got (List ℤ))) → o ≡ prefixed [] (packed 0) o
  nothing-first (ok g v) = ap (ok g) (sym (none-plus v))
  nothing-first (err n v) = ap (err n) (sym (none-plus v))

  pub start-skip : start ≤ size s → Skipping s start n start n 0
  start-skip h =
      record {
        on = omega arith;
        inside = h;
        few-overlong = omega arith;
        done = [];
        long = omega arith;
        place = refl;
        joins = λ refusal. nothing-first (next_ints refusal n (from s start));
      }

  module _ {at left o : ℕ} where
    joined :
        (k : ℕ) (overlong : Bool) (x : ℤ) (next : ℕ) (i : Skipping s start n at left o) → left ≡ suc k → from s at ≡ int x (warned overlong) (from s next) →
        (refusal : ℕ) → next_ints refusal n (from s start) ≡ prefixed (i.done ++ x ∷ []) (packed (o + cond overlong 1 0)) (next_ints refusal k (from s next))
    joined k overlong x next i l e refusal =
        let rest = next_ints refusal k (from s next) in
        i.joins refusal
        ∙ ap (λ (m : ℕ). prefixed i.done (packed o) (next_ints refusal m (from s at))) l
        ∙ ap (prefixed i.done (packed o)) (one_more refusal k e)
        ∙ prefixed-twice i.done (x ∷ []) (packed o) (warned overlong) rest
        ∙ ap (λ (w : Counts). prefixed (i.done ++ x ∷ []) (plus (packed o) w) rest) (warned-packed overlong)

    pub turn-skip :
        {r : IntRead} (k : ℕ) → left ≡ suc k → Skipping s start n at left o → Next s at (Ok r) → Skipping s start n r.next k (o + cond r.overlong 1 0)
    turn-skip {r} k l i (found e q a b) =
        record {
          on = omega (arith, i.on);
          inside = b;
          few-overlong = omega (arith, i.few-overlong, at_most_one r.overlong);
          done = i.done ++ r.value ∷ [];
          long = omega (arith, i.long, length-append i.done (r.value ∷ []));
          place = sym (ap (behind_ints s at) l ∙ behind-step s at k q) ∙ i.place;
          joins = joined k r.overlong r.value r.next i l e;
        }

    -- all are skipped
    pub skipped : {refusal : ℕ} → Skipping s start n at left o → left ≤ 0 → Skips s start n refusal (Ok (record { next = at; overlong = o }))
    unfolding next_ints
    skipped i h = past i.done (omega (arith, i.long)) (λ refusal. i.joins refusal ∙ last refusal left h) (sym (ap (behind_ints s at) all_past ∙ behind-none s at) ∙ i.place) i.on i.inside
      where
        all_past : left ≡ 0
        all_past = omega arith

        last :
            (refusal m : ℕ) → m ≤ 0 →
            prefixed i.done (packed o) (next_ints refusal m (from s at)) ≡ ok (record { value = i.done; rest = from s at }) (packed o)
        last refusal zero h = rw (append-nil i.done) (ap (λ (w : Counts). ok (record { value = i.done; rest = from s at }) w) (plus_none (packed o)))
        last refusal (suc m) h = absurd (omega arith)

    -- not all are there
    pub stopped-at :
        {r : Error} (refusal : ℕ) (e : Error) → Skipping s start n at left o → 0 < left → Next s at (Err r) → number e ≡ missing_as (number r) refusal →
        Skips s start n refusal (Err (record { error = e; overlong = o }))
    stopped-at refusal e i h (nothing f) q =
        refused {r = record { error = e; overlong = o }}
        (i.joins refusal
        ∙ ap (prefixed i.done (packed o)) (ap (λ (m : ℕ). next_ints refusal m (from s at)) l ∙ no_more refusal (left - 1) (from s at) (f refusal))
        ∙ rw (plus_none (packed o), q))
      where
        l : left ≡ suc (left - 1)
        l = omega arith

-- ---- ints, which are not looked at

module _ (b : List ℕ) (l : List ℤ) (at n : ℕ) where
  few : (refusal m : ℕ) (xs : List ℤ) → length xs < m → next_ints refusal m (int_stream xs) ≡ refuse refusal
  unfolding next_ints
  few refusal zero xs h = absurd (omega arith)
  few refusal (suc m) [] h = refl
  few refusal (suc m) (x ∷ xs) h = rw (few refusal m xs (omega arith))

  pub too_few : (refusal : ℕ) → length l - at < n → next_ints refusal n (from (source false b l) at) ≡ refuse refusal
  unfolding from
  too_few refusal h = few refusal n (drop at l) (simp length-drop (omega arith))

  pub skip-too-few : (e : Error) → length l - at < n → Skips (source false b l) at n (number e) (Err (record { error = e; overlong = 0 }))
  skip-too-few e h = refused (too_few (number e) h)

  module _ (h : at + n ≤ length l) where
    part-long : length (take n (drop at l)) ≡ n
    part-long = length-take-le n (drop at l) (simp length-drop (omega arith))

    -- the ints at a place are a part
    pub part-read : (refusal : ℕ) → next_ints refusal n (from (source false b l) at) ≡ return (record { value = take n (drop at l); rest = from (source false b l) (at + n) })
    unfolding from
    part-read refusal =
        let xs = take n (drop at l) in
        let e = ap (λ (m : ℕ). next_ints refusal m (int_stream (drop at l))) (sym part-long) in
        let f = ap (λ (t : List ℤ). next_ints refusal (length xs) (int_stream t)) (sym (take-append-drop n (drop at l))) in
        let g = ap (λ (t : List ℤ). return {A = Got (List ℤ)} (record { value = xs; rest = int_stream t })) (drop-drop n at l) in
        e ∙ f ∙ reads refusal xs (drop n (drop at l)) ∙ g

    pub skip-part : {refusal : ℕ} → Skips (source false b l) at n refusal (Ok (record { next = at + n; overlong = 0 }))
    skip-part = past (take n (drop at l)) part-long part-read (sym (behind-ints b l at n)) (omega arith) h

-- ---- copying

-- of the ints that are read, these are left to be written
pub record Left (s : Source) (at k i : ℕ) (out after : List ℤ) (rest : Stream) (refusal : ℕ) : Type 0 where
  pub ints : List ℤ
  pub warnings : Counts
  pub reading : next_ints refusal k (from s at) ≡ ok (record { value = ints; rest = rest }) warnings
  pub laid : lay_at i ints out ≡ after

pub record Copying (s : Source) (start n to : ℕ) (before out : List ℤ) (at i : ℕ) : Type 0 where
  pub few-copied : i ≤ n
  pub same : length out ≡ length before
  pub joins : (xs : List ℤ) (rest : Stream) (w : Counts) (refusal : ℕ) → next_ints refusal n (from s start) ≡ ok (record { value = xs; rest = rest }) w → Left s at (n - i) (to + i) out (lay_at to xs before) rest refusal

-- of what is read after one int, the rest
record Behind (o : Outcome (Got (List ℤ))) (x : ℤ) (ys : List ℤ) (rest : Stream) : Type 0 where
  ints : List ℤ
  warnings : Counts
  reading : o ≡ ok (record { value = ints; rest = rest }) warnings
  whole : ys ≡ x ∷ ints

behind : (x : ℤ) (w v : Counts) (ys : List ℤ) (rest : Stream) (o : Outcome (Got (List ℤ))) → prefixed (x ∷ []) w o ≡ ok (record { value = ys; rest = rest }) v → Behind o x ys rest
behind x w v ys rest (ok g u) e =
    let q = ok-value e in
    record {
      ints = g.value;
      warnings = u;
      reading = ap (λ (t : Stream). ok (record { value = g.value; rest = t }) u) (ap (λ (a : Got (List ℤ)). a.rest) q);
      whole = sym (ap (λ (a : Got (List ℤ)). a.value) q);
    }
behind x w v ys rest (err n u) e = absurd (ok-not-err (sym e))

module _ (s : Source) (start n to : ℕ) (before : List ℤ) where
  pub start-copy : Copying s start n to before before start 0
  start-copy =
      record {
        few-copied = omega arith;
        same = refl;
        joins = λ xs rest w refusal e. record { ints = xs; warnings = w; reading = ap (λ (k : ℕ). next_ints refusal k (from s start)) all ∙ e; laid = ap (λ (k : ℕ). lay_at k xs before) (add-zero to) };
      }
    where
      all : n - 0 ≡ n
      all = omega arith

  module _ (out : List ℤ) (at i : ℕ) where
    pub turn-copy :
        {r : IntRead} → Copying s start n to before out at i → i < n → to + n ≤ length before → Next s at (Ok r) →
        Copying s start n to before (set out (to + i) r.value) r.next (i + 1)
    turn-copy {r} c h room (found e j a k) =
        record {
          few-copied = omega arith;
          same = length-set out (to + i) r.value ∙ c.same;
          joins = λ xs rest w refusal q.
              let l = c.joins xs rest w refusal q in
              let m : n - i ≡ suc (n - (i + 1)) = omega arith in
              let step = one_more refusal (n - (i + 1)) e in
              let b = behind r.value (warned r.overlong) l.warnings l.ints rest (next_ints refusal (n - (i + 1)) (from s r.next))
              (sym step ∙ ap (λ (k : ℕ). next_ints refusal k (from s at)) (sym m) ∙ l.reading) in
              record {
                ints = b.ints;
                warnings = b.warnings;
                reading = b.reading;
                laid =
                    ap (λ (k : ℕ). lay_at k b.ints (set out (to + i) r.value)) (sym (add_assoc to i 1))
                    ∙ sym (lay_at-set (to + i) r.value b.ints out (omega (arith, c.same)))
                    ∙ ap (λ (t : List ℤ). lay_at (to + i) t out) (sym b.whole)
                    ∙ l.laid;
              };
        }

    pub copied : Copying s start n to before out at i → n ≤ i → Copies s start n to before out
    unfolding next_ints
    copied c h xs rest w refusal e = done (n - i) (omega (arith, c.few-copied)) (c.joins xs rest w refusal e)
      where
        done : (k : ℕ) → k ≡ 0 → Left s at k (to + i) out (lay_at to xs before) rest refusal → out ≡ lay_at to xs before
        done zero q l =
            sym (lay_at-nothing (to + i) out)
            ∙ ap (λ (t : List ℤ). lay_at (to + i) t out) (ap (λ (g : Got (List ℤ)). g.value) (ok-value l.reading))
            ∙ l.laid
        done (suc k) q l = absurd (omega arith)

    -- they are not there
    pub none_left : {r : Error} → Copying s start n to before out at i → i < n → Next s at (Err r) → (l : List ℤ) → Copies s start n to before l
    none_left c h (nothing f) l xs rest w refusal e =
        let k = c.joins xs rest w refusal e in
        let m : n - i ≡ suc (n - (i + 1)) = omega arith in
        absurd (ok-not-err (sym k.reading ∙ ap (λ (j : ℕ). next_ints refusal j (from s at)) m ∙ no_more refusal (n - (i + 1)) (from s at) (f refusal)))

-- ---- copying ints, a part at once

module _ (b : List ℕ) (l : List ℤ) (at n to : ℕ) (before out : List ℤ) where
  pub part-copied : (r : Bool) → at + n ≤ length l → to + n ≤ length before → copy_at before to (take (at + n - at) (drop at l)) ≡ record { fits = r; out = out } → Copies (source false b l) at n to before out
  unfolding copy_at
  part-copied r h room e xs rest w refusal q =
      let m : at + n - at ≡ n = omega arith in
      let e' : copy_at before to (take n (drop at l)) ≡ record { fits = r; out = out } = rw m at e in
      let long = part-long b l at n h in
      let f : fits_at to (take n (drop at l)) before ≡ true = le-leb (to + length (take n (drop at l))) (length before) (omega arith) in
      let e'' : ◌≡◌ {A = Copied} (record { fits = true; out = lay_at to (take n (drop at l)) before }) (record { fits = r; out = out }) = rw f at e' in
      let v : take n (drop at l) ≡ xs = ap (λ (g : Got (List ℤ)). g.value) (ok-value (sym (part-read b l at n h refusal) ∙ q)) in
      sym (ap (λ (c : Copied). c.out) e'') ∙ ap (λ (t : List ℤ). lay_at to t before) v

  pub not_there : length l - at < n → Copies (source false b l) at n to before out
  not_there h xs rest w refusal q = absurd (ok-not-err (sym q ∙ too_few b l at n refusal h))
