-- The parts of some bytes in a receiver and its first part area, in whatever order they came. Assumes nothing.
use Rattle.std.specs.Prelude.{◌≡◌, refl, true, false, List, [], ◌∷◌, ℕ, zero, suc, ◌+◌, ◌*◌, ◌≤◌, ◌<◌, ltb, leb, eqb, length, take, drop, get_or, set, replicate}
use Rattle.std.proofs.Common.{sym, ◌∙◌, ap, arith, leb-true, ltb-true, ltb-false, eqb-true, le-leb, length-set, take_all, get_or-set_same, get_or-set_other}
use Rattle.std.proofs.lemmas.Bool.{eqb-false}
use Rattle.definitions.specs.Areas.{lay_at}
use Rattle.definitions.specs.DeltaReading.{elem}
use Rattle.definitions.specs.Messages.{num_parts, part_bytes}
use Rattle.definitions.specs.Receiver.{no_parts, is_in, count_in, part_in, joined}
use Rattle.definitions.specs.Logbook.{all_came}
use Rattle.laws.specs.AreaLaws.{laid-there, laid-before, laid-behind}
use Rattle.laws.specs.CutLaws.{part-short, part-past, joined-front}
use Rattle.session.specs.Lists.{contra, either, eqb-self}
use Rattle.session.specs.PartsCame.{Apart, none, more, tally, tally-le, tally-apart, all_came-length, all_came-at, count_in-tally}

-- another part of 900 entries
piece-other : (p q k : ℕ) (xs area : List ℕ) → length xs ≤ 900 → k ≤ 900 → (q ≡ p → ⊥) → take k (drop (900 * q) (lay_at (900 * p) xs area)) ≡ take k (drop (900 * q) area)
piece-other p q k xs area hx hk ne =
    either (ltb q p)
    (λ e. let v : q < p = ltb-true q p e in laid-before (900 * p) xs area (900 * q) k (omega arith))
    (λ e. let v : p < q = omega (arith, ltb-false q p e) in ap (take k) (laid-behind (900 * p) xs area (900 * q) (omega arith)))

-- ---- the parts that came

-- which parts of x are in: those that came; and their bytes
pub record Holding (x lengths area came : List ℕ) : Type 0 where
  pub sized : length lengths ≡ 32
  pub in-came : (p : ℕ) → p < 32 → is_in lengths p ≡ elem p came
  pub bytes : (p : ℕ) → p < 32 → elem p came ≡ true → part_in lengths area p ≡ part_bytes x p
  pub apart : Apart (num_parts x) came

-- a part that is not in has no length up to 900
absent : (n p : ℕ) → ◌≡◌ {A = ℕ} (get_or (replicate n 901) p 901) 901
absent zero p = refl
absent (suc n) zero = refl
absent (suc n) (suc p) = absent n p

-- at first no part is in
pub holding-none : (x area : List ℕ) → Holding x no_parts area []
holding-none x area =
    record {
      sized = refl;
      in-came = λ p h. ap (λ (z : ℕ). leb z 900) (absent 32 p);
      bytes = λ p h e. contra e refl;
      apart = none;
    }

module _ {x lengths area came : List ℕ} (r : Holding x lengths area came) where
  -- how many are in
  pub holding-count : num_parts x ≤ 32 → count_in lengths 32 ≡ length came
  holding-count h =
      count_in-tally lengths came 32 r.in-came ∙ tally-apart (num_parts x) 32 came h r.apart

  -- as many as there are, when all came
  pub holding-all : num_parts x ≤ 32 → eqb (count_in lengths 32) (num_parts x) ≡ all_came (num_parts x) came
  holding-all h = rw (holding-count h) (sym (all_came-length (num_parts x) came r.apart))

  -- fewer, when not
  pub holding-few : all_came (num_parts x) came ≡ false → length came < num_parts x
  holding-few e =
      let c : tally (num_parts x) came ≡ length came = tally-apart (num_parts x) (num_parts x) came (omega arith) r.apart in
      let n : length came ≡ num_parts x → ⊥ = eqb-false (length came) (num_parts x) (sym (all_came-length (num_parts x) came r.apart) ∙ e) in
      omega (arith, tally-le (num_parts x) came)

  -- a part that is in has at most 900 bytes
  in-short : (q : ℕ) → q < 32 → elem q came ≡ true → get_or lengths q 901 ≤ 900
  in-short q h e = leb-true (get_or lengths q 901) 900 (r.in-came q h ∙ e)

  -- the bytes of a part that is in
  part-of-in : (q : ℕ) → q < 32 → elem q came ≡ true → take (get_or lengths q 901) (drop (900 * q) area) ≡ part_bytes x q
  part-of-in q h e = rw (r.in-came q h ∙ e) at (r.bytes q h e)

  module _ (p : ℕ) (few : num_parts x ≤ 32) (below : p < num_parts x) (fresh : elem p came ≡ false) (room : 28800 ≤ length area) where
    -- the length of the new part
    here : get_or (set lengths p (length (part_bytes x p))) p 901 ≡ length (part_bytes x p)
    here = get_or-set_same lengths p (length (part_bytes x p)) 901 (omega (arith, r.sized))

    -- the length of another
    there : (q : ℕ) → (q ≡ p → ⊥) → get_or (set lengths p (length (part_bytes x p))) q 901 ≡ get_or lengths q 901
    there q ne = get_or-set_other lengths p q (length (part_bytes x p)) 901 ne

    -- the new part is in
    is-in : leb (length (part_bytes x p)) 900 ≡ true
    is-in = le-leb (length (part_bytes x p)) 900 (part-short x p)

    -- the area has room for it
    place : 900 * p + length (part_bytes x p) ≤ length area
    place = omega (arith, part-short x p)

    -- which parts are in then
    put_in : (q : ℕ) → q < 32 → is_in (set lengths p (length (part_bytes x p))) q ≡ elem q (p ∷ came)
    put_in q h =
        either (eqb q p)
        (λ e. rw (eqb-true q p e, eqb-self p, here) is-in)
        (λ e. rw (e, there q (eqb-false q p e)) (r.in-came q h))

    -- and what their bytes are
    put-bytes : (q : ℕ) → q < 32 → elem q (p ∷ came) ≡ true → part_in (set lengths p (length (part_bytes x p))) (lay_at (900 * p) (part_bytes x p) area) q ≡ part_bytes x q
    put-bytes q h e =
        either (eqb q p)
        (λ u. rw (eqb-true q p u, here, is-in) (laid-there (900 * p) (part_bytes x p) area place))
        (λ u.
        let v : elem q came ≡ true = rw u at e in
        let ne : q ≡ p → ⊥ = eqb-false q p u in
        rw (there q ne, r.in-came q h ∙ v)
        (piece-other p q (get_or lengths q 901) (part_bytes x p) area (part-short x p) (in-short q h v) ne ∙ part-of-in q h v))

    -- a part more
    pub holding-put : Holding x (set lengths p (length (part_bytes x p))) (lay_at (900 * p) (part_bytes x p) area) (p ∷ came)
    holding-put =
        record {
          sized = length-set lengths p (length (part_bytes x p)) ∙ r.sized;
          in-came = put_in;
          bytes = put-bytes;
          apart = more below fresh r.apart;
        }

-- ---- joined

-- when all came, the parts joined are x
pub holding-joined : {x lengths area came : List ℕ} → Holding x lengths area came → all_came (num_parts x) came ≡ true → length x ≤ 28800 → joined lengths area 32 ≡ x
holding-joined {x} {lengths} {area} {came} r a s = joined-front lengths area x 32 each ∙ take_all 28800 x s
  where
    each : (p : ℕ) → p < 32 → part_in lengths area p ≡ part_bytes x p
    each p h =
        either (elem p came)
        (λ e. r.bytes p h e)
        (λ e. rw (r.in-came p h ∙ e) (sym (part-past x p (far e))))
      where
        far : elem p came ≡ false → num_parts x ≤ p
        far e =
            either (ltb p (num_parts x))
            (λ q. contra (all_came-at (num_parts x) came p a (ltb-true p (num_parts x) q)) e)
            (λ q. ltb-false p (num_parts x) q)
