-- Laws of the stream of integers. Assumes nothing.
use Rattle.std.specs.Prelude.{◌≡◌, refl, List, [], ◌∷◌, Bool, true, false, cond, ℕ, zero, suc, ◌+◌, ◌-◌, ◌*◌, ◌%◌, ◌≤◌, ◌<◌, ℤ, leb, eqb, length, drop}
use Rattle.std.proofs.Common.{sym, ap, ◌∙◌, arith, drop-drop}
use Rattle.std.proofs.Math.ListN.{length-drop}
use Rattle.definitions.specs.Refusals.{non_zero_int_padding}
use Rattle.definitions.specs.Warnings.{Counts}
use Rattle.definitions.specs.Outcome.{Outcome, ok, err}
use Rattle.definitions.specs.Packed.{Read, extend, sign, more, read_int}
use Rattle.definitions.specs.Packer.{IntAt, placed, read_int_at}
use Rattle.definitions.specs.Stream.{Stream, int, end, cut, padded, stopped, and_then, stream_up_to, stream, ints, is_cut, is_padded}
use Rattle.laws.specs.OutcomeLaws.{ok-value, ok-warnings, err-number, ok-not-err}

-- ---- what is left after an integer is a later part of the bytes

pub data Within (l : List ℕ) : Outcome Read → Type 0 where
  part : {r : Read} {w : Counts} → length r.rest < length l → r.rest ≡ drop (length l - length r.rest) l → Within l (ok r w)
  nothing : {n : ℕ} {w : Counts} → Within l (err n w)

either : {l : List ℕ} {x y : Outcome Read} (b : Bool) → Within l x → Within l y → Within l (cond b x y)
either true h k = h
either false h k = k

later : {b : ℕ} {bs : List ℕ} {o : Outcome Read} → Within bs o → Within (b ∷ bs) o
later {b} {bs} (part {r = r} h q) =
    let e : suc (length bs) - length r.rest ≡ suc (length bs - length r.rest) = omega arith in
    part {r = r} (omega arith) (q ∙ ap (λ (k : ℕ). drop k (b ∷ bs)) (sym e))
later nothing = nothing

here : {b : ℕ} {bs : List ℕ} {x : ℤ} {w : Counts} → Within (b ∷ bs) (ok (record { value = x; rest = bs }) w)
here {b} {bs} {x} =
    let e : suc (length bs) - length bs ≡ 1 = omega arith in
    part {r = record { value = x; rest = bs }} (omega arith) (ap (λ (k : ℕ). drop k (b ∷ bs)) (sym e))

more_within : (n w d : ℕ) (s : Bool) (l : List ℕ) → Within l (more n w d s l)
unfolding more
more_within n w d s [] = nothing
more_within zero w d s (b ∷ bs) = either (leb 16 b) nothing here
more_within (suc n) w d s (b ∷ bs) =
    either (extend b) (later (more_within n (w * 128) (d + b % 128 * w) s bs)) here

pub read-within : (l : List ℕ) → Within l (read_int l)
unfolding read_int
read-within [] = nothing
read-within (b ∷ bs) = either (extend b) (later (more_within 3 64 (b % 64) (sign b) bs)) here

-- ---- the bound on the number of integers does not matter

then_same : {l : List ℕ} {o : Outcome Read} (f g : List ℕ → Stream) → Within l o → ((rest : List ℕ) → length rest < length l → f rest ≡ g rest) → and_then o f ≡ and_then o g
then_same f g (part {r = r} {w = w} h q) k = ap (λ (t : Stream). int r.value w t) (k r.rest h)
then_same f g nothing k = refl

same : (n m : ℕ) (l : List ℕ) → length l ≤ n → length l ≤ m → stream_up_to n l ≡ stream_up_to m l
same zero zero l h k = refl
same zero (suc m) [] h k = refl
same zero (suc m) (b ∷ bs) h k = let z : ⊥ = omega arith in absurd z
same (suc n) zero [] h k = refl
same (suc n) zero (b ∷ bs) h k = let z : ⊥ = omega arith in absurd z
same (suc n) (suc m) [] h k = refl
same (suc n) (suc m) (b ∷ bs) h k =
    then_same (λ rest. stream_up_to n rest) (λ rest. stream_up_to m rest) (read-within (b ∷ bs))
    (λ rest q. same n m rest (omega arith) (omega arith))

-- no bytes are no integers
pub stream_end : stream [] ≡ end
unfolding stream
stream_end = refl

-- the first integer, and then the stream of what is left
pub stream-step : (l : List ℕ) → 0 < length l → stream l ≡ and_then (read_int l) stream
unfolding stream
stream-step [] h = let z : ⊥ = omega arith in absurd z
stream-step (b ∷ bs) h =
    then_same (λ rest. stream_up_to (length bs) rest) stream (read-within (b ∷ bs))
    (λ rest q. same (length bs) (length rest) rest (omega arith) (omega arith))

-- ---- how a stream ends

-- what holds at padding bits and at a cut integer holds at every integer that is refused
pub either_end : (P : Stream → Type 0) (n : ℕ) → P padded → P cut → P (stopped n)
either_end P n p c = go (eqb n non_zero_int_padding)
  where
    go : (b : Bool) → P (cond b padded cut)
    go true = p
    go false = c

-- behind an integer that is refused there is none
pub none-behind : (n : ℕ) → ints (stopped n) ≡ []
none-behind n = either_end (λ (s : Stream). ints s ≡ []) n refl refl

-- whether a stream ends where its bytes do
abbrev pub is_whole : Stream → Bool
is_whole (int x w s) = is_whole s
is_whole end = true
is_whole cut = false
is_whole padded = false

pub whole_is : (s : Stream) → is_cut s ≡ false → is_padded s ≡ false → is_whole s ≡ true
whole_is (int x w s) c p = whole_is s c p
whole_is end c p = refl
whole_is cut c p = sym c
whole_is padded c p = sym p

pub whole-uncut : (s : Stream) → is_whole s ≡ true → is_cut s ≡ false
whole-uncut (int x w s) e = whole-uncut s e
whole-uncut end e = refl
whole-uncut cut e = sym e
whole-uncut padded e = refl

pub whole-unpadded : (s : Stream) → is_whole s ≡ true → is_padded s ≡ false
whole-unpadded (int x w s) e = whole-unpadded s e
whole-unpadded end e = refl
whole-unpadded cut e = refl
whole-unpadded padded e = sym e

-- ---- there are no more integers than bytes

few-then : {l : List ℕ} {o : Outcome Read} (k : List ℕ → Stream) → Within l o → ((rest : List ℕ) → length (ints (k rest)) ≤ length rest) → length (ints (and_then o k)) ≤ length l
few-then k (part {r = r} h q) f = omega (arith, f r.rest)
few-then k (nothing {n = n}) f = omega (arith, ap length (none-behind n))

few-up-to : (n : ℕ) (l : List ℕ) → length (ints (stream_up_to n l)) ≤ length l
few-up-to zero l = omega arith
few-up-to (suc n) [] = omega arith
few-up-to (suc n) (b ∷ bs) = few-then (λ rest. stream_up_to n rest) (read-within (b ∷ bs)) (λ rest. few-up-to n rest)

pub few-ints : (l : List ℕ) → length (ints (stream l)) ≤ length l
unfolding stream
few-ints l = few-up-to (length l) l

-- ---- at a place of a slice

module _ (src : List ℕ) (at : ℕ) where
  -- an integer was read: it comes first, and the place moves on
  pub record Found (x : ℤ) (next : ℕ) (w : Counts) : Type 0 where
    pub step : stream (drop at src) ≡ int x w (stream (drop next src))
    pub on : at < next
    pub inside : next ≤ length src

  found_in : (x : ℤ) (next : ℕ) (w : Counts) (o : Outcome Read) → Within (drop at src) o → (0 < length (drop at src) → stream (drop at src) ≡ and_then o stream) → placed (length src) o ≡ ok (record { value = x; next = next }) w → Found x next w
  found_in x next w (ok r v) (part h q) s e =
      let ev : r.value ≡ x = ap (λ (a : IntAt). a.value) (ok-value e) in
      let en : length src - length r.rest ≡ next = ap (λ (a : IntAt). a.next) (ok-value e) in
      let ew : v ≡ w = ok-warnings e in
      let l : length (drop at src) ≡ length src - at = length-drop at src in
      let k : at + (length (drop at src) - length r.rest) ≡ next = omega arith in
      let q' : r.rest ≡ drop next src = q ∙ drop-drop (length (drop at src) - length r.rest) at src ∙ ap (λ (j : ℕ). drop j src) k in
      record { step = s (omega arith) ∙ rw (ev, ew, q'); on = omega arith; inside = omega arith }
  found_in x next w (err n v) h s e = absurd (ok-not-err (sym e))

  pub found : (x : ℤ) (next : ℕ) (w : Counts) → read_int_at src at ≡ ok (record { value = x; next = next }) w → Found x next w
  unfolding read_int_at
  found x next w e = found_in x next w (read_int (drop at src)) (read-within (drop at src)) (stream-step (drop at src)) e

  stops-in : (n : ℕ) (w : Counts) (o : Outcome Read) → placed (length src) o ≡ err n w → and_then o stream ≡ stopped n
  stops-in n w (ok r v) e = absurd (ok-not-err e)
  stops-in n w (err m v) e = ap stopped (err-number e)

  -- the integer there was refused: the bytes ended inside it, or it has padding bits
  pub ended : (n : ℕ) (w : Counts) → at < length src → read_int_at src at ≡ err n w → stream (drop at src) ≡ stopped n
  unfolding read_int_at
  ended n w h e =
      stream-step (drop at src) (simp length-drop (omega arith))
      ∙ stops-in n w (read_int (drop at src)) e
