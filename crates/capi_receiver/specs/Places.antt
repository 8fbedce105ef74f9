-- The place of a message's bytes among those of its delta: from byte 900 i on. Assumes nothing.
use Rattle.std.specs.Prelude.{◌≡◌, refl, List, [], ◌∷◌, ℕ, zero, suc, ◌*◌, ◌≤◌, ◌<◌, ℤ, length, take, drop}
use Rattle.std.proofs.Common.{sym, ap, ⊎_elim, arith, le-leb, take_all}
use Rattle.std.proofs.lemmas.Bool.{lt-leb}
use Rattle.definitions.specs.Messages.{SnapMsg, num_parts, delta_chunks, nth_message, chunk_call}
use Rattle.laws.specs.Tests.{below}
use Rattle.laws.specs.CutLaws.{chunks-none, chunks-single, length-chunks, nth-chunk, nth_past}
use Rattle.delta_chunks.specs.Answers.{bytes_in, bytes_of}

-- bytes that are at the place of message i
abbrev pub AtPlace : List ℕ → ℕ → List ℕ → Type 0
AtPlace b i x = b ≡ take (length b) (drop (900 * i) x)

taken-length : (n : ℕ) (y : List ℕ) → take n y ≡ take (length (take n y)) y
taken-length zero y = refl
taken-length (suc n) [] = refl
taken-length (suc n) (b ∷ y) = ap (λ (l : List ℕ). b ∷ l) (taken-length n y)

-- for a list of one message
only : (m : SnapMsg) (b x : List ℕ) (i : ℕ) → AtPlace b 0 x → AtPlace (bytes_in (nth_message (record { numbers = m; bytes = b } ∷ []) i)) i x
only m b x zero p = p
only m b x (suc i) p = refl

module _ (tick base : ℤ) (x : List ℕ) (crc : ℤ) (i : ℕ) where
  -- the list's message
  nth-place : AtPlace (bytes_in (nth_message (delta_chunks tick base x crc) i)) i x
  nth-place = ⊎_elim
      (λ (z : length x < 1). rw (chunks-none tick base x crc (omega arith)) (only _ [] x i refl))
      (λ (z : 1 ≤ length x). ⊎_elim
      (λ (k : 900 < length x). in_parts k)
      (λ (k : length x ≤ 900). rw (chunks-single tick base x crc z k) (only _ x x i (sym (take_all (length x) x (omega arith)))))
      (below 900 (length x)))
      (below (length x) 1)
    where
      in_parts : 900 < length x → AtPlace (bytes_in (nth_message (delta_chunks tick base x crc) i)) i x
      in_parts k = ⊎_elim
          (λ (l : i < num_parts x). rw (nth-chunk tick base x crc i k l) (taken-length 900 (drop (900 * i) x)))
          (λ (l : num_parts x ≤ i). rw (nth_past (delta_chunks tick base x crc) i (omega (arith, length-chunks tick base x crc (omega arith)))) refl)
          (below i (num_parts x))

  -- the bytes whose length `cef_chunk` returns
  pub bytes-place : AtPlace (bytes_of (chunk_call tick base x crc i)) i x
  bytes-place = ⊎_elim
      (λ (h : 1048576 < length x). rw (lt-leb (length x) 1048576 h) refl)
      (λ (h : length x ≤ 1048576). rw (le-leb (length x) 1048576 h) nth-place)
      (below 1048576 (length x))
