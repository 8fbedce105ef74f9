-- The results of the calls that cut some bytes into messages, by the length of the bytes. Assumes nothing.
use mathlib.Core.Path.{◌≡◌, refl, sym, ap, ◌∙◌}
use mathlib.Core.List.{List, [], ◌∷◌}
use mathlib.Core.Option.{some, none}
use mathlib.Core.Logic.{⊎_elim}
use Prim.Native.Nat.{ℕ, ◌+◌, ◌-◌, ◌*◌, ◌≤◌, ◌<◌}
use native.Mathlib.Omega.{arith}
use native.Mathlib.Nat.{mul_comm}
use borrow.Author.Tests.{le-leb, lt-leb}
use lib.IntN.{ℤ, pos}
use lib.ListN.{length, take, drop, length-drop}
use lib.Seq.{take_all}
use Rattle.std.specs.Int.{div_ceil}
use mir.Syntax.{w32}
use mir.Val.{to_z}
use mir.Facts.{to_z_pos}
use Rattle.definitions.specs.Refusals.{input_too_long}
use Rattle.definitions.specs.Outcome.{return, refuse}
use Rattle.definitions.specs.Messages.{Distance, distance, SnapMsg, Snap, SnapEmpty, SnapSingle, num_parts, part_bytes, part_message, delta_chunks, nth_message, num_chunks_call, chunk_call}
use Rattle.laws.specs.Tests.{below}
use Rattle.laws.specs.CutLaws.{chunks-none, chunks-single, one_chunk, length-chunks, nth-chunk, nth_past}
use Rattle.delta_chunks.specs.Answers.{bytes_of}

-- no bytes are the empty list
no_bytes : (x : List ℕ) → length x ≡ 0 → x ≡ []
no_bytes [] e = refl
no_bytes (b ∷ x) e = absurd (omega arith)

-- how many parts there are
parts : (x : List ℕ) → div_ceil (length x) 900 ≡ num_parts x
parts x = let n = length x in omega arith

module _ (tick base : ℤ) (x : List ℕ) (crc : ℤ) where
  -- ---- more bytes than a call takes

  pub count-too-long : 1048576 < length x → num_chunks_call tick base x crc ≡ refuse input_too_long
  count-too-long h = rw (lt-leb (length x) 1048576 h)

  pub too_long : (i : ℕ) → 1048576 < length x → chunk_call tick base x crc i ≡ refuse input_too_long
  too_long i h = rw (lt-leb (length x) 1048576 h)

  pub too-long-bytes : (i : ℕ) → 1048576 < length x → [] ≡ bytes_of (chunk_call tick base x crc i)
  too-long-bytes i h = rw (too_long i h)

  module _ (h : length x ≤ 1048576) where
    -- ---- how many messages

    pub one-message : length x ≡ 0 → num_chunks_call tick base x crc ≡ return 1
    one-message e = rw (le-leb (length x) 1048576 h, one_chunk tick base x crc e)

    pub messages : (n : ℕ) → n ≡ div_ceil (length x) 900 → (length x ≡ 0 → ⊥) → num_chunks_call tick base x crc ≡ return n
    messages n e z = rw (le-leb (length x) 1048576 h, length-chunks tick base x crc (omega arith), e, parts x)

    -- ---- a message

    within : (i : ℕ) → chunk_call tick base x crc i ≡ return (nth_message (delta_chunks tick base x crc) i)
    within i = rw (le-leb (length x) 1048576 h)

    -- a message by its numbers
    told : (i : ℕ) (m n : SnapMsg) (b : List ℕ) → chunk_call tick base x crc i ≡ return (some (record { numbers = m; bytes = b })) → n ≡ m → chunk_call tick base x crc i ≡ return (some (record { numbers = n; bytes = bytes_of (chunk_call tick base x crc i) }))
    told i m n b e d = rw (e, d)

    is-empty : length x ≡ 0 → chunk_call tick base x crc 0 ≡ return (some (record { numbers = SnapEmpty tick (distance tick base); bytes = [] }))
    is-empty e = within 0 ∙ rw (chunks-none tick base x crc e)

    is-single : 0 < length x → length x ≤ 900 → chunk_call tick base x crc 0 ≡ return (some (record { numbers = SnapSingle tick (distance tick base) crc; bytes = x }))
    is-single l k = within 0 ∙ rw (chunks-single tick base x crc l k)

    is-part : (i : ℕ) → 900 < length x → i < num_parts x → chunk_call tick base x crc i ≡ return (some (part_message tick (distance tick base) x crc i))
    is-part i l k = within i ∙ ap return (nth-chunk tick base x crc i l k)

    -- after the only message
    pub no_second : (i : ℕ) → length x ≤ 900 → (i ≡ 0 → ⊥) → chunk_call tick base x crc i ≡ return none
    no_second i k z = within i ∙ ap return (past i k (omega arith))
      where
        past : (j : ℕ) → length x ≤ 900 → 1 ≤ j → nth_message (delta_chunks tick base x crc) j ≡ none
        past j k l = nth_past (delta_chunks tick base x crc) j (omega (arith, few))
          where
            few : length (delta_chunks tick base x crc) ≤ 1
            few = ⊎_elim
                (λ (z : length x < 1). omega (arith, one_chunk tick base x crc (omega arith)))
                (λ (z : 1 ≤ length x). omega (arith, length-chunks tick base x crc z))
                (below (length x) 1)

    -- after the last part
    pub no_part : (n : ℕ) → n ≡ div_ceil (length x) 900 → (i : ℕ) → 900 < length x → n ≤ i → chunk_call tick base x crc i ≡ return none
    no_part n e i l k =
        within i
        ∙ ap return (nth_past (delta_chunks tick base x crc) i (omega (arith, e ∙ parts x, length-chunks tick base x crc (omega arith))))

    -- ---- its numbers

    pub empty-told : (i : ℕ) (d : Distance) → length x ≡ 0 → i ≡ 0 → d ≡ distance tick base → chunk_call tick base x crc i ≡ return (some (record { numbers = SnapEmpty tick d; bytes = bytes_of (chunk_call tick base x crc i) }))
    empty-told i d e z q = rw z (told 0 (SnapEmpty tick (distance tick base)) (SnapEmpty tick d) [] (is-empty e) (rw q))

    pub single-told : (i : ℕ) (d : Distance) (s : ℤ) → (length x ≡ 0 → ⊥) → length x ≤ 900 → i ≡ 0 → d ≡ distance tick base → s ≡ crc → chunk_call tick base x crc i ≡ return (some (record { numbers = SnapSingle tick d s; bytes = bytes_of (chunk_call tick base x crc i) }))
    single-told i d s e l z q r =
        rw z (told 0 (SnapSingle tick (distance tick base) crc) (SnapSingle tick d s) x (is-single (omega arith) l) (rw (q, r)))

    pub part-told : (n : ℕ) → n ≡ div_ceil (length x) 900 → (i : ℕ) (d : Distance) (s : ℤ) → 900 < length x → i < n → d ≡ distance tick base → s ≡ crc → chunk_call tick base x crc i ≡ return (some (record { numbers = Snap tick d (to_z w32 n) (to_z w32 i) s; bytes = bytes_of (chunk_call tick base x crc i) }))
    part-told n is i d s l k q r =
        let e : n ≡ num_parts x = is ∙ parts x in
        let t : to_z w32 n ≡ pos (num_parts x) = ap (to_z w32) e ∙ to_z_pos w32 (omega arith) in
        let m : to_z w32 i ≡ pos i = to_z_pos w32 (omega arith) in
        told i (Snap tick (distance tick base) (pos (num_parts x)) (pos i) crc) (Snap tick d (to_z w32 n) (to_z w32 i) s) (part_bytes x i) (is-part i l (omega arith)) (rw (q, r, t, m))

    -- ---- its bytes

    pub whole : (i : ℕ) → length x ≤ 900 → i ≡ 0 → x ≡ bytes_of (chunk_call tick base x crc i)
    whole i l z = rw z (⊎_elim
        (λ (k : length x < 1). no_bytes x (omega arith) ∙ sym (ap bytes_of (is-empty (omega arith))))
        (λ (k : 1 ≤ length x). sym (ap bytes_of (is-single k l)))
        (below (length x) 1))

    pub second : (i : ℕ) → length x ≤ 900 → (i ≡ 0 → ⊥) → [] ≡ bytes_of (chunk_call tick base x crc i)
    second i l z = sym (ap bytes_of (no_second i l z))

    pub behind : (n : ℕ) → n ≡ div_ceil (length x) 900 → (i : ℕ) → 900 < length x → n ≤ i → [] ≡ bytes_of (chunk_call tick base x crc i)
    behind n e i l k = sym (ap bytes_of (no_part n e i l k))

    module _ (n : ℕ) (e : n ≡ div_ceil (length x) 900) (i : ℕ) (l : 900 < length x) (k : i < n) where
      part-is : part_bytes x i ≡ bytes_of (chunk_call tick base x crc i)
      part-is = sym (ap bytes_of (is-part i l (omega (arith, e ∙ parts x))))

      -- the last part
      pub last : length x - i * 900 ≤ 900 → take (length x - i * 900) (drop (i * 900) x) ≡ bytes_of (chunk_call tick base x crc i)
      last e =
          rw (mul_comm i 900) (take_all (length x - 900 * i) (drop (900 * i) x) (rw length-drop (omega arith))
          ∙ sym (take_all 900 (drop (900 * i) x) (rw length-drop (omega arith))))
          ∙ part-is

      -- a part before it
      pub full : take (i * 900 + 900 - i * 900) (drop (i * 900) x) ≡ bytes_of (chunk_call tick base x crc i)
      full =
          let e : i * 900 + 900 - i * 900 ≡ 900 = omega arith in
          rw (e, mul_comm i 900) part-is
