-- The steps of reading a table's header. Assumes nothing.
use Rattle.std.specs.Prelude.{◌≡◌, refl, List, ℕ, ◌+◌, ◌/◌, ◌%◌, ◌^◌, ◌<◌, ◌≤◌, ltb, leb, eqb, ℤ, pos, negsuc, length, get_or}
use Rattle.std.proofs.Common.{◌∙◌, arith, lt-ltb, le-ltb, le-leb, eq-eqb, ne_eqb}
use Rattle.std.proofs.Math.Path.{ap}
use Rattle.std.proofs.lemmas.Bool.{lt-leb}
use Rattle.std.specs.Int.Signed.{mag}
use Rattle.definitions.specs.Refusals.{unexpected_end, int_out_of_range, offsets_unpacking, invalid_offset, items_unpacking}
use Rattle.definitions.specs.Warnings.{ExcessSnapData}
use Rattle.definitions.specs.Outcome.{Outcome, return, refuse, require, warn_if, ◌>>=◌, ◌>>◌}
use Rattle.definitions.specs.Tables.{Table, num, nat}
use Rattle.definitions.specs.TableReading.{non_negative, header_int, read_items, read_table}
use Rattle.laws.specs.OutcomeLaws.{return-bind, after_none}

negative : (z : ℤ) → mag z < 2 ^ 31 → 2 ^ 32 ≤ num z → non_negative z ≡ refuse int_out_of_range
unfolding num
negative (pos n) m h = let y : ⊥ = omega arith in absurd y
negative (negsuc n) m h = refl

counted : (z : ℤ) → num z < 2 ^ 32 → non_negative z ≡ return (num z)
unfolding num
counted (pos n) h = refl
counted (negsuc n) h = let y : ⊥ = omega arith in absurd y

module _ (a : List ℤ) where
  header-end : (i : ℕ) → length a ≤ i → header_int a i ≡ refuse unexpected_end
  unfolding header_int
  header-end i h = rw (le-ltb i (length a) h)

  header-negative : (i : ℕ) → i < length a → mag (get_or a i (pos 0)) < 2 ^ 31 → 2 ^ 32 ≤ nat a i → header_int a i ≡ refuse int_out_of_range
  unfolding header_int nat
  header-negative i h m k = rw (lt-ltb i (length a) h) (negative (get_or a i (pos 0)) m k)

  header_is : (i : ℕ) → i < length a → nat a i < 2 ^ 32 → header_int a i ≡ return (nat a i)
  unfolding header_int nat
  header_is i h k = rw (lt-ltb i (length a) h) (counted (get_or a i (pos 0)) k)

  -- what is done with a header's two numbers
  abbrev tail : ℕ → ℕ → Outcome Table
  tail bytes n = do
    require (leb (2 + n) (length a)) offsets_unpacking
    require (eqb (bytes % 4) 0) invalid_offset
    require (leb (2 + n + bytes / 4) (length a)) items_unpacking
    warn_if (ltb (2 + n + bytes / 4) (length a)) ExcessSnapData
    read_items a n

  pub no_size : length a < 1 → read_table a ≡ refuse unexpected_end
  unfolding read_table
  no_size h = rw (header-end 0 (omega arith))

  pub negative-size : 0 < length a → mag (get_or a 0 (pos 0)) < 2 ^ 31 → 2 ^ 32 ≤ nat a 0 → read_table a ≡ refuse int_out_of_range
  unfolding read_table
  negative-size h m k = rw (header-negative 0 h m k)

  module _ (i : 0 < length a) (k : nat a 0 < 2 ^ 32) where
    sized : read_table a ≡ (header_int a 1 >>= (λ n. tail (nat a 0) n))
    unfolding read_table
    sized =
        ap (λ (o : Outcome ℕ). o >>= (λ bytes. header_int a 1 >>= (λ n. tail bytes n))) (header_is 0 i k)
        ∙ return-bind (nat a 0) (λ bytes. header_int a 1 >>= (λ n. tail bytes n))

    pub no-count : length a < 2 → read_table a ≡ refuse unexpected_end
    no-count h = sized ∙ rw (header-end 1 (omega arith))

    pub negative-count : 1 < length a → mag (get_or a 1 (pos 0)) < 2 ^ 31 → 2 ^ 32 ≤ nat a 1 → read_table a ≡ refuse int_out_of_range
    negative-count h m l = sized ∙ rw (header-negative 1 h m l)

    module _ (j : 1 < length a) (l : nat a 1 < 2 ^ 32) where
      both : read_table a ≡ tail (nat a 0) (nat a 1)
      both =
          sized
          ∙ ap (λ (o : Outcome ℕ). o >>= (λ n. tail (nat a 0) n)) (header_is 1 j l)
          ∙ return-bind (nat a 1) (λ n. tail (nat a 0) n)

      pub no-offsets : length a < 2 + nat a 1 → read_table a ≡ refuse offsets_unpacking
      no-offsets h = both ∙ rw (lt-leb (2 + nat a 1) (length a) h)

      module _ (h₁ : 2 + nat a 1 ≤ length a) where
        pub no_whole : (nat a 0 % 4 ≡ 0 → ⊥) → read_table a ≡ refuse invalid_offset
        no_whole h = both ∙ rw (le-leb (2 + nat a 1) (length a) h₁, ne_eqb (nat a 0 % 4) 0 h)

        module _ (h₂ : nat a 0 % 4 ≡ 0) where
          checked : read_table a ≡ (require (leb (2 + nat a 1 + nat a 0 / 4) (length a)) items_unpacking >> (warn_if (ltb (2 + nat a 1 + nat a 0 / 4) (length a)) ExcessSnapData >> read_items a (nat a 1)))
          checked = both ∙ rw (le-leb (2 + nat a 1) (length a) h₁, eq-eqb (nat a 0 % 4) 0 h₂) (after_none _ ∙ after_none _)

          pub no_items : length a < 2 + nat a 1 + nat a 0 / 4 → read_table a ≡ refuse items_unpacking
          no_items h = checked ∙ rw (lt-leb (2 + nat a 1 + nat a 0 / 4) (length a) h)

          pub header_read : 2 + nat a 1 + nat a 0 / 4 ≤ length a → read_table a ≡ (warn_if (ltb (2 + nat a 1 + nat a 0 / 4) (length a)) ExcessSnapData >> read_items a (nat a 1))
          header_read h = checked ∙ rw (le-leb (2 + nat a 1 + nat a 0 / 4) (length a) h) (after_none _)
