-- The worked examples in one table, proved for the definitions. Assumes nothing.
use Rattle.std.specs.Prelude.{◌≡◌, refl, List, [], ◌∷◌, ℕ, ◌+◌, ◌*◌, ℤ, pos, negsuc, length, take, drop}
use Rattle.std.proofs.Common.{ap, ◌∙◌, arith, le-ltb, le-leb, length-append, length-drop, take_all}
use Rattle.std.proofs.Math.Option.{some, none}
use Rattle.std.proofs.lemmas.Bool.{lt-leb}
use Rattle.definitions.specs.Ints.{bits, from_bits}
use Rattle.definitions.specs.Warnings.{OverlongIntEncoding, one}
use Rattle.definitions.specs.Refusals.{too_long_snap, too_many_items, invalid_offset, non_zero_int_padding}
use Rattle.definitions.specs.Outcome.{ok, return, refuse}
use Rattle.definitions.specs.Packed.{signed, more, read_int, write_more, write_int}
use Rattle.definitions.specs.Tables.{Item, Table, body, offsets, written, num, nat, edge, start, key_at, values_at, all, items, ends, lowest, fits, in_form, table_of, find, insert, list}
use Rattle.definitions.specs.TableReading.{header_int, read_items, read_table, add_item}
use Rattle.definitions.specs.Messages.{Message, Snap, SnapEmpty, SnapSingle, num_parts, delta_chunks, Distance, distance}
use Rattle.laws.specs.TableForm.{length-written}
use Rattle.laws.specs.CutLaws.{chunks-none, chunks-single, chunks-parts}

-- ---- terms of the cases

-- x is written as the bytes l, and l is read as x without a warning
pub record Packs (x : ℤ) (l : List ℕ) : Type 0 where
  pub written : write_int x ≡ l
  pub read : read_int l ≡ return (record { value = x; rest = [] })

-- an item
abbrev pub item : ℕ → List ℤ → Item
item k v = record { key = k; values = v }

-- n items without data, of the keys below n
unfoldable pub bare : ℕ → Table
bare n = list (λ k. item k []) n

-- the empty and the single message of some bytes, and one part of two
abbrev pub empty_message : ℤ → ℤ → Message
empty_message tick base = record { numbers = SnapEmpty tick (distance tick base); bytes = [] }

abbrev pub single_message : ℤ → ℤ → ℤ → List ℕ → Message
single_message tick base crc x = record { numbers = SnapSingle tick (distance tick base) crc; bytes = x }

abbrev pub of_two : ℤ → ℤ → ℤ → ℕ → List ℕ → Message
of_two tick base crc p x = record { numbers = Snap tick (distance tick base) (pos 2) (pos p) crc; bytes = x }

-- ---- the table

-- packed integers, where negsuc n is -1 - n; messages, whatever the bytes are; tables
pub record MarkedCases : Type 0 where
  pub case-0 : Packs (pos 0) (0x00 ∷ [])
  pub case-minus-1 : Packs (negsuc 0) (0x40 ∷ [])
  pub case-63 : Packs (pos 63) (0x3F ∷ [])
  pub case-64 : Packs (pos 64) (0x80 ∷ 0x01 ∷ [])
  pub case-minus-64 : Packs (negsuc 63) (0x7F ∷ [])
  pub case-minus-65 : Packs (negsuc 64) (0xC0 ∷ 0x01 ∷ [])
  pub case-greatest : Packs (pos 2147483647) (0xBF ∷ 0xFF ∷ 0xFF ∷ 0xFF ∷ 0x0F ∷ [])
  pub case-least : Packs (negsuc 2147483647) (0xFF ∷ 0xFF ∷ 0xFF ∷ 0xFF ∷ 0x0F ∷ [])
  pub overlong : read_int (0x80 ∷ 0x00 ∷ []) ≡ ok (record { value = pos 0; rest = [] }) (one OverlongIntEncoding)
  pub overlong-five : read_int (0x80 ∷ 0x80 ∷ 0x80 ∷ 0x80 ∷ 0x00 ∷ []) ≡ ok (record { value = pos 0; rest = [] }) (one OverlongIntEncoding)
  pub padding : read_int (0x80 ∷ 0x80 ∷ 0x80 ∷ 0x80 ∷ 0x10 ∷ []) ≡ refuse non_zero_int_padding
  pub bytes-0 : (tick base crc : ℤ) (x : List ℕ) → length x ≡ 0 → delta_chunks tick base x crc ≡ empty_message tick base ∷ []
  pub bytes-900 : (tick base crc : ℤ) (x : List ℕ) → length x ≡ 900 → delta_chunks tick base x crc ≡ single_message tick base crc x ∷ []
  pub bytes-901 : (tick base crc : ℤ) (x : List ℕ) → length x ≡ 901 → delta_chunks tick base x crc ≡ of_two tick base crc 0 (take 900 x) ∷ of_two tick base crc 1 (drop 900 x) ∷ []
  pub empty-table : read_table (pos 0 ∷ pos 0 ∷ []) ≡ return []
  pub not-all-items : read_table (pos 4 ∷ pos 0 ∷ pos 9 ∷ []) ≡ refuse invalid_offset
  pub items-1024 : add_item (item 1023 []) (bare 1023) ≡ return (bare 1024)
  pub held-1024 : table_of (written (bare 1024)) ≡ some (bare 1024)
  pub items-1025 : (i : Item) (t : Table) → length t ≡ 1024 → find i.key t ≡ none → add_item i t ≡ refuse too_many_items
  pub ints-16380 : (k : ℕ) (v : List ℤ) → length v ≡ 16380 → add_item (item k v) [] ≡ return (item k v ∷ [])
  pub ints-16381 : (k : ℕ) (v : List ℤ) → length v ≡ 16381 → add_item (item k v) [] ≡ refuse too_long_snap

-- ---- proof

-- an item alone takes four ints and its data
length-alone : (k : ℕ) (v : List ℤ) → length (written (item k v ∷ [])) ≡ 4 + length v
unfolding body
length-alone k v = omega (arith, length-written (item k v ∷ []), length-append v [])

-- two parts
in_two : (tick : ℤ) (d : Distance) (crc : ℤ) (x : List ℕ) (n : ℕ) → n ≡ 2 → take 900 (drop 900 x) ≡ drop 900 x → list {X = Message} (λ p. record { numbers = Snap tick d (pos n) (pos p) crc; bytes = take 900 (drop (900 * p) x) }) n ≡ record { numbers = Snap tick d (pos 2) (pos 0) crc; bytes = take 900 x } ∷ record { numbers = Snap tick d (pos 2) (pos 1) crc; bytes = drop 900 x } ∷ []
unfolding list
in_two tick d crc x n m e =
    rw m
    (ap (λ (y : List ℕ). record { numbers = Snap tick d (pos 2) (pos 0) crc; bytes = take 900 x } ∷ record { numbers = Snap tick d (pos 2) (pos 1) crc; bytes = y } ∷ []) e)

-- 901 bytes make two
parts-901 : (tick base crc : ℤ) (x : List ℕ) → length x ≡ 901 → delta_chunks tick base x crc ≡ of_two tick base crc 0 (take 900 x) ∷ of_two tick base crc 1 (drop 900 x) ∷ []
parts-901 tick base crc x n =
    let e : take 900 (drop 900 x) ≡ drop 900 x = take_all 900 (drop 900 x) (omega (arith, length-drop 900 x)) in
    let m : num_parts x ≡ 2 = omega arith in
    chunks-parts tick base x crc (omega arith) ∙ in_two tick (distance tick base) crc x (num_parts x) m e

pub marked-cases : MarkedCases
unfolding signed bits from_bits more read_int write_more write_int num nat edge start key_at values_at all items ends lowest fits in_form table_of body offsets written list bare read_table header_int read_items add_item find insert
marked-cases =
    record {
      case-0 = record { written = refl; read = refl };
      case-minus-1 = record { written = refl; read = refl };
      case-63 = record { written = refl; read = refl };
      case-64 = record { written = refl; read = refl };
      case-minus-64 = record { written = refl; read = refl };
      case-minus-65 = record { written = refl; read = refl };
      case-greatest = record { written = refl; read = refl };
      case-least = record { written = refl; read = refl };
      overlong = refl;
      overlong-five = refl;
      padding = refl;
      bytes-0 = λ tick base crc x n. chunks-none tick base x crc n;
      bytes-900 = λ tick base crc x n. chunks-single tick base x crc (omega arith) (omega arith);
      bytes-901 = parts-901;
      empty-table = refl;
      not-all-items = refl;
      items-1024 = refl;
      held-1024 = refl;
      items-1025 = λ i t n f. rw (f, le-ltb (length t) 1024 (omega arith)) refl;
      ints-16380 = λ k v n. rw (le-leb (length (written (item k v ∷ []))) 16384 (omega (arith, length-alone k v)));
      ints-16381 = λ k v n. rw (lt-leb (length (written (item k v ∷ []))) 16384 (omega (arith, length-alone k v)));
    }
