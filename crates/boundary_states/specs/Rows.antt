-- A receiver and a store in rows of numbers. Assumes nothing.
use Rattle.std.specs.Prelude.{◌≡◌, Bool, true, List, [], ◌∷◌, ℕ, ℤ, pos, get_or}
use Rattle.std.proofs.Math.Option.{Option, some, none}
use Rattle.definitions.specs.Receiver.{Current, Receiver}
use Rattle.definitions.specs.Storage.{Store}
use Rattle.boundary.specs.Boundary.{given}

-- the receiver in its rows: last finished tick, unfinished tick, its base and its sum; whether there are such ticks, and the part count; the parts' lengths
abbrev pub held_receiver : List ℤ → List ℕ → List ℕ → Receiver
held_receiver ticks counts lengths =
    record {
      previous_tick = given (get_or counts 0 0) (get_or ticks 0 (pos 0));
      current =
          given (get_or counts 1 0)
          (record {
            tick = get_or ticks 1 (pos 0);
            delta_tick = get_or ticks 2 (pos 0);
            num_parts = get_or counts 2 0;
            crc = get_or ticks 3 (pos 0);
          });
      parts = lengths;
    }

-- the store in its rows: the tick acknowledged last and that of the base; the number of tables, and whether there are such ticks
abbrev pub held_store : List ℤ → List ℕ → Store
held_store ticks counts =
    record {
      count = get_or counts 0 0;
      ack_tick = given (get_or counts 1 0) (get_or ticks 0 (pos 0));
      delta_tick = given (get_or counts 2 0) (get_or ticks 1 (pos 0));
    }

-- ---- the rows of a state: 0 for what is absent, flags 0 or 1

-- a tick, 0 without one
abbrev pub tick_or_zero : Option ℤ → ℤ
tick_or_zero (some t) = t
tick_or_zero none = pos 0

-- an unfinished tick, zeros without one
abbrev pub current_or_zeros : Option Current → Current
current_or_zeros (some c) = c
current_or_zeros none = record { tick = pos 0; delta_tick = pos 0; num_parts = 0; crc = pos 0 }

-- 1 if something is present, else 0
module _ {A : Type 0} where
  abbrev pub is_there : Option A → ℕ
  is_there (some x) = 1
  is_there none = 0

-- the receiver's: the last finished tick, the unfinished one, its base and its sum
abbrev pub ticks_of_receiver : Receiver → List ℤ
ticks_of_receiver r =
    tick_or_zero r.previous_tick
    ∷ (current_or_zeros r.current).tick
    ∷ (current_or_zeros r.current).delta_tick
    ∷ (current_or_zeros r.current).crc
    ∷ []

-- whether there are such ticks, and the part count
abbrev pub counts_of_receiver : Receiver → List ℕ
counts_of_receiver r =
    is_there r.previous_tick ∷ is_there r.current ∷ (current_or_zeros r.current).num_parts ∷ []

-- the store's: the tick acknowledged last and that of the base
abbrev pub store_ticks : Store → List ℤ
store_ticks s = tick_or_zero s.ack_tick ∷ tick_or_zero s.delta_tick ∷ []

-- the number of tables, and whether there are such ticks
abbrev pub store_counts : Store → List ℕ
store_counts s = s.count ∷ is_there s.ack_tick ∷ is_there s.delta_tick ∷ []

-- ---- a call

-- whether two values are equal
pub record Compares {A : Type 0} (x y : A) (r : Bool) : Type 0 where
  pub same : r ≡ true → x ≡ y
  pub told : x ≡ y → r ≡ true

-- a receiver without the lengths of its parts
pub record Ticks : Type 0 where
  pub previous : Option ℤ
  pub current : Option Current

abbrev pub ticks_of : Receiver → Ticks
ticks_of r = record { previous = r.previous_tick; current = r.current }

-- a receiver's rows before and after a call: they hold it; its ticks' rows are unchanged if they held these ticks, else they are the receiver's
pub record SavedReceiver (r : Receiver) (ticks₀ : List ℤ) (counts₀ lengths₀ : List ℕ) (ticks : List ℤ) (counts lengths : List ℕ) : Type 0 where
  pub holds : held_receiver ticks counts lengths ≡ r
  pub left : ticks_of (held_receiver ticks₀ counts₀ lengths₀) ≡ ticks_of r → (ticks ≡ ticks₀) × (counts ≡ counts₀)
  pub written : (ticks_of (held_receiver ticks₀ counts₀ lengths₀) ≡ ticks_of r → ⊥) → (ticks ≡ ticks_of_receiver r) × (counts ≡ counts_of_receiver r)

-- the rows of a store before and after a call: they hold it, and are unchanged if they held it before, else they are the store's
pub record SavedStore (s : Store) (ticks₀ : List ℤ) (counts₀ : List ℕ) (ticks : List ℤ) (counts : List ℕ) : Type 0 where
  pub holds : held_store ticks counts ≡ s
  pub left : held_store ticks₀ counts₀ ≡ s → (ticks ≡ ticks₀) × (counts ≡ counts₀)
  pub written : (held_store ticks₀ counts₀ ≡ s → ⊥) → (ticks ≡ store_ticks s) × (counts ≡ store_counts s)
