-- The rows of a state hold it, and equal those of an equal state. Assumes nothing.
use Rattle.std.specs.Prelude.{◌≡◌, refl, List, ℕ, ℤ}
use Rattle.std.proofs.Common.{ap, ◌∙◌}
use Rattle.std.proofs.Math.Option.{Option, some, none}
use Rattle.definitions.specs.Receiver.{Current, Receiver}
use Rattle.definitions.specs.Storage.{Store}
use Rattle.boundary.specs.Boundary.{given}
use Rattle.boundary_states.specs.Rows.{tick_or_zero, current_or_zeros, is_there, ticks_of_receiver, counts_of_receiver, store_ticks, store_counts, held_receiver, held_store}

tick-held : (o : Option ℤ) → given (is_there o) (tick_or_zero o) ≡ o
tick-held (some t) = refl
tick-held none = refl

current-held : (o : Option Current) → given (is_there o) (record { tick = (current_or_zeros o).tick; delta_tick = (current_or_zeros o).delta_tick; num_parts = (current_or_zeros o).num_parts; crc = (current_or_zeros o).crc }) ≡ o
current-held (some c) = refl
current-held none = refl

pub receiver-held : (r : Receiver) → held_receiver (ticks_of_receiver r) (counts_of_receiver r) r.parts ≡ r
receiver-held r = rw (tick-held r.previous_tick, current-held r.current)

pub store-held : (s : Store) → held_store (store_ticks s) (store_counts s) ≡ s
store-held s = rw (tick-held s.ack_tick, tick-held s.delta_tick)

-- the rows of a state hold it
pub receiver-rows : (r : Receiver) {ticks : List ℤ} {counts lengths : List ℕ} → ticks ≡ ticks_of_receiver r → counts ≡ counts_of_receiver r → lengths ≡ r.parts → held_receiver ticks counts lengths ≡ r
receiver-rows r p q l = rw (p, q, l) (receiver-held r)

pub store-rows : (s : Store) {ticks : List ℤ} {counts : List ℕ} → ticks ≡ store_ticks s → counts ≡ store_counts s → held_store ticks counts ≡ s
store-rows s p q = rw (p, q) (store-held s)

-- ---- for an equal state

module _ {r f : Receiver} {ticks : List ℤ} {counts lengths : List ℕ} (e : r ≡ f) where
  pub receiver-told : (ticks ≡ ticks_of_receiver r) × ((counts ≡ counts_of_receiver r) × (lengths ≡ r.parts)) → (ticks ≡ ticks_of_receiver f) × ((counts ≡ counts_of_receiver f) × (lengths ≡ f.parts))
  receiver-told h =
      (h.0 ∙ ap ticks_of_receiver e, (h.1.0 ∙ ap counts_of_receiver e, h.1.1 ∙ ap (λ (x : Receiver). x.parts) e))

module _ {s f : Store} {ticks : List ℤ} {counts : List ℕ} (e : s ≡ f) where
  pub store_told : (ticks ≡ store_ticks s) × (counts ≡ store_counts s) → (ticks ≡ store_ticks f) × (counts ≡ store_counts f)
  store_told h = (h.0 ∙ ap store_ticks e, h.1 ∙ ap store_counts e)
