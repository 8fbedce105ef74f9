-- What a receiver holds determines every field of it. Assumes nothing.
use Rattle.std.specs.Prelude.{◌≡◌, refl, ℕ, Option, Some, None}
use Rattle.std.proofs.Common.{ap, arith}
use Rattle.definitions.specs.Receiver as Receiver
use Rattle.ticks.specs.Ticks.{tick-settled}
use Rattle.receiver.specs.States.{current_in, current_of, receiver_of}
use Rattle.receiver.specs.declared.CurrentDelta.{CurrentDelta}
use Rattle.receiver.specs.declared.DeltaReceiver.{DeltaReceiver}

opened-settled : (a b : CurrentDelta) → current_in a ≡ current_in b → a ≡ b
opened-settled a b e =
    ap (λ (c : Receiver.Current). record { tick = record { 0 = c.tick }; delta_tick = record { 0 = c.delta_tick }; num_parts = c.num_parts; crc = c.crc }) e

current-settled : (a b : Option CurrentDelta) → current_of a ≡ current_of b → a ≡ b
current-settled (Some c) (Some d) e =
    let q : current_in c ≡ current_in d = cc in
    ap Some (opened-settled c d q)
current-settled None None e = refl
current-settled (Some c) None e = let z : ◌≡◌ {A = ℕ} 0 1 = cc in absurd (omega arith)
current-settled None (Some d) e = let z : ◌≡◌ {A = ℕ} 0 1 = cc in absurd (omega arith)

pub receiver-settled : (a b : DeltaReceiver) → receiver_of a ≡ receiver_of b → a ≡ b
receiver-settled a b e =
    let p = tick-settled a.previous_tick b.previous_tick (ap (λ (r : Receiver.Receiver). r.previous_tick) e) in
    let c = current-settled a.current b.current (ap (λ (r : Receiver.Receiver). r.current) e) in
    let l = ap (λ (r : Receiver.Receiver). r.parts) e in
    same a b p c l
  where
    same : (a b : DeltaReceiver) → a.previous_tick ≡ b.previous_tick → a.current ≡ b.current → a.parts ≡ b.parts → a ≡ b
    same a b p c l = rw (p, c, l)
