-- What a store holds determines every field of it. Assumes nothing.
use Rattle.std.specs.Prelude.{◌≡◌}
use Rattle.std.proofs.Common.{ap}
use Rattle.definitions.specs.Storage as Store
use Rattle.ticks.specs.Ticks.{tick-settled}
use Rattle.storage.specs.States.{store_of}
use Rattle.storage.specs.declared.Storage.{Storage}

pub storage-settled : (a b : Storage) → store_of a ≡ store_of b → a ≡ b
storage-settled a b e =
    let n = ap (λ (s : Store.Store). s.count) e in
    let t = tick-settled a.ack_tick b.ack_tick (ap (λ (s : Store.Store). s.ack_tick) e) in
    let d = tick-settled a.delta_tick b.delta_tick (ap (λ (s : Store.Store). s.delta_tick) e) in
    same a b n t d
  where
    same : (a b : Storage) → a.count ≡ b.count → a.ack_tick ≡ b.ack_tick → a.delta_tick ≡ b.delta_tick → a ≡ b
    same a b n t d = rw (n, t, d)
