-- What the store of the code holds. Assumes nothing.
use Rattle.std.proofs.Math.Option.{Option}
use Rattle.std.specs.Prelude.{ℤ}
use Rattle.definitions.specs.Storage as Store
use Rattle.ticks.specs.Ticks.{tick_of}
use Rattle.storage.specs.declared.Storage.{Storage}

-- the tick acknowledged last, if any
abbrev pub ack_of : Storage → Option ℤ
ack_of s = tick_of s.ack_tick

-- the tick of the base that is set, if any
abbrev pub delta_of : Storage → Option ℤ
delta_of s = tick_of s.delta_tick

-- what is held beside the area
abbrev pub store_of : Storage → Store.Store
store_of s = record { count = s.count; ack_tick = ack_of s; delta_tick = delta_of s }
