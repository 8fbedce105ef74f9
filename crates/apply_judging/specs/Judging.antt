-- What is known of a delta's deleted keys, and what the code's judgement means. Assumes nothing.
use Rattle.std.specs.Prelude.{ℕ, ◌+◌, ◌<◌, ◌≤◌, List, ℤ, length, Result, Ok, Err}
use Rattle.definitions.specs.Tables.{list}
use Rattle.definitions.specs.Deltas.{deleted_at}
use Rattle.laws.specs.DeltaShape.{DeletedKey}
use Rattle.laws.specs.ApplyJudging as laws
use Rattle.format.specs.Numbers.{number}
use Rattle.format.specs.declared.Error.{Error}
use Rattle.apply_judging.specs.declared.checked.Fine.{Fine}

-- the first k deleted keys of ints that have so many
abbrev pub deleted_of : List ℤ → ℕ → List ℕ
deleted_of d k = list (deleted_at d) k

-- the ints begin with a delta's header and k deleted keys that rise in signed order
pub record DeletedKeys (d : List ℤ) (k : ℕ) : Type 0 where
  pub room : 3 + k ≤ length d
  pub keys : (i : ℕ) → i < k → DeletedKey d i

-- the refusal's number, or the sizes
abbrev pub judged_of : Result Fine Error → laws.Judged
judged_of (Ok f) = laws.good f.items f.ints
judged_of (Err e) = laws.bad (number e)

-- the sizes are within the limits
abbrev pub Within : Result Fine Error → Type 0
Within (Ok f) = (f.items ≤ 1024) × (f.ints ≤ 16384)
Within (Err e) = Unit {0}
