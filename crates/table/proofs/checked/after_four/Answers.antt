-- `checked::after_four` meets its contract. Assumes nothing.
use Prim.Native.Nat.{◌+◌}
use native.Mathlib.Omega.{arith}
use Rattle.table.proofs.KeyLaws.{rising, still-none}
use Rattle.table.proofs.checked.after_four.Goals as goal

pub returns-then-half-eq4294967296 : goal.returns-then-half-eq4294967296
returns-then-half-eq4294967296 c =
    let s = c.before.before in
    still-none s.args.area.now (s.args.i + 2) (s.args.i + 4) _ (omega arith) (omega arith) c.after_two-half.ensures c.if-half-eq4294967296.true

pub after_two-requires : goal.after_two-requires
after_two-requires c =
    let s = c.before.before in
    (rising s.args.area.now s.args.n s.args.size s.args.i s.args.last s.requires.0 _ _ (omega arith) c.after_two-half.ensures c.if-half-eq4294967296.false, omega (arith, s.requires.1), s.requires.2)
