-- `checked::all_ordinal` meets its contract: all keys are between the first and the last. Assumes nothing.
use Prim.Native.Nat.{◌-◌}
use mathlib.Core.Path.{◌≡◌, ap, ◌∙◌}
use native.Mathlib.Omega.{arith}
use borrow.Author.Tests.{ltb-true}
use mir.Facts.{to_z-of_z}
use Rattle.definitions.specs.Ints.{bits}
use Rattle.definitions.specs.Tables.{key_at}
use Rattle.types.proofs.Ordinals.{ordinals-sound}
use Rattle.std.proofs.Common.{w32}
use Rattle.types.proofs.checked.all_ordinal.Goals as goal

pub returns-then-n-eq0 : goal.returns-then-n-eq0
returns-then-n-eq0 c e =
    let s = c in
    ordinals-sound s.args.area.now s.args.n s.requires (λ l. absurd (omega (arith, l, c.if-n-eq0.true))) (λ l. absurd (omega (arith, l, c.if-n-eq0.true)))

pub returns : goal.returns
returns c e =
    let f = c in
    let s = c in
    let first : f.to_bits.result ≡ key_at s.args.area.now 0 = f.to_bits.ensures ∙ ap bits (to_z-of_z {w = w32} (record { sfits = f.key_at.type_inv })) ∙ f.key_at.ensures in
    let last : c.to_bits-2.result ≡ key_at s.args.area.now (s.args.n - 1) = c.to_bits-2.ensures ∙ ap bits (to_z-of_z {w = w32} (record { sfits = c.key_at-2.type_inv })) ∙ c.key_at-2.ensures in
    ordinals-sound s.args.area.now s.args.n s.requires (λ l. omega (arith, first, c.if-to_bits-lt65536.false)) (λ l. omega (arith, last, ltb-true c.to_bits-2.result 1073741824 e))
