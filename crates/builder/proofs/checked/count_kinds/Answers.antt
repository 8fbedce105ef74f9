use native.Mathlib.Omega.{arith}
use mathlib.Core.Path.{◌≡◌, sym, ap, ◌∙◌}
use lib.IntN.{ℤ}
use lib.ListN.{length}
use mir.Facts.{to_z-of_z}
use Rattle.definitions.specs.Ints.{bits}
use Rattle.definitions.specs.Tables.{key_at}
use Rattle.builder.proofs.Counting.{left-start, all-run, ended, wrong-id, wrong-length, one_more}
use Rattle.std.proofs.Common.{w32}
use Rattle.builder.proofs.checked.count_kinds.Goals as goal

pub loop-j-init : goal.loop-j-init
loop-j-init c = left-start _ _ c.requires

pub returns-then-key-ge65536 : goal.returns-then-key-ge65536
returns-then-key-ge65536 c =
    let l = c.loop-j in
    let key-is : c.to_bits-key.result ≡ key_at c.args.area.now c.loop-j.j = c.to_bits-key.ensures ∙ ap bits (to_z-of_z {w = w32} (record { sfits = c.key_at.type_inv })) ∙ c.key_at.ensures in
    ended _ _ c.requires l.j l.invariant c.loop-j-test.true (omega (arith, key-is))

pub returns-then-key-j : goal.returns-then-key-j
returns-then-key-j c =
    let l = c.loop-j in
    let key-is : c.to_bits-key.result ≡ key_at c.args.area.now c.loop-j.j = c.to_bits-key.ensures ∙ ap bits (to_z-of_z {w = w32} (record { sfits = c.key_at.type_inv })) ∙ c.key_at.ensures in
    wrong-id _ _ c.requires l.j l.invariant c.loop-j-test.true (omega (arith, key-is, c.if-key-ge65536.false)) (λ e. c.if-key-j.true (key-is ∙ e))

pub returns-then-data_at-ne4 : goal.returns-then-data_at-ne4
returns-then-data_at-ne4 c =
    let l = c.loop-j in
    let key-is : c.to_bits-key.result ≡ key_at c.args.area.now c.loop-j.j = c.to_bits-key.ensures ∙ ap bits (to_z-of_z {w = w32} (record { sfits = c.key_at.type_inv })) ∙ c.key_at.ensures in
    wrong-length _ _ c.requires l.j l.invariant c.loop-j-test.true (omega (arith, key-is, c.if-key-ge65536.false)) (sym key-is ∙ c.if-key-j.false) (λ e. c.if-data_at-ne4.true (ap (length {A = ℤ}) c.data_at.ensures ∙ e))

pub loop-j-preserved : goal.loop-j-preserved
loop-j-preserved c =
    let l = c.loop-j in
    let key-is : c.to_bits-key.result ≡ key_at c.args.area.now c.loop-j.j = c.to_bits-key.ensures ∙ ap bits (to_z-of_z {w = w32} (record { sfits = c.key_at.type_inv })) ∙ c.key_at.ensures in
    one_more _ _ c.requires l.j l.invariant c.loop-j-test.true (omega (arith, key-is, c.if-key-ge65536.false)) (sym key-is ∙ c.if-key-j.false) (sym (ap (length {A = ℤ}) c.data_at.ensures) ∙ c.if-data_at-ne4.false)

pub returns : goal.returns
returns c =
    let l = c.loop-j in
    all-run _ _ c.requires l.j l.invariant c.loop-j-test.false
