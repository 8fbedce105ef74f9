-- `checked::apply` meets its contract: one law for each answer. Assumes nothing.
use mathlib.Core.Path.{◌≡◌, sym, ap, ◌∙◌}
use mathlib.Core.List.{List}
use Prim.Native.Nat.{ℕ}
use lib.IntN.{ℤ}
use Rattle.definitions.specs.Outcome.{Wrote}
use Rattle.applying.specs.Answers.{applied_ints}
use Rattle.applying.specs.declared.checked.Applied.{Applied}
use Rattle.applying.proofs.Answers.{is-refused, is-short, is-done}
use Rattle.applying.proofs.checked.apply.Goals as goal

-- an answer beside what the area holds
told : (out : List ℤ) {r s : Applied} {w : Wrote ℕ ℤ} → r ≡ s → w ≡ record { answer = applied_ints s; out = out } → w ≡ record { answer = applied_ints r; out = out }
told out e f = f ∙ ap (λ (r : Applied). record { answer = applied_ints r; out = out }) (sym e)

pub returns-then-out-fine : goal.returns-then-out-fine
returns-then-out-fine c =
    told c.args.out.now c.refused-then-out-fine.ensures
    (is-short c.args.base.now c.args.nb c.requires.0 c.args.delta.now c.args.deleted c.args.updated c.requires.1 c.args.out.now _ c.judge-all.ensures.0 _ c.judge-all.ensures.2 _ c.in-Ok.is c.if-out-fine.true)

pub returns-in-Err : goal.returns-in-Err
returns-in-Err c =
    told c.args.out.now c.refused.ensures
    (is-refused c.args.base.now c.args.nb c.requires.0 c.args.delta.now c.args.deleted c.args.updated c.requires.1 c.args.out.now _ c.judge-all.ensures.0 _ c.judge-all.ensures.2 _ c.in-Err.is)

pub returns-else-out-fine : goal.returns-else-out-fine
returns-else-out-fine c =
    is-done c.args.base.now c.args.nb c.requires.0 c.args.delta.now c.args.deleted c.args.updated c.requires.1 c.args.out.now _ c.judge-all.ensures.0 _ c.judge-all.ensures.2 _ c.in-Ok.is _ c.if-out-fine.false c.write_table.ensures
