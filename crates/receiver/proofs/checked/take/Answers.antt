-- `checked::take` meets its contract: by whether the part is in. Assumes nothing.
use mathlib.Core.Path.{◌≡◌, sym, ap, ◌∙◌}
use mathlib.Core.Bool.{false}
use mathlib.Core.List.{List}
use Prim.Native.Nat.{ℕ}
use borrow.Author.Rules.{rules}
use Rattle.definitions.specs.Receiver as Receiver
use Rattle.format.specs.Totals.{counts}
use Rattle.format.specs.Sources.{flagged}
use Rattle.receiver.specs.States.{current_in, part_of}
use Rattle.receiver.proofs.Parts.{counts_with}
use Rattle.receiver.proofs.Opening.{twice, goes_in}
use Rattle.receiver.proofs.checked.take.Goals as goal
use Rattle.receiver.proofs.checked.take.Lts as lts
use Rattle.receiver.proofs.checked.take.Tie as tie
use Rattle.receiver.proofs.checked.take.Reads as reads

abbrev After-received-w : Type 0
After-received-w = lts.After-received tie.the-claims reads.Pre reads.Post tie.handed_clauses

-- the warning
told : (c : After-received-w) → counts c.received-w.result ≡ flagged false (Receiver.differs (current_in c.opened-o.result) (part_of c.args.m))
told c = c.received-w.ensures ∙ ap (flagged false) c.differs.ensures

pub returns-then-is_in : goal.returns-then-is_in
returns-then-is_in c =
    let a = c.args in
    twice a.r a.m a.p a.lengths.now a.«data».now a.parts.now a.joined.now _ (c.is_current-current.ensures a.lengths.now) c.opened-o.result c.received-w.result c.opened-o.ensures (told c.before.before.before.before.before) (sym c.is_in.ensures ∙ c.if-is_in.true)

pub put_part-requires : goal.put_part-requires
put_part-requires c =
    let s = c in
    let a = s.args in
    let p = s.requires.num_parts_bound in (
      counts_with c.is_current-current.result a.lengths.now a.p _ a.n _ c.is_in-arg-2-1.given p.1 p.2 (sym c.is_in.ensures ∙ c.if-is_in.false) s.requires.n_value.0 c.count_with-n.ensures
          ∙ ap (λ (l : List ℕ). Receiver.count_in l 32) (sym c.put_length.ensures),
      search rules,
      search rules,
    )

pub returns : goal.returns
returns c =
    let a = c.args in
    goes_in a.r a.m a.p a.lengths.now a.«data».now a.parts.now a.joined.now _ (c.is_current-current.ensures a.lengths.now) c.opened-o.result c.received-w.result c.opened-o.ensures (told c.before.before.before.before.before.before.before.before.before.before.before.before.before.before.before.before.before) _ _ _ (sym c.is_in.ensures ∙ c.if-is_in.false) c.put_length.ensures c.put_bytes.ensures c.put_part.ensures
