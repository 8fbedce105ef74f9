-- `checked::put_bytes` meets its contract: the block begins with the bytes. Assumes nothing.
use mathlib.Core.Path.{◌≡◌, ap, ◌∙◌}
use mathlib.Core.List.{List}
use Prim.Native.Nat.{ℕ}
use lib.ListN.{length, take}
use Rattle.definitions.specs.Areas.{lay_at}
use Rattle.receiver.proofs.Parts.{through}
use Rattle.receiver.proofs.checked.put_bytes.Goals as goal
use Rattle.receiver.proofs.checked.put_bytes.Lts as lts
use Rattle.receiver.proofs.checked.put_bytes.Tie as tie
use Rattle.receiver.proofs.checked.put_bytes.Reads as reads

abbrev After-block-2-1 : Type 0
After-block-2-1 = lts.After-block2 tie.the-claims reads.Pre reads.Post

-- what the block begins with
block : (c : After-block-2-1) → let s = c.before.before.before.before.before in take (length s.args.xs.now) c.copy_bytes.new.out ≡ s.args.xs.now
block c = let s = c in through _ _ s.args.xs.now s.requires.0 c.copy_bytes.ensures

pub returns : goal.returns
returns c =
    let a = c.args in
    c.copy_bytes-2.ensures ∙ ap (λ (l : List ℕ). lay_at a.at l a.out.now) (block c.before.before.before.before.before.before)
