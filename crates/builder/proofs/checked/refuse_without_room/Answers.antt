-- `checked::refuse_without_room` meets its contract: one lemma for each refusal. Assumes nothing.
use Rattle.builder.proofs.Refusing.{refused-9, refused-8, refused-40}
use Rattle.builder.proofs.checked.refuse_without_room.Goals as goal

pub returns-then-n-ge1024 : goal.returns-then-n-ge1024
returns-then-n-ge1024 c = λ a t i h. refused-9 a t i _ _ _ h c.if-n-ge1024.true

pub returns-then-ints-data-gt16384 : goal.returns-then-ints-data-gt16384
returns-then-ints-data-gt16384 c = λ a t i h. refused-8 a t i _ _ _ h c.if-n-ge1024.false c.if-ints-data-gt16384.true

pub returns : goal.returns
returns c = λ a t i h. refused-40 a t i _ _ _ h c.if-n-ge1024.false c.if-ints-data-gt16384.false
