-- `delta_chunks::num_chunks` meets its contract: by the length of the bytes. Assumes nothing.
use Rattle.std.proofs.Common.{sym, ◌∙◌}
use borrow.Author.Tests.{eqb-true, eqb-false}
use Rattle.delta_chunks.proofs.Cuts.{count-too-long, one-message, messages}
use Rattle.delta_chunks.proofs.num_chunks.Goals as goal

pub returns-then-data-gt-MAX_DATA : goal.returns-then-data-gt-MAX_DATA
returns-then-data-gt-MAX_DATA c tick base crc = count-too-long tick base c.args.«data».now crc c.if-data-gt-MAX_DATA.true

pub returns-then-is_empty : goal.returns-then-is_empty
returns-then-is_empty c tick base crc = one-message tick base c.args.«data».now crc c.if-data-gt-MAX_DATA.false (eqb-true _ 0 (sym c.is_empty.ensures ∙ c.if-is_empty.true))

pub returns : goal.returns
returns c tick base crc = messages tick base c.args.«data».now crc c.if-data-gt-MAX_DATA.false _ c.div_ceil.ensures (eqb-false _ 0 (sym c.is_empty.ensures ∙ c.if-is_empty.false))
