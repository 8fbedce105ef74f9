-- `checked::copy_bytes` meets its contract. Assumes nothing.
use Rattle.std.proofs.Common.{rules}
use Rattle.ints.proofs.Laid.{laid}
use Rattle.ints.proofs.checked.copy_bytes.Goals as goal

pub returns : goal.returns
returns c = search (rules, laid)
