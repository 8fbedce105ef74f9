-- `checked::walk_start` meets its contract: the keys that are not negative come first. Assumes nothing.
use Rattle.std.proofs.Common.{rules, ◌^◌, w32, to_z-of_z}
use Rattle.definitions.specs.Ints.{bits}
use Rattle.definitions.specs.Tables.{key_at}
use Rattle.table.proofs.Places.{falls, placed}
use Rattle.table.proofs.checked.walk_start.Goals as goal

pub returns : goal.returns
unfolding key_at bits
returns c =
    let f = c.first_not.ensures in
    placed _ _ c.requires _ _ f.within (f.parted _ (record { told = λ i b l w. search (rules, to_z-of_z {w = w32}) }) (falls _ _ c.requires (2 ^ 31)))
