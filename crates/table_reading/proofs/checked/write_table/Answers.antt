-- `checked::write_table` meets its contract: header, offsets and items, in this order. Assumes nothing.
use mathlib.Core.Path.{sym, ◌∙◌}
use native.Mathlib.Omega.{arith}
use Rattle.table_reading.proofs.Laying.{small, table-laid}
use Rattle.table_reading.proofs.checked.write_table.Goals as goal

pub put-requires : goal.put-requires
put-requires c = let p = c.requires in (omega (arith, p.1), omega (arith, small _ _ _ _ p.0))

pub returns : goal.returns
returns c =
    let p = c.requires in
    let out = c.args.out.now in
    c.write_items.ensures
    ∙ rw (c.write_offsets.ensures, c.put-2.ensures, c.put.ensures)
    (sym (table-laid _ _ _ _ p.0 out (omega (arith, p.1))))
