-- `table_text::listing` meets its contract, by the result of reading the bytes. Assumes nothing.
use Rattle.table_text.proofs.Texts.{listed, told}
use Rattle.table_text.proofs.listing.Goals as goal

pub returns-in-Ok : goal.returns-in-Ok
returns-in-Ok c =
    let it = told _ _ (listed _ c.in-Ok.ensures) c.put_table.ensures in
    record { out_value = it.0; prefix_len = it.1 }

pub returns-in-Err : goal.returns-in-Err
returns-in-Err c =
    let it = told _ _ (listed _ c.in-Err.ensures) c.put_refusal.ensures in
    record { out_value = it.0; prefix_len = it.1 }
