-- `checked::form` meets its contract: by the count of tables, and then by the area. Assumes nothing.
use Rattle.store_area.specs.Stores.{too_many, by-area}
use Rattle.storage.specs.States.{store_of}
use Rattle.storage.proofs.checked.form.Goals as goal

pub returns-then-s-gt-MAX_STORED_SNAPSHOT : goal.returns-then-s-gt-MAX_STORED_SNAPSHOT
returns-then-s-gt-MAX_STORED_SNAPSHOT c =
    let s = c.args in
    too_many (store_of s.s) s.area.now c.if-s-gt-MAX_STORED_SNAPSHOT.true

pub returns : goal.returns
returns c =
    let s = c.args in
    by-area (store_of s.s) s.area.now _ c.if-s-gt-MAX_STORED_SNAPSHOT.false c.form.ensures
