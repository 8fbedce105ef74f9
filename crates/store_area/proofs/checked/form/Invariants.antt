-- `checked::form` meets its contract. The loop's invariant: the tables passed are before those that are found from here on. Assumes nothing.
use Rattle.store_area.proofs.Forms.{Walked}
use Rattle.store_area.proofs.checked.form.Given as goal

abbrev pub invariant-loop : goal.invariant-loop
invariant-loop l = Walked l.area l.count l.counter l.p
