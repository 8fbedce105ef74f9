-- What is known about an area whose form was tested. Assumes nothing.
use Rattle.std.specs.Prelude.{◌≡◌, cond, Some, None, List, ℕ, ◌+◌, ◌/◌, ◌≤◌, ltb, ℤ, length}
use Rattle.std.specs.Prelude as Code
use Rattle.std.proofs.Math.Option.{Option, some, none}
use Rattle.definitions.specs.Tables.{Table, written, count, size, edge, values_at}
use Rattle.laws.specs.TableShape.{Shape}
use Rattle.table.specs.declared.checked.TableForm.{TableForm}

-- the answer of the form test
abbrev pub form_of : Option Table → Code.Option TableForm
form_of (some t) = Some (record { items = length t; ints = length (written t) })
form_of none = None

-- an area holds a table of n items
pub record Held (a : List ℤ) (n : ℕ) : Type 0 where
  pub count-is : n ≡ count a
  pub shape : Shape a

-- the first two ints passed their tests, and the first item's offset is 0
pub record Head (a : List ℤ) (n s : ℕ) : Type 0 where
  pub count-is : n ≡ count a
  pub size_is : s ≡ size a
  pub few : n ≤ 1024
  pub short : 2 + n + s / 4 ≤ 16384
  pub room : 2 + n + s / 4 ≤ length a
  pub first : edge a 0 ≡ 0

-- the data of item r of n, if there is one
abbrev pub data_in : List ℤ → ℕ → ℕ → Option (List ℤ)
data_in a n r = cond (ltb r n) (some (values_at a r)) none
