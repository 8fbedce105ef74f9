-- What is known of a store's area whose form was checked. Assumes nothing.
use Rattle.std.specs.Prelude.{◌≡◌, List, [], ◌∷◌, ℕ, ◌≤◌, ℤ, negsuc, length, get_or, take, Some, None}
use Rattle.std.proofs.Math.Option.{Option, some, none}
use Rattle.definitions.specs.Tables.{Table, num, written, table_of}
use Rattle.definitions.specs.Storage.{StoredSnap, exactly, snaps_of}
use Rattle.laws.specs.StoreForm.{Sounds, store_room, LaidIn}
use Rattle.std.specs.Prelude as Prelude

-- the answer of the form check
abbrev pub form_of : Option (List StoredSnap) → Prelude.Option ℕ
form_of (some l) = Some (store_room l)
form_of none = None

-- the table that ints begin with, after its tick and its int count
abbrev pub first_table : List ℤ → Option Table
first_table [] = none
first_table (tick ∷ []) = none
first_table (tick ∷ size ∷ a) = exactly (num size) (table_of (take (num size) a))

-- how many ints a table takes, or 0
abbrev pub size_of : Option Table → ℕ
size_of (some t) = length (written t)
size_of none = 0

-- the tables that were found
abbrev pub found : Option (List StoredSnap) → List StoredSnap
found (some l) = l
found none = []

-- the tables that an area with n of them holds
unfoldable pub snaps_in : ℕ → List ℤ → List StoredSnap
snaps_in n a = found (snaps_of n a)

-- the empty table, of tick -1
abbrev pub no_snap : StoredSnap
no_snap = record { tick = negsuc 0; snap = [] }

-- the i-th table
abbrev pub snap_at : List StoredSnap → ℕ → StoredSnap
snap_at l i = get_or l i no_snap

-- an area is these tables laid out
pub record Stands (a : List ℤ) (l : List StoredSnap) : Type 0 where
  pub sounds : Sounds l
  pub room : store_room l ≤ length a
  pub area-is : LaidIn (length a) l a

-- an area holds n tables
pub record HeldStore (a : List ℤ) (n : ℕ) : Type 0 where
  pub many : length (snaps_in n a) ≡ n
  pub stands : Stands a (snaps_in n a)

-- an area is as long as it was and now holds n tables, which take k ints
pub record Leaves (a : List ℤ) (l : List StoredSnap) (n k : ℕ) (out : List ℤ) : Type 0 where
  pub held : HeldStore out n
  pub snaps-are : snaps_in n out ≡ l
  pub ints-are : k ≡ store_room (snaps_in n out)
  pub same_length : length out ≡ length a

-- where the i-th table begins
abbrev pub place_of : List StoredSnap → ℕ → ℕ
place_of l i = store_room (take i l)
