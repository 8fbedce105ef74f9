-- A type in three parameters, and what the outputs of a call on types hold. Assumes nothing.
use Rattle.std.specs.Prelude.{List, [], ◌∷◌, ℕ, zero, suc, ℤ, pos, get_or}
use Rattle.std.proofs.Math.Option.{Option, some, none}
use Rattle.definitions.specs.Types.{TypeId, Ordinal, Uuid}

-- the number if the flag is 0, else the kind of four ints
abbrev pub type_in : ℕ → ℕ → List ℤ → TypeId
type_in zero ordinal uuid = Ordinal ordinal
type_in (suc n) ordinal uuid =
    Uuid (get_or uuid 0 (pos 0) ∷ get_or uuid 1 (pos 0) ∷ get_or uuid 2 (pos 0) ∷ get_or uuid 3 (pos 0) ∷ [])

-- ---- a raw type

-- 1 if there is one, else 0
abbrev pub is_known : Option ℕ → ℕ
is_known (some n) = 1
is_known none = 0

-- the raw type, or the previous content
abbrev pub raw_or : ℕ → Option ℕ → ℕ
raw_or before (some n) = n
raw_or before none = before

-- ---- a type that was found

-- 0 without one, 1 for a number, 2 for a kind
abbrev pub kind_of_type : TypeId → ℕ
kind_of_type (Ordinal n) = 1
kind_of_type (Uuid k) = 2

abbrev pub kind_of : Option TypeId → ℕ
kind_of (some t) = kind_of_type t
kind_of none = 0

-- the number; unchanged without one
abbrev pub ordinal_in : ℕ → TypeId → ℕ
ordinal_in before (Ordinal n) = n
ordinal_in before (Uuid k) = before

abbrev pub ordinal_or : ℕ → Option TypeId → ℕ
ordinal_or before (some t) = ordinal_in before t
ordinal_or before none = before

-- the kind; unchanged without one
abbrev pub uuid_in : List ℤ → TypeId → List ℤ
uuid_in before (Ordinal n) = before
uuid_in before (Uuid k) = k

abbrev pub uuid_or : List ℤ → Option TypeId → List ℤ
uuid_or before (some t) = uuid_in before t
uuid_or before none = before
