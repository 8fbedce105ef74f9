-- The position of a reader, in the outputs for it. Assumes nothing.
use Rattle.std.specs.Prelude.{◌≡◌, List, cond, ℕ, eqb, leb, length, drop}
use Rattle.definitions.specs.Refusals.{input_too_long}
use Rattle.definitions.specs.Outcome.{Outcome}
use Rattle.definitions.specs.Packer.{IntAt}
use Rattle.definitions.specs.Readers.{place_after}
use Rattle.boundary.specs.Boundary.{flag, status}

-- an output for the position of a reader: its previous content if the call is refused with 42, else the new value
abbrev pub kept : ℕ → ℕ → ℕ → ℕ
kept refusal before now = cond (eqb refusal input_too_long) before now

-- the place of a reader of some entries after it read an outcome at a place, how many entries are left, and whether none are, in their outputs
pub record Stands {A : Type 0} (o : Outcome IntAt) (entries : List A) (at next₀ left₀ empty₀ next left empty : ℕ) : Type 0 where
  pub next-is : next ≡ kept (status o) next₀ (place_after (length entries) at o)
  pub left_is : left ≡ kept (status o) left₀ (length (drop (place_after (length entries) at o) entries))
  pub empty-is : empty ≡ kept (status o) empty₀ (flag (leb (length entries) (place_after (length entries) at o)))
