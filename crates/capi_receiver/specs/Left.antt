-- What a message leaves of the receiver's rows, by the answer of the code. Assumes nothing.
use Rattle.std.specs.Prelude.{◌≡◌, List, [], ℕ, ℤ, Option, Result}
use Rattle.definitions.specs.Warnings.{Counts}
use Rattle.format.specs.declared.Error.{Error}
use Rattle.receiver.specs.States.{receiver_with}
use Rattle.receiver.specs.Answers.{received_with}
use Rattle.receiver.specs.declared.checked.Ticks.{Ticks}
use Rattle.receiver.specs.declared.Received.{Received}
use Rattle.boundary.specs.Boundary.{output}
use Rattle.boundary_states.specs.Rows.{ticks_of_receiver, counts_of_receiver}

-- the rows of the ticks before and after a message: those of the ticks that it left, or unchanged if it was refused
abbrev pub Rows : Ticks → Result (Option Received) Error → (ticks₀ : List ℤ) (counts₀ : List ℕ) (ticks : List ℤ) (counts : List ℕ) → Type 0
Rows t a ticks₀ counts₀ ticks counts =
    (w : Counts) → (ticks ≡ output (λ _. ticks_of_receiver (receiver_with t [])) ticks₀ (received_with a w))
    × (counts ≡ output (λ _. counts_of_receiver (receiver_with t [])) counts₀ (received_with a w))
