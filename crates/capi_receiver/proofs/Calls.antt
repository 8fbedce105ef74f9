-- What the outputs hold, given a known call. Assumes nothing.
use Rattle.std.specs.Prelude.{◌≡◌, refl, List, ℕ, ℤ, Option, Some, None, Result, Ok, Err}
use Rattle.std.proofs.Common.{ap}
use Rattle.definitions.specs.Warnings.{Counts}
use Rattle.definitions.specs.Messages as Messages
use Rattle.definitions.specs.Receiver.{Receives}
use Rattle.format.specs.declared.Error.{Error}
use Rattle.format.specs.Totals.{row}
use Rattle.receiver.specs.States.{receiver_with}
use Rattle.receiver.specs.Answers.{received_with}
use Rattle.receiver.specs.declared.checked.Ticks.{Ticks}
use Rattle.receiver.specs.declared.Received.{Received}
use Rattle.receiver.specs.declared.Received.TheVariants.{Delta, Empty}
use Rattle.boundary.specs.Boundary.{status, warnings_of, output}
use Rattle.capi_receiver.specs.Left.{Rows}
use Rattle.capi_receiver.specs.Held.{ticks_after, counts_after, kind_of, ticks_or, length_or}

-- what a message brought: the values of the outputs
abbrev pub Tells : (a : Result (Option Received) Error) (r kind₀ kind : ℕ) (row₀ row : List ℤ) (len₀ len : ℕ) → Type 0
Tells a r kind₀ kind row₀ row len₀ len =
    ((w : Counts) → r ≡ status (received_with a w))
    × (((w : Counts) → kind ≡ output kind_of kind₀ (received_with a w))
    × (((w : Counts) → row ≡ output (ticks_or row₀) row₀ (received_with a w))
    × ((w : Counts) → len ≡ output (length_or len₀) len₀ (received_with a w))))

-- distances of equal ints
pub same-distance : {n m : ℤ} → n ≡ m → ◌≡◌ {A = Messages.Distance} (record { ticks = n }) (record { ticks = m })
same-distance e = ap (λ (n : ℤ). record { ticks = n }) e

-- the warnings of an answer
warned : (a : Result (Option Received) Error) (w : Counts) → warnings_of (received_with a w) ≡ w
warned (Ok None) w = refl
warned (Ok (Some (Delta t d n k))) w = refl
warned (Ok (Some (Empty t d))) w = refl
warned (Err x) w = refl

-- what a call leaves, with what its rows hold
pub taken : (o : Receives) (a : Result (Option Received) Error) (w : Counts) (x : Ticks) {lengths ps js : List ℕ} → o ≡ record { answer = received_with a w; receiver = receiver_with x lengths; parts = ps; joined = js } → (r kind₀ kind : ℕ) (row₀ row' : List ℤ) (len₀ len : ℕ) (ticks₀ ticks : List ℤ) (counts₀ counts ws : List ℕ) → Tells a r kind₀ kind row₀ row' len₀ len → Rows x a ticks₀ counts₀ ticks counts → ws ≡ row w → (r ≡ status o.answer) × ((ticks ≡ ticks_after ticks₀ o) × ((counts ≡ counts_after counts₀ o) × ((lengths ≡ o.receiver.parts) × ((ps ≡ o.parts) × ((js ≡ o.joined) × ((kind ≡ output kind_of kind₀ o.answer) × ((row' ≡ output (ticks_or row₀) row₀ o.answer) × ((len ≡ output (length_or len₀) len₀ o.answer) × (ws ≡ row (warnings_of o.answer))))))))))
taken o a w x e r kind₀ kind row₀ row' len₀ len ticks₀ ticks counts₀ counts ws t h p =
    rw (e, warned a w) (t.0 w, ((h w).0, ((h w).1, (refl, (refl, (refl, (t.1.0 w, (t.1.1.0 w, (t.1.1.1 w, p)))))))))

-- the same without the first part area
pub taken-single : (o : Receives) (a : Result (Option Received) Error) (w : Counts) (x : Ticks) {lengths ps js : List ℕ} → o ≡ record { answer = received_with a w; receiver = receiver_with x lengths; parts = ps; joined = js } → (r kind₀ kind : ℕ) (row₀ row' : List ℤ) (len₀ len : ℕ) (ticks₀ ticks : List ℤ) (counts₀ counts ws : List ℕ) → Tells a r kind₀ kind row₀ row' len₀ len → Rows x a ticks₀ counts₀ ticks counts → ws ≡ row w → (r ≡ status o.answer) × ((ticks ≡ ticks_after ticks₀ o) × ((counts ≡ counts_after counts₀ o) × ((lengths ≡ o.receiver.parts) × ((js ≡ o.joined) × ((kind ≡ output kind_of kind₀ o.answer) × ((row' ≡ output (ticks_or row₀) row₀ o.answer) × ((len ≡ output (length_or len₀) len₀ o.answer) × (ws ≡ row (warnings_of o.answer)))))))))
taken-single o a w x e r kind₀ kind row₀ row' len₀ len ticks₀ ticks counts₀ counts ws t h p =
    let l = taken o a w x e r kind₀ kind row₀ row' len₀ len ticks₀ ticks counts₀ counts ws t h p in
    (l.0, (l.1.0, (l.1.1.0, (l.1.1.1.0, l.1.1.1.1.1))))

-- the same without any part area
pub taken-empty : (o : Receives) (a : Result (Option Received) Error) (w : Counts) (x : Ticks) {lengths ps js : List ℕ} → o ≡ record { answer = received_with a w; receiver = receiver_with x lengths; parts = ps; joined = js } → (r kind₀ kind : ℕ) (row₀ row' : List ℤ) (len₀ len : ℕ) (ticks₀ ticks : List ℤ) (counts₀ counts ws : List ℕ) → Tells a r kind₀ kind row₀ row' len₀ len → Rows x a ticks₀ counts₀ ticks counts → ws ≡ row w → (r ≡ status o.answer) × ((ticks ≡ ticks_after ticks₀ o) × ((counts ≡ counts_after counts₀ o) × ((lengths ≡ o.receiver.parts) × ((kind ≡ output kind_of kind₀ o.answer) × ((row' ≡ output (ticks_or row₀) row₀ o.answer) × ((len ≡ output (length_or len₀) len₀ o.answer) × (ws ≡ row (warnings_of o.answer))))))))
taken-empty o a w x e r kind₀ kind row₀ row' len₀ len ticks₀ ticks counts₀ counts ws t h p =
    let l = taken o a w x e r kind₀ kind row₀ row' len₀ len ticks₀ ticks counts₀ counts ws t h p in
    (l.0, (l.1.0, (l.1.1.0, (l.1.1.1.0, l.1.1.1.1.1.1))))
