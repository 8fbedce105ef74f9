-- A test of whole lists of calls: none is refused for want of room. Assumes nothing.
use Rattle.std.specs.Prelude.{◌≡◌, Bool, true, not, ◌&&◌, List, [], ◌∷◌, ◌++◌, ℕ, eqb, ℤ}
use Rattle.std.proofs.Common.{subst}
use Rattle.std.proofs.lemmas.Bool.{eqb-false, not-true}
use Rattle.definitions.specs.Refusals.{capacity_error, scratch_too_short}
use Rattle.definitions.specs.Outcome.{Outcome, ok, err}
use Rattle.definitions.specs.Messages.{Message}
use Rattle.laws.specs.TableShape.{both}
use Rattle.session.specs.Runs.{ControllerCall, Controller, controller_call, after_calls, Printer, PrinterCall, message, left, printer_call, after_received}
use Rattle.session.specs.Statement.{Suffices, ReceivedSuffices}

-- whether an outcome is no refusal for want of room
abbrev pub is_fine : {A : Type 0} → Outcome A → Bool
is_fine (ok a w) = true
is_fine (err n w) = not (eqb n capacity_error) && not (eqb n scratch_too_short)

-- then it is none
fine-suffices : {A : Type 0} (o : Outcome A) → is_fine o ≡ true → Suffices o
fine-suffices (ok a w) e = tt
fine-suffices (err n w) e =
    let p = both (not (eqb n capacity_error)) _ e in
    (eqb-false n capacity_error (not-true _ p.0), eqb-false n scratch_too_short (not-true _ p.1))

-- whether none of a printer's calls is refused for that
unfoldable pub received_fine : List ℤ → Printer → List PrinterCall → Bool
received_fine sizes p [] = true
received_fine sizes p (message m n ∷ cs) =
    is_fine (printer_call sizes p m n).answer && received_fine sizes (left (printer_call sizes p m n)) cs

-- whether none of a controller's calls is refused for that
unfoldable pub calls_fine : Controller → List ControllerCall → Bool
calls_fine c [] = true
calls_fine c (x ∷ xs) = is_fine (controller_call c x).answer && calls_fine (controller_call c x).next xs

-- the printer's call at a place
message-fine : (sizes : List ℤ) (p : Printer) (xs ys : List PrinterCall) (m : Message) (n : ℕ) → received_fine sizes p (xs ++ message m n ∷ ys) ≡ true
    → Suffices (printer_call sizes (after_received sizes p xs) m n).answer
unfolding received_fine after_received
message-fine sizes p [] ys m n e =
    fine-suffices (printer_call sizes p m n).answer (both (is_fine (printer_call sizes p m n).answer) _ e).0
message-fine sizes p (message x k ∷ xs) ys m n e =
    message-fine sizes (left (printer_call sizes p x k)) xs ys m n (both (is_fine (printer_call sizes p x k).answer) _ e).1

-- none of them is refused for that
pub received-suffices : (sizes : List ℤ) (p : Printer) (cs : List PrinterCall) → received_fine sizes p cs ≡ true → ReceivedSuffices sizes p cs
received-suffices sizes p cs f xs ys m n e =
    message-fine sizes p xs ys m n (subst (λ (l : List PrinterCall). received_fine sizes p l ≡ true) e f)

-- the call at a place
call-fine : (c : Controller) (xs ys : List ControllerCall) (x : ControllerCall) → calls_fine c (xs ++ x ∷ ys) ≡ true
    → Suffices (controller_call (after_calls c xs) x).answer
unfolding calls_fine after_calls
call-fine c [] ys x e =
    fine-suffices (controller_call c x).answer (both (is_fine (controller_call c x).answer) _ e).0
call-fine c (y ∷ xs) ys x e =
    call-fine (controller_call c y).next xs ys x (both (is_fine (controller_call c y).answer) _ e).1

-- none of them is refused for that
pub calls-suffice : (c : Controller) (l : List ControllerCall) → calls_fine c l ≡ true → (xs ys : List ControllerCall) (x : ControllerCall)
    → l ≡ xs ++ x ∷ ys → Suffices (controller_call (after_calls c xs) x).answer
calls-suffice c l f xs ys x e =
    call-fine c xs ys x (subst (λ (z : List ControllerCall). calls_fine c z ≡ true) e f)
