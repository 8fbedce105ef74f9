-- A call with equal receivers and numbers. Assumes nothing.
use Rattle.std.specs.Prelude.{◌≡◌, List, ℕ, ℤ}
use Rattle.definitions.specs.Messages.{Distance}
use Rattle.definitions.specs.Receiver.{Receiver, Receives, snap_call, snap_single_call, snap_empty_call}

pub snap-moved : {r h : Receiver} {t' n' p' k' t n p k : ℤ} {d' d : Distance} (x a b : List ℕ) {o : Receives} → r ≡ h → t' ≡ t → d' ≡ d → n' ≡ n → p' ≡ p → k' ≡ k → snap_call r (record { tick = t'; distance = d'; num_parts = n'; part = p'; crc = k' }) x a b ≡ o → snap_call h (record { tick = t; distance = d; num_parts = n; part = p; crc = k }) x a b ≡ o
snap-moved x a b r t d n p k e = rw (r, t, d, n, p, k) at e

pub single-moved : {r h : Receiver} {t' k' t k : ℤ} {d' d : Distance} (x a b : List ℕ) {o : Receives} → r ≡ h → t' ≡ t → d' ≡ d → k' ≡ k → snap_single_call r t' d' k' x a b ≡ o → snap_single_call h t d k x a b ≡ o
single-moved x a b r t d k e = rw (r, t, d, k) at e

pub empty-moved : {r h : Receiver} {t' t : ℤ} {d' d : Distance} (a b : List ℕ) {o : Receives} → r ≡ h → t' ≡ t → d' ≡ d → snap_empty_call r t' d' a b ≡ o → snap_empty_call h t d a b ≡ o
empty-moved a b r t d e = rw (r, t, d) at e
