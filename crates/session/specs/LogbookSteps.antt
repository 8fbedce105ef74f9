-- What a message does to the logbook, by the message's tick and the newest. Assumes nothing.
use Rattle.std.specs.Prelude.{◌≡◌, true, false, List, [], ◌∷◌, ℕ, ◌<◌, ℤ, pos}
use Rattle.std.proofs.Math.Path.{refl}
use Rattle.std.proofs.Math.Option.{Option}
use Rattle.std.proofs.Common.{arith}
use borrow.Author.Tests.{lt-ltb, le-ltb, eq-eqb, ne_eqb}
use Rattle.definitions.specs.Refusals.{old_delta, duplicate_part}
use Rattle.definitions.specs.DeltaReading.{elem}
use Rattle.definitions.specs.Logbook.{refused, all_came, note, part_came}
use Rattle.session.specs.HeldTicks.{same-pos}
use Rattle.session.specs.PrinterState.{notes}

module _ (t u : ℕ) (b : ℤ) (p c : ℕ) (came : List ℕ) (held : List ℤ) (k : Option ℤ) where
  -- a tick below the newest
  pub note-older : t < u → note (notes (pos u) came held k) (pos t) b p c ≡ record { answer = refused old_delta; logbook = notes (pos u) came held k }
  unfolding note
  note-older h = rw (lt-ltb t u h) refl

  -- a tick above the newest
  pub note-newer : u < t → note (notes (pos u) came held k) (pos t) b p c ≡ part_came (notes (pos u) came held k) (pos t) b c (p ∷ [])
  unfolding note
  note-newer h = rw (le-ltb t u (omega arith), same-pos t u, ne_eqb t u (omega arith)) refl

  module _ (e : t ≡ u) where
    -- the newest, with all parts in
    pub note-full : all_came c came ≡ true → note (notes (pos u) came held k) (pos t) b p c ≡ record { answer = refused old_delta; logbook = notes (pos u) came held k }
    unfolding note
    note-full a = rw (le-ltb t u (omega arith), same-pos t u, eq-eqb t u e, a) refl

    module _ (a : all_came c came ≡ false) where
      -- a part that came already
      pub note-twice : elem p came ≡ true → note (notes (pos u) came held k) (pos t) b p c ≡ record { answer = refused duplicate_part; logbook = notes (pos u) came held k }
      unfolding note
      note-twice i = rw (le-ltb t u (omega arith), same-pos t u, eq-eqb t u e, a, i) refl

      -- another part
      pub note-more : elem p came ≡ false → note (notes (pos u) came held k) (pos t) b p c ≡ part_came (notes (pos u) came held k) (pos t) b c (p ∷ came)
      unfolding note
      note-more i = rw (le-ltb t u (omega arith), same-pos t u, eq-eqb t u e, a, i) refl
