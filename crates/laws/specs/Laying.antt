-- Entries laid into an area one list after the other. Assumes nothing.
use Rattle.std.specs.Prelude.{ℕ, ◌+◌, ◌≤◌, ◌≡◌, refl, List, [], ◌++◌, length}
use Rattle.std.proofs.Common.{sym, ap, ◌∙◌, arith, length-append}
use Rattle.definitions.specs.Areas.{lay_at}
use Rattle.laws.specs.AreaLaws.{length-lay_at, lay_at-nothing, lay_at-append}

module _ {E : Type 0} where
  -- all was to be laid over area₀ from a place on; left remains, to be laid over area from w on
  pub record Laying (area₀ : List E) (at : ℕ) (all area : List E) (w : ℕ) (left : List E) : Type 0 where
    pub long : length area ≡ length area₀
    pub place : w + length left ≡ at + length all
    pub same : lay_at w left area ≡ lay_at at all area₀

  pub lays-start : (area : List E) (at : ℕ) (all : List E) → Laying area at all area at all
  lays-start area at all = record { long = refl; place = refl; same = refl }

  module _ {area₀ : List E} {at : ℕ} {all area : List E} {w : ℕ} {left : List E} (s : Laying area₀ at all area w left) where
    -- nothing of it changes
    pub lays-same : (rest : List E) → left ≡ rest → Laying area₀ at all area w rest
    lays-same rest e =
        record { long = s.long; place = ap (λ (l : List E). w + length l) (sym e) ∙ s.place; same = ap (λ (l : List E). lay_at w l area) (sym e) ∙ s.same }

    -- where there was room for all, there is room for its first entries
    pub lays-room : (first rest : List E) → left ≡ first ++ rest → at + length all ≤ length area₀ → w + length first ≤ length area
    lays-room first rest e h =
        let n : length left ≡ length first + length rest = ap length e ∙ length-append first rest in
        omega (arith, s.place, s.long)

    -- its first entries are laid
    pub lays_more : (area' : List E) (w' : ℕ) (first rest : List E) → left ≡ first ++ rest → area' ≡ lay_at w first area → w' ≡ w + length first → Laying area₀ at all area' w' rest
    lays_more area' w' first rest e f g =
        let n : length left ≡ length first + length rest = ap length e ∙ length-append first rest in
        record {
          long = ap length f ∙ (length-lay_at w first area ∙ s.long);
          place = omega (arith, s.place);
          same = rw (f, g) (sym (lay_at-append w first rest area)) ∙ (ap (λ (l : List E). lay_at w l area) (sym e) ∙ s.same);
        }

    -- all of it is laid
    pub lays-end : left ≡ [] → (w ≡ at + length all) × (area ≡ lay_at at all area₀)
    lays-end e =
        let n : length left ≡ 0 = ap length e in
        (omega (arith, s.place), sym (lay_at-nothing w area) ∙ (ap (λ (l : List E). lay_at w l area) (sym e) ∙ s.same))
