-- The delta between two sound tables is short, is in form in an area, and is read back. Assumes nothing.
use Rattle.std.specs.Prelude.{◌≤◌, ◌≡◌, Bool, cond, true, false, List, [], ◌∷◌, ◌++◌, ℤ, length, leb}
use Rattle.std.proofs.Math.Option.{some}
use Rattle.std.proofs.Common.{arith, leb-true}
use Rattle.definitions.specs.Outcome.{return}
use Rattle.definitions.specs.Tables.{Table, written, rising, sound, find, is_some}
use Rattle.definitions.specs.Deltas.{is_in_order, delta_ints, written_delta, delta_of}
use Rattle.definitions.specs.DeltaMaking.{lacking, alike, delta_from}
use Rattle.definitions.specs.DeltaCalls.{sizes_match}
use Rattle.definitions.specs.DeltaReading.{int_stream, read_delta}
use Rattle.laws.specs.TableShape.{both}
use Rattle.laws.specs.TableForm.{length-written}
use Rattle.laws.specs.DeltaReadBack.{read_back, delta-read}
use Rattle.laws.specs.DeltaForm.{delta-back}
use Rattle.laws.specs.DeltaMakingLaws.{delta_from-in_order, delta_from-apart}
use Rattle.laws.specs.DeltaSize.{length-delta_from}

-- no more is lacking than there is
pub length-lacking : (t b : Table) → length (lacking t b) ≤ length b
unfolding lacking
length-lacking t [] = omega arith
length-lacking t (x ∷ b) = go (is_some (find x.key t)) (length-lacking t b)
  where
    go : (p : Bool) → length (lacking t b) ≤ length b → length (cond p (lacking t b) (x ∷ lacking t b)) ≤ length (x ∷ b)
    go true l = omega arith
    go false l = omega arith

-- what is known about a sound table
pub record Sound (t : Table) : Type 0 where
  pub few : length t ≤ 1024
  pub short : length (written t) ≤ 16384
  pub rises : rising 0 t ≡ true

pub facts : (t : Table) → sound t ≡ true → Sound t
unfolding sound
facts t e =
    let p = both (leb (length t) 1024) _ e in
    let q = both (leb (length (written t)) 16384) _ p.1 in
    record { few = leb-true _ _ p.0; short = leb-true _ _ q.0; rises = q.1 }

module _ (b t : Table) (sb : sound b ≡ true) (st : sound t ≡ true) where
  pub made-in_order : is_in_order (delta_from b t) ≡ true
  made-in_order = delta_from-in_order b t (facts b sb).rises (facts t st).rises

  -- an area of 18,433 ints has room for each delta between two tables
  pub made-short : alike b t ≡ true → length (written_delta (delta_from b t)) ≤ 18433
  made-short e =
      let k = facts b sb in
      let n = facts t st in
      omega (arith, length-delta_from b t e, length-lacking t b, k.few, n.few, n.short, length-written t)

  -- an area that begins with it holds it
  pub made_held : (rest : List ℤ) → alike b t ≡ true → delta_of (written_delta (delta_from b t) ++ rest) ≡ some (delta_from b t)
  made_held rest e = delta-back (delta_from b t) rest made-in_order (omega (arith, made-short e))

  -- under known sizes that are those of its updates it is read back, without a warning
  pub made-read : (sizes : List ℤ) → sizes_match sizes (delta_from b t).updated ≡ true → read_delta sizes (int_stream (delta_ints sizes (delta_from b t))) ≡ return (read_back (delta_from b t))
  made-read sizes m = delta-read sizes (delta_from b t) made-in_order m (delta_from-apart b t)
