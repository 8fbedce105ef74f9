-- `ints::checked::add_four` meets its contract: it adds one entry, four times. Assumes nothing.
use Rattle.std.proofs.Common.{◌≡◌, ℕ, ◌+◌, ◌<◌, ◌≤◌, List, length, get_or, drop, set, ℤ, pos, refl, ◌∙◌, arith, length-set, to_z-of_z, w32, SFits, to_z, of_z, rules}
use Rattle.definitions.specs.Ints.{wrapping_add}
use Rattle.definitions.specs.Areas.{lay_at}
use Rattle.definitions.specs.DeltaMaking.{zip_with}
use Rattle.laws.specs.ZipLaws.{lay_at-zip}
use Rattle.ints.proofs.checked.add_four.Goals as goal

module _ (at : ℕ) (xs ys : List ℤ) (e : length xs ≡ length ys) where
  abbrev sums : List ℤ
  sums = zip_with wrapping_add xs ys

  -- one more entry
  one : (i j : ℕ) (o : List ℤ) (v : ℤ) → i < length xs → at + length xs ≤ length o → j ≡ i + 1 → SFits w32 v → v ≡ wrapping_add (get_or xs i (pos 0)) (get_or ys i (pos 0))
      → lay_at (at + i) (drop i sums) o ≡ lay_at (at + j) (drop j sums) (set o (at + i) (to_z w32 (of_z w32 v)))
  one i j o v l m q f g = lay_at-zip wrapping_add at i xs ys o e l (omega arith) ∙ rw (q, to_z-of_z {w = w32} f, g)

pub bounds-out-at-2 : goal.bounds-out-at-2
bounds-out-at-2 c = simp length-set (search rules)

pub bounds-out-at-3 : goal.bounds-out-at-3
bounds-out-at-3 c = simp length-set (search rules)

pub bounds-out-at-4 : goal.bounds-out-at-4
bounds-out-at-4 c = simp length-set (search rules)

pub returns : goal.returns
returns c =
    let s = c.before.before.before.before in
    let step = one s.args.at s.args.a.now s.args.b.now s.requires.0 in
    let room = s.requires.1 in
    let few = s.requires.2 in
    let i = s.args.i in
    step i (i + 1) _ _ (omega arith) room refl (record { sfits = c.sum_at-w.type_inv }) c.sum_at-w.ensures
    ∙ step (i + 1) (i + 2) _ _ (omega arith) (simp length-set room) (omega arith) (record { sfits = c.sum_at-x.type_inv }) c.sum_at-x.ensures
    ∙ step (i + 2) (i + 3) _ _ (omega arith) (simp length-set room) (omega arith) (record { sfits = c.sum_at-y.type_inv }) c.sum_at-y.ensures
    ∙ step (i + 3) (i + 4) _ _ (omega arith) (simp length-set room) (omega arith) (record { sfits = c.sum_at-z.type_inv }) c.sum_at-z.ensures
