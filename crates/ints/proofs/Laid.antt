-- Entries copied over a part of an area are laid there. Assumes nothing.
use Rattle.std.proofs.Common.{◌≡◌, ℕ, ◌+◌, ◌-◌, ◌≤◌, List, ◌++◌, length, take, drop, ℤ, sym, refl, ap, ◌∙◌, append_assoc, arith, length-drop}
use Rattle.std.proofs.Math.Seq.{paste}
use Rattle.std.proofs.lemmas.List.{length-take-le}
use Rattle.std.proofs.lemmas.List.Edits.{paste_all}
use Rattle.std.proofs.lemmas.Slice.{put_mid-paste}
use borrow.Rule.Slice.PartMut.{put_mid}
use Rattle.definitions.specs.Areas.{lay_at}
use Rattle.laws.specs.AreaLaws.{lay_at-between}
use Rattle.ints.specs.Copies.{shifted}

-- a list over a part as long
pub laid : {E : Type 0} (at : ℕ) (xs part out : List E) → at + length xs ≤ length out → part ≡ xs → put_mid at (at + length xs - at) out part ≡ lay_at at xs out
laid at xs part out h e =
    put_mid-paste at (at + length xs - at) out part xs (length xs) e (omega arith) refl
    ∙ paste_all out at xs (length xs) refl
    ∙ sym (lay_at-between at xs out h)

-- a part of an area over another
pub moved : (a : List ℤ) (from to by : ℕ) → from ≤ to → to + by ≤ length a → paste a (from + by) (drop from a) (to - from) ≡ shifted a from to by
unfolding shifted
moved a from to by h k =
    let at = from + by in
    let xs : List ℤ = take (to - from) (drop from a) in
    let n : length xs ≡ to - from = length-take-le (to - from) (drop from a) (simp length-drop (omega arith)) in
    append_assoc (take at a) xs (drop (at + (to - from)) a)
    ∙ ap (λ (j : ℕ). take at a ++ (xs ++ drop (at + j) a)) (sym n)
    ∙ sym (lay_at-between at xs a (omega arith))
