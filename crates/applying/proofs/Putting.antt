-- One item written into an area: its room, its key, and its data in a part that is lent. Assumes nothing.
use Prim.Native.Nat.{ℕ, zero, suc, ◌+◌, ◌-◌, ◌*◌, ◌≤◌}
use mathlib.Core.Path.{◌≡◌, refl, sym, ap, ◌∙◌}
use mathlib.Core.Bool.{true}
use mathlib.Core.List.{List, [], ◌∷◌, ◌++◌, append-nil}
use mathlib.Core.Option.{Option}
use native.Mathlib.Omega.{arith}
use borrow.Author.Tests.{le-leb}
use borrow.Rule.Slice.PartMut.{put_mid}
use lib.IntN.{ℤ, pos}
use lib.ListN.{length, take, drop, set, length-append, length-take, length-drop, drop_of_length-le}
use mir.Syntax.{w32}
use mir.Val.{SFits}
use Rattle.definitions.specs.Ints.{bits}
use Rattle.definitions.specs.Areas.{lay_at}
use Rattle.definitions.specs.Outcome.{Outcome, Wrote}
use Rattle.definitions.specs.Stored.{stored}
use Rattle.definitions.specs.Tables.{Item, body}
use Rattle.definitions.specs.DeltaMaking.{agree, sums}
use Rattle.definitions.specs.DeltaCalls.{apply_item_delta_call}
use Rattle.laws.specs.IntLaws.{from_bits-bits}
use Rattle.laws.specs.AreaLaws.{lay-append}
use Rattle.laws.specs.ZipLaws.{length-sums}
use Rattle.laws.specs.ApplyFound.{item}
use Rattle.laws.specs.ApplyWriting.{Room, wrote, wrote_one}

-- the room of one item
pub record RoomOne (n long m w size : ℕ) : Type 0 where
  pub few : m + 1 ≤ n
  pub behind : 2 + n ≤ w
  pub room : w + 1 + size ≤ long
  pub short : w + 1 + size ≤ 16384

pub room-one : (n long m w : ℕ) (x : Item) → Room n long m w (x ∷ []) → RoomOne n long m w (length x.values)
unfolding body
room-one n long m w x r =
    let e = length-append x.values [] in
    record { few = omega (arith, r.few); behind = r.behind; room = omega (arith, r.room); short = omega (arith, r.short) }

-- entries laid into the middle of an area
middle : (x : ℕ) (zs area : List ℤ) → x + length zs ≤ length area → lay_at x zs area ≡ take x area ++ (zs ++ drop (length zs) (drop x area))
middle zero zs area l = lay-append zs area (omega arith)
middle (suc x) zs [] l = absurd (omega arith)
middle (suc x) zs (a ∷ area) l = ap (λ (t : List ℤ). a ∷ t) (middle x zs area (omega arith))

-- a part in the middle is filled whole
pub part-laid : (x k : ℕ) (zs area ys : List ℤ) → k ≡ length zs → x + k ≤ length area → ys ≡ lay_at 0 zs (take k (drop x area)) → put_mid x k area ys ≡ lay_at x zs area
part-laid x k zs area ys e l f =
    let p = take k (drop x area) in
    let n : length p ≡ k = simp (length-take, length-drop) (omega arith) in
    let g : lay_at 0 zs p ≡ zs = lay-append zs p (omega arith) ∙ (ap (λ (t : List ℤ). zs ++ t) (drop_of_length-le p {i = length zs} (omega arith)) ∙ append-nil zs) in
    rw (f ∙ g, e) (sym (middle x zs area (omega arith)))

-- what the function that applies differences leaves of a part of the right length
pub sums-laid : (o : Option (List ℤ)) (v part part' : List ℤ) (r : Outcome ℕ) → agree o v ≡ true → length part ≡ length v → apply_item_delta_call o v part ≡ record { answer = r; out = part' } → part' ≡ lay_at 0 (sums o v) part
unfolding stored
sums-laid o v part part' r e l q =
    sym (ap (λ (w : Wrote ℕ ℤ). w.out) (rw (e, le-leb (length (sums o v)) (length part) (omega (arith, length-sums o v e))) at q))

-- an item with its key's bits is written at the key's place
pub item-written : (n m w : ℕ) (key : ℤ) (v : List ℤ) (o o₂ o₃ : List ℤ) → SFits w32 key → RoomOne n (length o) m w (length v) → o₂ ≡ set (set o (2 + m) (pos (4 * (w - (2 + n))))) w key → o₃ ≡ lay_at (w + 1) v o₂ → o₃ ≡ wrote n o m w (item (bits key) v ∷ [])
item-written n m w key v o o₂ o₃ s r e f =
    wrote_one n m w (item (bits key) v) o (set o (2 + m) (pos (4 * (w - (2 + n))))) o₂ o₃ (omega (arith, r.few, r.behind, r.room)) (omega (arith, r.room)) refl
    (e ∙ ap (set (set o (2 + m) (pos (4 * (w - (2 + n))))) w) (sym (from_bits-bits s))) f
