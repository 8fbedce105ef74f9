-- `replay_text::int` meets its contract, by whether there is a minus first. Assumes nothing.
use mathlib.Core.Path.{◌≡◌}
use Prim.Native.Nat.{◌-◌, ◌<◌}
use native.Mathlib.Omega.{arith}
use lib.ListN.{length, drop, get_or, length-drop}
use lib.Seq.{take_all}
use mir.Facts.{to_z-of_z}
use Rattle.replay_text.proofs.NumberLaws.{negative-int, plain_int}
use Rattle.std.proofs.Common.{w32, rules}
use Rattle.replay_text.proofs.int.Goals as goal
use Rattle.replay_text.proofs.int.Goals.{in_default-via-then-text-lt1, in_default-via-else-text-lt1+in_default-1}

pub returns-in-45 : goal.returns-in-45
returns-in-45 c =
    let text = c.args.text.now in
    let rest = take_all (length text - 1) (drop 1 text) (simp length-drop (omega arith)) in
    rw (to_z-of_z {w = w32} (record { sfits = c.wrapping_sub.type_inv }), negative-int text c.in-45.len_at_least (search rules), ← rest, ← c.number-size.ensures, ← c.from_bits.ensures)
    (rw (to_z-of_z {w = w32} (record { sfits = c.from_bits.type_inv })) at c.wrapping_sub.ensures)

pub returns-in_default : goal.returns-in_default
returns-in_default c =
    let text = c.args.text.now in
    let other : 0 < length text → get_or text 0 0 ≡ 45 → ⊥ = elim c.in_default.branch [ in_default-via-then-text-lt1 w ↦ λ h e. search rules | in_default-via-else-text-lt1+in_default-1 w ↦ λ h e. search rules ] in
    rw (to_z-of_z {w = w32} (record { sfits = c.from_bits-in_default.type_inv }), plain_int text other, ← c.number-size-in_default.ensures) c.from_bits-in_default.ensures
