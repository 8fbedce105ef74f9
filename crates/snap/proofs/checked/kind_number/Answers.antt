use lib.IntN.{ℤ}
use native.Mathlib.Omega.{arith}
use mathlib.Core.Path.{◌≡◌, sym, ap, ◌∙◌}
use mathlib.Core.List.{List, [], ◌∷◌}
use Prim.Native.Nat.{ℕ, ◌-◌, ◌%◌}
use mir.Syntax.{w32}
use mir.Val.{to_z, of_z}
use mir.Facts.{to_z-of_z}
use Rattle.definitions.specs.Ints.{bits}
use Rattle.definitions.specs.Tables.{item_at, items}
use Rattle.definitions.specs.Types.{kind_number}
use Rattle.types.specs.Picks.{items-seg}
use Rattle.snap.proofs.Naming.{number-here, number-on, number-none}
use Rattle.snap.proofs.checked.kind_number.Goals as goal

pub loop-i-init : goal.loop-i-init
loop-i-init c =
    (let kind : List ℤ =
    to_z w32 (of_z w32 c.args.a) ∷ to_z w32 (of_z w32 c.args.b) ∷ to_z w32 (of_z w32 c.args.c) ∷ to_z w32 (of_z w32 c.args.d) ∷ [] in
    let a = c.args in
    let e : a.n - 0 ≡ a.n = omega arith in
    rw e (ap (kind_number kind) (items-seg a.area.now a.n c.requires)))

pub returns-then-names_kind : goal.returns-then-names_kind
returns-then-names_kind c =
    let kind : List ℤ =
    to_z w32 (of_z w32 c.args.a) ∷ to_z w32 (of_z w32 c.args.b) ∷ to_z w32 (of_z w32 c.args.c) ∷ to_z w32 (of_z w32 c.args.d) ∷ [] in
    let same_kind : kind_number (c.args.a ∷ c.args.b ∷ c.args.c ∷ c.args.d ∷ []) (items c.args.area.now) ≡ kind_number kind (items c.args.area.now) =
    rw (to_z-of_z {w = w32} c.ranges.a, to_z-of_z {w = w32} c.ranges.b, to_z-of_z {w = w32} c.ranges.c, to_z-of_z {w = w32} c.ranges.d) in
    let a = c.args in
    let l = c.loop-i in
    same_kind
    ∙ sym l.invariant
    ∙ number-here (kind) (item_at a.area.now) a.n l.i c.loop-i-test.true (sym c.names_kind.ensures ∙ c.if-names_kind.true) c.key_to_id.result
    (c.key_to_id.ensures ∙ ap (λ (z : ℤ). bits z % 65536) (to_z-of_z {w = w32} (record { sfits = c.key_at.type_inv })) ∙ ap (λ (k : ℕ). k % 65536) c.key_at.ensures)

pub loop-i-preserved : goal.loop-i-preserved
loop-i-preserved c =
    (let kind : List ℤ =
    to_z w32 (of_z w32 c.args.a) ∷ to_z w32 (of_z w32 c.args.b) ∷ to_z w32 (of_z w32 c.args.c) ∷ to_z w32 (of_z w32 c.args.d) ∷ [] in
    let a = c.args in
    let l = c.loop-i in
    (sym (number-on (kind) (item_at a.area.now) a.n l.i c.loop-i-test.true (sym c.names_kind.ensures ∙ c.if-names_kind.false)) ∙ l.invariant))

pub returns : goal.returns
returns c =
    let kind : List ℤ =
    to_z w32 (of_z w32 c.args.a) ∷ to_z w32 (of_z w32 c.args.b) ∷ to_z w32 (of_z w32 c.args.c) ∷ to_z w32 (of_z w32 c.args.d) ∷ [] in
    let same_kind : kind_number (c.args.a ∷ c.args.b ∷ c.args.c ∷ c.args.d ∷ []) (items c.args.area.now) ≡ kind_number kind (items c.args.area.now) =
    rw (to_z-of_z {w = w32} c.ranges.a, to_z-of_z {w = w32} c.ranges.b, to_z-of_z {w = w32} c.ranges.c, to_z-of_z {w = w32} c.ranges.d) in
    let a = c.args in
    let l = c.loop-i in
    same_kind ∙ sym l.invariant ∙ number-none (kind) (item_at a.area.now) a.n l.i c.loop-i-test.false
