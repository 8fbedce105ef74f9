use Prim.Native.Nat.{ℕ, ◌+◌, ◌<◌}
use mathlib.Core.Path.{◌≡◌, refl, sym, ap, ◌∙◌, subst}
use native.Mathlib.Omega.{arith}
use mathlib.Core.Bool.{false}
use lib.IntN.{ℤ}
use lib.ListN.{length}
use mir.Syntax.{w32}
use mir.Val.{SFits, to_z, of_z}
use mir.Facts.{to_z-of_z}
use Rattle.definitions.specs.Ints.{bits}
use Rattle.laws.specs.TableFind.{Place}
use mathlib.Core.List.{List, [], ◌∷◌, ◌++◌}
use lib.ListN.{set}
use Rattle.definitions.specs.Ints.{from_bits}
use Rattle.definitions.specs.Areas.{lay_at}
use Rattle.definitions.specs.Tables.{items, key_at, find, is_some}
use Rattle.laws.specs.IntLaws.{from_bits-bits}
use Rattle.laws.specs.AreaLaws.{lay_at-set, lay_at-nothing}
use Rattle.laws.specs.Laying.{lays-same, lays-room, lays_more, lays-end}
use Rattle.delta_making.specs.Parts.{part, deleted_ints}
use Rattle.delta_making.proofs.Places.{Along, along-next}
use Rattle.delta_making.proofs.Parts.{deleted-skip, deleted-step, deleted-end}
use Rattle.delta_making.proofs.checked.write_deleted.Goals as goal
use Rattle.delta_making.proofs.checked.write_deleted.Goals.{then-not-has_key, else-not-has_key, After-has_key, After-key_at-key, After-next_place-p, At-loop-i}

-- the key of the i-th item as it is passed
key-is : (c : After-key_at-key) → bits (to_z w32 (of_z w32 c.key_at-key.result)) ≡ key_at c.args.base.now c.loop-i.i
key-is c = ap bits (to_z-of_z {w = w32} (record { sfits = c.key_at-key.type_inv })) ∙ c.key_at-key.ensures

placed : (c : After-next_place-p) → Place c.args.target.now (key_at c.args.base.now c.loop-i.i) c.next_place-p.result
placed c =
    subst (λ (k : ℕ). Place c.args.target.now k c.next_place-p.result) (key-is c.before) c.next_place-p.ensures

-- whether the target has the key
said : (c : After-has_key) → let s = c.args in c.has_key.result ≡ is_some (find (key_at s.base.now c.loop-i.i) (items s.target.now))
said c =
    let s = c.args in
    c.has_key.ensures ∙ ap (λ (k : ℕ). is_some (find k (items s.target.now))) (key-is c.before.before)

going : (c : After-next_place-p) → let l = c.before.before.before in let s = l.args in Along s.target.now s.nt c.next_place-p.result s.base.now (l.loop-i.i + 1)
going c =
    let l = c in
    let s = c in
    along-next s.args.target.now s.args.nt s.requires.1 s.args.base.now s.args.nb s.requires.0 c.next_place-p.result l.loop-i.i (omega arith) (placed c)

-- what remains to be written from the i-th item on
abbrev left : At-loop-i → ℕ → List ℤ
left l i = deleted_ints (items l.args.target.now) (part i l.args.to (items l.args.base.now))

abbrev key-int : At-loop-i → ℤ
key-int l = from_bits (key_at l.args.base.now l.loop-i.i)

-- the key that is written, and what remains after it
taken : (c : After-has_key) → c.has_key.result ≡ false → let l = c.before.before.before.before in left l l.loop-i.i ≡ (key-int l ∷ []) ++ left l (l.loop-i.i + 1)
taken c e =
    deleted-step (items c.args.target.now) c.args.base.now c.args.nb c.requires.0 c.loop-i.i c.args.to c.loop-i-test.true c.requires.3 (sym (said c) ∙ e)

inside : (c : After-has_key) → c.has_key.result ≡ false → c.loop-i.w < length c.loop-i.out
inside c e =
    let l = c.before.before.before.before in
    omega (arith, lays-room c.loop-i.invariant.1 (key-int l ∷ []) (left l (c.loop-i.i + 1)) (taken c e) c.requires.4)

-- storing one int lays it
stored_is : (out : List ℤ) (w : ℕ) (x y : ℤ) → w < length out → x ≡ y → set out w x ≡ lay_at w (y ∷ []) out
stored_is out w x y h e = ap (set out w) e ∙ sym (lay_at-set w y [] out h ∙ lay_at-nothing (w + 1) (set out w y))

pub bounds-out-w : goal.bounds-out-w
bounds-out-w c = inside (goal.at.bounds-out-w c).After-has_key c.if-not-has_key.true

pub loop-i-preserved : goal.loop-i-preserved
loop-i-preserved c =
    let h = (goal.at.loop-i-preserved c).After-has_key in
    let l = h.before.before.before.before in
    let g : SFits w32 c.key_at-key.result = record { sfits = c.key_at-key.type_inv } in (
      going h.before,
      elim c.if-not-has_key.branch [
        | then-not-has_key w ↦
            rw (w.out-is, w.w-is)
            (lays_more c.loop-i.invariant.1 _ _ (key-int l ∷ []) (left l (c.loop-i.i + 1)) (taken h w.if-not-has_key.true)
            (stored_is c.loop-i.out c.loop-i.w _ _ (inside h w.if-not-has_key.true) (to_z-of_z {w = w32} g ∙ (sym (from_bits-bits g) ∙ ap from_bits c.key_at-key.ensures))) refl)
        | else-not-has_key w ↦
            rw (w.out-is, w.w-is)
            (lays-same c.loop-i.invariant.1 _ (deleted-skip (items c.args.target.now) c.args.base.now c.args.nb c.requires.0 c.loop-i.i c.args.to c.loop-i-test.true c.requires.3 (sym (said h) ∙ w.if-not-has_key.false)))
      ],
    )

pub returns : goal.returns
returns c =
    let it =
    lays-end c.loop-i.invariant.1 (deleted-end (items c.args.target.now) c.loop-i.i c.args.to (items c.args.base.now) c.loop-i-test.false) in
    record { value = it.0; out_after = it.1 }
