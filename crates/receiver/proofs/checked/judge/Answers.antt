-- `checked::judge` meets its contract: refusal by refusal. Assumes nothing.
use mathlib.Core.Path.{◌≡◌, sym, ap, ◌∙◌}
use mathlib.Core.Bool.{true}
use mathlib.Core.List.{List}
use Prim.Native.Nat.{ℕ}
use native.Mathlib.Omega.{arith}
use borrow.Author.Tests.{not-true, not-false}
use mir.Syntax.{w32}
use mir.Facts.{to_z-of_z}
use Rattle.definitions.specs.Tables.{num}
use Rattle.definitions.specs.Receiver.{count_in, receiver_form}
use Rattle.receiver.specs.States.{receiver_with, part_of}
use Rattle.receiver.specs.Answers.{taking}
use Rattle.receiver.proofs.Calls.{refused-47, refused-41, refused-41b, refused-43, refused-20, refused-21, refused-22, judged}
use Rattle.receiver.proofs.checked.judge.Goals as goal
use Rattle.receiver.proofs.checked.judge.Lts as lts
use Rattle.receiver.proofs.checked.judge.Tie as tie
use Rattle.receiver.proofs.checked.judge.Reads as reads

abbrev After-num-k : Type 0
After-num-k = lts.After-num tie.the-claims reads.Pre reads.Post tie.handed_clauses

abbrev After-num-p : Type 0
After-num-p = lts.After-num2 tie.the-claims reads.Pre reads.Post tie.handed_clauses

abbrev Else-not-ticks_form : Type 0
Else-not-ticks_form = lts.Else1 tie.the-claims reads.Pre reads.Post tie.handed_clauses

-- the receiver is in form
formed : (c : Else-not-ticks_form) (lengths : List ℕ) → c.args.n ≡ count_in lengths 32 → receiver_form (receiver_with c.args.r lengths) ≡ true
formed c lengths e = sym (c.ticks_form.ensures lengths e) ∙ not-false _ c.if-not-ticks_form.false-raw

-- the part count
count : (c : After-num-k) → c.num-k.result ≡ num c.args.m.num_parts
count c =
    let m = c.args.m in
    rw (to_z-of_z {w = w32} {z = m.num_parts} (record { sfits = c.struct_told-1.given.1.1.0.1 })) at c.num-k.ensures.0

-- the part number
part : (c : After-num-p) → c.num-p.result ≡ num c.args.m.part
part c =
    let m = c.args.m in
    rw (to_z-of_z {w = w32} {z = m.part} (record { sfits = c.struct_told-2-1.given.1.1.1.0.1 })) at c.num-p.ensures.0

pub returns-then-not-ticks_form : goal.returns-then-not-ticks_form
returns-then-not-ticks_form c =
    let a = c.args in record { by_index = λ lengths e. refused-47 (receiver_with a.r lengths) (part_of a.m) a.«data».now a.parts.now a.joined.now (sym (c.ticks_form.ensures lengths e) ∙ not-true _ c.if-not-ticks_form.true-raw); fits = tt }

pub returns-then-parts-lt-AREA_SIZE : goal.returns-then-parts-lt-AREA_SIZE
returns-then-parts-lt-AREA_SIZE c =
    let a = c.args in record { by_index = λ lengths e. refused-41 (receiver_with a.r lengths) (part_of a.m) a.«data».now a.parts.now a.joined.now (formed c.before.before lengths e) c.if-parts-lt-AREA_SIZE.true; fits = tt }

pub returns-then-joined-lt-AREA_SIZE : goal.returns-then-joined-lt-AREA_SIZE
returns-then-joined-lt-AREA_SIZE c =
    let a = c.args in record { by_index = λ lengths e. refused-41b (receiver_with a.r lengths) (part_of a.m) a.«data».now a.parts.now a.joined.now (formed c.before.before.before lengths e) c.if-parts-lt-AREA_SIZE.false c.if-joined-lt-AREA_SIZE.true; fits = tt }

pub returns-then-data-gt-PART_SIZE : goal.returns-then-data-gt-PART_SIZE
returns-then-data-gt-PART_SIZE c =
    let a = c.args in record { by_index = λ lengths e. refused-43 (receiver_with a.r lengths) (part_of a.m) a.«data».now a.parts.now a.joined.now (formed c.before.before.before.before lengths e) c.if-parts-lt-AREA_SIZE.false c.if-joined-lt-AREA_SIZE.false c.if-data-gt-PART_SIZE.true; fits = tt }

pub returns-then-is_old : goal.returns-then-is_old
returns-then-is_old c =
    let a = c.args in record { by_index = λ lengths e. refused-20 (receiver_with a.r lengths) (part_of a.m) a.«data».now a.parts.now a.joined.now (formed c.before.before.before.before.before.before.before lengths e) c.if-parts-lt-AREA_SIZE.false c.if-joined-lt-AREA_SIZE.false c.if-data-gt-PART_SIZE.false (sym (c.is_old.ensures lengths) ∙ c.if-is_old.true); fits = tt }

pub returns-then-k-gt-MAX_PARTS : goal.returns-then-k-gt-MAX_PARTS
returns-then-k-gt-MAX_PARTS c =
    let a = c.args in record { by_index = λ lengths e. refused-21 (receiver_with a.r lengths) (part_of a.m) a.«data».now a.parts.now a.joined.now (formed c.before.before.before.before.before.before.before.before.before.before lengths e) c.if-parts-lt-AREA_SIZE.false c.if-joined-lt-AREA_SIZE.false c.if-data-gt-PART_SIZE.false (sym (c.is_old.ensures lengths) ∙ c.if-is_old.false) (omega (arith, count c.before.before, c.if-k-gt-MAX_PARTS.true)); fits = tt }

pub returns-then-k-p : goal.returns-then-k-p
returns-then-k-p c =
    let a = c.args in record { by_index = λ lengths e. refused-22 (receiver_with a.r lengths) (part_of a.m) a.«data».now a.parts.now a.joined.now (formed c.before.before.before.before.before.before.before.before.before.before.before.before.before lengths e) c.if-parts-lt-AREA_SIZE.false c.if-joined-lt-AREA_SIZE.false c.if-data-gt-PART_SIZE.false (sym (c.is_old.ensures lengths) ∙ c.if-is_old.false) (omega (arith, count c.before.before.before.before.before, c.if-k-gt-MAX_PARTS.false)) (omega (arith, count c.before.before.before.before.before, part c.before.before, c.if-k-p.true)); fits = tt }

pub returns : goal.returns
returns c =
    let a = c.args in record {
      by_index = λ lengths e. judged (receiver_with a.r lengths) (part_of a.m) a.«data».now a.parts.now a.joined.now (formed c.before.before.before.before.before.before.before.before.before.before.before.before.before lengths e) c.if-parts-lt-AREA_SIZE.false c.if-joined-lt-AREA_SIZE.false c.if-data-gt-PART_SIZE.false (sym (c.is_old.ensures lengths) ∙ c.if-is_old.false) (omega (arith, count c.before.before.before.before.before, c.if-k-gt-MAX_PARTS.false)) (omega (arith, count c.before.before.before.before.before, part c.before.before, c.if-k-p.false))
          ∙ ap (λ (p : ℕ). taking (receiver_with a.r lengths) (part_of a.m) p a.«data».now a.parts.now a.joined.now) (sym (part c.before.before));
      fits = (omega (arith, count c.before.before.before.before.before, c.if-k-gt-MAX_PARTS.false), omega (arith, c.if-k-gt-MAX_PARTS.false, c.if-k-p.false), c.if-data-gt-PART_SIZE.false, c.if-parts-lt-AREA_SIZE.false, c.if-joined-lt-AREA_SIZE.false);
    }
