-- `checked::write_item` meets its contract: its steps leave the written form of the table with the item. Assumes nothing.
use mathlib.Core.Path.{◌≡◌}
use Prim.Native.Nat.{ℕ, ◌+◌, ◌≤◌}
use mathlib.Core.List.{List}
use native.Mathlib.Omega.{arith}
use lib.IntN.{ℤ}
use lib.ListN.{length, length-set}
use Rattle.definitions.specs.Ints.{bits, from_bits}
use Rattle.definitions.specs.Tables.{start}
use Rattle.table_adding.specs.Adding.{Room}
use Rattle.table_adding.proofs.Items.{begins, small, wrote}
use borrow.Author.Rules.{rules}
use Rattle.table_adding.proofs.checked.write_item.Goals as goal

-- where the item begins
begun : (a : List ℤ) (n ints k p : ℕ) (v : List ℤ) → Room a n ints k p (length v) → (from : ℕ) → from ≡ start a p
    → (2 + n ≤ from) × (from ≤ ints)
begun a n ints k p v r from e = let b = begins a n ints k p v r in (omega (arith, b.0, e), omega (arith, b.1, e))

pub shift-requires : goal.shift-requires
shift-requires c = let b = begun c.args.area.now c.args.n c.args.ints _ c.args.p c.args.«data».now c.requires _ c.start_at-from.ensures in search rules

pub shift-requires-2 : goal.shift-requires-2
shift-requires-2 c = let b = begun c.args.area.now c.args.n c.args.ints _ c.args.p c.args.«data».now c.requires _ c.start_at-from.ensures in search rules

pub raise-requires : goal.raise-requires
raise-requires c = (
  search rules,
  λ i l. omega (
    arith,
    small c.args.area.now c.args.n c.args.ints _ c.args.p c.args.«data».now c.requires _ c.start_at-from.ensures c.shift.new.area c.shift-2.new.area c.shift.ensures c.shift-2.ensures i l,
    c.requires.short,
  ),
)

pub overflow_sub-from : goal.overflow_sub-from
overflow_sub-from c = let b = begun c.args.area.now c.args.n c.args.ints _ c.args.p c.args.«data».now c.requires _ c.start_at-from.ensures in search rules

pub overflow_mul-from : goal.overflow_mul-from
overflow_mul-from c = let b = begun c.args.area.now c.args.n c.args.ints _ c.args.p c.args.«data».now c.requires _ c.start_at-from.ensures in search rules

pub put-requires : goal.put-requires
put-requires c = let b = begun c.args.area.now c.args.n c.args.ints _ c.args.p c.args.«data».now c.requires _ c.start_at-from.ensures in search rules

pub overflow_add-key : goal.overflow_add-key
overflow_add-key c = let b = begun c.args.area.now c.args.n c.args.ints _ c.args.p c.args.«data».now c.requires _ c.start_at-from.ensures in search rules

pub offset_bounds-area-from : goal.offset_bounds-area-from
offset_bounds-area-from c = let b = begun c.args.area.now c.args.n c.args.ints _ c.args.p c.args.«data».now c.requires _ c.start_at-from.ensures in search rules

pub bounds-area-from : goal.bounds-area-from
bounds-area-from c = let b = begun c.args.area.now c.args.n c.args.ints _ c.args.p c.args.«data».now c.requires _ c.start_at-from.ensures in search rules

pub overflow_add-from : goal.overflow_add-from
overflow_add-from c = let b = begun c.args.area.now c.args.n c.args.ints _ c.args.p c.args.«data».now c.requires _ c.start_at-from.ensures in search rules

pub overflow_add-from-2 : goal.overflow_add-from-2
overflow_add-from-2 c = let b = begun c.args.area.now c.args.n c.args.ints _ c.args.p c.args.«data».now c.requires _ c.start_at-from.ensures in search rules

pub overflow_add-from-3 : goal.overflow_add-from-3
overflow_add-from-3 c = let b = begun c.args.area.now c.args.n c.args.ints _ c.args.p c.args.«data».now c.requires _ c.start_at-from.ensures in search rules

pub offset_bounds-area-from-2 : goal.offset_bounds-area-from-2
offset_bounds-area-from-2 c = let b = begun c.args.area.now c.args.n c.args.ints _ c.args.p c.args.«data».now c.requires _ c.start_at-from.ensures in search rules

pub slice_bounds-copy_into-end : goal.slice_bounds-copy_into-end
slice_bounds-copy_into-end c = let b = begun c.args.area.now c.args.n c.args.ints _ c.args.p c.args.«data».now c.requires _ c.start_at-from.ensures in rw length-set (omega arith)

pub returns : goal.returns
unfolding bits from_bits
returns c =
    wrote c.args.area.now c.args.n c.args.ints _ c.args.p c.args.«data».now c.requires _ c.start_at-from.ensures
    c.shift.new.area c.shift-2.new.area c.raise.new.part c.put.new.area c.copy_into.new.out c.put-2.new.area c.put-3.new.area c.copy_into.result
    (record {
      first = c.shift.ensures;
      second = c.shift-2.ensures;
      third = c.raise.ensures;
      fourth = c.put.ensures;
      fifth = c.copy_into.ensures;
      sixth = c.put-2.ensures;
      last = c.put-3.ensures;
    })
