-- `checked::read_header` meets its contract: step by step, like the definition. Assumes nothing.
use native.Mathlib.Omega.{arith}
use Rattle.laws.specs.TableHeader.{no_size, negative-size, no-count, negative-count, no-offsets, no_whole, no_items, header_read}
use Rattle.table_reading.proofs.checked.read_header.Goals as goal

pub returns-then-src-lt1 : goal.returns-then-src-lt1
returns-then-src-lt1 c = let a = c.args.src.now in (no_size a c.if-src-lt1.true, tt)

pub returns-then-bytes-ge4294967296 : goal.returns-then-bytes-ge4294967296
returns-then-bytes-ge4294967296 c =
    let a = c.args.src.now in
    let n = c.nat_at-bytes.ensures in
    (negative-size a (omega arith) n.2 (omega arith), tt)

pub returns-then-src-lt2 : goal.returns-then-src-lt2
returns-then-src-lt2 c =
    let a = c.args.src.now in
    let n = c.nat_at-bytes.ensures in
    (no-count a (omega arith) (omega arith) c.if-src-lt2.true, tt)

pub returns-then-items-ge4294967296 : goal.returns-then-items-ge4294967296
returns-then-items-ge4294967296 c =
    let a = c.args.src.now in
    let n = c.nat_at-bytes.ensures in
    let m = c.nat_at-items.ensures in
    (negative-count a (omega arith) (omega arith) (omega arith) m.2 (omega arith), tt)

pub returns-then-src-items : goal.returns-then-src-items
returns-then-src-items c =
    let a = c.args.src.now in
    let n = c.nat_at-bytes.ensures in
    let m = c.nat_at-items.ensures in
    (no-offsets a (omega arith) (omega arith) (omega arith) (omega arith) (omega arith), tt)

pub returns-then-bytes-ne0 : goal.returns-then-bytes-ne0
returns-then-bytes-ne0 c =
    let a = c.args.src.now in
    let n = c.nat_at-bytes.ensures in
    let m = c.nat_at-items.ensures in
    (no_whole a (omega arith) (omega arith) (omega arith) (omega arith) (omega arith) (λ e. c.if-bytes-ne0.true (omega (arith, e))), tt)

pub returns-then-src-items-2 : goal.returns-then-src-items-2
returns-then-src-items-2 c =
    let a = c.args.src.now in
    let n = c.nat_at-bytes.ensures in
    let m = c.nat_at-items.ensures in
    (no_items a (omega arith) (omega arith) (omega arith) (omega arith) (omega arith) (omega arith) (omega arith), tt)

pub returns : goal.returns
returns c =
    let a = c.args.src.now in
    let n = c.nat_at-bytes.ensures in
    let m = c.nat_at-items.ensures in (
      rw (n.0, m.0) (header_read a (omega arith) (omega arith) (omega arith) (omega arith) (omega arith) (omega arith) (omega arith)),
      record { count-is = m.0; size_is = omega arith; room = omega arith; small = omega arith },
    )
