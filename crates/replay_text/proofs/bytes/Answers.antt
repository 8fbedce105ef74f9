use mathlib.Core.List.{[], ◌∷◌}
use Prim.Native.Nat.{◌+◌, ◌*◌}
use native.Mathlib.Omega.{arith}
use lib.ListN.{drop}
use Rattle.replay_text.specs.Numbers.{bytes}
use Rattle.replay_text.proofs.BufferLaws.{turn, done}
use Rattle.replay_text.proofs.NumberLaws.{bytes_next, bytes-done}
use Rattle.replay_text.proofs.bytes.Goals as goal

pub loop-i-preserved : goal.loop-i-preserved
loop-i-preserved c =
    let l = c.loop-i in
    let text = c.args.text.now in
    let b = c.put_byte-next in
    let x = c.digit in
    let y = c.digit-in-loop-i in record {
      within = omega (arith, b.ensures.prefix_len.0);
      same = turn ((x.result * 16 + y.result) ∷ []) (bytes (drop (2 * (l.i + 1)) text)) (record { next = l.next; out = l.out })
          (bytes_next text l.i (omega arith) x.ensures.0 y.ensures.0) b.ensures.out_value l.invariant.same;
    }

pub returns-clause-out_value : goal.returns-clause-out_value
returns-clause-out_value c =
    let l = c.loop-i in
    done (record { next = l.next; out = l.out }) (bytes-done c.args.text.now l.i c.loop-i-test.false) l.invariant.same
